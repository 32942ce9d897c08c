use Rattle.std.proofs.Common.{ap, ◌∙◌}
use Rattle.std.specs.Str.{chars}
use Rattle.wap_unit.proofs.Texts.{text_found, text_missed}
use Rattle.wap_unit.proofs.charset.utf8_text.Goals as goal

pub returns-in_ok-of-in-Ok : goal.returns-in_ok-of-in-Ok
returns-in_ok-of-in-Ok c =
    let read = c.in-Ok.ensures.cases in
    text_found c.args.at c.args.content.now c.in_ok-of-in-Ok.field-0 read.1
    (c.in_ok-of-in-Ok.ensures ∙ ap chars read.0)

pub returns-in-Err : goal.returns-in-Err
returns-in-Err c =
    λ other.
    text_missed c.args.at c.args.content.now c.in-Err.ensures.cases.0
