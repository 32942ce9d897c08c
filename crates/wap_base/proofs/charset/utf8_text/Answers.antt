use Rattle.std.proofs.Common.{ap, ◌∙◌}
use Rattle.std.specs.Str.{chars}
use Rattle.wap_base.proofs.CharsetLaws.{text_in-utf8, text_in-none}
use Rattle.wap_base.proofs.charset.utf8_text.Goals as goal

pub returns-in_ok-of-in-Some : goal.returns-in_ok-of-in-Some
returns-in_ok-of-in-Some c =
    let read = c.in-Some.ensures in
    text_in-utf8 c.args.bytes.now c.in_ok-of-in-Some.field-0 read.1
    (c.in_ok-of-in-Some.ensures ∙ ap chars read.0)

pub returns-in-None : goal.returns-in-None
returns-in-None c = text_in-none c.args.bytes.now c.in-None.ensures
