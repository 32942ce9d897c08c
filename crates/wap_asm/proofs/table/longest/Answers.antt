use Rattle.std.proofs.Common.{◌∙◌, ap, filter, None}
use Rattle.std.specs.List.{last_or}
use Rattle.wap_asm.specs.Spellings.{is_of}
use Rattle.wap_asm.proofs.Near.{longest_near}
use Rattle.wap_asm.proofs.table.longest.Goals as goal

pub returns : goal.returns
returns c =
    c.longest_in.ensures
    ∙ ap (λ near. last_or None (filter (is_of c.args.operation) near)) c.rows_near.ensures
    ∙ longest_near c.args.operation
