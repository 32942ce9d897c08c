use Rattle.std.proofs.Common.{◌∙◌, ap, find}
use Rattle.wap_asm.specs.Spelling.{is_spelling}
use Rattle.wap_asm.proofs.Near.{shortest_near}
use Rattle.wap_asm.proofs.table.shortest.Goals as goal

pub returns : goal.returns
returns c =
    c.shortest_in.ensures
    ∙ ap (find (is_spelling c.args.operation c.args.a c.args.b c.args.c)) c.rows_near.ensures
    ∙ shortest_near c.args.operation c.args.a c.args.b c.args.c
