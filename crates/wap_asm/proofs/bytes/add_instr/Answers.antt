use Rattle.std.proofs.Common.{sym, ◌∙◌}
use Rattle.wap_asm.proofs.BytesLaws.{has_room}
use Rattle.wap_asm.proofs.bytes.add_instr.Goals as goal

pub add_row-requires-clause-code : goal.add_row-requires-clause-code
add_row-requires-clause-code c =
    (has_room c.args.operation c.args.a c.args.b c.args.c c.in-Some.row c.requires
    (sym c.spelling_of.ensures ∙ c.in-Some.is)).1

pub add_row-requires-clause-room : goal.add_row-requires-clause-room
add_row-requires-clause-room c =
    (has_room c.args.operation c.args.a c.args.b c.args.c c.in-Some.row c.requires
    (sym c.spelling_of.ensures ∙ c.in-Some.is)).2
