use Rattle.wap_codegen.proofs.Firsts.{room, why_none}
use Rattle.wap_codegen.proofs.Limits.{few_functions, can_be_made}
use Rattle.wap_codegen.proofs.units.unit_of.Goals as goal

pub unit_by-requires-clause-made : goal.unit_by-requires-clause-made
unit_by-requires-clause-made c =
    can_be_made c.args.program.now c.requires.scoped
    (c.requires.forms c.in_ok-numbering.ensures.few)

pub unit_by-requires-clause-few : goal.unit_by-requires-clause-few
unit_by-requires-clause-few c = few_functions c.args.program.now c.requires.scoped

pub returns-clause-room : goal.returns-clause-room
returns-clause-room c =
    room c.args.program.now c.in_ok-numbering.ensures.few c.unit_by.result c.unit_by.ensures.short

pub returns-clause-fault : goal.returns-clause-fault
returns-clause-fault c =
    why_none c.args.program.now c.in_ok-numbering.ensures.few c.unit_by.result
    c.unit_by.ensures.fault
