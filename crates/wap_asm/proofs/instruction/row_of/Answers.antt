use Rattle.std.proofs.Common.{◌∙◌}
use Rattle.wap_asm.proofs.Gifts.{first-row, gives-row}
use Rattle.wap_asm.proofs.Numbering.{row_of-numbered}
use Rattle.wap_asm.proofs.instruction.row_of.Goals as goal

pub returns-clause-row : goal.returns-clause-row
returns-clause-row c = c.row_in.ensures ∙ row_of-numbered c.args.code c.ranges.code.fits

pub returns-clause-within : goal.returns-clause-within
returns-clause-within c = first-row c.args.code c.row_in.result (returns-clause-row c)

pub returns-clause-gives : goal.returns-clause-gives
returns-clause-gives c = gives-row c.args.code c.row_in.result (returns-clause-row c)
