use Rattle.wap_unit.proofs.SpellingLaws.{unit_fits, unit_written}
use Rattle.wap_unit.proofs.writing.encode.Goals as goal

pub write_unit-requires : goal.write_unit-requires
write_unit-requires c = unit_fits c.requires.0 c.args.unit.now c.requires.1

pub returns-clause-read : goal.returns-clause-read
returns-clause-read c = unit_written c.requires.0 c.args.unit.now c.requires.1
