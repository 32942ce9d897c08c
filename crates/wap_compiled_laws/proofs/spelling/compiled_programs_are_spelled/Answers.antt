use Rattle.wap_unit.specs.Spelling.{spelling}
use Rattle.wap_unit.proofs.UnitLaws.{unit_again}
use Rattle.wap_meaning.specs.compiled.Units.{compiled}
use Rattle.wap_compiled_laws.proofs.SpellingLemmas.Accepted.{accepted_unit, accepted_spelling}
use Rattle.wap_compiled_laws.proofs.spelling.compiled_programs_are_spelled.Goals as goal

pub returns-clause-spelled : goal.returns-clause-spelled
returns-clause-spelled c = accepted_spelling

pub returns-clause-short : goal.returns-clause-short
returns-clause-short c = λ source p is. (accepted_unit is).1

pub returns-clause-read : goal.returns-clause-read
returns-clause-read c = λ source p is.
    unit_again (spelling (compiled p)) (compiled p) (accepted_unit is).0
