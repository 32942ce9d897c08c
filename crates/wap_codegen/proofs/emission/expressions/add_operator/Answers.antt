use Rattle.std.proofs.Common.{rules}
use Rattle.wap_codegen.proofs.EmissionLemmas.Chaining.{extends_both}
use Rattle.std.proofs.lemmas.Result.{on_ok_weaker}
use Rattle.wap_codegen.proofs.emission.expressions.add_operator.Goals as goal

pub returns-in_ok-add_plain-in-Plus : goal.returns-in_ok-add_plain-in-Plus
returns-in_ok-add_plain-in-Plus c =
    rw c.in-Plus.is (on_ok_weaker _ (extends_both c.in_ok-add_plain-in-Plus.ensures)
    c.add_plain-in-Plus.ensures)

pub returns-in-Minus : goal.returns-in-Minus
returns-in-Minus c = rw c.in-Minus.is (search rules)

pub returns-in-BitNot : goal.returns-in-BitNot
returns-in-BitNot c = rw c.in-BitNot.is (search rules)

pub returns-in-Not : goal.returns-in-Not
returns-in-Not c = rw c.in-Not.is (search rules)

pub returns-in-TypeOf : goal.returns-in-TypeOf
returns-in-TypeOf c = rw c.in-TypeOf.is (search rules)

pub returns-in-IsValid : goal.returns-in-IsValid
returns-in-IsValid c = rw c.in-IsValid.is (search rules)

pub returns-in-ToBool : goal.returns-in-ToBool
returns-in-ToBool c = rw c.in-ToBool.is (search rules)

pub returns-in-Incr : goal.returns-in-Incr
returns-in-Incr c = rw c.in-Incr.is (search rules)

pub returns-in-Decr : goal.returns-in-Decr
returns-in-Decr c = rw c.in-Decr.is (search rules)
