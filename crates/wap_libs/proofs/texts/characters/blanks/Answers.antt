use Rattle.std.proofs.Common.{ap, sym, ◌∙◌, length, arith}
use Rattle.std.proofs.lemmas.List.{get_or_read}
use Rattle.std.proofs.lemmas.List.Sums.{prefix_len_is}
use Rattle.wap_libs.specs.Characters.{is_blank}
use Rattle.wap_libs.proofs.texts.characters.blanks.Goals as goal

pub returns-then-not-is_blank-clause-exact : goal.returns-then-not-is_blank-clause-exact
returns-then-not-is_blank-clause-exact c =
    let xs = c.args.characters.now in
    sym (prefix_len_is is_blank xs c.loop-i.i 0 (omega arith) c.loop-i.invariant
    (λ _.
    ap is_blank (sym (get_or_read xs _ _ c.loop-i-test.true c.index-characters-i.is 0))
    ∙ sym c.is_blank.ensures ∙ c.if-not-is_blank.true))

pub returns-clause-exact : goal.returns-clause-exact
returns-clause-exact c =
    let xs = c.args.characters.now in
    sym (prefix_len_is is_blank xs (length xs) 0 (omega arith)
    (λ k below. c.loop-i.invariant k (omega arith)) (λ more. absurd (omega arith)))
