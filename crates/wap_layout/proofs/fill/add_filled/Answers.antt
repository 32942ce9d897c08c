use Rattle.std.proofs.Common.{◌≡◌, ◌++◌, List, ℕ, ap, ◌∙◌, subst}
use Rattle.std.specs.Prelude.{OnOk}
use Rattle.wap_layout.specs.Blanks.{unless_empty}
use Rattle.wap_layout.proofs.Begun.{all_filled, is_none}
use Rattle.wap_layout.proofs.fill.add_filled.Goals as goal

pub returns : goal.returns
returns c =
    let P : List (List ℕ) → Type 0 =
    λ lines. OnOk c.add_unless_empty.result (c.add_unless_empty.new.lines ≡ lines) in
    subst P
    (ap (λ (l : List ℕ). c.loop-rest.lines ++ unless_empty l) c.as_str.ensures.characters
    ∙ all_filled c.args.width c.loop-rest.lines c.loop-rest.line c.loop-rest.rest.now _
    (is_none c.loop-rest.rest.now c.loop-rest-test.ensures) c.loop-rest.invariant.2)
    c.add_unless_empty.ensures
