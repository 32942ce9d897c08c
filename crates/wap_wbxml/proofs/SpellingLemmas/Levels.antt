-- Elements by the levels that they may have.
use Rattle.std.proofs.Common.{◌≡◌, ℕ, zero, suc, ◌-◌, ◌<◌, List, ap, arith}
use Rattle.wap_tokens.specs.declared.markup.document.Element.{Element}
use Rattle.wap_wbxml.specs.spelling.Spelling.{element_by, element_spelling}

pub deeper : (names : List (List ℕ)) (levels : ℕ) (element : Element) → 0 < levels
    → element_spelling names levels element
    ≡ element_by names (element_spelling names (levels - 1)) element
unfolding element_spelling
deeper names zero element some = absurd (omega arith)
deeper names (suc levels) element some =
    let less : levels ≡ suc levels - 1 = omega arith in
    ap (λ (n : ℕ). element_by names (element_spelling names n) element) less
