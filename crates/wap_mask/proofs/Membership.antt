-- What follows from the definitions.
use Rattle.std.proofs.Common.{◌≡◌, ℕ, List, [], Option, Some, None, refl, sym}
use Rattle.std.specs.Prelude.{IsTrue, unwrap_or}
use Rattle.std.proofs.lemmas.List.{append-nil}
use Rattle.wap_mask.specs.declared.symbol.Symbol.{Symbol}
use Rattle.wap_mask.specs.Texts.{IsTaken}
use Rattle.wap_mask.specs.Grammar.{IsMask, RepeatsLast, any_text}
use Rattle.wap_mask.specs.Calculation.{symbols_of, mask_of, is_taken}
use Rattle.wap_mask.proofs.SymbolLaws.{symbols_of-from, RepeatsLast-read}
use Rattle.wap_mask.proofs.Taking.{IsTaken_iff_test}

pub any_text_is_taken : (text : List ℕ) → IsTaken any_text text
any_text_is_taken text = (text, [], sym (append-nil text), (λ k d inside. refl), refl)

pub IsMask_unique : (text : List ℕ) (symbols others : List Symbol) → IsMask text symbols
    → IsMask text others → symbols ≡ others
IsMask_unique text symbols others a b =
    let f = symbols_of-from a in
    let g = symbols_of-from b in cc

RepeatsLast-or_any : (text : List ℕ) (o : Option (List Symbol)) → symbols_of text ≡ o
    → RepeatsLast (unwrap_or o any_text)
RepeatsLast-or_any text None e = (λ again. refl, tt)
RepeatsLast-or_any text (Some mask) e = RepeatsLast-read text mask e

-- only the last symbol of what a text is read as repeats
pub RepeatsLast-mask_of : (text : List ℕ) → RepeatsLast (mask_of text)
RepeatsLast-mask_of text = RepeatsLast-or_any text (symbols_of text) refl

pub IsTaken_of_read : (format text : List ℕ)
    → (IsTrue (is_taken (mask_of format) text) → IsTaken (mask_of format) text)
    × (IsTaken (mask_of format) text → IsTrue (is_taken (mask_of format) text))
IsTaken_of_read format text =
    IsTaken_iff_test (is_taken (mask_of format) text) (mask_of format) text
    (RepeatsLast-mask_of format) refl
