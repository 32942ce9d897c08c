-- A draft that grows is the draft of the longer text.
use Rattle.std.proofs.Common.{◌≡◌, ℕ, ◌+◌, ◌≤◌, List, ◌++◌, Option, Some, None}
use Rattle.std.proofs.Common.{Result, Ok, Err, refl, ap, ap₂, sym, ◌∙◌, inl, inr, arith}
use Rattle.std.specs.Prelude.{nat_le, option_map, if◌then◌else◌}
use Rattle.std.proofs.lemmas.Bool.{cases_Bool, cond-true, leb-true, le-leb}
use Rattle.wap_base.specs.Outcome.{Meets}
use Rattle.wap_base.specs.Utf8.{utf8_len}
use Rattle.wap_base.proofs.Utf8Lengths.{utf8_len-append}
use Rattle.wap_libs.specs.Outcome.{counted}
use Rattle.wap_libs.specs.texts.Draft.{draft_of, grown}

counted-more : (a b : ℕ) → counted (counted a + b) ≡ counted (a + b)
counted-more a b = omega arith

text-grown : (limit a b : ℕ) (s more : List ℕ) → a ≤ b
    → (if nat_le b limit
    then option_map (λ t. t ++ more) (if nat_le a limit then Some s else None) else None)
    ≡ (if nat_le b limit then Some (s ++ more) else None)
text-grown limit a b s more below = elim (cases_Bool (nat_le b limit)) [
  | inl fits ↦
      rw fits (ap (option_map (λ t. t ++ more)) (cond-true (nat_le a limit) (Some s) None
      (le-leb a limit (omega (arith, leb-true b limit fits)))))
  | inr past ↦ rw past refl
]

pub grown-draft_of : (limit : ℕ) (s more : List ℕ)
    → grown (draft_of limit s) more ≡ draft_of limit (s ++ more)
grown-draft_of limit s more =
    let bytes : counted (counted (utf8_len s) + utf8_len more) ≡ counted (utf8_len (s ++ more)) =
    counted-more (utf8_len s) (utf8_len more) ∙ ap counted (sym (utf8_len-append s more)) in
    let longer : counted (utf8_len s) ≤ counted (counted (utf8_len s) + utf8_len more) =
    omega arith in
    ap₂ (λ (t : Option (List ℕ)) (b : ℕ). record { text = t; bytes = b; limit = limit })
    (text-grown limit (counted (utf8_len s))
    (counted (counted (utf8_len s) + utf8_len more)) s more longer
    ∙ ap (λ (b : ℕ). if nat_le b limit then Some (s ++ more) else None) bytes)
    bytes

-- an answer that is the reading's meets it
pub meets_same : {A E : Type 0} (want : E) (r reading : Result A E) → r ≡ reading
    → Meets want (λ (v : A). v) r reading
meets_same want (Ok x) reading same = sym same
meets_same want (Err fault) reading same = λ _. sym same
