-- What is read is an image, each image is read, and a fault is the first one from the left, both
-- ways.
use Rattle.std.proofs.Common.{◌≡◌, ◌≢◌, ℕ, ◌-◌, ◌≤◌, Bool, cond, ltb, List, [], ◌++◌, length}
use Rattle.std.proofs.Common.{Result, Ok, Err, refl, sym, ap, subst, ◌∙◌, ◌⊎◌, inl, inr, arith}
use Rattle.std.specs.Prelude.{IfOk, IfErr}
use Rattle.std.proofs.lemmas.Bool.{ltb-true, ltb-false, lt-ltb}
use Rattle.std.proofs.lemmas.List.{append-nil, nil_from_length}
use Rattle.wap_base.specs.Outcome.{◌>>=◌, Meets}
use Rattle.wap_base.proofs.Choices.{chosen, bind_ok, bind_err, ok_same}
use Rattle.wap_image.specs.declared.context_parts.fault.ImageFault.{ImageFault}
use Rattle.wap_image.specs.declared.context_parts.fault.ImageFault.TheVariants as fault
use Rattle.wap_image.specs.Images.{Saved, IsImage}
use Rattle.wap_image.specs.Refusal.{IsRefused, inside, beyond}
use Rattle.wap_image.specs.inside.ImageReading.{items_at, ended, image_at}
use Rattle.wap_image.proofs.ItemLaws.{reads_items}

-- what comes of reading the items
abbrev Read : Type 0
Read = Result (Saved × List ℕ) ImageFault

-- items after which nothing follows are all
all_items : (bytes front rest : List ℕ) (saved : Saved) → bytes ≡ front ++ rest → length rest ≤ 0
    → IsImage front saved → IsImage bytes saved
all_items bytes front rest saved split none is =
    let nothing : rest ≡ [] = nil_from_length rest (omega arith) in
    subst (λ (l : List ℕ). IsImage l saved)
    (sym (split ∙ ap (λ (l : List ℕ). front ++ l) nothing ∙ append-nil front)) is

-- what is read is an image
pub image_takes : (bytes : List ℕ) (saved : Saved) → image_at bytes ≡ Ok saved
    → IsImage bytes saved
unfolding image_at
image_takes bytes saved e =
    let end : ℕ = length bytes in
    let a = bind_ok (items_at end bytes) (ended end) saved e in
    let one = reads_items.takes end bytes a.0.0 a.0.1 a.1 in
    elim (chosen (ltb 0 (length a.0.1)) (Err (fault.Rest (end - length a.0.1))) (Ok a.0.0)
    (Ok saved) a.2) [
      | inl more ↦ absurd (cc more.1)
      | inr none ↦
          subst (IsImage bytes) (ok_same a.0.0 saved none.1)
          (all_items bytes one.0 a.0.1 a.0.0 one.1 (ltb-false _ _ none.0) one.2)
    ]

-- items are read, with what follows them
items_again : (end : ℕ) (bytes front rest : List ℕ) (saved : Saved) → bytes ≡ front ++ rest
    → IsImage front saved → items_at end bytes ≡ Ok (saved, rest)
items_again end bytes front rest saved split is =
    ap (items_at end) split ∙ reads_items.again end front saved rest is

-- an image is read
pub image_again : (bytes : List ℕ) (saved : Saved) → IsImage bytes saved
    → image_at bytes ≡ Ok saved
unfolding image_at
image_again bytes saved is =
    ap (λ (r : Read). r >>= ended (length bytes))
    (items_again (length bytes) bytes bytes [] saved (sym (append-nil bytes)) is)

-- what isn't read is refused
pub image_stops : (bytes : List ℕ) (found : ImageFault) → image_at bytes ≡ Err found
    → IsRefused bytes found
unfolding image_at
image_stops bytes found e =
    let end : ℕ = length bytes in
    elim (bind_err (items_at end bytes) (ended end) found e) [
      | inl a ↦ inside (reads_items.stops end bytes found a)
      | inr b ↦
          let saved : Saved = b.0.0 in
          let rest : List ℕ = b.0.1 in
          let one = reads_items.takes end bytes saved rest b.1 in
          elim (chosen (ltb 0 (length rest)) (Err (fault.Rest (end - length rest))) (Ok saved)
          (Err found) b.2) [
            | inl more ↦
                beyond saved one.0 rest one.1 one.2 (ltb-true _ _ more.0) (cc more.1)
            | inr none ↦ absurd (cc none.1)
          ]
    ]

-- what is refused isn't read
pub image_fails : (bytes : List ℕ) (found : ImageFault) → IsRefused bytes found
    → image_at bytes ≡ Err found
unfolding image_at
image_fails bytes found (inside refuses) =
    ap (λ (r : Read). r >>= ended (length bytes))
    (reads_items.fails (length bytes) bytes found refuses)
image_fails bytes found (beyond saved front rest split is more same) =
    let end : ℕ = length bytes in
    ap (λ (r : Read). r >>= ended end) (items_again end bytes front rest saved split is)
    ∙ ap (λ (b : Bool). cond b (Err (fault.Rest (end - length rest))) (Ok saved))
    (lt-ltb 0 (length rest) more)
    ∙ ap Err (sym same)

-- bytes are an image, or have a fault
pub read_or_refused : (bytes : List ℕ)
    → ((saved : Saved) × IsImage bytes saved) ⊎ ((found : ImageFault) × IsRefused bytes found)
read_or_refused bytes = by_result (image_at bytes) refl
  where
    by_result : (r : Result Saved ImageFault) → image_at bytes ≡ r
        → ((saved : Saved) × IsImage bytes saved) ⊎ ((found : ImageFault) × IsRefused bytes found)
    by_result (Ok saved) is = inl (saved, image_takes bytes saved is)
    by_result (Err found) is = inr (found, image_stops bytes found is)

-- ---- for a call

-- what a call gives is the image
pub found_is : (bytes : List ℕ) (r : Result Saved ImageFault)
    → Meets fault.NoMemory (λ s. s) r (image_at bytes) → IfOk r (λ saved. IsImage bytes saved)
found_is bytes (Ok saved) meets = image_takes bytes saved meets
found_is bytes (Err found) meets = tt

-- why a call gives none is the fault
pub refused_is : (bytes : List ℕ) (r : Result Saved ImageFault)
    → Meets fault.NoMemory (λ s. s) r (image_at bytes)
    → IfErr r (λ found. found ≢ fault.NoMemory → IsRefused bytes found)
refused_is bytes (Ok saved) meets = tt
refused_is bytes (Err found) meets = λ other. image_stops bytes found (meets other)
