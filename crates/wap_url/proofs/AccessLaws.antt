-- The ends of a text, and the labels or segments that they are.
use Rattle.std.proofs.Common.{◌≡◌, ◌≢◌, inl, inr, ℕ, ◌-◌, ◌<◌, false, ◌==◌, List, [], ◌∷◌}
use Rattle.std.proofs.Common.{◌++◌, length, take, drop, refl, ap, ap₂, sym, ◌∙◌, arith}
use Rattle.std.proofs.Common.{append_assoc, length-append, append-nil}
use Rattle.std.specs.List.{slice_split}
use Rattle.std.proofs.lemmas.List.{take_at, nil_from_length, append_cancel_left}
use Rattle.std.proofs.lemmas.List.Prefix.{end_rest}
use Rattle.wap_url.specs.Segments.{IsPrefix, IsSuffix}
use Rattle.wap_url.specs.inside.Segments.{EndsAt, BeginsAt}
use Rattle.std.proofs.lemmas.Bool.{eqb-true, ne_eqb, cond-true, cond-false}
use Rattle.wap_url.specs.Access.{without_empty_last}
use Rattle.wap_url.specs.Segments.{segments, last_segment, all_but_last}
use Rattle.wap_url.specs.Characters.{is_slash}
use Rattle.wap_base.proofs.Splits.{split-none}
use Rattle.wap_url.proofs.SplitLaws.{cut_last, split-cut, all_but_last-push, last_segment-push}
use Rattle.wap_url.proofs.SplitLaws.{suffix_from_parts, suffix_same, suffix_after}
use Rattle.wap_url.proofs.SplitLaws.{prefix_from_parts, prefix_same, prefix_before}

abbrev parts : ℕ → List ℕ → List (List ℕ)
parts c xs = slice_split (λ b. b == c) xs

-- the whole is cut where the part would begin
pub suffix_at_cut : (c : ℕ) (part whole lead tail : List ℕ) → whole ≡ lead ++ tail
    → length tail ≡ length part
    → IsSuffix (parts c part) (parts c whole) → EndsAt c lead × (tail ≡ part)
suffix_at_cut c part whole lead tail cut same suffix =
    elim (suffix_from_parts c part whole suffix) [
      | inl all ↦ (
        inl (nil_from_length lead
            (omega (arith, length-append lead tail, ap length cut, ap length all))),
        at_end [] all,
      )
      | inr some ↦ (
        inr (some.0, lead_is some.0 some.1),
        at_end (some.0 ++ c ∷ []) (some.1 ∙ sym (append_assoc some.0 (c ∷ []) part)),
      )
    ] where
      at_end : (front : List ℕ) → whole ≡ front ++ part → tail ≡ part
      at_end front e =
          sym (end_rest whole tail lead cut) ∙ ap (λ n. drop (length whole - n) whole) same
          ∙ end_rest whole part front e

      lead_is : (front : List ℕ) → whole ≡ front ++ c ∷ part → lead ≡ front ++ c ∷ []
      lead_is front e =
          let e2 : whole ≡ (front ++ c ∷ []) ++ part = e ∙ sym (append_assoc front (c ∷ []) part) in
          let n : length lead ≡ length (front ++ c ∷ []) = omega (
            arith,
            length-append lead tail,
            ap length cut,
            ap length e2,
            length-append (front ++ c ∷ []) part,
          ) in
          sym (take_at lead tail (length lead) refl) ∙ ap (take (length lead)) (sym cut ∙ e2)
          ∙ take_at (front ++ c ∷ []) part (length lead) (sym n)

pub suffix_from_cut : (c : ℕ) (part whole lead tail : List ℕ) → whole ≡ lead ++ tail → EndsAt c lead
    → tail ≡ part → IsSuffix (parts c part) (parts c whole)
suffix_from_cut c part whole lead tail cut ends same = elim ends [
  | inl none ↦ suffix_same c part whole (cut ∙ ap₂ (λ x y. x ++ y) none same)
  | inr some ↦
      suffix_after c part whole some.0
      (cut ∙ ap₂ (λ x y. x ++ y) some.1 same ∙ append_assoc some.0 (c ∷ []) part)
]

-- a list that is shorter than the part doesn't end in it
pub no_suffix : (c : ℕ) (part whole : List ℕ) → length whole < length part
    → IsSuffix (parts c part) (parts c whole) → ⊥
no_suffix c part whole short suffix = elim (suffix_from_parts c part whole suffix) [
  | inl all ↦ absurd (omega (arith, ap length all))
  | inr some ↦ absurd (omega (arith, ap length some.1, length-append some.0 (c ∷ part)))
]

pub prefix_at_cut : (c : ℕ) (part whole rest : List ℕ) → whole ≡ part ++ rest
    → IsPrefix (parts c part) (parts c whole) → BeginsAt c rest
prefix_at_cut c part whole rest cut prefix = elim (prefix_from_parts c part whole prefix) [
  | inl all ↦ inl (append_cancel_left part rest [] (sym cut ∙ all ∙ sym (append-nil part)))
  | inr some ↦ inr (some.0, append_cancel_left part rest (c ∷ some.0) (sym cut ∙ some.1))
]

pub prefix_from_cut : (c : ℕ) (part whole rest : List ℕ) → whole ≡ part ++ rest → BeginsAt c rest
    → IsPrefix (parts c part) (parts c whole)
prefix_from_cut c part whole rest cut begins = elim begins [
  | inl none ↦ prefix_same c part whole (cut ∙ ap (λ r. part ++ r) none ∙ append-nil part)
  | inr some ↦ prefix_before c part whole some.0 (cut ∙ ap (λ r. part ++ r) some.1)
]

pub no_prefix : (c : ℕ) (part whole : List ℕ) → ((rest : List ℕ) → whole ≢ part ++ rest)
    → IsPrefix (parts c part) (parts c whole) → ⊥
no_prefix c part whole none prefix = elim (prefix_from_parts c part whole prefix) [
  | inl all ↦ none [] (all ∙ sym (append-nil part))
  | inr some ↦ none (c ∷ some.0) some.1
]

-- a last slash leaves an empty last segment, which is dropped
pub drops_last : (path lead : List ℕ) → path ≡ lead ++ 47 ∷ []
    → without_empty_last (segments path) ≡ segments lead
drops_last path lead is =
    ap without_empty_last (ap segments is ∙ split-cut is_slash lead 47 [] refl refl)
    ∙ cond-true (length (last_segment (segments lead ++ [] ∷ [])) == 0)
    (all_but_last (segments lead ++ [] ∷ [])) (segments lead ++ [] ∷ [])
    (ap (λ s. length s == 0) (last_segment-push (segments lead) []))
    ∙ all_but_last-push (segments lead) []

-- and without one the last segment stays
pub keeps_last : (path : List ℕ) → 0 < length path → ((lead : List ℕ) → path ≢ lead ++ 47 ∷ [])
    → without_empty_last (segments path) ≡ segments path
keeps_last path some none = elim (cut_last is_slash path) [
  | inl whole ↦
      keep (segments path)
      (ap (λ ss. length (last_segment ss) == 0) (split-none is_slash path whole)
      ∙ ne_eqb (length path) 0 (λ e. omega arith))
  | inr cut ↦
      keep (segments path) (ap (λ ss. length (last_segment ss) == 0)
      (ap segments cut.is ∙ split-cut is_slash cut.lead cut.at cut.last cut.passes cut.none)
      ∙ ap (λ s. length s == 0) (last_segment-push (segments cut.lead) cut.last)
      ∙ ne_eqb (length cut.last) 0 (λ e.
      none cut.lead (cut.is ∙ ap₂ (λ x y. cut.lead ++ x ∷ y) (eqb-true cut.at 47 cut.passes)
      (nil_from_length cut.last e))))
] where
  keep : (ss : List (List ℕ)) → (length (last_segment ss) == 0) ≡ false → without_empty_last ss ≡ ss
  keep ss e = cond-false (length (last_segment ss) == 0) (all_but_last ss) ss e
