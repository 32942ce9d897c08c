use Rattle.std.proofs.Common.{◌≡◌, ℕ, ◌+◌, ◌<◌, true, false, List, length, drop, ap, sym, ◌∙◌}
use Rattle.std.proofs.Common.{arith, subst, refl, Some, encode_utf8_all, IsCharBoundary, ◌==◌}
use Rattle.std.specs.Str.{chars, all_scalars}
use Rattle.std.proofs.lemmas.Bool.{eqb-true, eqb-false}
use Rattle.wap_base.specs.Cuts.{until, onward, after_one}
use Rattle.wap_url.specs.Calculation.{is_stop, has_bad_char}
use Rattle.wap_url.proofs.FrontLaws.{HasFragment, has_fragment, no_fragment}
use Rattle.wap_url.proofs.FrontLaws.{behind_hash, fragment_text}
use Rattle.wap_url.proofs.reading.copy_fragment.Goals as goal

-- what follows the prefix is there, so it is a fragment
found : (cs whole after : List ℕ) → whole ≡ encode_utf8_all cs → all_scalars cs ≡ true
    → has_bad_char cs ≡ false → after ≡ onward is_stop (encode_utf8_all cs)
    → (length after == 0) ≡ false → HasFragment cs whole
found cs whole after is text good after_is some =
    has_fragment cs whole is text good (lengths (eqb-false (length after) 0 some)
    (ap length (after_is ∙ ap (onward is_stop) (sym is)))) where
      lengths : (length after ≡ 0 → ⊥) → length after ≡ length (onward is_stop whole)
          → 0 < length (onward is_stop whole)
      lengths some e = omega arith

pub returns-then-is_empty : goal.returns-then-is_empty
returns-then-is_empty c =
    let none = eqb-true (length c.args.rest.now) 0 (sym c.is_empty.ensures ∙ c.if-is_empty.true) in
    sym (ap after_one (no_fragment c.args.text.now (encode_utf8_all c.args.text.now) refl
    (ap length (sym c.requires.after) ∙ none)))

pub range_from-requires : goal.range_from-requires
range_from-requires c =
    let there =
    found c.args.text.now c.as_str-whole.result.now c.args.rest.now c.as_str-whole.ensures.bytes
    c.as_str-whole.ensures.scalars c.requires.good c.requires.after
    (sym c.is_empty.ensures ∙ c.if-is_empty.false) in
    let P : List ℕ → Type 0 =
    λ front. IsCharBoundary c.as_str-whole.result.now (length front + 1) in
    λ _. subst P (sym (c.requires.before ∙ ap (until is_stop) (sym c.as_str-whole.ensures.bytes)))
    (behind_hash c.args.text.now c.as_str-whole.result.now c.as_str-whole.utf8 there)

pub returns : goal.returns
returns c =
    let there =
    found c.args.text.now c.as_str-whole.result.now c.args.rest.now c.as_str-whole.ensures.bytes
    c.as_str-whole.ensures.scalars c.requires.good c.requires.after
    (sym c.is_empty.ensures ∙ c.if-is_empty.false) in
    let cut : c.args.front.now ≡ until is_stop c.as_str-whole.result.now =
    c.requires.before ∙ ap (until is_stop) (sym c.as_str-whole.ensures.bytes) in
    ap Some (c.in_ok-of.ensures ∙ ap chars (c.range_from.ensures.value
    ∙ ap (λ front. drop (length front + 1) c.as_str-whole.result.now) cut)
    ∙ fragment_text c.args.text.now c.as_str-whole.result.now there)
    ∙ sym (ap after_one there.onward_is)
