-- The set of escaped bytes, and what its escapes are.
use Rattle.std.proofs.Common.{◌≡◌, ℕ, Bool, true, false, cond, not, ◌||◌, List, []}
use Rattle.std.proofs.Common.{◌∷◌, ◌++◌, refl, ap, sym, ◌∙◌, inl, inr, ap₂}
use Rattle.std.specs.Prelude.{encode_utf8_all}
use Rattle.std.specs.List.{flat_map, All}
use Rattle.std.specs.Str.{chars}
use Rattle.std.proofs.lemmas.Bool.{agree_below, agree_below_at, cases_lt}
use Rattle.std.proofs.lemmas.Bool.{lt-ltb, le-ltb, not_from_false}
use Rattle.percent_encoding.specs.AsciiSet.{contains, should_percent_encode}
use Rattle.percent_encoding.specs.Percent.{percent_encode, percent_encode_byte}
use Rattle.percent_encoding.specs.Percent.{encode_byte, percent_decode}
use Rattle.percent_encoding.proofs.PercentLemmas.{round_trip, IsAscii-percent_encode, IsByte}
use Rattle.wap_url.specs.declared.escapes.TheConstants.{RESERVED}
use Rattle.wap_url.specs.Characters.{is_unreserved}
use Rattle.wap_url.specs.Escapes.{escape_of, unescaped}
use Rattle.wap_url.proofs.CharacterLaws.{unreserved_high}
use Rattle.std.proofs.lemmas.Str.{chars-IsAscii, encodes-IsAscii}

reserved_is : agree_below (contains RESERVED) (λ b. not (is_unreserved b)) 128 ≡ true
reserved_is = refl

should_is : (b : ℕ) → should_percent_encode RESERVED b ≡ not (is_unreserved b)
unfolding should_percent_encode
should_is b = elim (cases_lt b 128) [
  | inl low ↦
      ap (λ t. not t || contains RESERVED b) (lt-ltb b 128 low)
      ∙ agree_below_at (contains RESERVED) (λ b. not (is_unreserved b)) 128 b reserved_is low
  | inr high ↦
      ap (λ t. not t || contains RESERVED b) (le-ltb b 128 high)
      ∙ sym (not_from_false (is_unreserved b) (unreserved_high b high))
]

cond-not : {A : Type 0} (t : Bool) (x y : A) → cond (not t) x y ≡ cond t y x
cond-not true x y = refl
cond-not false x y = refl

encode_byte_is : (b : ℕ) → encode_byte RESERVED b ≡ escape_of b
encode_byte_is b =
    ap (λ t. cond t (percent_encode_byte b) (b ∷ [])) (should_is b)
    ∙ cond-not (is_unreserved b) (percent_encode_byte b) (b ∷ [])

flat_map-same : (f g : ℕ → List ℕ) → ((b : ℕ) → f b ≡ g b) → (bs : List ℕ)
    → flat_map f bs ≡ flat_map g bs
flat_map-same f g each [] = refl
flat_map-same f g each (b ∷ bs) = ap₂ (λ x y. x ++ y) (each b) (flat_map-same f g each bs)

-- the text of these escapes is the escaped text
pub percent_encode_is : (bs : List ℕ) → percent_encode RESERVED bs ≡ flat_map escape_of bs
unfolding percent_encode
percent_encode_is bs = flat_map-same (encode_byte RESERVED) escape_of encode_byte_is bs

-- the same as characters
pub chars_escaped : (bs : List ℕ) → chars (percent_encode RESERVED bs) ≡ flat_map escape_of bs
chars_escaped bs =
    chars-IsAscii (percent_encode RESERVED bs) (IsAscii-percent_encode RESERVED bs)
    ∙ percent_encode_is bs

-- unescaping them gives the bytes back
pub unescaped_escaped : (bs : List ℕ) → All IsByte bs → unescaped (flat_map escape_of bs) ≡ bs
unescaped_escaped bs small =
    ap (λ text. percent_decode (encode_utf8_all text)) (sym (percent_encode_is bs))
    ∙ ap percent_decode
    (encodes-IsAscii (percent_encode RESERVED bs) (IsAscii-percent_encode RESERVED bs))
    ∙ round_trip RESERVED bs refl small
