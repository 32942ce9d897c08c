-- The first 0, as a search finds it.
use Rattle.std.proofs.Common.{◌≡◌, ℕ, zero, suc, ◌+◌, ◌-◌, ◌<◌, Bool, true, cond}
use Rattle.std.proofs.Common.{List, [], ◌∷◌, length, take, drop, Some, None, refl, sym, ap}
use Rattle.std.proofs.Common.{subst, ◌∙◌, arith}
use Rattle.std.specs.Prelude.{not, slice_index, ◌==◌}
use Rattle.std.specs.List.{list_all}
use Rattle.std.specs.Str.{chars, IsUtf8}
use Rattle.std.proofs.lemmas.Bool.{eqb-true, false_from_ne_true}
use Rattle.std.proofs.lemmas.Str.{chars-encodes}
use Rattle.wap_tokens.specs.markup.Strings.{is_not_zero}
use Rattle.wap_wbxml.specs.spelling.Spellable.{HasNoZero}
use Rattle.wap_wbxml.proofs.SpellingLemmas.TakenDocuments.{text_not_zero}
use Rattle.std.proofs.lemmas.List.{take_rest, drop-drop, drop_more, drop_all}
use Rattle.memchr.specs.Find.{Nowhere, Passes, IsFirstByte, is_byte}
use Rattle.wap_deck.specs.good.Readers.{◌>>=◌, after, zero_place, ended_at, behind_zero}

more : (byte : ℕ) (bytes : List ℕ) (n : ℕ) → (is_byte 0 byte ≡ true → ⊥) → zero_place bytes ≡ n
    → zero_place (byte ∷ bytes) ≡ suc n
more byte bytes n other e =
    ap (λ (b : Bool). cond (not b) (1 + zero_place bytes) 0) (false_from_ne_true (byte == 0) other)
    ∙ (omega arith)

pub zero_at : (bytes : List ℕ) (place : ℕ) → place < length bytes
    → Nowhere (Passes (is_byte 0) bytes) 0 place → Passes (is_byte 0) bytes place
    → zero_place bytes ≡ place
zero_at [] place within before here = absurd (omega arith)
zero_at (byte ∷ bytes) zero within before here =
    ap (λ (b : Bool). cond (not b) (1 + zero_place bytes) 0) here
zero_at (byte ∷ bytes) (suc place) within before here =
    more byte bytes place (before 0 (omega arith) (omega arith)) (zero_at bytes place (omega arith)
    (λ k low high. before (suc k) (omega arith) (omega arith)) here)

pub no_zero : (bytes : List ℕ) → Nowhere (Passes (is_byte 0) bytes) 0 (length bytes)
    → zero_place bytes ≡ length bytes
no_zero [] nowhere = refl
no_zero (byte ∷ bytes) nowhere =
    more byte bytes (length bytes) (nowhere 0 (omega arith) (omega arith))
    (no_zero bytes (λ k low high. nowhere (suc k) (omega arith) (omega arith)))

-- ---- what stands before the first 0

pub chars_no_zero : (bytes : List ℕ) → IsUtf8 bytes → list_all is_not_zero bytes ≡ true
    → HasNoZero (chars bytes)
chars_no_zero bytes of all =
    subst HasNoZero (sym (chars-encodes of.0 of.1.0) ∙ ap chars of.1.1)
    (text_not_zero of.0 (ap (list_all is_not_zero) of.1.1 ∙ all))

-- ---- what follows the first 0

zero_there : (bytes : List ℕ) (place : ℕ) → place < length bytes
    → Passes (is_byte 0) bytes place → drop place bytes ≡ 0 ∷ drop (place + 1) bytes
zero_there bytes place within here =
    drop_more bytes place 0 within
    ∙ ap (λ (n : ℕ). n ∷ drop (place + 1) bytes) (eqb-true (slice_index bytes place) 0 here)

module _ (bytes : List ℕ) (place : ℕ) (first : IsFirstByte (is_byte 0) bytes (Some place)) where
  at_place : zero_place bytes ≡ place
  at_place =
      let high = first.0.high in zero_at bytes place high first.0.before first.1

  pub after_zero : take (length bytes - (place + 1)) (drop (place + 1) bytes) ≡ behind_zero bytes
  after_zero =
      take_rest bytes (place + 1) ∙ sym (drop-drop 1 place bytes)
      ∙ ap (λ (n : ℕ). drop 1 (drop n bytes)) (sym at_place)

  pub ended_there : ended_at bytes
      ≡ Some (take place bytes, take (length bytes - (place + 1)) (drop (place + 1) bytes))
  unfolding ended_at
  ended_there =
      let high = first.0.high in
      ap (λ (n : ℕ). after 0 (drop n bytes) >>= λ rest.
      let w : List ℕ × List ℕ = (take n bytes, rest) in Some w) at_place
      ∙ ap (λ (l : List ℕ). after 0 l >>= λ rest.
      let w : List ℕ × List ℕ = (take place bytes, rest) in Some w)
      (zero_there bytes place high first.1)
      ∙ ap (λ (l : List ℕ). let w : List ℕ × List ℕ = (take place bytes, l) in Some w)
      (sym (take_rest bytes (place + 1)))

module _ (bytes : List ℕ) (nowhere : IsFirstByte (is_byte 0) bytes None) where
  none_left : drop (zero_place bytes) bytes ≡ []
  none_left = drop_all (zero_place bytes) bytes (let e = no_zero bytes nowhere in omega arith)

  pub no_after_zero : [] ≡ behind_zero bytes
  no_after_zero = sym (ap (drop 1) none_left)

  pub never_ended : ended_at bytes ≡ None
  unfolding ended_at
  never_ended =
      ap (λ (l : List ℕ). after 0 l >>= λ rest.
      let w : List ℕ × List ℕ = (take (zero_place bytes) bytes, rest) in Some w) none_left
