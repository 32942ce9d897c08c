-- A value compared with a text, part by part.
use Rattle.std.proofs.Common.{◌≡◌, ◌≢◌, ℕ, false, List, [], ◌∷◌, ◌++◌, length, Option, Some}
use Rattle.std.proofs.Common.{None, inl, inr, refl, sym, ap, ◌∙◌, arith}
use Rattle.std.specs.Prelude.{encode_utf8_all, MatchOption}
use Rattle.std.specs.Borrow.{Bor}
use Rattle.std.specs.Str.{chars, IsUtf8}
use Rattle.std.specs.Bool.{Decides, one_answer}
use Rattle.std.specs.Cmp.Lexicographic.{bytes_decides}
use Rattle.std.proofs.lemmas.Bool.{cases_Bool}
use Rattle.std.proofs.lemmas.List.{append-nil, append_cancel_left, length-append}
use Rattle.std.proofs.lemmas.Str.{encodes-chars, encode_same, encodes-append}
use Rattle.std.proofs.lemmas.Str.{length-encode, len_utf8_bounds}
use lib.Utf8.{encode}
use Rattle.wap_base.specs.Texts.{is_same_text}
use Rattle.wap_base.specs.declared.name.Conv.{Conv}
use Rattle.wap_base.specs.declared.name.Part.{Part}
use Rattle.wap_base.specs.declared.name.Part.TheVariants.{Lit, Var}
use Rattle.wap_tokens.specs.markup.Decks.{before}
use Rattle.wap_tokens.specs.markup.Trees.{plain_text, is_text}
use Rattle.wap_deck.specs.good.Runs.{is_utf8_of, TakesPart}

-- ---- texts and their bytes

some_bytes : (c : ℕ) (rest : List ℕ) → encode c ++ rest ≢ []
some_bytes c rest e =
    let len = ap length e in
    let sum = length-append (encode c) rest in
    let one = length-encode c in
    let bounds = len_utf8_bounds c in
    absurd (omega (arith, bounds.0))

bytes_tell : (a b : List ℕ) → encode_utf8_all a ≡ encode_utf8_all b → a ≡ b
bytes_tell [] [] e = refl
bytes_tell [] (d ∷ b) e = absurd (some_bytes d (encode_utf8_all b) (sym e))
bytes_tell (c ∷ a) [] e = absurd (some_bytes c (encode_utf8_all a) e)
bytes_tell (c ∷ a) (d ∷ b) e =
    let same = encode_same c d (encode_utf8_all a) (encode_utf8_all b) e in
    ap (λ (n : ℕ). n ∷ a) same.0 ∙ ap (λ (l : List ℕ). d ∷ l) (bytes_tell a b same.1)

alike : (a b x y : List ℕ) → (a ≡ b → x ≡ y) → (x ≡ y → a ≡ b) → is_same_text a b ≡ is_same_text x y
alike a b x y to from =
    let first : Decides (is_same_text a b) (a ≡ b) = bytes_decides a b in
    let second : Decides (is_same_text x y) (a ≡ b) =
    (λ so. from ((bytes_decides x y).0 so), λ so. (bytes_decides x y).1 (to so)) in
    one_answer (is_same_text a b) (is_same_text x y) first second

differ : (a b : List ℕ) → a ≢ b → is_same_text a b ≡ false
differ a b apart = elim (cases_Bool (is_same_text a b)) [
  | inl same ↦ absurd (apart ((bytes_decides a b).0 same))
  | inr other ↦ other
]

pub by_bytes : (text : List ℕ) (found : Option (List ℕ))
    → is_text text found ≡ is_utf8_of (encode_utf8_all text) found
by_bytes text None = refl
by_bytes text (Some other) =
    alike other text (encode_utf8_all other) (encode_utf8_all text) (ap encode_utf8_all)
    (bytes_tell other text)

-- ---- a literal at the beginning

same_behind : (front a b : List ℕ) → is_same_text (front ++ a) (front ++ b) ≡ is_same_text a b
same_behind front a b =
    alike (front ++ a) (front ++ b) a b (append_cancel_left front a b)
    (ap (λ (l : List ℕ). front ++ l))

pub taken : (text rest : List ℕ) (parts : List Part)
    → is_utf8_of (encode_utf8_all text ++ rest) (plain_text (before (Lit text) parts))
    ≡ is_utf8_of rest (plain_text parts)
taken text rest [] =
    let bytes = encode_utf8_all text in
    ap (λ (l : List ℕ). is_same_text l (bytes ++ rest)) (sym (append-nil bytes))
    ∙ same_behind bytes [] rest
taken text rest (Lit more ∷ []) =
    let bytes = encode_utf8_all text in
    ap (λ (l : List ℕ). is_same_text l (bytes ++ rest)) (encodes-append text more)
    ∙ same_behind bytes (encode_utf8_all more) rest
taken text rest (Lit more ∷ next ∷ parts) = refl
taken text rest (Var name conv ∷ parts) = refl

pub not_taken : (text bytes : List ℕ) (parts : List Part)
    → ((rest : List ℕ) → bytes ≢ encode_utf8_all text ++ rest)
    → is_utf8_of bytes (plain_text (before (Lit text) parts)) ≡ false
not_taken text bytes [] none =
    differ (encode_utf8_all text) bytes
    (λ same. none [] (sym same ∙ sym (append-nil (encode_utf8_all text))))
not_taken text bytes (Lit more ∷ []) none =
    differ (encode_utf8_all (text ++ more)) bytes
    (λ same. none (encode_utf8_all more) (sym same ∙ encodes-append text more))
not_taken text bytes (Lit more ∷ next ∷ parts) none = refl
not_taken text bytes (Var name conv ∷ parts) none = refl

pub variable_none : (name : List ℕ) (conv : Conv) (bytes : List ℕ) (parts : List Part)
    → is_utf8_of bytes (plain_text (before (Var name conv) parts)) ≡ false
variable_none name conv bytes parts = refl

-- ---- what follows a part

strips : (part front bytes : List ℕ) (result : Option (Bor (List ℕ))) → encode_utf8_all part ≡ front
    → MatchOption result ((rest : List ℕ) → bytes ≢ front ++ rest) (λ x. bytes ≡ front ++ x.now)
    → TakesPart (Lit part) bytes result
strips part front bytes (Some rest) same is = is ∙ ap (λ (l : List ℕ). l ++ rest.now) (sym same)
strips part front bytes None same isnt =
    λ rest e. isnt rest (e ∙ ap (λ (l : List ℕ). l ++ rest) same)

pub slice_taken : (front bytes : List ℕ) (result : Option (Bor (List ℕ))) → IsUtf8 front
    → MatchOption result ((rest : List ℕ) → bytes ≢ front ++ rest) (λ x. bytes ≡ front ++ x.now)
    → TakesPart (Lit (chars front)) bytes result
slice_taken front bytes result utf8 is =
    strips (chars front) front bytes result (encodes-chars front utf8) is

-- ---- a turn

pub stepped : (part : Part) (bytes : List ℕ) (rest : Bor (List ℕ)) (parts others : List Part)
    → parts ≡ before part others → TakesPart part bytes (Some rest)
    → is_utf8_of bytes (plain_text parts) ≡ is_utf8_of rest.now (plain_text others)
stepped (Lit text) bytes rest parts others together takes =
    ap (λ (l : List ℕ). is_utf8_of l (plain_text parts)) takes
    ∙ ap (λ (v : List Part). is_utf8_of (encode_utf8_all text ++ rest.now) (plain_text v)) together
    ∙ taken text rest.now others
stepped (Var name conv) bytes rest parts others together takes = absurd (cc takes)

pub missed : (part : Part) (bytes : List ℕ) (parts others : List Part)
    → parts ≡ before part others → TakesPart part bytes None
    → is_utf8_of bytes (plain_text parts) ≡ false
missed (Lit text) bytes parts others together takes =
    ap (λ (v : List Part). is_utf8_of bytes (plain_text v)) together
    ∙ not_taken text bytes others takes
missed (Var name conv) bytes parts others together takes =
    ap (λ (v : List Part). is_utf8_of bytes (plain_text v)) together
    ∙ variable_none name conv bytes others
