-- A text that was cut into strings and U+0000 is put together again.
use Rattle.std.proofs.Common.{◌≡◌, ◌≢◌, ℕ, zero, suc, ◌==◌, ◌≤◌, Bool, true, false, ◌||◌, List, []}
use Rattle.std.proofs.Common.{◌∷◌, ◌++◌, Option, Some, None, refl, sym, ap, ap₂, ◌∙◌, append_assoc}
use Rattle.std.proofs.Common.{arith, inl, inr, encode_utf8, encode_utf8_all}
use Rattle.std.specs.List.{filter_map, list_any}
use Rattle.std.specs.Option.{is_none}
use Rattle.std.proofs.lemmas.Bool.{or_parts, or_from, cases_lt, ne_eqb}
use Rattle.std.proofs.lemmas.List.Folds.{list_any-append}
use Rattle.std.proofs.lemmas.Str.{encode_ascii}
use Rattle.wap_base.proofs.Utf8Cuts.{AllHigh, high_bytes}
use Rattle.wap_base.specs.declared.name.Part.{Part}
use Rattle.wap_base.specs.declared.name.Part.TheVariants.{Lit, Var}
use Rattle.wap_tokens.specs.markup.Decks.{literal, character, before}
use Rattle.wap_tokens.specs.markup.Writing.{run_before, runs_of}
use Rattle.wap_deck.specs.documents.inside.Adding.{has_zero, string_after, character_after}

-- what a string of a text, or a U+0000, is read as
abbrev pub run_part : Option (List ℕ) → Option Part
run_part None = character 0
run_part (Some text) = literal text

-- parts that are put before a thing, by a way to put one there
abbrev pub put_by : {X : Type 0} → (Part → X → X) → List Part → X → X
put_by put [] rest = rest
put_by put (part ∷ parts) rest = put part (put_by put parts rest)

-- two literals are put there as one
abbrev pub Joins : {X : Type 0} → (Part → X → X) → Type 0
Joins {X = X} put =
    (a b : List ℕ) (rest : X) → put (Lit a) (put (Lit b) rest) ≡ put (Lit (a ++ b)) rest

abbrev run_parts : List (Option (List ℕ)) → List Part
run_parts runs = filter_map run_part runs

one_more : {X : Type 0} (put : Part → X → X) → Joins put
    → (c : ℕ) (runs : List (Option (List ℕ))) (rest : X)
    → put_by put (run_parts (run_before c runs)) rest
    ≡ put (Lit (c ∷ [])) (put_by put (run_parts runs) rest)
one_more put joins c [] rest = refl
one_more put joins c (None ∷ runs) rest = refl
one_more put joins c (Some [] ∷ runs) rest = refl
one_more put joins c (Some (d ∷ text) ∷ runs) rest =
    sym (joins (c ∷ []) (d ∷ text) (put_by put (run_parts runs) rest))

one_character : {X : Type 0} (put : Part → X → X) → Joins put → (c : ℕ) (cs : List ℕ) (rest : X)
    → put_by put (run_parts (runs_of (c ∷ cs))) rest
    ≡ put (Lit (c ∷ [])) (put_by put (run_parts (runs_of cs)) rest)
one_character put joins zero cs rest = refl
one_character put joins (suc c) cs rest = one_more put joins (suc c) (runs_of cs) rest

pub put_runs : {X : Type 0} (put : Part → X → X) → Joins put → (c : ℕ) (cs : List ℕ) (rest : X)
    → put_by put (filter_map run_part (runs_of (c ∷ cs))) rest ≡ put (Lit (c ∷ cs)) rest
put_runs put joins c [] rest = one_character put joins c [] rest
put_runs put joins c (d ∷ ds) rest =
    one_character put joins c (d ∷ ds) rest ∙ ap (put (Lit (c ∷ []))) (put_runs put joins d ds rest)
    ∙ joins (c ∷ []) (d ∷ ds) rest

pub before-joins : Joins before
before-joins a b [] = refl
before-joins a b (Lit text ∷ parts) = ap (λ text. Lit text ∷ parts) (sym (append_assoc a b text))
before-joins a b (Var name conv ∷ parts) = refl

-- ---- strings, character by character

string_after-last : (runs : List (Option (List ℕ))) (last : Option (List ℕ)) (c : ℕ)
    → string_after (runs ++ last ∷ []) c ≡ runs ++ string_after (last ∷ []) c
string_after-last [] last c = refl
string_after-last (first ∷ []) last c = refl
string_after-last (first ∷ next ∷ runs) last c =
    ap (λ rest. first ∷ rest) (string_after-last (next ∷ runs) last c)

pub string_after-any : (runs others : List (Option (List ℕ))) (last : Option (List ℕ)) (c : ℕ)
    → runs ≡ others ++ last ∷ [] → string_after runs c ≡ others ++ string_after (last ∷ []) c
string_after-any runs others last c is =
    ap (λ runs. string_after runs c) is ∙ string_after-last others last c

none_first : (runs : List (Option (List ℕ))) (c : ℕ)
    → None ∷ character_after runs c ≡ character_after (None ∷ runs) c
none_first runs zero = refl
none_first [] (suc c) = refl
none_first (first ∷ runs) (suc c) = refl

run_first : (d : ℕ) (runs : List (Option (List ℕ))) (c : ℕ)
    → run_before d (character_after runs c) ≡ character_after (run_before d runs) c
run_first d [] zero = refl
run_first d (None ∷ runs) zero = refl
run_first d (Some text ∷ runs) zero = refl
run_first d [] (suc c) = refl
run_first d (None ∷ []) (suc c) = refl
run_first d (Some text ∷ []) (suc c) = refl
run_first d (None ∷ next ∷ runs) (suc c) = refl
run_first d (Some text ∷ next ∷ runs) (suc c) = refl

first_alone : (c : ℕ) → runs_of (c ∷ []) ≡ character_after [] c
first_alone zero = refl
first_alone (suc c) = refl

pub runs_of-last : (cs : List ℕ) (c : ℕ) → runs_of (cs ++ c ∷ []) ≡ character_after (runs_of cs) c
runs_of-last [] c = first_alone c
runs_of-last (zero ∷ cs) c =
    ap (λ runs. None ∷ runs) (runs_of-last cs c) ∙ none_first (runs_of cs) c
runs_of-last (suc d ∷ cs) c =
    ap (run_before (suc d)) (runs_of-last cs c) ∙ run_first (suc d) (runs_of cs) c

-- ---- a text without U+0000 is one string

string_from : (c : ℕ) (cs : List ℕ) → has_zero (c ∷ cs) ≡ false
    → runs_of (c ∷ cs) ≡ Some (c ∷ cs) ∷ []
string_from zero cs none = cc
string_from (suc c) [] none = refl
string_from (suc c) (d ∷ ds) none =
    let parts = or_parts (suc c == 0) (has_zero (d ∷ ds)) none in
    ap (run_before (suc c)) (string_from d ds parts.1)

pub one_string : (text : List ℕ) → text ≢ [] → has_zero text ≡ false → runs_of text ≡ Some text ∷ []
one_string [] some none = absurd (some refl)
one_string (c ∷ cs) some none = string_from c cs none

-- ---- and a text that is one string has none

none_before : (c : ℕ) (runs : List (Option (List ℕ)))
    → list_any is_none (run_before c runs) ≡ list_any is_none runs
none_before c [] = refl
none_before c (None ∷ runs) = refl
none_before c (Some text ∷ runs) = refl

none_among : (text : List ℕ) → list_any is_none (runs_of text) ≡ has_zero text
none_among [] = refl
none_among (zero ∷ cs) = refl
none_among (suc c ∷ cs) =
    none_before (suc c) (runs_of cs) ∙ none_among cs
    ∙ sym (ap (λ (b : Bool). b || has_zero cs) (ne_eqb (suc c) 0 (λ e. differ e))) where
      differ : suc c ≡ 0 → ⊥
      differ e = omega arith

pub string_has_no_zero : (text : List ℕ) → runs_of text ≡ Some text ∷ [] → has_zero text ≡ false
string_has_no_zero text one = sym (none_among text) ∙ ap (list_any is_none) one

pub string_has_some : (text : List ℕ) → runs_of text ≡ Some text ∷ [] → text ≢ []
string_has_some [] one = absurd (cc one)
string_has_some (c ∷ cs) one = λ empty. absurd (cc empty)

-- ---- bytes

high : (b : ℕ) → 128 ≤ b → (b == 0) ≡ false
high b past = ne_eqb b 0 (λ e. differ e past) where
  differ : b ≡ 0 → 128 ≤ b → ⊥
  differ e above = omega arith

none_high : (bs : List ℕ) → AllHigh bs → has_zero bs ≡ false
none_high [] past = refl
none_high (b ∷ bs) past = or_from (b == 0) (has_zero bs) (high b past.0) (none_high bs past.1)

same_one : (b : Bool) → (b || false) ≡ b
same_one true = refl
same_one false = refl

one : (c : ℕ) → has_zero (encode_utf8 c) ≡ (c == 0)
one c = elim (cases_lt c 128) [
  | inl ascii ↦ ap has_zero (encode_ascii c ascii) ∙ same_one (c == 0)
  | inr past ↦ none_high (encode_utf8 c) (high_bytes c past) ∙ sym (high c past)
]

-- the byte of U+0000 is one of no other character
pub zero_bytes : (cs : List ℕ) → has_zero (encode_utf8_all cs) ≡ has_zero cs
zero_bytes [] = refl
zero_bytes (c ∷ cs) =
    list_any-append (λ b. b == 0) (encode_utf8 c) (encode_utf8_all cs)
    ∙ ap₂ (λ (x y : Bool). x || y) (one c) (zero_bytes cs)
