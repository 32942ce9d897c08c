-- The string table, and where the names stand in it.
use Rattle.std.proofs.Common.{◌≡◌, ℕ, zero, suc, ◌+◌, ◌<◌, ◌≤◌, ltb, List, [], ◌∷◌, ◌++◌, length}
use Rattle.std.proofs.Common.{take, get_or, Some, None, inl, inr, refl, sym, ap, ◌∙◌, arith}
use Rattle.std.specs.Prelude.{encode_utf8_all}
use Rattle.std.specs.List.{flat_map, position, position_or_len}
use Rattle.std.proofs.lemmas.Bool.{ltb-false}
use Rattle.std.proofs.lemmas.Grind.{flat_map-append}
use Rattle.std.proofs.lemmas.List.{length-append, append-nil, take_all}
use Rattle.wap_base.proofs.Choices.{chosen, some_same}
use Rattle.wap_base.specs.Texts.{is_same_text}
use Rattle.wap_base.specs.Utf8.{utf8_len}
use Rattle.wap_base.proofs.Utf8Lengths.{length-encode_utf8_all}
use Rattle.wap_tokens.specs.markup.Grammar.{table_size}
use Rattle.wap_wbxml.specs.spelling.Names.{string, table_of, place_of}
use Rattle.wap_wbxml.specs.spelling.inside.Places.{places_from}

pub length-string : (name : List ℕ) → length (string name) ≡ utf8_len name + 1
length-string name =
    length-append (encode_utf8_all name) (0 ∷ [])
    ∙ ap (λ (n : ℕ). n + 1) (length-encode_utf8_all name)

pub length-table : (names : List (List ℕ)) → length (table_of names) ≡ table_size names
unfolding table_of table_size
length-table [] = refl
length-table (name ∷ names) =
    let all = length-append (string name) (table_of names) in
    let first = length-string name in
    let rest = length-table names in
    omega arith

pub size_within : (names : List (List ℕ)) (count : ℕ)
    → table_size (take count names) ≤ table_size names
unfolding table_size
size_within [] zero = omega arith
size_within [] (suc count) = omega arith
size_within (name ∷ names) zero = omega arith
size_within (name ∷ names) (suc count) = let more = size_within names count in omega arith

-- ---- one name more

pub table_one_more : (names : List (List ℕ)) (name : List ℕ)
    → table_of names ++ string name ≡ table_of (names ++ name ∷ [])
unfolding table_of
table_one_more names name =
    sym (flat_map-append string names (name ∷ [])
    ∙ ap (λ (l : List ℕ). flat_map string names ++ l) (append-nil (string name)))

pub places_one_more : (place : ℕ) (names : List (List ℕ)) (name : List ℕ)
    → places_from place names ++ (place + length (table_of names)) ∷ []
    ≡ places_from place (names ++ name ∷ [])
unfolding table_of
places_one_more place [] name =
    let same : place + 0 ≡ place = omega arith in
    ap (λ (n : ℕ). n ∷ []) same
places_one_more place (first ∷ names) name =
    let len = length-append (string first) (table_of names) in
    let same : place + length (string first ++ table_of names)
    ≡ place + length (string first) + length (table_of names) = omega arith in
    ap (λ (n : ℕ). place ∷ (places_from (place + length (string first)) names ++ n ∷ [])) same
    ∙ ap (λ (l : List ℕ). place ∷ l) (places_one_more (place + length (string first)) names name)

-- ---- places

pub length-places : (place : ℕ) (names : List (List ℕ))
    → length (places_from place names) ≡ length names
length-places place [] = refl
length-places place (name ∷ names) = ap suc (length-places (place + length (string name)) names)

pub place_at : (place : ℕ) (names : List (List ℕ)) (i other : ℕ) → i < length names
    → get_or (places_from place names) i other ≡ place + length (table_of (take i names))
unfolding table_of
place_at place [] i other within = absurd (omega arith)
place_at place (name ∷ names) zero other within = omega arith
place_at place (name ∷ names) (suc i) other within =
    let len = length-append (string name) (table_of (take i names)) in
    let rest = place_at (place + length (string name)) names i other (omega arith) in
    let same : place + length (string name) + length (table_of (take i names))
    ≡ place + length (string name ++ table_of (take i names)) = omega arith in
    rest ∙ same

pub place_found : (names : List (List ℕ)) (name : List ℕ) (i : ℕ)
    → Some i ≡ position (is_same_text name) names
    → place_of names name ≡ length (table_of (take i names))
unfolding place_of
place_found names name i is =
    let first = position_or_len (is_same_text name) names in
    elim (chosen (ltb first (length names)) (Some first) None (Some i) (sym is)) [
      | inl t ↦ ap (λ (n : ℕ). length (table_of (take n names))) (some_same first i t.1)
      | inr f ↦ absurd cc
    ]

pub place_missing : (names : List (List ℕ)) (name : List ℕ)
    → None ≡ position (is_same_text name) names
    → place_of names name ≡ length (table_of names)
unfolding place_of
place_missing names name is =
    let first = position_or_len (is_same_text name) names in
    elim (chosen (ltb first (length names)) (Some first) None None (sym is)) [
      | inl t ↦ absurd cc
      | inr f ↦
          ap (λ (l : List (List ℕ)). length (table_of l))
          (take_all first names (ltb-false first (length names) f.0))
    ]
