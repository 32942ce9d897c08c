-- Strings that are written are read again, in place and in the table.
use Rattle.std.proofs.Common.{◌≡◌, ℕ, zero, suc, ◌+◌, ◌^◌, ◌<◌, Bool, true, false, cond}
use Rattle.std.proofs.Common.{ltb, ◌%◌, ◌/◌, List, [], ◌∷◌, ◌++◌, length, take, drop}
use Rattle.std.proofs.Common.{refl, sym, ap, ◌∙◌, append_assoc, arith}
use Rattle.std.specs.Prelude.{encode_utf8_all, not, ◌||◌}
use Rattle.std.specs.List.{list_all, list_any, take_while, prefix_len}
use Rattle.std.specs.List.{position_or_len, before_first}
use Rattle.std.specs.Cmp.Lexicographic.{same_text}
use Rattle.std.proofs.Math.Dec.{eqb-suc-zero}
use Rattle.std.proofs.Math.Seq.{drop-append-add}
use Rattle.std.proofs.lemmas.Bool.{and_from, and_parts}
use Rattle.std.proofs.lemmas.List.{length-append}
use Rattle.std.proofs.lemmas.List.Folds.{list_all-append}
use lib.Utf8.{encode}
use Rattle.wap_base.specs.Numbers.{IsMb, mb_spelling}
use Rattle.wap_base.specs.Texts.{is_same_text}
use Rattle.wap_base.specs.declared.charset.Charset.TheVariants.{Utf8}
use Rattle.wap_base.proofs.NumberSpelling.{IsShortest-mb_spelling}
use Rattle.wap_tokens.specs.markup.Strings.{Strings, IsInline, IsIndexed, is_not_zero}
use Rattle.wap_tokens.specs.markup.Grammar.{table_size}
use Rattle.wap_wbxml.specs.spelling.Names.{string, table_of, place_of}
use Rattle.wap_wbxml.specs.spelling.Spellable.{IsString}
use Rattle.wap_wbxml.proofs.SpellingLemmas.Tables.{length-table, length-string}

-- ---- bytes without a 0

above_zero : (byte : ℕ) → 0 < byte → is_not_zero byte ≡ true
above_zero zero some = absurd (omega arith)
above_zero (suc byte) some = ap not (eqb-suc-zero byte)

all_append : (a b : List ℕ) → list_all is_not_zero a ≡ true → list_all is_not_zero b ≡ true
    → list_all is_not_zero (a ++ b) ≡ true
all_append a b one two =
    list_all-append is_not_zero a b
    ∙ and_from (list_all is_not_zero a) (list_all is_not_zero b) one two

one_of : (b : Bool) (x y : List ℕ) → list_all is_not_zero x ≡ true → list_all is_not_zero y ≡ true
    → list_all is_not_zero (cond b x y) ≡ true
one_of true x y one two = one
one_of false x y one two = two

and_more : (byte : ℕ) (bytes : List ℕ) → 0 < byte → list_all is_not_zero bytes ≡ true
    → list_all is_not_zero (byte ∷ bytes) ≡ true
and_more byte bytes some all =
    and_from (is_not_zero byte) (list_all is_not_zero bytes) (above_zero byte some) all

character_bytes : (c : ℕ) → is_not_zero c ≡ true → list_all is_not_zero (encode c) ≡ true
unfolding encode
character_bytes c some =
    let last : ℕ = 128 + c % 64 in
    let third : ℕ = 128 + c / 64 % 64 in
    let second : ℕ = 128 + c / 4096 % 64 in
    let two : List ℕ = (192 + c / 64) ∷ last ∷ [] in
    let three : List ℕ = (224 + c / 4096) ∷ third ∷ last ∷ [] in
    let four : List ℕ = (240 + c / 262144) ∷ second ∷ third ∷ last ∷ [] in
    let one_more : list_all is_not_zero (last ∷ []) ≡ true = and_more last [] (omega arith) refl in
    let two_more : list_all is_not_zero (third ∷ last ∷ []) ≡ true =
    and_more third (last ∷ []) (omega arith) one_more in
    let three_more : list_all is_not_zero (second ∷ third ∷ last ∷ []) ≡ true =
    and_more second (third ∷ last ∷ []) (omega arith) two_more in
    one_of (ltb c 128) (c ∷ []) (cond (ltb c 2048) two (cond (ltb c 65536) three four))
    (and_from (is_not_zero c) true some refl)
    (one_of (ltb c 2048) two (cond (ltb c 65536) three four)
    (and_more (192 + c / 64) (last ∷ []) (omega arith) one_more)
    (one_of (ltb c 65536) three four
    (and_more (224 + c / 4096) (third ∷ last ∷ []) (omega arith) two_more)
    (and_more (240 + c / 262144) (second ∷ third ∷ last ∷ []) (omega arith) three_more)))

pub text_bytes : (text : List ℕ) → list_all is_not_zero text ≡ true
    → list_all is_not_zero (encode_utf8_all text) ≡ true
text_bytes [] all = refl
text_bytes (c ∷ text) all =
    let parts = and_parts (is_not_zero c) (list_all is_not_zero text) all in
    all_append (encode c) (encode_utf8_all text) (character_bytes c parts.0)
    (text_bytes text parts.1)

-- ---- in place

abbrev pub in_utf8 : List ℕ → Strings
in_utf8 table = record { charset = Utf8; table = table }

pub inline_read : (table text : List ℕ) → IsString text
    → IsInline (in_utf8 table) (string text) text
inline_read table text is = record {
  string = encode_utf8_all text;
  spelled = refl;
  no_zero = text_bytes text is.0;
  text_is = (is.1, refl);
}

-- ---- in the table

up_to_zero : (bytes rest : List ℕ) → list_all is_not_zero bytes ≡ true
    → take_while is_not_zero (bytes ++ 0 ∷ rest) ≡ bytes
up_to_zero [] rest all = refl
up_to_zero (byte ∷ bytes) rest all =
    let parts = and_parts (is_not_zero byte) (list_all is_not_zero bytes) all in
    let others : List ℕ = bytes ++ 0 ∷ rest in
    let one_more : 1 + prefix_len is_not_zero others ≡ suc (prefix_len is_not_zero others) =
    omega arith in
    ap (λ (b : Bool). take (cond b (1 + prefix_len is_not_zero others) 0) (byte ∷ others)) parts.0
    ∙ ap (λ (n : ℕ). take n (byte ∷ others)) one_more
    ∙ ap (λ (l : List ℕ). byte ∷ l) (up_to_zero bytes rest parts.1)

-- the name's string begins at its place
pub record StandsAt (names : List (List ℕ)) (name : List ℕ) : Type 0 where
  pub rest : List ℕ
  pub there : drop (place_of names name) (table_of names) ≡ string name ++ rest

stands_step : (b : Bool) (first : List ℕ) (names : List (List ℕ)) (name : List ℕ)
    → is_same_text name first ≡ b
    → (list_any (is_same_text name) names ≡ true → StandsAt names name)
    → (b || list_any (is_same_text name) names) ≡ true → StandsAt (first ∷ names) name
unfolding place_of table_of
stands_step true first names name same more among =
    let names_are : name ≡ first = same_text name first (sym same) in
    let none_before : place_of (first ∷ names) name ≡ 0 =
    ap (λ (b : Bool). length (table_of (take
    (cond (not b) (1 + position_or_len (is_same_text name) names) 0) (first ∷ names)))) same in
    record {
      rest = table_of names;
      there =
          ap (λ (n : ℕ). drop n (table_of (first ∷ names))) none_before
          ∙ ap (λ (l : List ℕ). string l ++ table_of names) (sym names_are);
    }
stands_step false first names name other more among =
    let stands = more among in
    let before = before_first (is_same_text name) names in
    let one_more : 1 + position_or_len (is_same_text name) names
    ≡ suc (position_or_len (is_same_text name) names) = omega arith in
    let behind : place_of (first ∷ names) name ≡ length (string first) + place_of names name =
    ap (λ (b : Bool). length (table_of
    (take (cond (not b) (1 + position_or_len (is_same_text name) names) 0) (first ∷ names)))) other
    ∙ ap (λ (n : ℕ). length (table_of (take n (first ∷ names)))) one_more
    ∙ length-append (string first) (table_of before) in
    record {
      rest = stands.rest;
      there =
          ap (λ (n : ℕ). drop n (table_of (first ∷ names))) behind
          ∙ drop-append-add (string first) (table_of names) (place_of names name)
          ∙ stands.there;
    }

pub stands_at : (names : List (List ℕ)) (name : List ℕ) → list_any (is_same_text name) names ≡ true
    → StandsAt names name
stands_at [] name among = absurd cc
stands_at (first ∷ names) name among =
    stands_step (is_same_text name first) first names name refl (stands_at names name) among

within_step : (place : ℕ) (table text rest : List ℕ) → drop place table ≡ string text ++ rest
    → place < length table
within_step zero [] text rest there =
    let len = ap length there in
    let more = length-append (string text) rest in
    let one = length-string text in
    absurd (omega arith)
within_step (suc place) [] text rest there =
    let len = ap length there in
    let more = length-append (string text) rest in
    let one = length-string text in
    absurd (omega arith)
within_step zero (byte ∷ table) text rest there = omega arith
within_step (suc place) (byte ∷ table) text rest there =
    let less = within_step place table text rest there in
    omega arith

pub number_read : (number : ℕ) → number < 2 ^ 32 → IsMb (mb_spelling number) number
number_read number fits = (IsShortest-mb_spelling number fits).spells

pub indexed_read : (names : List (List ℕ)) (name : List ℕ) → table_size names < 2 ^ 32
    → list_any (is_same_text name) names ≡ true → IsString name
    → IsIndexed (in_utf8 (table_of names)) (mb_spelling (place_of names name)) name
indexed_read names name fits among is =
    let stands = stands_at names name among in
    let within = within_step (place_of names name) (table_of names) name stands.rest stands.there in
    let len = length-table names in
    let bytes = encode_utf8_all name in
    record {
      index = place_of names name;
      number = number_read (place_of names name) (omega arith);
      within = within;
      text_is = (
        is.1,
        sym (ap (take_while is_not_zero) (stands.there ∙ append_assoc bytes (0 ∷ []) stands.rest)
            ∙ up_to_zero bytes stands.rest (text_bytes name is.0)),
      );
    }
