-- Texts and values are read as they are spelled.
use Rattle.std.proofs.Common.{◌≡◌, ◌≢◌, ℕ, zero, suc, ◌+◌, Bool, true, cond, List, []}
use Rattle.std.proofs.Common.{◌∷◌, ◌++◌, length, take, drop, map, Option, Some, None}
use Rattle.std.proofs.Common.{refl, sym, ap, subst, ◌∙◌, append_assoc, arith}
use Rattle.std.specs.Prelude.{encode_utf8_all, if◌then◌else◌, ◌&&◌}
use Rattle.std.specs.List.{flat_map, filter_map, cons_option, list_all, prefix_len, AllByRecursion}
use Rattle.std.specs.Str.{chars, is_utf8, all_scalars}
use Rattle.std.proofs.lemmas.List.{take_at, drop_at}
use Rattle.std.proofs.lemmas.Str.{chars-encodes, is_utf8-from_IsUtf8}
use Rattle.wap_base.specs.Names.{is_name}
use Rattle.wap_base.proofs.NameLaws.{name-encode}
use Rattle.wap_base.specs.declared.name.Conv.{Conv}
use Rattle.wap_base.specs.declared.name.Conv.TheVariants.{Escape, Unescape, Plain}
use Rattle.wap_base.specs.declared.name.Part.{Part}
use Rattle.wap_base.specs.declared.name.Part.TheVariants.{Lit, Var}
use Rattle.wap_tokens.specs.declared.markup.codes.TheConstants.{STR_I}
use Rattle.wap_tokens.specs.declared.markup.document.Piece.{Piece}
use Rattle.wap_tokens.specs.declared.markup.document.Piece.TheVariants as piece
use Rattle.wap_tokens.specs.markup.Strings.{is_not_zero}
use Rattle.wap_tokens.specs.markup.Decks.{literal, joined, piece_part, value_after}
use Rattle.wap_tokens.specs.markup.Normal.{IsPart}
use Rattle.wap_tokens.specs.markup.Writing.{run_before, runs_of, run_piece, part_pieces}
use Rattle.std.proofs.lemmas.Bool.{and_parts}
use Rattle.wap_wbxml.specs.spelling.Names.{string}
use Rattle.wap_wbxml.specs.spelling.Spellable.{IsString}
use Rattle.wap_wbxml.specs.spelling.Spelling.{variable, piece_spelling, first_pages}
use Rattle.wap_wbxml.proofs.SpellingLemmas.DeckLaws.{all_append}
use Rattle.wap_wbxml.proofs.SpellingLemmas.Strings.{text_bytes}
use Rattle.wap_wbxml.proofs.SpellingLemmas.Kinds.{of_characters, name_string, RunFits, runs_fit}
use Rattle.wap_deck.specs.good.Readers.{◌>>=◌, after, zero_place, ended_at, all_of}
use Rattle.wap_deck.specs.good.Texts.{string_part, name_part, string_at, reference_at}
use Rattle.wap_deck.specs.good.Texts.{character_at, part_at, value_at, behind_value}
use Rattle.wap_wbxml.specs.spelling.Characters.{OfPart}
use Rattle.wap_deck.proofs.GoodLemmas.Runs.{all_on, all_end}
use Rattle.wap_deck.proofs.GoodLemmas.Taking.{part_takes}
use Rattle.wap_deck.proofs.GoodLemmas.Flat.{Flat, Filled}

-- ---- strings up to a 0

place_is : (bytes rest : List ℕ) → list_all is_not_zero bytes ≡ true
    → zero_place (bytes ++ 0 ∷ rest) ≡ length bytes
place_is [] rest all = refl
place_is (byte ∷ bytes) rest all =
    let parts = and_parts (is_not_zero byte) (list_all is_not_zero bytes) all in
    let more = place_is bytes rest parts.1 in
    ap (λ (b : Bool). cond b (1 + prefix_len is_not_zero (bytes ++ 0 ∷ rest)) 0) parts.0
    ∙ omega arith

pub ended_read : (bytes rest : List ℕ) → list_all is_not_zero bytes ≡ true
    → ended_at (bytes ++ 0 ∷ rest) ≡ Some (bytes, rest)
unfolding ended_at
ended_read bytes rest all =
    let place = place_is bytes rest all in
    ap (λ (n : ℕ). after 0 (drop n (bytes ++ 0 ∷ rest)) >>= λ behind.
    Some (take n (bytes ++ 0 ∷ rest), behind)) place
    ∙ ap
    (λ (l : List ℕ). after 0 l >>= λ behind. Some (take (length bytes) (bytes ++ 0 ∷ rest), behind))
    (drop_at bytes (0 ∷ rest) (length bytes) refl)
    ∙ ap (λ (l : List ℕ). Some (l, rest)) (take_at bytes (0 ∷ rest) (length bytes) refl)

string_read : (text rest : List ℕ) → IsString text
    → ended_at (string text ++ rest) ≡ Some (encode_utf8_all text, rest)
string_read text rest is =
    ap ended_at (append_assoc (encode_utf8_all text) (0 ∷ []) rest)
    ∙ ended_read (encode_utf8_all text) rest (text_bytes text is.0)

utf8 : (text : List ℕ) → all_scalars text ≡ true → is_utf8 (encode_utf8_all text) ≡ true
utf8 text scalars = is_utf8-from_IsUtf8 (encode_utf8_all text) (text, (scalars, refl))

-- ---- the pieces that decks have

abbrev pub IsPlain : Piece → Type 0
IsPlain (piece.Str text) = IsString text × (text ≢ [])
IsPlain (piece.Entity number) = number ≡ 0
IsPlain (piece.Var name conv) = is_name name ≡ true
IsPlain _ = ⊥

abbrev pub piece_bytes : Piece → List ℕ
piece_bytes one = (piece_spelling one first_pages).0

pub piece_flat : (one : Piece) → IsPlain one → Flat (piece_spelling one) (piece_bytes one)
piece_flat (piece.Str text) is = refl
piece_flat (piece.Entity number) is = refl
piece_flat (piece.Var name conv) is = refl
piece_flat _ is = absurd is

-- a piece is read as what it gives
pub record PieceRead (one : Piece) (rest : List ℕ) : Type 0 where
  pub part : Part
  pub is : piece_part one ≡ Some part
  pub read : part_at (piece_bytes one ++ rest) ≡ Some (part, rest)

text_read : (c : ℕ) (cs rest : List ℕ) → IsString (c ∷ cs)
    → string_at (string (c ∷ cs) ++ rest) ≡ Some (Lit (c ∷ cs), rest)
unfolding string_at
text_read c cs rest is =
    let bytes = encode_utf8_all (c ∷ cs) in
    ap (λ (o : Option (List ℕ × List ℕ)). o >>= λ x. string_part x.0 >>= λ part. Some (part, x.1))
    (string_read (c ∷ cs) rest is)
    ∙ ap (λ (b : Bool). (if b then literal (chars bytes) else None) >>= λ part. Some (part, rest))
    (utf8 (c ∷ cs) is.1)
    ∙ ap (λ (l : List ℕ). literal l >>= λ part. Some (part, rest)) (chars-encodes (c ∷ cs) is.1)

name_read : (name rest : List ℕ) (conv : Conv) → is_name name ≡ true
    → reference_at conv (string name ++ rest) ≡ Some (Var name conv, rest)
unfolding reference_at
name_read name rest conv named =
    let is = name_string name named in
    let bytes = encode_utf8_all name in
    ap (λ (o : Option (List ℕ × List ℕ)).
    o >>= λ x. name_part conv x.0 >>= λ part. Some (part, x.1)) (string_read name rest is)
    ∙ ap (λ (b : Bool). (if b && is_name bytes then Some (Var (chars bytes) conv) else None)
    >>= λ part. Some (part, rest)) (utf8 name is.1)
    ∙ ap (λ (b : Bool). (if b then Some (Var (chars bytes) conv) else None) >>= λ part.
    Some (part, rest)) (name-encode name ∙ named)
    ∙ ap (λ (l : List ℕ). Some (Var l conv, rest)) (chars-encodes name is.1)

variable_read : (name rest : List ℕ) (conv : Conv) → is_name name ≡ true
    → part_at (variable conv ∷ (string name ++ rest)) ≡ Some (Var name conv, rest)
unfolding part_at
variable_read name rest Escape named = name_read name rest Escape named
variable_read name rest Unescape named = name_read name rest Unescape named
variable_read name rest Plain named = name_read name rest Plain named

null_read : (rest : List ℕ)
    → part_at (piece_bytes (piece.Entity 0) ++ rest) ≡ Some (Lit (0 ∷ []), rest)
unfolding part_at character_at
null_read rest = refl

shown_read : (c : ℕ) (cs rest : List ℕ) → IsString (c ∷ cs)
    → part_at (STR_I ∷ (string (c ∷ cs) ++ rest)) ≡ Some (Lit (c ∷ cs), rest)
unfolding part_at
shown_read c cs rest is = text_read c cs rest is

pub piece_read : (one : Piece) (rest : List ℕ) → IsPlain one → PieceRead one rest
piece_read (piece.Code page code) rest is = absurd is
piece_read (piece.Str []) rest is = absurd (is.1 refl)
piece_read (piece.Str (c ∷ cs)) rest is =
    record { part = Lit (c ∷ cs); is = refl; read = shown_read c cs rest is.0 }
piece_read (piece.Entity number) rest is =
    subst (λ (n : ℕ). PieceRead (piece.Entity n) rest) (sym is)
    (record { part = Lit (0 ∷ []); is = refl; read = null_read rest })
piece_read (piece.Var name conv) rest is = record {
  part = Var name conv;
  is = ap (λ (b : Bool). if b then Some (Var name conv) else None) is;
  read = variable_read name rest conv is;
}
piece_read (piece.Ext number) rest is = absurd is
piece_read (piece.Opaque bytes) rest is = absurd is

pub pieces_read : (pieces : List Piece) (rest : List ℕ) → AllByRecursion IsPlain pieces
    → part_at rest ≡ None
    → all_of part_at (flat_map piece_bytes pieces ++ rest) ≡ (filter_map piece_part pieces, rest)
pieces_read [] rest are none = all_end part_at rest none
pieces_read (one ∷ pieces) rest are none =
    let more : List ℕ = flat_map piece_bytes pieces ++ rest in
    let r = piece_read one more are.0 in
    ap (all_of part_at) (append_assoc (piece_bytes one) (flat_map piece_bytes pieces) rest)
    ∙ all_on part_at part_takes (piece_bytes one ++ more) r.part more r.read
    ∙ ap (λ (x : List Part × List ℕ). let w : List Part × List ℕ = (r.part ∷ x.0, x.1) in w)
    (pieces_read pieces rest are.1 none)
    ∙ ap (λ (o : Option Part).
    let w : List Part × List ℕ = (cons_option o (filter_map piece_part pieces), rest) in w)
    (sym r.is)

pub value_read : (text : List ℕ) (pieces : List Piece) (rest : List ℕ)
    → AllByRecursion IsPlain pieces → part_at rest ≡ None
    → value_at text (flat_map piece_bytes pieces ++ rest) ≡ value_after text pieces
value_read text pieces rest are none =
    ap (λ (x : List Part × List ℕ). joined (cons_option (literal text) x.0))
    (pieces_read pieces rest are none)

pub behind_read : (pieces : List Piece) (rest : List ℕ) → AllByRecursion IsPlain pieces
    → part_at rest ≡ None → behind_value (flat_map piece_bytes pieces ++ rest) ≡ rest
behind_read pieces rest are none =
    ap (λ (x : List Part × List ℕ). x.1) (pieces_read pieces rest are none)

-- ---- the pieces of parts are such

abbrev IsSome : Option (List ℕ) → Type 0
IsSome None = Unit {0}
IsSome (Some text) = text ≢ []

filled_text : (c : ℕ) (cs : List ℕ) → (c ∷ cs) ≢ []
filled_text c cs e = cc

before_some : (c : ℕ) (runs : List (Option (List ℕ))) → AllByRecursion IsSome runs
    → AllByRecursion IsSome (run_before c runs)
before_some c [] are = (filled_text c [], tt)
before_some c (None ∷ runs) are = (filled_text c [], are)
before_some c (Some text ∷ runs) are = (filled_text c text, are.1)

runs_some : (text : List ℕ) → AllByRecursion IsSome (runs_of text)
runs_some [] = tt
runs_some (zero ∷ cs) = (tt, runs_some cs)
runs_some (suc c ∷ cs) = before_some (suc c) (runs_of cs) (runs_some cs)

runs_plain : (runs : List (Option (List ℕ))) → AllByRecursion (RunFits IsString) runs
    → AllByRecursion IsSome runs → AllByRecursion IsPlain (map run_piece runs)
runs_plain [] fit some = tt
runs_plain (None ∷ runs) fit some = (refl, runs_plain runs fit.1 some.1)
runs_plain (Some text ∷ runs) fit some = ((fit.0, some.0), runs_plain runs fit.1 some.1)

part_plain : (one : Part) → IsPart one → OfPart one → AllByRecursion IsPlain (part_pieces one)
part_plain (Lit text) is of =
    runs_plain (runs_of text) (runs_fit IsString (Unit {0}) of_characters text (λ q. of))
    (runs_some text)
part_plain (Var name conv) is of = (is, tt)

pub parts_plain : (parts : List Part) → AllByRecursion IsPart parts → AllByRecursion OfPart parts
    → AllByRecursion IsPlain (flat_map part_pieces parts)
parts_plain [] are of = tt
parts_plain (one ∷ parts) are of =
    all_append IsPlain (part_pieces one) (flat_map part_pieces parts) (part_plain one are.0 of.0)
    (parts_plain parts are.1 of.1)

-- a part has a piece
before_filled : (c : ℕ) (runs : List (Option (List ℕ))) → Filled (run_before c runs)
before_filled c [] = record { first = Some (c ∷ []); others = []; are = refl }
before_filled c (None ∷ runs) = record { first = Some (c ∷ []); others = None ∷ runs; are = refl }
before_filled c (Some text ∷ runs) = record { first = Some (c ∷ text); others = runs; are = refl }

pub runs_filled : (text : List ℕ) → text ≢ [] → Filled (runs_of text)
runs_filled [] some = absurd (some refl)
runs_filled (zero ∷ cs) some = record { first = None; others = runs_of cs; are = refl }
runs_filled (suc c ∷ cs) some = before_filled (suc c) (runs_of cs)
