-- The tokens of a source: how long they are together, and what strings and names stand for.
use Rattle.std.proofs.Common.{◌≡◌, ℕ, zero, suc, ◌+◌, ◌-◌, ◌<◌, ◌≤◌, Bool, true}
use Rattle.std.proofs.Common.{false, cond, List, [], ◌∷◌, ◌++◌, length, take}
use Rattle.std.proofs.Common.{drop, Option, Some, None, unwrap_or, encode_utf8_all, refl, sym}
use Rattle.std.proofs.Common.{subst, ◌∙◌, arith, length-append, append_assoc}
use Rattle.std.specs.Char.{is_ascii_alphabetic}
use Rattle.std.specs.List.{AllByRecursion, list_all, sum_by}
use Rattle.std.specs.Map.{lookup}
use Rattle.std.specs.Str.{all_scalars}
use Rattle.std.proofs.Math.Utf8.{scalar, low_scalar}
use Rattle.std.proofs.lemmas.Bool.{and_parts, and_from}
use Rattle.std.proofs.lemmas.List.Elements.{recursion_from_All}
use Rattle.std.proofs.lemmas.List.Sums.{sum_by-cons}
use Rattle.std.proofs.lemmas.Str.{len_utf8_ascii}
use Rattle.wap_base.specs.Names.{begins_name, continues_name, is_name}
use Rattle.wap_base.specs.Texts.{is_same_text}
use Rattle.wap_base.specs.Utf8.{utf8_len}
use Rattle.wap_base.proofs.Utf8Lengths.{length-encode_utf8_all}
use Rattle.wap_lex.specs.declared.token.Kind.{Kind}
use Rattle.wap_lex.specs.declared.token.Kind.TheVariants as kind
use Rattle.wap_lex.specs.declared.token.Token.{Token}
use Rattle.wap_lex.specs.declared.shape.Shape.{Shape}
use Rattle.wap_lex.specs.declared.shape.Shape.TheVariants as shape
use Rattle.wap_lex.specs.Numbers.{IsInteger, IsFloat}
use Rattle.wap_lex.specs.Strings.{IsString, quoted}
use Rattle.wap_lex.specs.Marks.{marks, is_mark}
use Rattle.wap_lex.specs.ReservedWords.{is_reserved}
use Rattle.wap_lex.specs.Tokens.{IsShape, kind_of, token_before, Lexes, ends, piece, AreTokens}
use Rattle.wap_grammar.specs.declared.lexeme.Lexeme.{Lexeme}
use Rattle.wap_grammar.specs.declared.word.Word.{Word}
use Rattle.wap_grammar.specs.declared.word.Word.TheVariants as word
use Rattle.wap_grammar.specs.Values.{text_of}
use Rattle.wap_grammar.specs.Lexemes.{word_rows, word_spelled, word_of_kind, text_in, lexeme_of}
use Rattle.wap_grammar.specs.Lexemes.{lexemes_of}
use Rattle.wap_grammar.proofs.Texts.{Textual, texts_of}
use Rattle.wap_compiled_laws.proofs.SourceSizes.Strings.{text_short}
use Rattle.std.proofs.lemmas.Bool.Decides.{nat_tests}
use Rattle.std.proofs.lemmas.Grind.{common_steps}

-- so many bytes at most
take_few : (n : ℕ) (xs : List ℕ) → length (take n xs) ≤ n
take_few zero xs = omega arith
take_few (suc n) [] = omega arith
take_few (suc n) (x ∷ xs) = omega (arith, take_few n xs)

-- how many bytes a token has
abbrev pub weight : Lexeme → ℕ
weight l = l.span.to - l.span.from

-- ---- all tokens together

-- tokens have no more bytes than the source
pub tokens_weigh : (src : List ℕ) {at : ℕ} {bytes : List ℕ} {tokens : List Token}
    → Lexes at bytes tokens → sum_by weight (lexemes_of src tokens) ≤ length bytes
tokens_weigh src (ends at') = omega arith
tokens_weigh src {at} (piece at' s text more tokens is small left) =
    by (kind_of s text) (tokens_weigh src left)
  where
    by : (k : Option Kind) → sum_by weight (lexemes_of src tokens) ≤ length more
        → sum_by weight (lexemes_of src (token_before k at (at + length text) tokens))
        ≤ length (text ++ more)
    by None rest = omega (arith, rest, length-append text more)
    by (Some k) rest =
        omega (
          arith,
          rest,
          length-append text more,
          sum_by-cons weight (lexeme_of src (record {
            kind = k;
            from = at;
            to = at + length text;
          })) (lexemes_of src tokens),
        )

-- ---- one token

-- a token has a byte, a string two; a name is one
pub record IsSound (src : List ℕ) (token : Token) : Type 0 where
  pub some : 1 ≤ token.to - token.from
  pub two : token.kind ≡ kind.Str → 2 ≤ token.to - token.from
  pub name : token.kind ≡ kind.Name
      → is_name (take (token.to - token.from) (drop token.from src)) ≡ true

-- the text of a token
here_is : {src : List ℕ} (before : List ℕ) {text : List ℕ} (rest : List ℕ) {at : ℕ}
    → at ≡ length before → src ≡ before ++ (text ++ rest)
    → take (at + length text - at) (drop at src) ≡ text
here_is {src} before {text} rest {at} place is = grind (arith, common_steps)

-- no token is empty
word_some : (text : List ℕ) → is_name text ≡ true → 1 ≤ length text
word_some [] is = absurd (cc is)
word_some (c ∷ text) is = omega arith

mark_some : (text : List ℕ) → is_mark text ≡ true → 1 ≤ length text
unfolding marks
mark_some [] is = absurd cc
mark_some (c ∷ text) is = omega arith

integer_some : {text : List ℕ} → IsInteger text → 1 ≤ length text
integer_some h0 = grind (arith, common_steps)

float_some : {text : List ℕ} → IsFloat text → 1 ≤ length text
float_some h0 = grind (arith, common_steps, length-append)

string_two : {text : List ℕ} → IsString text → 2 ≤ length text
string_two (quoted quote items a b) = omega (arith, length-append items (quote ∷ []))

module _ (src : List ℕ) where
  -- a token at a place
  abbrev at_place : Kind → ℕ → List ℕ → Token
  at_place k at text = record { kind = k; from = at; to = at + length text }

  -- one that is neither a string nor a name
  other : {k : Kind} {at : ℕ} (text : List ℕ) → 1 ≤ length text → (k ≡ kind.Str → ⊥)
      → (k ≡ kind.Name → ⊥) → IsSound src (at_place k at text)
  other text some no_string no_name = record {
    some = omega (arith, some);
    two = λ e. absurd (no_string e);
    name = λ e. absurd (no_name e);
  }

  word_sound : (b : Bool) (at : ℕ) (text : List ℕ) → is_name text ≡ true
      → take (at + length text - at) (drop at src) ≡ text
      → IsSound src (at_place (cond b kind.Reserved kind.Name) at text)
  word_sound true at text is here = other text (word_some text is) (λ e. absurd cc) (λ e. absurd cc)
  word_sound false at text is here = record {
    some = omega (arith, word_some text is);
    two = λ e. absurd cc;
    name = λ e. subst (λ (t : List ℕ). is_name t ≡ true) (sym here) is;
  }

  with_shape : (s : Shape) (at : ℕ) {text : List ℕ} (tokens : List Token) → IsShape s text
      → take (at + length text - at) (drop at src) ≡ text → AllByRecursion (IsSound src) tokens
      → AllByRecursion (IsSound src) (token_before (kind_of s text) at (at + length text) tokens)
  with_shape shape.Blank at tokens is here others = others
  with_shape shape.Comment at tokens is here others = others
  with_shape shape.Word at {text} tokens is here others =
      (word_sound (is_reserved text) at text is here, others)
  with_shape shape.Integer at {text} tokens is here others =
      (other text (integer_some is) (λ e. absurd cc) (λ e. absurd cc), others)
  with_shape shape.Float at {text} tokens is here others =
      (other text (float_some is) (λ e. absurd cc) (λ e. absurd cc), others)
  with_shape shape.Mark at {text} tokens is here others =
      (other text (mark_some text is) (λ e. absurd cc) (λ e. absurd cc), others)
  with_shape shape.Str at tokens is here others = (
    record {
      some = omega (arith, string_two is);
      two = λ e. omega (arith, string_two is);
      name = λ e. absurd cc;
    },
    others,
  )

  lexed : {at : ℕ} {bytes : List ℕ} {tokens : List Token} → Lexes at bytes tokens
      → (before : List ℕ) → at ≡ length before → src ≡ before ++ bytes
      → AllByRecursion (IsSound src) tokens
  lexed (ends at') before place is = tt
  lexed {at} (piece at' s text rest others fits range left) before place is =
      with_shape s at others fits.fits (here_is before rest place is)
      (lexed left (before ++ text) (omega (arith, place, length-append before text))
      (is ∙ sym (append_assoc before text rest)))

-- ---- as the grammar sees them

-- a mark or reserved word is no string and no name
is_plain : Word → Bool
is_plain word.Str = false
is_plain word.Name = false
is_plain _ = true

all_plain : list_all (λ (row : List ℕ × Word). is_plain row.1) word_rows ≡ true
unfolding word_rows is_plain
all_plain = refl

found_plain : (test : List ℕ → Bool) (rows : List (List ℕ × Word))
    → list_all (λ (row : List ℕ × Word). is_plain row.1) rows ≡ true
    → is_plain (unwrap_or (lookup test rows) word.Unused) ≡ true
unfolding is_plain
found_plain test [] all = refl
found_plain test (row ∷ rows) all =
    let both = and_parts (is_plain row.1)
    (list_all (λ (row : List ℕ × Word). is_plain row.1) rows) all in
    by (test row.0) both.0 (found_plain test rows both.1)
  where
    by : (b : Bool) → is_plain row.1 ≡ true
        → is_plain (unwrap_or (lookup test rows) word.Unused) ≡ true
        → is_plain (unwrap_or (cond b (Some row.1) (lookup test rows)) word.Unused) ≡ true
    by true first rest = first
    by false first rest = rest

spelled_plain : (text : List ℕ) → is_plain (word_spelled text) ≡ true
unfolding word_spelled
spelled_plain text = found_plain (is_same_text text) word_rows all_plain

no_plain : {w : Word} → is_plain w ≡ true → (w ≡ word.Str → ⊥) × (w ≡ word.Name → ⊥)
unfolding is_plain
no_plain is = grind (arith, common_steps, is_plain)

string_kind : (k : Kind) (text : List ℕ) → word_of_kind k text ≡ word.Str → k ≡ kind.Str
string_kind kind.Reserved text is = absurd ((no_plain (spelled_plain text)).0 is)
string_kind kind.Str text is = refl
string_kind kind.Mark text is = absurd ((no_plain (spelled_plain text)).0 is)
string_kind _ text is = absurd cc

name_kind : (k : Kind) (text : List ℕ) → word_of_kind k text ≡ word.Name → k ≡ kind.Name
name_kind kind.Name text is = refl
name_kind kind.Reserved text is = absurd ((no_plain (spelled_plain text)).1 is)
name_kind kind.Mark text is = absurd ((no_plain (spelled_plain text)).1 is)
name_kind _ text is = absurd cc

-- ---- texts

alphabetic_low : (c : ℕ) → is_ascii_alphabetic c ≡ true → c < 128
alphabetic_low c is = grind (arith, nat_tests)

begins_low : (c : ℕ) → begins_name c ≡ true → c < 128
begins_low c is = grind (arith, nat_tests, alphabetic_low)

continues_low : (c : ℕ) → continues_name c ≡ true → c < 128
continues_low c is = grind (arith, nat_tests, begins_low)

-- characters of US-ASCII are characters, of one byte each
rest_ascii : (t : List ℕ) → list_all continues_name t ≡ true
    → (all_scalars t ≡ true) × (utf8_len t ≡ length t)
rest_ascii [] is = (refl, refl)
rest_ascii (c ∷ t) is =
    let both = and_parts (continues_name c) (list_all continues_name t) is in
    let low = continues_low c both.0 in
    let rest = rest_ascii t both.1 in (
      and_from (scalar c) (all_scalars t) (low_scalar c (omega (arith, low))) rest.0,
      omega (arith, len_utf8_ascii c low, rest.1),
    )

-- so is a name
pub name_ascii : (t : List ℕ) → is_name t ≡ true
    → (all_scalars t ≡ true) × (length (encode_utf8_all t) ≡ length t)
name_ascii [] is = absurd (cc is)
name_ascii (c ∷ t) is =
    let both = and_parts (begins_name c) (list_all continues_name t) is in
    let low = begins_low c both.0 in
    let rest = rest_ascii t both.1 in (
      and_from (scalar c) (all_scalars t) (low_scalar c (omega (arith, low))) rest.0,
      omega (arith, length-encode_utf8_all (c ∷ t), len_utf8_ascii c low, rest.1),
    )

-- a token as the grammar sees it: it has a byte; a string stands for a text of two bytes fewer at
-- most, and a name is a text of as many
pub record Sound (src : List ℕ) (l : Lexeme) : Type 0 where
  pub some : 1 ≤ weight l
  pub scalars : l.word ≡ word.Str → all_scalars (text_of src l.span) ≡ true
  pub string : l.word ≡ word.Str → length (encode_utf8_all (text_of src l.span)) + 2 ≤ weight l
  pub names : l.word ≡ word.Name → all_scalars (text_in src l.span) ≡ true
  pub name : l.word ≡ word.Name → length (encode_utf8_all (text_in src l.span)) ≤ weight l

module _ (src : List ℕ) (token : Token) (sound : IsSound src token)
    (textual : Textual src token) where
  -- its bytes
  abbrev bytes : List ℕ
  bytes = take (token.to - token.from) (drop token.from src)

  few : length bytes ≤ token.to - token.from
  few = take_few (token.to - token.from) (drop token.from src)

  one : Sound src (lexeme_of src token)
  one = record {
    some = sound.some;
    scalars = λ e. (textual (string_kind token.kind bytes e)).no_surrogates;
    string = λ e.
        let k = string_kind token.kind bytes e in
        omega (
          arith,
          text_short bytes (textual k),
          sound.two k,
          few,
          take_few (length bytes - 2) (drop 1 bytes),
        );
    names = λ e. (name_ascii bytes (sound.name (name_kind token.kind bytes e))).0;
    name = λ e.
        omega (arith, (name_ascii bytes (sound.name (name_kind token.kind bytes e))).1, few);
  }

all_sound : (src : List ℕ) (tokens : List Token) → AllByRecursion (IsSound src) tokens
    → AllByRecursion (Textual src) tokens → AllByRecursion (Sound src) (lexemes_of src tokens)
all_sound src [] sound textual = tt
all_sound src (token ∷ tokens) sound textual =
    (one src token sound.0 textual.0, all_sound src tokens sound.1 textual.1)

pub lexemes_sound : {src : List ℕ} {tokens : List Token} → AreTokens src tokens
    → AllByRecursion (Sound src) (lexemes_of src tokens)
lexemes_sound {src} {tokens} are =
    all_sound src tokens (lexed src are.lexed [] refl refl)
    (recursion_from_All (Textual src) tokens (texts_of src tokens are))
