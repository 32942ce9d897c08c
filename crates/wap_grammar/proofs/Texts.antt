-- Strings that are tokens stand for texts, and a string for one text.
use Rattle.std.proofs.Common.{◌≡◌, ℕ, zero, suc, ◌+◌, ◌-◌, ◌<◌, ◌≤◌, Bool, true, false, cond}
use Rattle.std.proofs.Common.{◌==◌, ◌&&◌, List, [], ◌∷◌, ◌++◌, length, take, drop, encode_utf8}
use Rattle.std.proofs.Common.{encode_utf8_all, refl, sym, ap, subst, ◌∙◌, inl, inr, length-append}
use Rattle.std.proofs.Common.{append_assoc, arith}
use Rattle.std.specs.Char.{is_ascii_hexdigit}
use Rattle.std.specs.List.{All, list_all}
use Rattle.std.specs.Str.{IsUtf8, chars, all_scalars}
use Rattle.std.proofs.Math.Utf8.{scalar}
use Rattle.std.proofs.Math.Seq.{drop-append_seam, take-append_seam}
use Rattle.std.proofs.lemmas.Bool.{cases_lt, eqb-true, ne_eqb, and_parts}
use Rattle.std.proofs.lemmas.Grind.{common_steps}
use Rattle.std.proofs.lemmas.Str.{encode_ascii, chars-encodes}
use Rattle.std.proofs.lemmas.List.Elements.{All-nil, All-cons}
use Rattle.std.proofs.lemmas.List.Folds.{list_all-append}
use Rattle.wap_lex.specs.declared.token.Kind.{Kind}
use Rattle.wap_lex.specs.declared.token.Kind.TheVariants as kind
use Rattle.wap_lex.specs.declared.token.Token.{Token}
use Rattle.wap_lex.specs.declared.shape.Shape.{Shape}
use Rattle.wap_lex.specs.declared.shape.Shape.TheVariants as shape
use Rattle.wap_lex.specs.ReservedWords.{is_reserved}
use Rattle.wap_lex.specs.Tokens.{IsShape, kind_of, token_before, Lexes, ends, piece, AreTokens}
use Rattle.wap_base.proofs.Utf8Cuts.{AllHigh, high_bytes, encode_some}
use Rattle.wap_lex.specs.Characters.{is_octal_digit, is_quote}
use Rattle.wap_lex.specs.Numbers.{numeral}
use Rattle.wap_lex.specs.Strings as lex
use Rattle.wap_lex.specs.Strings.{is_simple, IsEscape, AreItems, IsString, quoted}
use Rattle.wap_grammar.specs.Strings.{named_by, is_octal, single, octal, hexadecimal, unicode}
use Rattle.wap_grammar.specs.Strings.{IsWhole, StandFor, none, plain, inside_quotes, StandsForText}
use Rattle.wap_grammar.specs.Unescaping.{unescaped, string_of}
use Rattle.wap_grammar.proofs.Escapes.{octal_digit, no_backslash, parts, reads, read_before}
use Rattle.wap_grammar.proofs.Escapes.{whole_other}
use Rattle.wap_grammar.proofs.Escapes.{one_digit, scalars_after, text_scalars}

-- ---- lists and tests

head_same : (x y : ℕ) (xs ys : List ℕ) → x ∷ xs ≡ y ∷ ys → x ≡ y
head_same x y xs ys e = cc

tail_same : (x y : ℕ) (xs ys : List ℕ) → x ∷ xs ≡ y ∷ ys → xs ≡ ys
tail_same x y xs ys e = cc

-- ---- characters of US-ASCII in UTF-8

not_high : (b : ℕ) (h r rest : List ℕ) → AllHigh h → 0 < length h → h ++ r ≡ b ∷ rest → b < 128 → ⊥
not_high b [] r rest high some e low = absurd (omega (arith, some))
not_high b (x ∷ h) r rest high some e low = grind (arith, high.0)

-- what begins with such a byte begins with its character
peel : (cs : List ℕ) (b : ℕ) (rest : List ℕ) → encode_utf8_all cs ≡ b ∷ rest → b < 128 →
    (ds : List ℕ) × (cs ≡ b ∷ ds) × (encode_utf8_all ds ≡ rest)
peel [] b rest e low = absurd cc
peel (c ∷ cs) b rest e low = elim (cases_lt c 128) [
  | inl ascii ↦ (
      let whole : c ∷ encode_utf8_all cs ≡ b ∷ rest =
      sym (ap (λ (bs : List ℕ). bs ++ encode_utf8_all cs) (encode_ascii c ascii)) ∙ e in (
        cs,
        ap (λ (x : ℕ). x ∷ cs) (head_same c b (encode_utf8_all cs) rest whole),
        tail_same c b (encode_utf8_all cs) rest whole,
      ))
  | inr high ↦ absurd (not_high b (encode_utf8 c) (encode_utf8_all cs) rest (high_bytes c high)
      (encode_some c) e low)
]

-- bytes of another character don't reach over such a byte
reach : (h r a : List ℕ) (q : ℕ) (b : List ℕ) → AllHigh h → q < 128 → h ++ r ≡ a ++ q ∷ b →
    (rest : List ℕ) × (a ≡ h ++ rest) × (r ≡ rest ++ q ∷ b)
reach [] r a q b high low e = (a, refl, e)
reach (x ∷ h) r [] q b high low e =
    absurd (omega (arith, high.0, low, head_same x q (h ++ r) b e))
reach (x ∷ h) r (y ∷ a) q b high low e =
    let found = reach h r a q b high.1 low (tail_same x y (h ++ r) (a ++ q ∷ b) e) in
    let same : y ∷ a ≡ x ∷ (h ++ found.0) =
    ap (λ (z : ℕ). z ∷ a) (sym (head_same x y (h ++ r) (a ++ q ∷ b) e))
    ∙ ap (λ (z : List ℕ). x ∷ z) found.1 in
    (found.0, same, found.2)

-- UTF-8 is cut at such a byte
pub cut : (cs a : List ℕ) (q : ℕ) (b : List ℕ) → q < 128 → encode_utf8_all cs ≡ a ++ q ∷ b →
    (ds es : List ℕ) × (cs ≡ ds ++ q ∷ es) × (a ≡ encode_utf8_all ds) × (b ≡ encode_utf8_all es)
cut [] [] q b low e = absurd cc
cut [] (x ∷ a) q b low e = absurd cc
cut (c ∷ cs) a q b low e = elim (cases_lt c 128) [
  | inl ascii ↦ by_first (λ rest f. cut cs rest q b low f) a
      (sym (ap (λ (bs : List ℕ). bs ++ encode_utf8_all cs) (encode_ascii c ascii)) ∙ e) ascii
  | inr high ↦ (
      let found = reach (encode_utf8 c) (encode_utf8_all cs) a q b (high_bytes c high) low e in
      let left = cut cs found.0 q b low found.2 in (
        c ∷ left.0,
        left.1,
        ap (λ (z : List ℕ). c ∷ z) left.2,
        found.1 ∙ ap (λ (z : List ℕ). encode_utf8 c ++ z) left.3,
        left.4,
      ))
] where
  by_first : ((a : List ℕ) → encode_utf8_all cs ≡ a ++ q ∷ b →
      (ds es : List ℕ) × (cs ≡ ds ++ q ∷ es) × (a ≡ encode_utf8_all ds) ×
      (b ≡ encode_utf8_all es)) → (a : List ℕ) → c ∷ encode_utf8_all cs ≡ a ++ q ∷ b → c < 128 →
      (ds es : List ℕ) × (c ∷ cs ≡ ds ++ q ∷ es) × (a ≡ encode_utf8_all ds) ×
      (b ≡ encode_utf8_all es)
  by_first again [] e ascii = (
    [],
    cs,
    ap (λ (z : ℕ). z ∷ cs) (head_same c q (encode_utf8_all cs) b e),
    refl,
    sym (tail_same c q (encode_utf8_all cs) b e),
  )
  by_first again (x ∷ a) e ascii =
      let left = again a (tail_same c x (encode_utf8_all cs) (a ++ q ∷ b) e) in (
        c ∷ left.0,
        left.1,
        ap (λ (z : List ℕ). c ∷ z) left.2,
        ap (λ (z : ℕ). z ∷ a) (sym (head_same c x (encode_utf8_all cs) (a ++ q ∷ b) e))
            ∙ ap (λ (z : List ℕ). c ∷ z) left.3
            ∙ sym (ap (λ (bs : List ℕ). bs ++ encode_utf8_all left.0) (encode_ascii c ascii)),
        left.4,
      )

-- ---- escapes are of US-ASCII

abbrev AreLow : List ℕ → Type 0
AreLow [] = Unit {0}
AreLow (b ∷ bs) = (b < 128) × AreLow bs

-- what begins with such bytes begins with their characters
peeled : (text cs rest : List ℕ) → AreLow text → encode_utf8_all cs ≡ text ++ rest →
    (ds : List ℕ) × (cs ≡ text ++ ds) × (encode_utf8_all ds ≡ rest)
peeled [] cs rest low e = (cs, refl, e)
peeled (b ∷ text) cs rest low e =
    let one = peel cs b (text ++ rest) e low.0 in
    let more = peeled text one.0 rest low.1 one.2 in
    (more.0, one.1 ∙ ap (λ (z : List ℕ). b ∷ z) more.1, more.2)

simple_low : (c : ℕ) → is_simple c ≡ true → c < 128
simple_low c is = grind (arith, common_steps)

simple_other : (c : ℕ) → is_simple c ≡ true → is_octal_digit c ≡ false
simple_other c is = grind (arith, common_steps)

digits_low : (digits : List ℕ) → list_all is_ascii_hexdigit digits ≡ true → AreLow digits
digits_low [] are = tt
digits_low (c ∷ digits) are =
    let both = and_parts (is_ascii_hexdigit c) (list_all is_ascii_hexdigit digits) are in
    (digit_low c both.0, digits_low digits both.1) where
      digit_low : (c : ℕ) → is_ascii_hexdigit c ≡ true → c < 128
      digit_low c is = grind (arith, common_steps)

escape_low : (text : List ℕ) → IsEscape text → AreLow text
escape_low text (lex.simple c is) = (simple_low c is, tt)
escape_low text (lex.octal c is) = (omega (arith, octal_digit c is), tt)
escape_low text (lex.hexadecimal a b hex) = (omega arith, digits_low (a ∷ b ∷ []) hex)
escape_low text (lex.unicode a b c d hex fails) =
    (omega arith, digits_low (a ∷ b ∷ c ∷ d ∷ []) hex)

-- the last of octal digits
last_digit : (digits : List ℕ) (c : ℕ) → is_octal (digits ++ c ∷ []) ≡ true →
    is_octal_digit c ≡ true
last_digit digits c is =
    let all = sym (list_all-append is_octal_digit digits (c ∷ []))
    ∙ (parts (digits ++ c ∷ []) is).all in
    let last = and_parts (list_all is_octal_digit digits) (is_octal_digit c && true) all in
    (and_parts (is_octal_digit c) true last.1).0

-- ---- what stands between quotes

data Front (quote : ℕ) : List ℕ → Type 0 where
  over : Front quote []
  a_plain : (c : ℕ) (rest : List ℕ) → (c == 92) ≡ false → AreItems quote rest →
      Front quote (c ∷ rest)
  an_escape : (text rest : List ℕ) → IsEscape text → AreItems quote rest →
      Front quote (92 ∷ (text ++ rest))

module _ (quote : ℕ) where
  front : (bytes : List ℕ) → AreItems quote bytes → Front quote bytes
  front bytes lex.none = over
  front bytes (lex.more item others (lex.escape text is) rest) = an_escape text others is rest
  front bytes (lex.more item others (lex.plain c other inside) rest) = a_plain c others other rest

  after_plain : (c : ℕ) (rest : List ℕ) → (c == 92) ≡ false → AreItems quote (c ∷ rest) →
      AreItems quote rest
  after_plain c rest other are = by_front (c ∷ rest) (front (c ∷ rest) are) refl where
    backslash : 92 ≡ c → ⊥
    backslash e = grind (arith, common_steps)

    by_front : (b : List ℕ) → Front quote b → b ≡ c ∷ rest → AreItems quote rest
    by_front b over e = absurd cc
    by_front b (a_plain d r no_escape are) e = subst (AreItems quote) (tail_same d c r rest e) are
    by_front b (an_escape text r is are) e = absurd (backslash (head_same 92 c (text ++ r) rest e))

  after_high : (h r : List ℕ) → AllHigh h → AreItems quote (h ++ r) → AreItems quote r
  after_high [] r high are = are
  after_high (x ∷ h) r high are = after_high h r high.1 (after_plain x (h ++ r)
      (ne_eqb x 92 (λ e. absurd (omega (arith, e, high.0)))) are)

  -- after a backslash stands an escape
  after_backslash : (bytes : List ℕ) → AreItems quote (92 ∷ bytes) →
      (text rest : List ℕ) × IsEscape text × (bytes ≡ text ++ rest) × AreItems quote rest
  after_backslash bytes are = by_front (92 ∷ bytes) (front (92 ∷ bytes) are) refl where
    by_front : (b : List ℕ) → Front quote b → b ≡ 92 ∷ bytes →
        (text rest : List ℕ) × IsEscape text × (bytes ≡ text ++ rest) × AreItems quote rest
    by_front b over e = absurd cc
    by_front b (a_plain d r no_escape are) e =
        absurd (grind (arith, common_steps, head_same d 92 r bytes e))
    by_front b (an_escape text r is are) e =
        (text, r, is, sym (tail_same 92 92 (text ++ r) bytes e), are)

  -- after a character that is no backslash
  after_character : (c : ℕ) (cs : List ℕ) → (c == 92) ≡ false →
      AreItems quote (encode_utf8_all (c ∷ cs)) → AreItems quote (encode_utf8_all cs)
  after_character c cs other are = elim (cases_lt c 128) [
    | inl ascii ↦ after_plain c (encode_utf8_all cs) other (subst (AreItems quote)
        (ap (λ (bs : List ℕ). bs ++ encode_utf8_all cs) (encode_ascii c ascii)) are)
    | inr high ↦ after_high (encode_utf8 c) (encode_utf8_all cs) (high_bytes c high) are
  ]

  -- ---- what escapes stand for

  -- so many characters at most between quotes stand for what is read
  abbrev Stands : ℕ → Type 0
  Stands most = (cs : List ℕ) → length cs ≤ most → AreItems quote (encode_utf8_all cs) →
      StandFor cs (unescaped cs)

  -- an octal escape with each digit that could belong to it
  record Longest (digits cs : List ℕ) : Type 0 where
    spelling : List ℕ
    rest : List ℕ
    octal : is_octal spelling ≡ true
    whole : IsWhole spelling rest
    same : spelling ++ rest ≡ digits ++ cs
    few : length rest ≤ length cs
    are : AreItems quote (encode_utf8_all rest)

  longest : (cs digits : List ℕ) → is_octal digits ≡ true → AreItems quote (encode_utf8_all cs) →
      Longest digits cs
  longest [] digits is are = record {
    spelling = digits;
    rest = [];
    octal = is;
    whole = tt;
    same = refl;
    few = omega arith;
    are = are;
  }
  longest (c ∷ cs) digits is are = by_test (is_octal (digits ++ c ∷ [])) refl
      (λ so. longest cs (digits ++ c ∷ []) so (after_character c cs (no_backslash c
      (last_digit digits c so)) are)) where
        by_test : (test : Bool) → is_octal (digits ++ c ∷ []) ≡ test →
            (is_octal (digits ++ c ∷ []) ≡ true → Longest (digits ++ c ∷ []) cs) →
            Longest digits (c ∷ cs)
        by_test true so goes =
            let more = goes so in
            record {
              spelling = more.spelling;
              rest = more.rest;
              octal = more.octal;
              whole = more.whole;
              same = more.same ∙ append_assoc digits (c ∷ []) cs;
              few = omega (arith, more.few);
              are = more.are;
            }
        by_test false so goes = record {
          spelling = digits;
          rest = c ∷ cs;
          octal = is;
          whole = so;
          same = refl;
          few = omega arith;
          are = are;
        }

  -- an escape, and what follows it
  by_escape : (most : ℕ) → Stands most → (text cs : List ℕ) → IsEscape text → length cs ≤ most →
      AreItems quote (encode_utf8_all cs) →
      StandFor (92 ∷ (text ++ cs)) (unescaped (92 ∷ (text ++ cs)))
  by_escape most stands text cs (lex.simple c is) few are =
      read_before (c ∷ []) cs (named_by c) (single c is) (whole_other c [] cs (simple_other c is))
      (stands cs few are)
  by_escape most stands text cs (lex.octal c is) few are =
      let l = longest cs (c ∷ []) (one_digit c is) are in
      subst (λ (z : List ℕ). StandFor (92 ∷ z) (unescaped (92 ∷ z))) l.same
      (read_before l.spelling l.rest (numeral 8 l.spelling) (octal l.spelling l.octal) l.whole
      (stands l.rest (omega (arith, l.few, few)) l.are))
  by_escape most stands text cs (lex.hexadecimal a b hex) few are =
      read_before (120 ∷ a ∷ b ∷ []) cs (numeral 16 (a ∷ b ∷ [])) (hexadecimal a b hex)
      (whole_other 120 (a ∷ b ∷ []) cs refl) (stands cs few are)
  by_escape most stands text cs (lex.unicode a b c d hex fails) few are =
      read_before (117 ∷ a ∷ b ∷ c ∷ d ∷ []) cs (numeral 16 (a ∷ b ∷ c ∷ d ∷ []))
      (unicode a b c d hex fails) (whole_other 117 (a ∷ b ∷ c ∷ d ∷ []) cs refl)
      (stands cs few are)

  -- ---- all that stands between quotes

  all_stand : (most : ℕ) → Stands most
  all_stand zero [] few are = none
  all_stand zero (c ∷ cs) few are = absurd (omega (arith, few))
  all_stand (suc most) [] few are = none
  all_stand (suc most) (c ∷ cs) few are = by_test (c == 92) refl (all_stand most) where
    by_test : (test : Bool) → (c == 92) ≡ test → Stands most →
        StandFor (c ∷ cs) (unescaped (c ∷ cs))
    by_test true so stands =
        let slash = eqb-true c 92 so in
        let found = after_backslash (encode_utf8_all cs) (subst (AreItems quote)
        (ap (λ (n : ℕ). encode_utf8 n ++ encode_utf8_all cs) slash
        ∙ ap (λ (bs : List ℕ). bs ++ encode_utf8_all cs) (encode_ascii 92 (omega arith))) are) in
        let left = peeled found.0 cs found.1 (escape_low found.0 found.2) found.3 in
        subst (λ (z : List ℕ). StandFor z (unescaped z))
        (ap (λ (z : List ℕ). 92 ∷ z) (sym left.1) ∙ ap (λ (n : ℕ). n ∷ cs) (sym slash))
        (by_escape most stands found.0 left.0 found.2
        (omega (arith, few, ap length left.1, length-append found.0 left.0))
        (subst (AreItems quote) (sym left.2) found.4))
    by_test false so stands =
        subst (StandFor (c ∷ cs)) (rw so refl)
        (plain c cs (unescaped cs) so (stands cs (omega (arith, few))
        (after_character c cs so are)))

-- ---- a string in a source

quote_low : (quote : ℕ) → is_quote quote ≡ true → quote < 128
quote_low quote is = grind (arith, common_steps)

inside_is : (quote : ℕ) (items : List ℕ) → inside_quotes (quote ∷ (items ++ quote ∷ [])) ≡ items
inside_is quote items =
    let count : length (quote ∷ (items ++ quote ∷ [])) - 2 ≡ length items = omega
    (arith, length-append items (quote ∷ [])) in
    ap (λ (n : ℕ). take n (items ++ quote ∷ [])) count ∙ take-append_seam items (quote ∷ [])

-- what a string stands for is what is read
abbrev pub IsRead : List ℕ → Type 0
IsRead bytes = StandsForText bytes (string_of bytes)

string_text : (cs before bytes rest : List ℕ) → all_scalars cs ≡ true →
    encode_utf8_all cs ≡ before ++ (bytes ++ rest) → IsString bytes → IsRead bytes
unfolding string_of
string_text cs before bytes rest scalars e (quoted quote items is are) =
    let low = quote_low quote is in
    let one = cut cs before quote ((items ++ quote ∷ []) ++ rest) low e in
    let two = cut one.1 items quote rest low (sym one.4 ∙ append_assoc items (quote ∷ []) rest) in
    let all = (and_parts (scalar quote) (all_scalars one.1) (scalars_after one.0
    (quote ∷ one.1) (subst (λ (z : List ℕ). all_scalars z ≡ true) one.2 scalars)).1).1 in
    let inner = (scalars_after two.0 (quote ∷ two.1) (subst (λ
    (z : List ℕ). all_scalars z ≡ true) two.2 all)).0 in
    let inside = inside_is quote items in
    let stand = all_stand quote (length two.0) two.0 (omega arith)
    (subst (AreItems quote) two.3 are) in
    let characters : chars (inside_quotes (quote ∷ (items ++ quote ∷ []))) ≡ two.0 =
    ap chars inside ∙ ap chars two.3 ∙ chars-encodes two.0 inner in
    subst (StandsForText (quote ∷ (items ++ quote ∷ []))) (ap unescaped (sym characters)) (record {
      characters = two.0;
      encoded = sym two.3 ∙ sym inside;
      scalars = inner;
      stand = stand;
      no_surrogates = text_scalars two.0 (unescaped two.0) stand inner;
    })

-- a string stands for what is read alone
read_alone : (bytes text : List ℕ) → StandsForText bytes text → text ≡ string_of bytes
unfolding string_of
read_alone bytes text is =
    reads is.characters text is.stand
    ∙ ap unescaped (sym (chars-encodes is.characters is.scalars) ∙ ap chars is.encoded)

pub one_text : (bytes s t : List ℕ) → StandsForText bytes s → StandsForText bytes t → s ≡ t
one_text bytes s t one other = read_alone bytes s one ∙ sym (read_alone bytes t other)

-- ---- the tokens of a source

abbrev pub Textual : List ℕ → Token → Type 0
Textual src token = token.kind ≡ kind.Str →
    IsRead (take (token.to - token.from) (drop token.from src))

module _ (src cs : List ℕ) (scalars : all_scalars cs ≡ true)
    (spells : encode_utf8_all cs ≡ src) where
  one_more : (k : Kind) (from to : ℕ) (tokens : List Token) →
      Textual src (record { kind = k; from = from; to = to }) → All (Textual src) tokens →
      All (Textual src) (record { kind = k; from = from; to = to } ∷ tokens)
  one_more k from to tokens this others = All-cons (Textual src)
      (record { kind = k; from = from; to = to }) tokens this others

  no_string : (k : Kind) (from to : ℕ) → (k ≡ kind.Str → ⊥) →
      Textual src (record { kind = k; from = from; to = to })
  no_string k from to other = λ e. absurd (other e)

  word_kind : (b : Bool) → cond b kind.Reserved kind.Name ≡ kind.Str → ⊥
  word_kind true e = absurd cc
  word_kind false e = absurd cc

  with_shape : (at : ℕ) (s : Shape) (before text rest : List ℕ) (tokens : List Token) →
      at ≡ length before → src ≡ before ++ (text ++ rest) → (s ≡ shape.Str → IsString text) →
      All (Textual src) tokens →
      All (Textual src) (token_before (kind_of s text) at (at + length text) tokens)
  with_shape at shape.Blank before text rest tokens place is fits others = others
  with_shape at shape.Comment before text rest tokens place is fits others = others
  with_shape at shape.Word before text rest tokens place is fits others =
      one_more (cond (is_reserved text) kind.Reserved kind.Name) at (at + length text) tokens
      (no_string (cond (is_reserved text) kind.Reserved kind.Name) at (at + length text)
      (word_kind (is_reserved text))) others
  with_shape at shape.Integer before text rest tokens place is fits others =
      one_more kind.Int at (at + length text) tokens
      (no_string kind.Int at (at + length text) (λ e. absurd cc)) others
  with_shape at shape.Float before text rest tokens place is fits others =
      one_more kind.Float at (at + length text) tokens
      (no_string kind.Float at (at + length text) (λ e. absurd cc)) others
  with_shape at shape.Mark before text rest tokens place is fits others =
      one_more kind.Mark at (at + length text) tokens
      (no_string kind.Mark at (at + length text) (λ e. absurd cc)) others
  with_shape at shape.Str before text rest tokens place is fits others =
      let count : at + length text - at ≡ length text = omega arith in
      let here : take (at + length text - at) (drop at src) ≡ text =
      ap (λ (n : ℕ). take n (drop at src)) count
      ∙ ap (λ (n : ℕ). take (length text) (drop n src)) place
      ∙ ap (λ (z : List ℕ). take (length text) (drop (length before) z)) is
      ∙ ap (take (length text)) (drop-append_seam before (text ++ rest))
      ∙ take-append_seam text rest in
      one_more kind.Str at (at + length text) tokens
      (λ e. subst IsRead (sym here) (string_text cs before text rest scalars (spells ∙ is)
      (fits refl))) others

  lexed_texts : (at : ℕ) (bytes : List ℕ) (tokens : List Token) → Lexes at bytes tokens →
      (before : List ℕ) → at ≡ length before → src ≡ before ++ bytes → All (Textual src) tokens
  lexed_texts at bytes tokens (ends at') before place is = All-nil (Textual src)
  lexed_texts at bytes tokens (piece at' s text rest others fits range lexed) before place is =
      with_shape at s before text rest others place is
      (λ e. subst (λ (t : Shape). IsShape t text) e fits.fits)
      (lexed_texts (at + length text) rest others lexed (before ++ text) (omega
      (arith, place, length-append before text)) (is ∙ sym (append_assoc before text rest)))

pub texts_of : (src : List ℕ) (tokens : List Token) → AreTokens src tokens →
    All (Textual src) tokens
texts_of src tokens are = by_utf8 are.text where
  by_utf8 : IsUtf8 src → All (Textual src) tokens
  by_utf8 (cs, (scalars, spells)) =
      lexed_texts src cs scalars spells 0 src tokens are.lexed [] refl refl
