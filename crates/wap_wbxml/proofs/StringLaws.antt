-- Strings and names are read as they are spelled.
use Rattle.std.proofs.Common.{◌≡◌, ℕ, suc, ◌+◌, ◌-◌, ◌^◌, ◌<◌, Bool, true, false, cond, eqb}
use Rattle.std.proofs.Common.{List, [], ◌∷◌, ◌++◌, length, take, drop, Ok, Err, refl, sym, ap}
use Rattle.std.proofs.Common.{subst, ◌∙◌, append_assoc, inl, inr, arith, ltb-true, lt-ltb}
use Rattle.std.specs.Prelude.{◌&&◌}
use Rattle.std.specs.List.{list_all}
use Rattle.std.proofs.lemmas.Bool.{eqb-true, not-false, and_from, and_parts}
use Rattle.std.proofs.lemmas.List.{take_at, drop_at, take-append-drop}
use Rattle.std.proofs.lemmas.List.Sums.{take_while-cons}
use Rattle.wap_base.specs.Charsets.{text_in}
use Rattle.wap_base.specs.Outcome.{◌>>=◌}
use Rattle.wap_base.proofs.Choices.{bind_ok, bind_err, ok_same, err_same}
use Rattle.wap_base.proofs.formats.Parts.{alone, added}
use Rattle.wap_base.proofs.formats.Readers.{Reads, pair_same, reads_given, reads_failing, reads_so}
use Rattle.wap_base.proofs.formats.Readers.{reads_as, reads_here, reads_in_turn, reads_made_if}
use Rattle.wap_base.proofs.formats.Readers.{reads_passing}
use Rattle.wap_tokens.specs.markup.Strings.{Strings, IsInline, IsIndexed, is_not_zero, string_from}
use Rattle.wap_tokens.specs.markup.Grammar.{State, IsName, counted, table_size}
use Rattle.wap_wbxml.specs.declared.fault.DocFault.{DocFault}
use Rattle.wap_wbxml.specs.declared.fault.DocFault.TheVariants as doc
use Rattle.wap_wbxml.specs.Places.{just_before, is_index, text_at, still_fit}
use Rattle.wap_wbxml.specs.reading.Fronts.{zero_place, behind_zero, string_at, inline_at}
use Rattle.wap_wbxml.specs.reading.Fronts.{indexed_at, counted_at, name_at}
use Rattle.wap_wbxml.specs.Refusal.{IsZeroEnded, RefusedString, RefusedInline, RefusedIndexed}
use Rattle.wap_wbxml.specs.Refusal.{RefusedName}
use Rattle.wap_wbxml.proofs.Readings.{no_fault, no_value}
use Rattle.wap_wbxml.proofs.TextLaws.{text_takes, text_again}
use Rattle.wap_wbxml.proofs.FrontLaws.{reads_number}

-- ---- up to a 0

no_zero_step : (c : ℕ) (front : List ℕ) (b : Bool) → is_not_zero c ≡ b
    → list_all is_not_zero front ≡ true → list_all is_not_zero (cond b (c ∷ front) []) ≡ true
no_zero_step c front true e none = and_from (is_not_zero c) (list_all is_not_zero front) e none
no_zero_step c front false e none = refl

-- no byte before the first 0 is one
pub front_not_zero : (bytes : List ℕ) → list_all is_not_zero (take (zero_place bytes) bytes) ≡ true
front_not_zero [] = refl
front_not_zero (c ∷ bytes) =
    ap (list_all is_not_zero) (take_while-cons is_not_zero c bytes)
    ∙ no_zero_step c (take (zero_place bytes) bytes) (is_not_zero c) refl (front_not_zero bytes)

-- what stands after the prefix is nothing or a 0
zero_step : (c : ℕ) (bytes : List ℕ) (b : Bool) → is_not_zero c ≡ b → (byte : ℕ) (rest : List ℕ)
    → (drop (zero_place bytes) bytes ≡ byte ∷ rest → byte ≡ 0)
    → drop (cond b (1 + zero_place bytes) 0) (c ∷ bytes) ≡ byte ∷ rest → byte ≡ 0
zero_step c bytes true e byte rest more f =
    let one_more : 1 + zero_place bytes ≡ suc (zero_place bytes) = omega arith in
    more (sym (ap (λ (n : ℕ). drop n (c ∷ bytes)) one_more) ∙ f)
zero_step c bytes false e byte rest more f =
    let same : c ≡ byte = cc in
    sym same ∙ eqb-true c 0 (not-false (eqb c 0) e)

zero_behind : (bytes : List ℕ) (byte : ℕ) (rest : List ℕ)
    → drop (zero_place bytes) bytes ≡ byte ∷ rest → byte ≡ 0
zero_behind [] byte rest e = absurd cc
zero_behind (c ∷ bytes) byte rest e =
    zero_step c bytes (is_not_zero c) refl byte rest (zero_behind bytes byte rest) e

none_step : (c : ℕ) (bytes : List ℕ) (b : Bool) → is_not_zero c ≡ b
    → (drop (zero_place bytes) bytes ≡ [] → list_all is_not_zero bytes ≡ true)
    → drop (cond b (1 + zero_place bytes) 0) (c ∷ bytes) ≡ []
    → (b && list_all is_not_zero bytes) ≡ true
none_step c bytes true e more f =
    let one_more : 1 + zero_place bytes ≡ suc (zero_place bytes) = omega arith in
    more (sym (ap (λ (n : ℕ). drop n (c ∷ bytes)) one_more) ∙ f)
none_step c bytes false e more f = absurd cc

-- nothing stands after the prefix only where no byte is 0
none_behind : (bytes : List ℕ) → drop (zero_place bytes) bytes ≡ []
    → list_all is_not_zero bytes ≡ true
none_behind [] e = refl
none_behind (c ∷ bytes) e = none_step c bytes (is_not_zero c) refl (none_behind bytes) e

all_behind : (bytes : List ℕ) → list_all is_not_zero bytes ≡ true
    → drop (zero_place bytes) bytes ≡ []
all_behind [] all = refl
all_behind (c ∷ bytes) all =
    let parts = and_parts (is_not_zero c) (list_all is_not_zero bytes) all in
    let one_more : 1 + zero_place bytes ≡ suc (zero_place bytes) = omega arith in
    ap (λ (b : Bool). drop (cond b (1 + zero_place bytes) 0) (c ∷ bytes)) parts.0
    ∙ ap (λ (n : ℕ). drop n (c ∷ bytes)) one_more ∙ all_behind bytes parts.1

-- a string that a 0 follows
place_of_zero : (string rest : List ℕ) → list_all is_not_zero string ≡ true
    → zero_place (string ++ (0 ∷ rest)) ≡ length string
place_of_zero [] rest all = refl
place_of_zero (c ∷ string) rest all =
    let parts = and_parts (is_not_zero c) (list_all is_not_zero string) all in
    ap (λ (b : Bool). cond b (1 + zero_place (string ++ (0 ∷ rest))) 0) parts.0
    ∙ ap (λ (n : ℕ). 1 + n) (place_of_zero string rest parts.1) ∙ omega arith

behind_split : (total : ℕ) (bytes left : List ℕ) → drop (zero_place bytes) bytes ≡ left
    → (rest : List ℕ)
    → behind_zero total left ≡ Ok rest → left ≡ 0 ∷ rest
behind_split total bytes [] e rest f = absurd (no_value f)
behind_split total bytes (byte ∷ left) e rest f =
    ap (λ (b : ℕ). b ∷ left) (zero_behind bytes byte left e)
    ∙ ap (λ (l : List ℕ). 0 ∷ l) (ok_same left rest f)

behind_none : (total : ℕ) (left : List ℕ) (fault : DocFault) → behind_zero total left ≡ Err fault
    → (left ≡ []) × (fault ≡ doc.Short total)
behind_none total [] fault e = (refl, sym (err_same (doc.Short total) fault e))
behind_none total (byte ∷ left) fault e = absurd (no_fault e)

-- a string that a 0 follows
string_of : (total : ℕ) (string rest : List ℕ) → list_all is_not_zero string ≡ true
    → string_at total (string ++ (0 ∷ rest)) ≡ Ok (string, rest)
string_of total string rest all =
    let whole : List ℕ = string ++ (0 ∷ rest) in
    ap (λ (n : ℕ). behind_zero total (drop n whole) >>= λ others. Ok (take n whole, others))
    (place_of_zero string rest all)
    ∙ ap (λ (l : List ℕ). behind_zero total l >>= λ others. Ok (take (length string) whole, others))
    (drop_at string (0 ∷ rest) (length string) refl)
    ∙ ap (λ (l : List ℕ). Ok (l, rest)) (take_at string (0 ∷ rest) (length string) refl)

-- a string, and the 0 that ends it
reads_string : Reads string_at IsZeroEnded RefusedString
reads_string = record {
  takes = λ end bytes x rest e.
      let string = take (zero_place bytes) bytes in
      let left = drop (zero_place bytes) bytes in
      let a = bind_ok (behind_zero end left) (λ others. Ok (string, others)) (x, rest) e in
      let same = pair_same string x a.0 rest a.2 in (
        string ++ (0 ∷ []),
        sym (take-append-drop (zero_place bytes) bytes)
            ∙ ap (λ (l : List ℕ). string ++ l)
            (behind_split end bytes left refl a.0 a.1 ∙ ap (λ (l : List ℕ). 0 ∷ l) same.1)
            ∙ sym (append_assoc string (0 ∷ []) rest),
        (
          ap (λ (l : List ℕ). l ++ (0 ∷ [])) same.0,
          ap (list_all is_not_zero) (sym same.0) ∙ front_not_zero bytes,
        ),
      );
  again = λ end front x rest is.
      ap (λ (l : List ℕ). string_at end (l ++ rest)) is.0
      ∙ ap (string_at end) (append_assoc x (0 ∷ []) rest) ∙ string_of end x rest is.1;
  stops = λ end bytes found e.
      let string = take (zero_place bytes) bytes in
      let left = drop (zero_place bytes) bytes in
      elim (bind_err (behind_zero end left) (λ others. Ok (string, others)) found e) [
        | inl short ↦
            let none = behind_none end left found short in (none_behind bytes none.0, none.1)
        | inr some ↦ absurd (no_fault some.2)
      ];
  fails = λ end bytes found refused.
      ap (λ (l : List ℕ).
      behind_zero end l >>= λ others. Ok (take (zero_place bytes) bytes, others))
      (all_behind bytes refused.0) ∙ ap Err (sym refused.1);
}

-- ---- strings in place and of the table

-- a string in place
pub reads_inline : (strings : Strings)
    → Reads (inline_at strings) (IsInline strings) (RefusedInline strings)
unfolding inline_at
reads_inline strings =
    reads_as (reads_made_if (text_in strings.charset) (just_before doc.Text) reads_string)
    (λ bytes text is. record {
      string = is.0;
      spelled = is.1.0;
      no_zero = is.1.1;
      text_is = text_takes strings.charset is.0 text is.2;
    })
    (λ bytes text is. (
      is.string,
      (is.spelled, is.no_zero),
      text_again strings.charset is.string text is.text_is,
    ))

-- a string of the table
pub reads_indexed : (strings : Strings)
    → Reads (indexed_at strings) (IsIndexed strings) (RefusedIndexed strings)
unfolding indexed_at
reads_indexed strings =
    reads_as
    (reads_made_if (text_at strings) (just_before doc.Text)
    (reads_passing (is_index strings) (just_before doc.Index) reads_number))
    (λ bytes text is. record {
      index = is.0;
      number = is.1.0;
      within = ltb-true is.0 (length strings.table) is.1.1;
      text_is = text_takes strings.charset (string_from strings.table is.0) text is.2;
    })
    (λ bytes text is. (
      is.index,
      (is.number, lt-ltb is.index (length strings.table) is.within),
      text_again strings.charset (string_from strings.table is.index) text is.text_is,
    ))

-- ---- names

-- a name that is read is counted, where it fits
reads_counted : (failed : DocFault) (fits : Bool) (name : List ℕ) (after : State)
    → Reads {A = List ℕ × State}
    (λ end rest. cond fits (Ok after) (Err failed) >>= λ state. Ok ((name, state), rest))
    (λ bytes x. (bytes ≡ []) × ((fits ≡ true) × (x ≡ (name, after))))
    (λ end left found. (fits ≡ false) × (found ≡ failed))
reads_counted failed true name after =
    let counted_name : List ℕ × State = (name, after) in
    reads_so (reads_given counted_name) (λ bytes x is. (is.0, (refl, is.1)))
    (λ bytes x is. (is.0, is.1.1)) (λ end left found is. absurd is)
    (λ end left found is. absurd (cc is.0))
reads_counted failed false name after =
    reads_so (reads_failing failed) (λ bytes x is. absurd is) (λ bytes x is. absurd (cc is.1.0))
    (λ end left found is. (refl, is)) (λ end left found is. is.1)

-- a name of the string table
pub reads_name : (strings : Strings) (state : State)
    → Reads (name_at strings state) (IsName strings state) (RefusedName strings state)
unfolding name_at counted_at RefusedName
reads_name strings state =
    reads_as (reads_here (λ at.
    reads_in_turn (reads_indexed strings)
    (λ name. reads_counted (doc.Table (at - 1)) (still_fit state name) name (counted name state))))
    (λ bytes x is.
    let one = alone bytes is in
    let size = table_size (counted one.0 state).names in
    subst (IsName strings state bytes) (sym one.2.1)
    (one.1, record { counts = refl; fits = ltb-true size (2 ^ 32) one.2.0 }))
    (λ bytes x is.
    let fits : table_size (counted x.0 state).names < 2 ^ 32 =
    subst (λ (s : State). table_size s.names < 2 ^ 32) is.1.counts is.1.fits in
    let size = table_size (counted x.0 state).names in
    added bytes (
      x.0,
      is.0,
      (lt-ltb size (2 ^ 32) fits, ap (λ (s : State). (x.0, s)) is.1.counts),
    ))
