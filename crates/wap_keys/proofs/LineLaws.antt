-- Lines at their ends, and what they say.
use Rattle.std.proofs.Common.{◌≡◌, ℕ, ◌+◌, ◌<◌, ◌≤◌, suc, Bool, true, false, cond, List, [], ◌∷◌}
use Rattle.std.proofs.Common.{◌++◌, length, Option, None, Result, Ok, Err, refl, sym, ap, ◌∙◌}
use Rattle.std.proofs.Common.{arith}
use Rattle.std.specs.Prelude.{◌==◌, not, ◌&&◌, ◌||◌}
use Rattle.std.proofs.lemmas.Bool.{lt-ltb, le-ltb}
use Rattle.wap_keys.specs.declared.limits.TheConstants.{LINE_LIMIT}
use Rattle.wap_keys.specs.declared.fault.KeyFault.{KeyFault}
use Rattle.wap_keys.specs.declared.fault.KeyFault.TheVariants.{TooLong}
use Rattle.wap_keys.specs.declared.ending.Ending.{Ending}
use Rattle.wap_keys.specs.declared.ending.Ending.TheVariants.{End, BadKey}
use Rattle.wap_keys.specs.Lines.{Line, KeysOf, Meaning, led, lines_of, without_return, content}
use Rattle.wap_keys.specs.Lines.{line_says, is_end, key_before, said_from}
use Rattle.wap_keys.specs.Prefixes.{is_unended}

unended_parts : (c : ℕ) (cs : List ℕ) (b : Bool) → (c == 10) ≡ b → (not b && is_unended cs) ≡ true
    → (b ≡ false) × (is_unended cs ≡ true)
unended_parts c cs true e all = absurd cc
unended_parts c cs false e all = (refl, all)

parts : (c : ℕ) (cs : List ℕ) → is_unended (c ∷ cs) ≡ true
    → ((c == 10) ≡ false) × (is_unended cs ≡ true)
parts c cs all = unended_parts c cs (c == 10) refl all

led_line : (c : ℕ) (cs : List ℕ) → (c == 10) ≡ false → lines_of (c ∷ cs) ≡ led c (lines_of cs)
led_line c cs e =
    ap (λ (b : Bool).
    cond b (record { bytes = []; ended = true } ∷ lines_of cs) (led c (lines_of cs))) e

-- a line feed ends the line that is begun
pub ended_line : (begun rest : List ℕ) → is_unended begun ≡ true
    → lines_of (begun ++ (10 ∷ rest)) ≡ record { bytes = begun; ended = true } ∷ lines_of rest
ended_line [] rest all = refl
ended_line (c ∷ cs) rest all =
    let p = parts c cs all in
    led_line c (cs ++ (10 ∷ rest)) p.0 ∙ ap (led c) (ended_line cs rest p.1)

abbrev pub last_line : List ℕ → List Line
last_line [] = []
last_line (c ∷ cs) = record { bytes = c ∷ cs; ended = false } ∷ []

led_last : (c : ℕ) (cs : List ℕ) → led c (last_line cs) ≡ last_line (c ∷ cs)
led_last c [] = refl
led_last c (d ∷ ds) = refl

-- the end of all bytes ends it, where it isn't empty
pub unended_line : (begun : List ℕ) → is_unended begun ≡ true → lines_of begun ≡ last_line begun
unended_line [] all = refl
unended_line (c ∷ cs) all =
    let p = parts c cs all in
    led_line c cs p.0 ∙ ap (led c) (unended_line cs p.1) ∙ led_last c cs

-- ---- lines that are too long

-- the first line has at least the bytes that are begun
abbrev pub Begins : ℕ → List Line → Type 0
Begins count lines =
    (line : Line) × (more : List Line) × (lines ≡ line ∷ more) × (count ≤ length line.bytes)

led_begins : (c : ℕ) (lines : List Line) → Begins 1 (led c lines)
led_begins c [] = (record { bytes = c ∷ []; ended = false }, [], refl, omega arith)
led_begins c (line ∷ lines) =
    (record { bytes = c ∷ line.bytes; ended = line.ended }, lines, refl, omega arith)

led_more : (c count : ℕ) (lines : List Line) → Begins count lines → Begins (suc count) (led c lines)
led_more c count lines (line, more, is, long) = (
  record { bytes = c ∷ line.bytes; ended = line.ended },
  more,
  ap (led c) is,
  omega (arith, long),
)

begins_by : (count : ℕ) (lines others : List Line) → others ≡ lines → Begins count lines
    → Begins count others
begins_by count lines others e (line, more, is, long) = (line, more, e ∙ is, long)

pub first_line : (c : ℕ) (cs rest : List ℕ) → is_unended (c ∷ cs) ≡ true
    → Begins (length (c ∷ cs)) (lines_of ((c ∷ cs) ++ rest))
first_line c [] rest all =
    begins_by 1 (led c (lines_of rest)) (lines_of (c ∷ rest)) (led_line c rest (parts c [] all).0)
    (led_begins c (lines_of rest))
first_line c (d ∷ ds) rest all =
    let p = parts c (d ∷ ds) all in
    begins_by (suc (length (d ∷ ds))) (led c (lines_of ((d ∷ ds) ++ rest)))
    (lines_of (c ∷ ((d ∷ ds) ++ rest))) (led_line c ((d ∷ ds) ++ rest) p.0)
    (led_more c (length (d ∷ ds)) (lines_of ((d ∷ ds) ++ rest)) (first_line d ds rest p.1))

-- ---- what they say

-- nothing, and this ending
abbrev pub nothing_then : {A : Type 0} → Ending → KeysOf A
nothing_then ending = record { keys = []; ending = ending }

module _ {A : Type 0} (meaning : Meaning A) (ending : Ending) (number : ℕ) where
  long_line : (count : ℕ) (lines : List Line) → LINE_LIMIT < count → Begins count lines
      → said_from meaning ending number lines ≡ nothing_then (BadKey number TooLong)
  long_line count lines many (line, more, is, long) =
      ap (said_from meaning ending number) is
      ∙ ap (λ (b : Bool).
      key_before number (cond b (Err TooLong) (cond (line.ended || is_end ending)
      (meaning (content line)) (Ok None))) (said_from meaning ending (number + 1) more))
      (lt-ltb LINE_LIMIT (length line.bytes) (omega (arith, many, long)))

  -- a line that is too long is refused, whatever follows
  pub too_long : (begun rest : List ℕ) → is_unended begun ≡ true → LINE_LIMIT < length begun
      → said_from meaning ending number (lines_of (begun ++ rest))
      ≡ nothing_then (BadKey number TooLong)
  too_long [] rest all many = absurd (omega (arith, many))
  too_long (c ∷ cs) rest all many =
      long_line (length (c ∷ cs)) (lines_of ((c ∷ cs) ++ rest)) many (first_line c cs rest all)

  -- another says what its content says
  short_says : (bytes : List ℕ) (ended : Bool) → length bytes ≤ LINE_LIMIT
      → line_says meaning ending (record { bytes = bytes; ended = ended })
      ≡ cond (ended || is_end ending)
      (meaning (content (record { bytes = bytes; ended = ended }))) (Ok None)
  short_says bytes ended few =
      ap (λ (b : Bool). cond b (Err TooLong) (cond (ended || is_end ending)
      (meaning (content (record { bytes = bytes; ended = ended }))) (Ok None)))
      (le-ltb LINE_LIMIT (length bytes) few)

  -- before what follows it, where it is whole
  pub line_before : (line rest : List ℕ) → is_unended line ≡ true → length line ≤ LINE_LIMIT
      → said_from meaning ending number (lines_of (line ++ 10 ∷ rest))
      ≡ key_before number (meaning (without_return line))
      (said_from meaning ending (number + 1) (lines_of rest))
  line_before line rest all few =
      ap (said_from meaning ending number) (ended_line line rest all)
      ∙ ap (λ (said : Result (Option A) KeyFault).
      key_before number said (said_from meaning ending (number + 1) (lines_of rest)))
      (short_says line true few)

  -- and the last one, where it isn't empty
  last_by : (c : ℕ) (cs : List ℕ) → is_unended (c ∷ cs) ≡ true → length (c ∷ cs) ≤ LINE_LIMIT
      → said_from meaning ending number (lines_of (c ∷ cs)) ≡ key_before number
      (cond (is_end ending) (meaning (c ∷ cs)) (Ok None)) (nothing_then ending)
  last_by c cs all few =
      ap (said_from meaning ending number) (unended_line (c ∷ cs) all)
      ∙ ap (λ (said : Result (Option A) KeyFault). key_before number said (nothing_then ending))
      (short_says (c ∷ cs) false few)

  -- one that is cut off says nothing
  pub cut_line : (line : List ℕ) → is_end ending ≡ false → is_unended line ≡ true
      → length line ≤ LINE_LIMIT
      → said_from meaning ending number (lines_of line) ≡ nothing_then ending
  cut_line [] cut all few = refl
  cut_line (c ∷ cs) cut all few =
      last_by c cs all few ∙ ap (λ (b : Bool).
      key_before number (cond b (meaning (c ∷ cs)) (Ok None)) (nothing_then ending)) cut

-- the last line says its key at the end
pub last_line_says : {A : Type 0} (meaning : Meaning A) (number : ℕ) (line : List ℕ)
    → meaning [] ≡ Ok None → is_unended line ≡ true → length line ≤ LINE_LIMIT
    → said_from meaning End number (lines_of line)
    ≡ key_before number (meaning line) (nothing_then End)
last_line_says meaning number [] empty all few =
    ap (λ (said : Result (Option _) KeyFault). key_before number said (nothing_then End))
    (sym empty)
last_line_says meaning number (c ∷ cs) empty all few = last_by meaning End number c cs all few
