-- Reading bytes from the left, step by step: what they begin with, and what follows it. This
-- project's own.
use Rattle.std.specs.Prelude.{ℕ, zero, suc, ◌-◌, Bool, nat_lt, if◌then◌else◌, List, []}
use Rattle.std.specs.Prelude.{◌∷◌, ◌++◌, length, take, drop, Option, Some, None, Result, Ok, Err}
use Rattle.wap_base.specs.Outcome.{◌>>=◌}
use Rattle.wap_base.specs.Numbers.{mb_at}
use Rattle.wap_base.specs.declared.number.ReadFault.{ReadFault}
use Rattle.wap_base.specs.declared.number.ReadFault.TheVariants as number

-- a value and the bytes after it, given the length of the input and what is left of it
abbrev pub Reader : Type 0 → Type 0 → Type 0
Reader E A = ℕ → List ℕ → Result (A × List ℕ) E

abbrev pub byte_at : {E : Type 0} → (ℕ → E) → Reader E ℕ
byte_at short end [] = Err (short end)
byte_at short end (byte ∷ rest) = Ok (byte, rest)

abbrev pub taken_at : {E : Type 0} → (ℕ → E) → ℕ → Reader E (List ℕ)
taken_at short size end bytes =
    if nat_lt (length bytes) size then Err (short end)
    else Ok (take size bytes, drop size bytes)

abbrev pub numbered : {E : Type 0} → (ℕ → E) → (ℕ → E) → ℕ → List ℕ → Result (ℕ × ℕ) ReadFault
    → Result (ℕ × List ℕ) E
numbered short too_long end bytes (Ok read) = Ok (read.0, drop read.1 bytes)
numbered short too_long end bytes (Err (number.Short at)) = Err (short end)
numbered short too_long end bytes (Err (number.TooLong at)) = Err (too_long (end - length bytes))

unfoldable pub number_at : {E : Type 0} → (ℕ → E) → (ℕ → E) → Reader E ℕ
number_at short too_long end bytes = numbered short too_long end bytes (mb_at bytes 0)

-- one value and then what follows it
abbrev pub in_turn : {E A B : Type 0} → Reader E A → (A → Reader E B) → Reader E B
in_turn read next end bytes = read end bytes >>= λ x. next x.0 end x.1

-- a value, of no bytes
abbrev pub given : {E A : Type 0} → A → Reader E A
given x end bytes = Ok (x, bytes)

-- what was made of bytes that are read already
abbrev pub judged : {E A : Type 0} → Result A E → Reader E A
judged known end bytes = known >>= λ x. Ok (x, bytes)

-- a fault, whatever follows
abbrev pub failing : {E A : Type 0} → E → Reader E A
failing failed end bytes = Err failed

-- what follows where a test is passed, else this fault
abbrev pub unless : {E A : Type 0} → Bool → E → Reader E A → Reader E A
unless test failed read end bytes = if test then read end bytes else Err failed

-- a value where it passes a test, else a fault at its place
abbrev pub passing : {E A : Type 0} → (A → Bool) → (ℕ → E) → Reader E A → Reader E A
passing test failed read end bytes =
    read end bytes >>= λ x. if test x.0 then Ok x else Err (failed (end - length bytes))

-- what is made of a value
abbrev pub made : {E A B : Type 0} → (A → B) → Reader E A → Reader E B
made make read end bytes = read end bytes >>= λ x. Ok (make x.0, x.1)

-- a value and what follows it, or this fault
abbrev pub value_or : {E B : Type 0} → E → List ℕ → Option B → Result (B × List ℕ) E
value_or failed rest (Some y) = Ok (y, rest)
value_or failed rest None = Err failed

-- what is made of a value where something is, else a fault at its place
abbrev pub made_if : {E A B : Type 0} → (A → Option B) → (ℕ → E) → Reader E A → Reader E B
made_if make failed read end bytes =
    read end bytes >>= λ x. value_or (failed (end - length bytes)) x.1 (make x.0)

-- so many things more, each read after those before it
abbrev pub many : {E A : Type 0} → (List A → Reader E A) → ℕ → List A → Reader E (List A)
many read zero before end bytes = Ok (before, bytes)
many read (suc count) before end bytes =
    read before end bytes >>= λ x. many read count (before ++ x.0 ∷ []) end x.1

-- so many things, where none minds those before it
abbrev pub row_at : {E A : Type 0} → Reader E A → ℕ → Reader E (List A)
row_at read count = many (λ before. read) count []
