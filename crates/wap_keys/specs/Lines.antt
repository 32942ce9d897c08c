-- The lines of bytes, and the keys that they say. This project's own.
use Rattle.std.specs.Prelude.{ℕ, ◌+◌, ◌-◌, nat_eq, Bool, true, false, ◌||◌, ◌==◌}
use Rattle.std.specs.Prelude.{nat_lt, if◌then◌else◌, List, [], ◌∷◌, length, take}
use Rattle.std.specs.Prelude.{Option, Some, None, Result, Ok, Err}
use Rattle.std.specs.List.{ends_with}
use Rattle.wap_base.specs.Ascii.{line_feed, carriage_return, number_sign}
use Rattle.wap_base.specs.declared.key.Key.{Key}
use Rattle.wap_keys.specs.declared.limits.TheConstants.{KEYS_LIMIT, LINE_LIMIT}
use Rattle.wap_keys.specs.declared.fault.KeyFault.{KeyFault}
use Rattle.wap_keys.specs.declared.fault.KeyFault.TheVariants.{TooLong}
use Rattle.wap_keys.specs.declared.ending.Ending.{Ending}
use Rattle.wap_keys.specs.declared.ending.Ending.TheVariants.{End, BadKey, TooManyKeys}
use Rattle.wap_keys.specs.Forms.{key_at}

-- ---- lines

-- a line, and whether a line feed ends it
pub record Line : Type 0 where
  pub bytes : List ℕ
  pub ended : Bool

-- a byte stands before lines, in the first of them
abbrev pub led : ℕ → List Line → List Line
led c [] = record { bytes = c ∷ []; ended = false } ∷ []
led c (line ∷ lines) = record { bytes = c ∷ line.bytes; ended = line.ended } ∷ lines

-- what stands between line feeds, but for nothing at the end
abbrev pub lines_of : List ℕ → List Line
lines_of [] = []
lines_of (c ∷ cs) =
    if c == line_feed then record { bytes = []; ended = true } ∷ lines_of cs
    else led c (lines_of cs)

-- one carriage return before a line feed is no part of the line
abbrev pub without_return : List ℕ → List ℕ
without_return line =
    if ends_with nat_eq line (carriage_return ∷ []) then take (length line - 1) line else line

-- what counts of a line
abbrev pub content : Line → List ℕ
content line = if line.ended then without_return line.bytes else line.bytes

-- ---- what a line says

-- a key that a line says
abbrev pub some_key : Result Key KeyFault → Result (Option Key) KeyFault
some_key (Ok key) = Ok (Some key)
some_key (Err fault) = Err fault

-- an empty line and a comment say no key
abbrev pub content_key : List ℕ → Result (Option Key) KeyFault
content_key [] = Ok None
content_key (c ∷ cs) = if c == number_sign then Ok None else some_key (key_at (c ∷ cs))

-- whether the bytes came to their end
abbrev pub is_end : Ending → Bool
is_end End = true
is_end _ = false

-- what the content of a line says: nothing, something, or why it is refused
abbrev pub Meaning : Type 0 → Type 0
Meaning A = List ℕ → Result (Option A) KeyFault

-- a line is refused where it is too long already; else one that is cut off says nothing
abbrev pub line_says : {A : Type 0} → Meaning A → Ending → Line → Result (Option A) KeyFault
line_says meaning ending line =
    if nat_lt LINE_LIMIT (length line.bytes) then Err TooLong
    else if line.ended || is_end ending then meaning (content line)
    else Ok None

-- ---- keys

-- keys, or keys and what stands between lists of them, and how they came to an end
pub record KeysOf (A : Type 0) : Type 0 where
  pub keys : List A
  pub ending : Ending

abbrev pub Keys : Type 0
Keys = KeysOf Key

-- what one line says, and then others
abbrev pub key_before : {A : Type 0} → ℕ → Result (Option A) KeyFault → KeysOf A → KeysOf A
key_before number (Err fault) others = record { keys = []; ending = BadKey number fault }
key_before number (Ok None) others = others
key_before number (Ok (Some key)) others =
    record { keys = key ∷ others.keys; ending = others.ending }

-- the keys of lines that are counted from a number on, up to the first line that is no key line
abbrev pub said_from : {A : Type 0} → Meaning A → Ending → ℕ → List Line → KeysOf A
said_from meaning ending number [] = record { keys = []; ending = ending }
said_from meaning ending number (line ∷ lines) =
    key_before number (line_says meaning ending line) (said_from meaning ending (number + 1) lines)

-- those of bytes after which there is this ending
unfoldable pub said_at : {A : Type 0} → Meaning A → Ending → List ℕ → KeysOf A
said_at meaning ending bytes = said_from meaning ending 1 (lines_of bytes)

-- those of bytes; of too many bytes the first ones count
unfoldable pub said_of : {A : Type 0} → Meaning A → List ℕ → KeysOf A
said_of meaning bytes =
    said_at meaning (if nat_lt KEYS_LIMIT (length bytes) then TooManyKeys else End)
    (take KEYS_LIMIT bytes)

-- by key lines
abbrev pub keys_at : Ending → List ℕ → Keys
keys_at = said_at content_key

abbrev pub keys_of : List ℕ → Keys
keys_of = said_of content_key
