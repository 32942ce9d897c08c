-- Key lines: the forms, each a word and its arguments, and what one line says. This project's own.
use Rattle.std.specs.Prelude.{◌≡◌, ℕ, ◌==◌, nat_lt, if◌then◌else◌, Bool, List, [], ◌∷◌, ◌++◌}
use Rattle.std.specs.Prelude.{length, Option, Some, None, Result, Ok, Err, codes, find}
use Rattle.std.specs.Borrow.{Bor}
use Rattle.std.specs.Option.{option_map}
use Rattle.std.specs.List.{position_or_len, before_first, after_first}
use Rattle.std.specs.Str.{chars, is_utf8}
use Rattle.wap_base.specs.Outcome.{◌>>=◌}
use Rattle.wap_base.specs.Ascii.{space}
use Rattle.wap_base.specs.Texts.{is_same_text}
use Rattle.wap_base.specs.declared.key.Key.{Key}
use Rattle.wap_base.specs.declared.key.Key.TheVariants as key
use Rattle.wap_keys.specs.declared.limits.TheConstants.{LINE_LIMIT}
use Rattle.wap_keys.specs.declared.fault.KeyFault.{KeyFault}
use Rattle.wap_keys.specs.declared.fault.KeyFault.TheVariants.{TooLong, NotText, UnknownWord}
use Rattle.wap_keys.specs.declared.fault.KeyFault.TheVariants.{Missing, BadNumber, Surplus}
use Rattle.wap_keys.specs.declared.word.Word.{Word}
use Rattle.wap_keys.specs.declared.word.Word.TheVariants as word
use Rattle.wap_keys.specs.Decimal.{decimal_of}
use Rattle.wap_keys.specs.Hexadecimal.{bytes_of}

-- ---- words and what follows them

-- a space ends a word or an argument
abbrev pub is_space : ℕ → Bool
is_space c = c == space

-- what stands before the first space
abbrev pub prefix_of : List ℕ → List ℕ
prefix_of = before_first is_space

-- what stands after the first byte of a kind, if there is one
abbrev pub behind_first : (ℕ → Bool) → List ℕ → Option (List ℕ)
behind_first is bytes =
    if nat_lt (position_or_len is bytes) (length bytes) then Some (after_first is bytes) else None

-- and what stands after the first space
abbrev pub rest_of : List ℕ → Option (List ℕ)
rest_of = behind_first is_space

-- ---- forms

-- what follows a word, and the key that it makes
pub data Form : Type 0 where
  nothing : Key → Form
  text : (List ℕ → Key) → Form
  text_or_none : (List ℕ → Key) → Form
  number : ℕ → (ℕ → Form) → Form
  hexadecimal : (List ℕ → Form) → Form

-- the greatest number of 16 bits
abbrev pub greatest_u16 : ℕ
greatest_u16 = 65535

-- the greatest number of 32 bits
abbrev pub greatest_u32 : ℕ
greatest_u32 = 4294967295

-- the form of a word
abbrev pub form_of : Word → Form
form_of word.Open = text key.Open
form_of word.Do = text key.Do
form_of word.Pick = number greatest_u16 (λ n. nothing (key.Pick n))
form_of word.Type = number greatest_u16 (λ n. text_or_none (key.Enter n))
form_of word.Choose = number greatest_u16 (λ n. number greatest_u16 (λ m. nothing (key.Choose n m)))
form_of word.Back = nothing key.Back
form_of word.Tick = number greatest_u32 (λ n. nothing (key.Tick n))
form_of word.Ok = nothing key.Ok
form_of word.Cancel = nothing key.Cancel
form_of word.Answer = text_or_none key.Answer
form_of word.Stop = nothing key.Stop
form_of word.Vars = nothing key.Vars
form_of word.Push = hexadecimal (λ pushed. nothing (key.Push pushed))
form_of word.Inbox = nothing key.Inbox
form_of word.Follow = number greatest_u16 (λ n. nothing (key.Follow n))

-- the name of a form's word
abbrev pub name_of : Word → List ℕ
name_of word.Open = codes "open"
name_of word.Do = codes "do"
name_of word.Pick = codes "pick"
name_of word.Type = codes "type"
name_of word.Choose = codes "choose"
name_of word.Back = codes "back"
name_of word.Tick = codes "tick"
name_of word.Ok = codes "ok"
name_of word.Cancel = codes "cancel"
name_of word.Answer = codes "answer"
name_of word.Stop = codes "stop"
name_of word.Vars = codes "vars"
name_of word.Push = codes "push"
name_of word.Inbox = codes "inbox"
name_of word.Follow = codes "follow"

-- the words that arguments follow
abbrev pub words_with_arguments : List Word
words_with_arguments =
    word.Open ∷ word.Do ∷ word.Pick ∷ word.Type ∷ word.Choose ∷ word.Tick ∷ word.Answer
    ∷ word.Push ∷ word.Follow ∷ []

-- the words that stand alone
abbrev pub words_alone : List Word
words_alone =
    word.Back ∷ word.Ok ∷ word.Cancel ∷ word.Stop ∷ word.Vars ∷ word.Inbox ∷ []

-- all words
abbrev pub words : List Word
words = words_with_arguments ++ words_alone

-- the word of a name among some, if there is one
abbrev pub word_among : List Word → List ℕ → Option Word
word_among words name = find (λ word. is_same_text name (name_of word)) words

-- the word of a name, if there is one
abbrev pub word_named : List ℕ → Option Word
word_named = word_among words

-- ---- arguments

-- a text that has to be there, and isn't empty
abbrev pub text_at : Option (List ℕ) → Result (List ℕ) KeyFault
text_at None = Err Missing
text_at (Some []) = Err Missing
text_at (Some (c ∷ cs)) = Ok (chars (c ∷ cs))

-- a text that may be missing or empty
abbrev pub text_or_none_at : Option (List ℕ) → List ℕ
text_or_none_at None = []
text_or_none_at (Some bytes) = chars bytes

-- a key after whose word nothing follows
abbrev pub nothing_at : Key → Option (List ℕ) → Result Key KeyFault
nothing_at key None = Ok key
nothing_at key (Some bytes) = Err Surplus

-- the value that is written, if one is
abbrev pub or_bad : {A : Type 0} → Option A → Result A KeyFault
or_bad None = Err BadNumber
or_bad (Some value) = Ok value

-- the value of an argument, which has to be there, by how it is read
abbrev pub value_in : {A : Type 0} → (List ℕ → Option A) → List ℕ → Result A KeyFault
value_in read [] = Err Missing
value_in read (c ∷ cs) = or_bad (read (c ∷ cs))

-- an argument's value, and what follows the argument
abbrev pub argument_at : {A : Type 0} → (List ℕ → Option A) → Option (List ℕ)
    → Result (A × Option (List ℕ)) KeyFault
argument_at read None = Err Missing
argument_at read (Some bytes) =
    value_in read (prefix_of bytes) >>= λ value. Ok (value, rest_of bytes)

-- the number that an argument is
abbrev pub number_in : ℕ → List ℕ → Result ℕ KeyFault
number_in greatest = value_in (decimal_of greatest)

-- a number, and what follows it
abbrev pub number_at : ℕ → Option (List ℕ) → Result (ℕ × Option (List ℕ)) KeyFault
number_at greatest = argument_at (decimal_of greatest)

-- a call read this number, and has what follows it
abbrev pub ReadsNumber : Result (ℕ × Option (Bor (List ℕ))) KeyFault
    → Result (ℕ × Option (List ℕ)) KeyFault → Type 0
ReadsNumber (Ok read) at = at ≡ Ok (read.0, option_map (λ rest. rest.now) read.1)
ReadsNumber (Err fault) at = at ≡ Err fault

-- arguments are read from the left
abbrev pub key_by : Form → Option (List ℕ) → Result Key KeyFault
key_by (nothing key) rest = nothing_at key rest
key_by (text make) rest = text_at rest >>= λ t. Ok (make t)
key_by (text_or_none make) rest = Ok (make (text_or_none_at rest))
key_by (number greatest form) rest = number_at greatest rest >>= λ read. key_by (form read.0) read.1
key_by (hexadecimal form) rest = argument_at bytes_of rest >>= λ read. key_by (form read.0) read.1

-- ---- lines

-- the key of a word and of what follows it
abbrev pub key_of_word : Option Word → Option (List ℕ) → Result Key KeyFault
key_of_word None rest = Err UnknownWord
key_of_word (Some word) rest = key_by (form_of word) rest

-- what a line says that is neither empty nor a comment
unfoldable pub key_at : List ℕ → Result Key KeyFault
key_at line =
    if nat_lt LINE_LIMIT (length line) then Err TooLong else
    if is_utf8 line then key_of_word (word_named (prefix_of line)) (rest_of line) else Err NotText
