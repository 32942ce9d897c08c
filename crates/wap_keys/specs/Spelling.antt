-- Key lines as they are spelled: what spells a key, and why a line spells none. This project's own.
use Rattle.std.specs.Prelude.{◌≡◌, ◌≢◌, ◌⊎◌, ◌<◌, ◌≤◌, ℕ, List, [], ◌∷◌, ◌++◌}
use Rattle.std.specs.Prelude.{length, not, true, Option, Some, None}
use Rattle.std.specs.List.{list_all}
use Rattle.std.specs.Str.{chars, IsUtf8}
use Rattle.wap_base.specs.Ascii.{space}
use Rattle.wap_base.specs.declared.key.Key.{Key}
use Rattle.wap_keys.specs.declared.limits.TheConstants.{LINE_LIMIT}
use Rattle.wap_keys.specs.declared.fault.KeyFault.{KeyFault}
use Rattle.wap_keys.specs.declared.fault.KeyFault.TheVariants.{TooLong, NotText, UnknownWord}
use Rattle.wap_keys.specs.declared.fault.KeyFault.TheVariants.{Missing, BadNumber, Surplus}
use Rattle.wap_keys.specs.declared.fault.KeyFault.TheVariants.{NoMemory}
use Rattle.wap_keys.specs.declared.word.Word.{Word}
use Rattle.wap_keys.specs.Decimal.{decimal_of}
use Rattle.wap_keys.specs.Hexadecimal.{bytes_of}
use Rattle.wap_keys.specs.Forms.{Form, nothing, text, text_or_none}
use Rattle.wap_keys.specs.Forms.{number, hexadecimal, form_of, name_of, is_space}

-- a word or an argument that has no space, and one space before what follows it, if something does
abbrev pub spaced : List ℕ → Option (List ℕ) → List ℕ
spaced prefix None = prefix
spaced prefix (Some rest) = prefix ++ space ∷ rest

-- no space is among the bytes
abbrev pub HasNoSpace : List ℕ → Type 0
HasNoSpace bytes = list_all (λ c. not (is_space c)) bytes ≡ true

-- ---- arguments

-- an argument stands first, which writes the value by how it is read, and then the others
abbrev pub SpellsArgument : {A : Type 0} → (List ℕ → Option A) → Option (List ℕ) → A
    → Option (List ℕ) → Type 0
SpellsArgument read rest value others =
    (argument : List ℕ) × (rest ≡ Some (spaced argument others)) × HasNoSpace argument
    × (read argument ≡ Some value)

-- or none stands there, or one that writes no value
abbrev pub MisspellsArgument : {A : Type 0} → (List ℕ → Option A) → Option (List ℕ) → KeyFault
    → Type 0
MisspellsArgument read rest fault =
    (((rest ≡ None) ⊎ ((others : Option (List ℕ)) × (rest ≡ Some (spaced [] others))))
    × (fault ≡ Missing))
    ⊎ ((argument : List ℕ) × (others : Option (List ℕ)) × (rest ≡ Some (spaced argument others))
    × HasNoSpace argument × (argument ≢ []) × (read argument ≡ None) × (fault ≡ BadNumber))

-- what follows a form's word spells the key
abbrev pub Spells : Form → Option (List ℕ) → Key → Type 0
Spells (nothing key) rest said = (rest ≡ None) × (said ≡ key)
Spells (text make) rest said =
    (c : ℕ) × (cs : List ℕ) × (rest ≡ Some (c ∷ cs)) × (said ≡ make (chars (c ∷ cs)))
Spells (text_or_none make) rest said =
    ((rest ≡ None) × (said ≡ make [])) ⊎ ((t : List ℕ) × (rest ≡ Some t) × (said ≡ make (chars t)))
Spells (number greatest form) rest said =
    (n : ℕ) × (others : Option (List ℕ)) × SpellsArgument (decimal_of greatest) rest n others
    × Spells (form n) others said
Spells (hexadecimal form) rest said =
    (written : List ℕ) × (others : Option (List ℕ)) × SpellsArgument bytes_of rest written others
    × Spells (form written) others said

-- or it doesn't, for a fault: arguments are looked at from the left
abbrev pub Misspells : Form → Option (List ℕ) → KeyFault → Type 0
Misspells (nothing key) rest fault = (t : List ℕ) × (rest ≡ Some t) × (fault ≡ Surplus)
Misspells (text make) rest fault = ((rest ≡ None) ⊎ (rest ≡ Some [])) × (fault ≡ Missing)
Misspells (text_or_none make) rest fault = ⊥
Misspells (number greatest form) rest fault =
    MisspellsArgument (decimal_of greatest) rest fault
    ⊎ ((n : ℕ) × (others : Option (List ℕ)) × SpellsArgument (decimal_of greatest) rest n others
    × Misspells (form n) others fault)
Misspells (hexadecimal form) rest fault =
    MisspellsArgument bytes_of rest fault
    ⊎ ((written : List ℕ) × (others : Option (List ℕ))
    × SpellsArgument bytes_of rest written others × Misspells (form written) others fault)

-- ---- lines

-- a line that isn't too long, and is UTF-8
abbrev pub IsTextLine : List ℕ → Type 0
IsTextLine line = (length line ≤ LINE_LIMIT) × IsUtf8 line

-- it spells a key
abbrev pub IsKeyLine : List ℕ → Key → Type 0
IsKeyLine line key =
    IsTextLine line
    × ((word : Word) × (rest : Option (List ℕ)) × (line ≡ spaced (name_of word) rest)
    × Spells (form_of word) rest key)

-- it begins with no word of a form
abbrev pub IsUnknown : List ℕ → Type 0
IsUnknown line = (word : Word) (rest : Option (List ℕ)) → line ≢ spaced (name_of word) rest

-- it begins with a word of a form, and misspells its arguments
abbrev pub MisspellsLine : List ℕ → KeyFault → Type 0
MisspellsLine line fault =
    (word : Word) × (rest : Option (List ℕ)) × (line ≡ spaced (name_of word) rest)
    × Misspells (form_of word) rest fault

-- it is no key line, for a fault
abbrev pub IsNoKeyLine : List ℕ → KeyFault → Type 0
IsNoKeyLine line TooLong = LINE_LIMIT < length line
IsNoKeyLine line NotText = (length line ≤ LINE_LIMIT) × ¬ (IsUtf8 line)
IsNoKeyLine line UnknownWord = IsTextLine line × IsUnknown line
IsNoKeyLine line Missing = IsTextLine line × MisspellsLine line Missing
IsNoKeyLine line BadNumber = IsTextLine line × MisspellsLine line BadNumber
IsNoKeyLine line Surplus = IsTextLine line × MisspellsLine line Surplus
IsNoKeyLine line NoMemory = ⊥
