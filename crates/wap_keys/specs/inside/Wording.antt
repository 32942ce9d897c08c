-- What a line says, by its word and by what follows that, which may be no UTF-8. This project's
-- own.
use Rattle.std.specs.Prelude.{◌≡◌, if◌then◌else◌, ℕ, List, Option, Some, None, Result, Ok, Err}
use Rattle.std.specs.Borrow.{Bor}
use Rattle.std.specs.Option.{option_map}
use Rattle.std.specs.Str.{IsUtf8, is_utf8}
use Rattle.wap_base.specs.declared.key.Key.{Key}
use Rattle.wap_keys.specs.declared.fault.KeyFault.{KeyFault}
use Rattle.wap_keys.specs.declared.fault.KeyFault.TheVariants.{NotText, UnknownWord}
use Rattle.wap_keys.specs.declared.word.Word.{Word}
use Rattle.wap_keys.specs.Forms.{form_of, key_by}

-- the key of a word and what follows it
abbrev pub key_of_rest : Word → Option (List ℕ) → Result Key KeyFault
key_of_rest word None = key_by (form_of word) None
key_of_rest word (Some bytes) =
    if is_utf8 bytes then key_by (form_of word) (Some bytes) else Err NotText

-- why a line is no key line that begins with no word of a form
abbrev pub unknown_fault : List ℕ → KeyFault
unknown_fault line = if is_utf8 line then UnknownWord else NotText

-- what follows a word, if something does, was read as text; or it is none
abbrev pub IsTextOrNone : Option (List ℕ) → Type 0
IsTextOrNone None = Unit {0}
IsTextOrNone (Some bytes) = IsUtf8 bytes

abbrev pub IsRestText : Option (List ℕ) → Result (Option (Bor (List ℕ))) KeyFault → Type 0
IsRestText rest (Ok text) = (option_map (λ text. text.now) text ≡ rest) × IsTextOrNone rest
IsRestText rest (Err fault) =
    (fault ≡ NotText) × ((bytes : List ℕ) × (rest ≡ Some bytes) × ¬ (IsUtf8 bytes))
