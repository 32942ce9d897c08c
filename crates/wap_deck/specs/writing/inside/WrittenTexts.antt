-- What is written for parts of texts and of values, which is the same. This project's own.
use Rattle.std.specs.Prelude.{ℕ, Bool, true, false, List, [], ◌∷◌, Option, Some, None}
use Rattle.wap_base.specs.Numbers.{mb_spelling}
use Rattle.wap_base.specs.declared.name.Part.{Part}
use Rattle.wap_base.specs.declared.name.Part.TheVariants.{Lit, Var}
use Rattle.wap_tokens.specs.declared.markup.codes.TheConstants.{ENTITY, STR_I}
use Rattle.wap_tokens.specs.markup.Writing.{runs_of}
use Rattle.wap_wbxml.specs.spelling.Writings.{Writing, plain, each}
use Rattle.wap_wbxml.specs.spelling.Names.{string}
use Rattle.wap_wbxml.specs.spelling.Spelling.{variable}

-- a string, or a U+0000 by its number
abbrev pub run_spelling : Option (List ℕ) → Writing
run_spelling None = plain (ENTITY ∷ mb_spelling 0)
run_spelling (Some text) = plain (STR_I ∷ string text)

abbrev pub part_spelling : Part → Writing
part_spelling (Lit text) = each run_spelling (runs_of text)
part_spelling (Var name conv) = plain (variable conv ∷ string name)

-- bit 6 of a tag, by whether content follows
abbrev pub content_bit : Bool → ℕ
content_bit true = 64
content_bit false = 0

-- whether there is one
abbrev pub has_any : {A : Type 0} → List A → Bool
has_any [] = false
has_any (x ∷ xs) = true
