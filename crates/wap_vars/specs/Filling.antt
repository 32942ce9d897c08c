-- Values in which variables are referred to (WAP-191, section 10.3).
use Rattle.std.specs.Prelude.{ℕ, List, [], Option, Some, None}
use Rattle.std.specs.List.{flat_map}
use Rattle.std.specs.Str.{chars}
use Rattle.std.specs.Str.Lossy.{utf8_lossy}
use Rattle.wap_base.specs.declared.name.Conv.{Conv}
use Rattle.wap_base.specs.declared.name.Conv.TheVariants.{Escape, Unescape, Plain}
use Rattle.wap_base.specs.declared.name.Part.{Part}
use Rattle.wap_base.specs.declared.name.Part.TheVariants.{Lit, Var}
use Rattle.wap_url.specs.Escapes.{escaped, unescaped}
use Rattle.wap_vars.specs.Variables.{Variables, text_of}

-- the text as the reference asks for it (section 10.3.1): with escapes, with the bytes that escapes
-- stand for, or as it is. Unescaped bytes that are no UTF-8 are read as the Unicode Standard
-- advises (section 3.9): U+FFFD stands for each greatest part that begins no character.
abbrev pub converted : Conv → List ℕ → List ℕ
converted Escape text = escaped text
converted Unescape text = chars (utf8_lossy (unescaped text))
converted Plain text = text

-- what stands for a reference; a variable that isn't set is the empty text
abbrev pub text_for : Conv → Option (List ℕ) → List ℕ
text_for conv None = []
text_for conv (Some text) = converted conv text

-- the text of a part: plain text as it is, a reference from the variables
abbrev pub part_text : Variables → Part → List ℕ
part_text vars (Lit text) = text
part_text vars (Var name conv) = text_for conv (text_of vars name)

-- the parts' texts, one after the other
abbrev pub filled : Variables → List Part → List ℕ
filled vars parts = flat_map (part_text vars) parts

-- the value of an attribute, filled; without the attribute nothing
abbrev pub value_text : Variables → Option (List Part) → List ℕ
value_text vars None = []
value_text vars (Some parts) = filled vars parts
