-- The unit that a program is compiled to (WAP-193, section 9; which constants and which code it has
-- is this project's own).
use Rattle.std.specs.Prelude.{ℕ, nat_lt, Bool, ◌&&◌, if◌then◌else◌, List, [], ◌∷◌, ◌++◌, length}
use Rattle.std.specs.Prelude.{map, Option, Some, None, encode_utf8_all}
use Rattle.std.specs.List.{flat_map, filter_map, enumerate_from}
use Rattle.wap_unit.specs.declared.unit.Unit.{Unit}
use Rattle.wap_unit.specs.declared.unit.Code.{Code}
use Rattle.wap_unit.specs.declared.unit.Pragma.{Pragma}
use Rattle.wap_unit.specs.declared.unit.Pragma.TheVariants.{Domain, Path, Property, Scheme}
use Rattle.wap_asm.specs.declared.form.Form.{Form}
use Rattle.wap_asm.specs.Placing.{placed}
use Rattle.wap_grammar.specs.declared.program.program.Use.{Use}
use Rattle.wap_grammar.specs.declared.program.program.Use.TheVariants.{Access, Agent}
use Rattle.wap_grammar.specs.declared.program.program.Function.{Function}
use Rattle.wap_grammar.specs.declared.program.program.Program.{Program}
use Rattle.wap_grammar.specs.declared.program.expression.Literal.{Literal}
use Rattle.wap_grammar.specs.declared.program.expression.Literal.TheVariants.{Str}
use Rattle.wap_meaning.specs.Names.{locals}
use Rattle.wap_meaning.specs.coding.Constants.{constant_for, place_in}
use Rattle.wap_meaning.specs.coding.Compiled.{function_code, numbers_in}
use Rattle.wap_meaning.specs.compiled.Pool.{pool}

-- ---- pragmas

-- the pragma of a text that may be missing
abbrev pub pragma_if : (List ℕ → Pragma) → Option (List ℕ) → List Pragma
pragma_if pragma None = []
pragma_if pragma (Some text) = pragma text ∷ []

-- a property for the browser, with a scheme or without, where texts have these numbers
abbrev pub property : (List ℕ → ℕ) → List ℕ → List ℕ → Option (List ℕ) → Pragma
property number name content None = Property (number name) (number content)
property number name content (Some scheme) =
    Scheme (number name) (number content) (number scheme)

-- the pragmas of the unit that a pragma of the source becomes
abbrev pub pragmas_of : (List ℕ → ℕ) → Use → List Pragma
pragmas_of number (Access domain path span) =
    pragma_if (λ text. Domain (number text)) domain ++ pragma_if (λ text. Path (number text)) path
pragmas_of number (Agent name content scheme) = property number name content scheme ∷ []
pragmas_of number _ = []

-- the number of a text among constants
abbrev pub text_place : List Literal → List ℕ → ℕ
text_place constants text = place_in (Str text) constants

-- ---- names

-- a name that the table of a unit has room for, with one byte for its length
abbrev pub is_short : List ℕ → Bool
is_short name = nat_lt (length (encode_utf8_all name)) 256

-- the entry of a function that comes with its index, if it is external
abbrev pub entry_of : ℕ × Function → Option (ℕ × List ℕ)
entry_of (index, f) =
    if f.external && is_short f.name.name then Some (index, f.name.name) else None

-- the entries of functions, in their order
abbrev pub entries : List Function → List (ℕ × List ℕ)
entries functions = filter_map entry_of (enumerate_from 0 functions)

-- ---- functions

-- the forms of a function's code
unfoldable pub forms_of : Program → Function → List Form
forms_of p f = (function_code (numbers_in p (pool p) f) f).forms None 0

-- a function: how many parameters and further variables it has, and its code
unfoldable pub compiled_function : Program → Function → Code
compiled_function p f = record {
  args = length f.params;
  locals = length (locals f);
  code = placed (forms_of p f);
}

-- ---- units

-- the unit of a program: of version 1.1, and its texts in UTF-8
unfoldable pub compiled : Program → Unit
compiled p = record {
  version = 1;
  charset = 106;
  constants = map constant_for (pool p);
  pragmas = flat_map (pragmas_of (text_place (pool p))) p.uses;
  names = entries p.functions;
  functions = map (compiled_function p) p.functions;
}
