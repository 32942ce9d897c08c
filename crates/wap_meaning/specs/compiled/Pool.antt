-- Which constants the unit of a program has (WAP-193, section 9.4; their order is this project's
-- own): each distinct integer and text once, by the first token of the source that needs it.
use Rattle.std.specs.Prelude.{ℕ, List, [], ◌∷◌, ◌++◌, Option, Some, None}
use Rattle.std.specs.List.{flat_map}
use Rattle.wap_grammar.specs.declared.program.program.Use.{Use}
use Rattle.wap_grammar.specs.declared.program.program.Use.TheVariants.{Access, Agent}
use Rattle.wap_grammar.specs.declared.program.program.Function.{Function}
use Rattle.wap_grammar.specs.declared.program.program.Program.{Program}
use Rattle.wap_grammar.specs.declared.program.expression.Literal.{Literal}
use Rattle.wap_grammar.specs.declared.program.expression.Literal.TheVariants.{Str}
use Rattle.wap_meaning.specs.Names.{names_in}
use Rattle.wap_meaning.specs.coding.Constants.{pooled}
use Rattle.wap_meaning.specs.coding.Needs.{stmt_needs, literals_of}

-- a text that may be missing
abbrev pub text_if : Option (List ℕ) → List Literal
text_if None = []
text_if (Some text) = Str text ∷ []

-- the texts that a pragma puts into the unit; the URL of another unit is needed where a function of
-- it is called, and not before
abbrev pub use_literals : Use → List Literal
use_literals (Access domain path span) = text_if domain ++ text_if path
use_literals (Agent name content scheme) = Str name ∷ Str content ∷ text_if scheme
use_literals _ = []

-- the integers and texts that a function of a program needs, as often as it needs them
abbrev pub function_literals : Program → Function → List Literal
function_literals p f =
    flat_map (literals_of (names_in p f)) (flat_map stmt_needs f.body)

-- those that a program needs, in the order of its source
unfoldable pub literals_needed : Program → List Literal
literals_needed p =
    flat_map use_literals p.uses ++ flat_map (function_literals p) p.functions

-- each of them once, where it is needed first
unfoldable pub pool : Program → List Literal
pool p = pooled [] (literals_needed p)
