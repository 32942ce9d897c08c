-- What a program needs constants and operators for, and the tokens that it is drawn from. This
-- project's own.
use Rattle.std.specs.Prelude.{◌≡◌, ℕ, List, [], ◌∷◌, ◌++◌, Option, Some, None}
use Rattle.std.specs.List.{flat_map}
use Rattle.wap_value.specs.Binary.{TakesBoth}
use Rattle.wap_grammar.specs.declared.program.program.Use.{Use}
use Rattle.wap_grammar.specs.declared.program.program.Use.TheVariants.{Url, Access, Agent, Note}
use Rattle.wap_grammar.specs.declared.program.program.Function.{Function}
use Rattle.wap_grammar.specs.declared.program.program.Program.{Program}
use Rattle.wap_grammar.specs.declared.program.expression.Literal.TheVariants.{Str}
use Rattle.wap_grammar.specs.declared.lexeme.Lexeme.{Lexeme}
use Rattle.wap_grammar.specs.declared.word.Word.TheVariants as word
use Rattle.wap_grammar.specs.Values.{literal_of}
use Rattle.wap_grammar.specs.Lexemes.{text_in}
pub use Rattle.wap_scope.specs.Among.{StandAmong, no_more, skip, here}
use Rattle.wap_meaning.specs.coding.Needs.{Need, Constant, Operator, Other, stmt_needs}

-- ---- what programs need

-- a text that may be missing
abbrev pub text_needs : Option (List ℕ) → List Need
text_needs None = []
text_needs (Some text) = Constant (Str text) ∷ []

-- the texts of a pragma
abbrev pub use_needs : Use → List Need
use_needs (Url u url) = Constant (Str url) ∷ []
use_needs (Access domain path span) = text_needs domain ++ text_needs path
use_needs (Agent name content scheme) =
    Constant (Str name) ∷ Constant (Str content) ∷ text_needs scheme
use_needs Note = []

-- what the statements of a function need
abbrev pub function_needs : Function → List Need
function_needs f = flat_map stmt_needs f.body

-- what a program needs
abbrev pub program_needs : Program → List Need
program_needs p = flat_map use_needs p.uses ++ flat_map function_needs p.functions

-- the operator of an assignment takes both values
abbrev pub HasOperator : Need → Type 0
HasOperator (Operator o) = TakesBoth o
HasOperator _ = Unit {0}

-- ---- the tokens

-- what a token stands for: a literal, the operator of an assignment, or the name of a function of
-- another unit; what else is needed may stand anywhere
abbrev pub StandsFor : List ℕ → Lexeme → Need → Type 0
StandsFor src token (Constant l) = literal_of src token.span token.word ≡ Some l
StandsFor src token (Operator o) = token.word ≡ word.Assign (Some o)
StandsFor src token (Other u f) =
    (token.word ≡ word.Name) × (f.name ≡ text_in src token.span)
StandsFor src token _ = Unit {0}

-- each need is drawn from one of the tokens from one place on up to another, in their order
abbrev pub Drawn : List ℕ → List Lexeme → List Need → List Lexeme → Type 0
Drawn src = StandAmong (StandsFor src)
