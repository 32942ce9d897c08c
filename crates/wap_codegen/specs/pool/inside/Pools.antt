-- How the constants of a unit grow by what parts of its source need (WAP-193, section 9.4): in the
-- order of the first token that needs each. The order is this project's own.
use Rattle.std.specs.Prelude.{◌≡◌, List, [], ◌∷◌, ◌++◌}
use Rattle.std.specs.List.{flat_map}
use Rattle.wap_grammar.specs.declared.program.program.Use.{Use}
use Rattle.wap_grammar.specs.declared.program.program.Use.TheVariants.{Url, Access, Agent, Note}
use Rattle.wap_grammar.specs.declared.program.program.Program.{Program}
use Rattle.wap_grammar.specs.declared.program.expression.Literal.TheVariants as literal
use Rattle.wap_meaning.specs.coding.Constants.{Numbers, pooled}
use Rattle.wap_meaning.specs.coding.Needs.{Need, Constant, literals_of}
use Rattle.wap_meaning.specs.needs.Drawn.{text_needs, function_needs}

-- the constants of these needs are added one after the other, each where it isn't there yet, and
-- names mean what they meant
pub record Pools (needs : List Need) (old new : Numbers) : Type 0 where
  pub names : new.names ≡ old.names
  pub pool : new.pool ≡ pooled old.pool (flat_map (literals_of old.names) needs)

-- ---- what programs need

-- a pragma: the texts that the unit keeps; a URL is one where a call needs it
abbrev pub kept_needs : Use → List Need
kept_needs (Url unit url) = []
kept_needs (Access domain path span) = text_needs domain ++ text_needs path
kept_needs (Agent name content scheme) =
    Constant (literal.Str name) ∷ Constant (literal.Str content) ∷ text_needs scheme
kept_needs Note = []

-- a program: its pragmas stand before its functions
abbrev pub pooled_needs : Program → List Need
pooled_needs p = flat_map kept_needs p.uses ++ flat_map function_needs p.functions
