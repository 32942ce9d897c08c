-- Which programs have a unit. This project's own.
use Rattle.std.specs.Prelude.{ℕ, ◌<◌, ◌≤◌, ◌^◌, List, length}
use Rattle.std.specs.List.{All}
use Rattle.wap_lex.specs.declared.token.Token.{Token}
use Rattle.wap_lex.specs.Tokens.{AreTokens}
use Rattle.wap_grammar.specs.declared.precedence.TheConstants.{LEVEL_LIMIT}
use Rattle.wap_grammar.specs.Lexemes.{lexemes_of}
use Rattle.wap_grammar.specs.Programs.{IsProgram}
use Rattle.wap_grammar.specs.declared.program.program.Program.{Program}
use Rattle.wap_scope.specs.Scoped.{IsScoped}
use Rattle.wap_meaning.specs.compiled.Pool.{pool}
use Rattle.wap_meaning.specs.compiled.Wide.{function_wide}

-- how many constants a unit may have: an instruction has two bytes for the number of one
abbrev pub most_constants : ℕ
most_constants = 65536

-- how many bytes the wide code of a function may have: a jump has two bytes for its distance
abbrev pub most_code : ℕ
most_code = 65535

-- the tokens of a source spell a program without parts that are too deep
pub record IsSourceOf (source : List ℕ) (p : Program) : Type 0 where
  pub tokens : List Token
  pub are_tokens : AreTokens source tokens
  pub spells : IsProgram source LEVEL_LIMIT (lexemes_of source tokens) p

-- a unit has room for a program
pub record HasRoom (p : Program) : Type 0 where
  pub constants : length (pool p) ≤ most_constants
  pub code : All (λ f. function_wide f ≤ most_code) p.functions

-- a source of fewer than 2^31 bytes is that of a program whose names are in order, and for which a
-- unit has room
pub record IsAccepted (source : List ℕ) (p : Program) : Type 0 where
  pub short : length source < 2 ^ 31
  pub spells : IsSourceOf source p
  pub scoped : IsScoped p
  pub room : HasRoom p
