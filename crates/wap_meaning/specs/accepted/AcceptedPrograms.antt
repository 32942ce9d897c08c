-- The program of a source that is accepted, by calculation: its tokens, the program that they
-- spell, and whether its names are in order and a unit has room for it. This project's own.
use Rattle.std.specs.Prelude.{ℕ, ◌^◌, nat_le, nat_lt, Bool, ◌&&◌, if◌then◌else◌, List, length}
use Rattle.std.specs.Prelude.{Option, Some, None, is_none, option_and_then, Result, Ok, Err}
use Rattle.std.specs.List.{list_all}
use Rattle.std.specs.Str.{is_utf8}
use Rattle.wap_lex.specs.declared.token.Token.{Token}
use Rattle.wap_lex.specs.declared.fault.LexFault.{LexFault}
use Rattle.wap_lex.specs.declared.fault.LexFault.TheVariants.{NotText}
use Rattle.wap_lex.specs.Calculation.{pieces_at}
use Rattle.wap_grammar.specs.declared.precedence.TheConstants.{LEVEL_LIMIT}
use Rattle.wap_grammar.specs.Lexemes.{lexemes_of}
use Rattle.wap_grammar.specs.reading.Statements.{statement_at}
use Rattle.wap_grammar.specs.reading.Programs.{program_at}
use Rattle.wap_grammar.specs.declared.program.program.Program.{Program}
use Rattle.wap_grammar.specs.declared.program.program.Function.{Function}
use Rattle.wap_scope.specs.Faults.{faults, first_fault}
use Rattle.wap_meaning.specs.compiled.Pool.{pool}
use Rattle.wap_meaning.specs.compiled.Wide.{function_wide}
use Rattle.wap_meaning.specs.compiled.Accepted.{most_constants, most_code}

-- the tokens of a source
abbrev pub tokens_at : List ℕ → Result (List Token) LexFault
tokens_at source = if is_utf8 source then pieces_at (length source) 0 source else Err NotText

-- what was read, if nothing was wrong
abbrev pub read : {F : Type 0} → Result Program F → Option Program
read (Ok p) = Some p
read (Err why) = None

-- the program that the tokens of a source spell
abbrev pub spelled_by : List ℕ → Result (List Token) LexFault → Option Program
spelled_by source (Ok tokens) =
    read (program_at source (statement_at source LEVEL_LIMIT) (lexemes_of source tokens))
spelled_by source (Err why) = None

-- the code of a function isn't too long
abbrev pub is_short : Function → Bool
is_short f = nat_le (function_wide f) most_code

-- the names of a program are in order, and a unit has room for it
unfoldable pub fits : Program → Bool
fits p =
    is_none (first_fault (faults p))
    && (nat_le (length (pool p)) most_constants && list_all is_short p.functions)

abbrev pub if_fits : Program → Option Program
if_fits p = if fits p then Some p else None

-- the program of a source that is accepted
unfoldable pub accepted_in : List ℕ → Option Program
accepted_in source =
    if nat_lt (length source) (2 ^ 31)
    then option_and_then if_fits (spelled_by source (tokens_at source))
    else None
