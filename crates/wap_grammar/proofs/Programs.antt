-- Programs and their tokens, worked. Each name is `f`, and all places are those of the source's
-- one byte.
use Rattle.std.proofs.Common.{◌≡◌, ℕ, zero, suc, true, false, List, [], ◌∷◌}
use Rattle.std.proofs.Common.{Some, None, Err, is_ok, codes, refl}
use Rattle.wap_value.specs.declared.operator.BinOp.TheVariants as op
use Rattle.wap_grammar.specs.declared.program.program.Span.{Span}
use Rattle.wap_grammar.specs.declared.program.expression.Expr.{Expr}
use Rattle.wap_grammar.specs.declared.program.expression.Expr.TheVariants as expr
use Rattle.wap_grammar.specs.declared.program.statement.Stmt.{Stmt}
use Rattle.wap_grammar.specs.declared.program.statement.Stmt.TheVariants as stmt
use Rattle.wap_grammar.specs.declared.program.program.Program.{Program}
use Rattle.wap_grammar.specs.declared.fault.ParseFault.TheVariants as fault
use Rattle.wap_grammar.specs.declared.lexeme.Lexeme.{Lexeme}
use Rattle.wap_grammar.specs.declared.word.Word.TheVariants as word
use Rattle.wap_grammar.specs.declared.word.Sign.{Sign}
use Rattle.wap_grammar.specs.declared.word.Sign.TheVariants as signs
use Rattle.wap_grammar.specs.Values.{id_of, literal_of}
use Rattle.wap_grammar.specs.Spellings.{token, name, sign}
use Rattle.wap_grammar.specs.Programs.{IsProgram}
use Rattle.wap_grammar.specs.reading.TokenReading.{expect_at, id_at, items_at}
use Rattle.wap_grammar.specs.reading.Expressions.{callee_after, callee_at, variable_at}
use Rattle.wap_grammar.specs.reading.Expressions.{named_at, primary_at, unary_at, next_operand}
use Rattle.wap_grammar.specs.reading.Expressions.{chain_at, conditional_at, assignment_at}
use Rattle.wap_grammar.specs.reading.Expressions.{part_at, expression_at}
use Rattle.wap_grammar.specs.reading.Statements.{optional_at, condition_at, next_statement}
use Rattle.wap_grammar.specs.reading.Statements.{block_at, arm_at, else_at, if_at, started_at}
use Rattle.wap_grammar.specs.reading.Statements.{statement_by, statement_at}
use Rattle.wap_grammar.specs.reading.Programs.{next_use, parameters_at, head_at}
use Rattle.wap_grammar.specs.reading.Programs.{function_at, next_function, program_at}
use Rattle.wap_grammar.proofs.Whole.{program_ok}

src : List ℕ
src = codes "f"

here : Span
here = record { from = 0; to = 1 }

f : Expr
f = expr.Var (id_of src here)

s : Sign → Lexeme
s t = sign t here

v : Lexeme
v = name here

-- function f ( ) { .. }
abbrev within : List Lexeme → List Lexeme
within body = s signs.Function ∷ v ∷ s signs.Open ∷ s signs.Close ∷ s signs.OpenBlock ∷ body

abbrev one_of : Stmt → Program
one_of body = record {
  uses = [];
  functions =
      record { name = id_of src here; external = false; params = []; body = body ∷ [] } ∷ [];
}

-- return f + f * f ;
sums : IsProgram src 64 (within (s signs.Return ∷ v ∷ token (word.Operator op.Add) here ∷ v ∷
    token (word.Operator op.Mul) here ∷ v ∷ s signs.Semicolon ∷ s signs.CloseBlock ∷ []))
    (one_of (stmt.Return (Some (expr.Chain f ((op.Add, expr.Chain f ((op.Mul, f) ∷ [])) ∷ [])))))
unfolding src here f s v program_at next_use next_function function_at head_at parameters_at
    block_at next_statement statement_at statement_by started_at optional_at expression_at
    part_at assignment_at conditional_at chain_at next_operand unary_at primary_at named_at
    callee_at callee_after variable_at literal_of id_at items_at expect_at
sums = program_ok src 64 _ _ refl

-- if ( f ) if ( f ) ; else ;
elses : IsProgram src 64 (within (s signs.If ∷ s signs.Open ∷ v ∷ s signs.Close ∷ s signs.If ∷
    s signs.Open ∷ v ∷ s signs.Close ∷ s signs.Semicolon ∷ s signs.Else ∷ s signs.Semicolon ∷
    s signs.CloseBlock ∷ []))
    (one_of (stmt.If f (stmt.If f stmt.Empty (Some stmt.Empty)) None))
unfolding src here f s v program_at next_use next_function function_at head_at parameters_at
    block_at next_statement statement_at statement_by started_at if_at arm_at
    else_at condition_at optional_at expression_at part_at assignment_at conditional_at chain_at
    next_operand unary_at primary_at named_at callee_at callee_after variable_at literal_of id_at
    items_at expect_at
elses = program_ok src 64 _ _ refl

-- so many parentheses around f
around : ℕ → List Lexeme → List Lexeme
around zero rest = v ∷ rest
around (suc n) rest = s signs.Open ∷ around n (s signs.Close ∷ rest)

abbrev returned : ℕ → List Lexeme
returned n = within (s signs.Return ∷ around n (s signs.Semicolon ∷ s signs.CloseBlock ∷ []))

deepest : is_ok (program_at src (statement_at src 64) (returned 62)) ≡ true
unfolding around src here f s v program_at next_use next_function function_at head_at parameters_at
    block_at next_statement statement_at statement_by started_at optional_at expression_at
    part_at assignment_at conditional_at chain_at next_operand unary_at primary_at named_at
    callee_at callee_after variable_at literal_of id_at items_at expect_at
deepest = refl

too_deep : program_at src (statement_at src 64) (returned 63) ≡ Err (fault.Nested 0)
unfolding around src here f s v program_at next_use next_function function_at head_at parameters_at
    block_at next_statement statement_at statement_by started_at optional_at expression_at
    part_at assignment_at conditional_at chain_at next_operand unary_at primary_at named_at
    callee_at callee_after variable_at literal_of id_at items_at expect_at
too_deep = refl
