-- Where the first part of a program begins that is deeper than so many levels. This project's own.
use Rattle.std.specs.Prelude.{ℕ, zero, suc, ◌<◌, List, length}
use Rattle.wap_grammar.specs.declared.program.program.Program.{Program}
use Rattle.wap_grammar.specs.declared.program.statement.Stmt.{Stmt}
use Rattle.wap_grammar.specs.declared.lexeme.Lexeme.{Lexeme}
use Rattle.wap_grammar.specs.Spellings.{Spelling}
use Rattle.wap_grammar.specs.Expressions.{Expressions, IsPart, IsExpression}
use Rattle.wap_grammar.specs.Statements.{IsStatementOf, IsStatement}
use Rattle.wap_grammar.specs.Programs.{IsProgramOf}
use Rattle.wap_grammar.specs.Refusal.{IsPast}

-- an expression whose parts are spelled by the grammar at so many levels from its own on; what is
-- deeper is as Deep says
unfoldable pub IsExpressionOver : List ℕ → Expressions → ℕ → Expressions
IsExpressionOver src Deep zero level x e y = Deep level x e y
IsExpressionOver src Deep (suc levels) level x e y =
    IsPart src (IsExpressionOver src Deep levels) level x e y

-- a statement in the same way; a statement that is deeper is as Below says
unfoldable pub IsStatementOver : List ℕ → Expressions → Spelling Stmt → ℕ → Spelling Stmt
IsStatementOver src Deep Below zero x s y = Below x s y
IsStatementOver src Deep Below (suc levels) x s y =
    IsStatementOf src (IsExpressionOver src Deep levels) (IsStatementOver src Deep Below levels)
    x s y

-- what begins where fewer tokens than so many are left
abbrev pub IsLate : {A : Type 0} → ℕ → Spelling A → Spelling A
IsLate most Is x a y = (length x < most) × Is x a y

-- all tokens spell a program; its parts that are deeper than the limit have so many levels more at
-- most, and each of them begins where fewer tokens than so many are left
abbrev pub IsProgramLate : List ℕ → ℕ → ℕ → ℕ → List Lexeme → Program → Type 0
IsProgramLate src limit more most =
    IsProgramOf src (IsStatementOver src (λ level. IsLate most (IsExpression src more level))
    (IsLate most (IsStatement src more)) limit)

-- the first part of a program that is deeper than the limit begins at a place
pub record IsFirstBelow (src : List ℕ) (limit : ℕ) (lexemes : List Lexeme) (program : Program)
    (at : ℕ) : Type 0 where
  -- the place, with the tokens before it and from it on
  pub past : IsPast src limit lexemes at
  -- how many more levels are enough for the program
  pub more : ℕ
  -- each such part begins there or later
  pub from : IsProgramLate src limit more (suc (length past.rest)) lexemes program
  -- and not each of them begins later
  pub here : IsProgramLate src limit more (length past.rest) lexemes program → ⊥
