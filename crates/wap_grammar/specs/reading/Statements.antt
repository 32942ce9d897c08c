-- Reading statements from the left. This project's own.
use Rattle.std.specs.Prelude.{ℕ, zero, suc, if◌then◌else◌, List, ◌∷◌, Option, Some, None, Ok}
use Rattle.wap_base.specs.Outcome.{◌>>=◌}
use Rattle.wap_grammar.specs.declared.program.program.Id.{Id}
use Rattle.wap_grammar.specs.declared.program.expression.Expr.{Expr}
use Rattle.wap_grammar.specs.declared.program.statement.Stmt.{Stmt}
use Rattle.wap_grammar.specs.declared.program.statement.Stmt.TheVariants as stmt
use Rattle.wap_grammar.specs.declared.lexeme.Lexeme.{Lexeme}
use Rattle.wap_grammar.specs.declared.precedence.TheConstants.{ASSIGNMENT, COMMA}
use Rattle.wap_grammar.specs.declared.word.Sign.{Sign}
use Rattle.wap_grammar.specs.declared.word.Sign.TheVariants as sign
use Rattle.wap_grammar.specs.declared.start.Start.{Start}
use Rattle.wap_grammar.specs.declared.start.Start.TheVariants as start
use Rattle.wap_grammar.specs.Lexemes.{word_of, is_sign, is_comma, is_equals, start_of}
use Rattle.wap_grammar.specs.Statements.{done_first}
use Rattle.wap_grammar.specs.reading.TokenReading.{Reading, span_of, after, nested, told}
use Rattle.wap_grammar.specs.reading.TokenReading.{expect_at, closed, id_at, Next, items_at}
use Rattle.wap_grammar.specs.reading.Expressions.{Reader, expression_at}

-- an item after a comma, or none
unfoldable pub next_listed : {A : Type 0} → (List Lexeme → Reading A) → Next A
next_listed item lexemes = if is_comma (word_of lexemes) then told Some (item
    (after lexemes)) else Ok (None, lexemes)

unfoldable pub listed_at : {A : Type 0} → (List Lexeme → Reading A) → List Lexeme → Reading (List A)
listed_at item lexemes = item lexemes >>= λ first. told (λ others. first.0 ∷ others) (items_at
    (next_listed item) first.1)

abbrev pub valued : Id → Expr → Id × Option Expr
valued id e = (id, Some e)

unfoldable pub declaration_after : Reader → Id → List Lexeme → Reading (Id × Option Expr)
declaration_after inner id lexemes =
    if is_equals (word_of lexemes) then told (valued id) (inner ASSIGNMENT (after lexemes)) else Ok
    ((id, None), lexemes)

unfoldable pub declaration_at : List ℕ → Reader → List Lexeme → Reading (Id × Option Expr)
declaration_at src inner lexemes = id_at src lexemes >>= λ id. declaration_after inner id.0 id.1

-- what `var` declares, after the word
unfoldable pub variables_at : List ℕ → Reader → List Lexeme → Reading Stmt
variables_at src inner lexemes =
    told stmt.Vars (listed_at (declaration_at src inner) lexemes >>= closed src sign.Semicolon)

unfoldable pub closed_at : List ℕ → Sign → (List Lexeme → Reading Expr) → List Lexeme → Reading Expr
closed_at src s read lexemes = read lexemes >>= closed src s

unfoldable pub optional_at : List ℕ → Reader → Sign → List Lexeme → Reading (Option Expr)
optional_at src inner s lexemes =
    if is_sign s (word_of lexemes) then Ok (None, after lexemes) else told Some
    (inner COMMA lexemes >>= closed src s)

unfoldable pub initial_at : List ℕ → Reader → List Lexeme → Reading Stmt
initial_at src inner lexemes =
    if is_sign sign.Var (word_of lexemes) then variables_at src inner (after lexemes) else
    told done_first (optional_at src inner sign.Semicolon lexemes)

unfoldable pub condition_at : List ℕ → Reader → List Lexeme → Reading Expr
condition_at src inner lexemes =
    expect_at src sign.Open lexemes >>= λ rest. inner COMMA rest >>= closed src sign.Close

abbrev pub Statements : Type 0
Statements = List Lexeme → Reading Stmt

unfoldable pub next_statement : Statements → Next Stmt
next_statement statement lexemes =
    if is_sign sign.CloseBlock (word_of lexemes) then Ok (None, lexemes) else told Some
    (statement lexemes)

-- statements after a `{`, and the `}` after them
unfoldable pub block_at : List ℕ → Statements → List Lexeme → Reading (List Stmt)
block_at src statement lexemes = items_at (next_statement statement) lexemes >>= closed src
    sign.CloseBlock

-- a condition in parentheses, and a statement
unfoldable pub arm_at : List ℕ → Reader → Statements → List Lexeme → Reading (Expr × Stmt)
arm_at src inner statement lexemes =
    condition_at src inner lexemes >>= λ c. told (λ s. (c.0, s)) (statement c.1)

unfoldable pub else_at : Statements → List Lexeme → Reading (Option Stmt)
else_at statement lexemes =
    if is_sign sign.Else (word_of lexemes) then told Some (statement (after lexemes)) else Ok
    (None, lexemes)

unfoldable pub if_at : List ℕ → Reader → Statements → List Lexeme → Reading Stmt
if_at src inner statement lexemes =
    arm_at src inner statement lexemes >>= λ arm. told (stmt.If arm.0.0 arm.0.1)
    (else_at statement arm.1)

unfoldable pub while_at : List ℕ → Reader → Statements → List Lexeme → Reading Stmt
while_at src inner statement lexemes =
    condition_at src inner lexemes >>= λ c. told (stmt.While c.0) (statement c.1)

unfoldable pub for_at : List ℕ → Reader → Statements → List Lexeme → Reading Stmt
for_at src inner statement lexemes =
    expect_at src sign.Open lexemes >>= λ rest.
    initial_at src inner rest >>= λ first.
    optional_at src inner sign.Semicolon first.1 >>= λ c.
    optional_at src inner sign.Close c.1 >>= λ update.
    told (stmt.For first.0 c.0 update.0) (statement update.1)

-- a statement by what it begins with
unfoldable pub started_at : List ℕ → Reader → Statements → Start → List Lexeme → Reading Stmt
started_at src inner statement start.Empty lexemes = Ok (stmt.Empty, after lexemes)
started_at src inner statement start.Block lexemes = told stmt.Block (block_at src statement
    (after lexemes))
started_at src inner statement start.Vars lexemes = variables_at src inner (after lexemes)
started_at src inner statement start.If lexemes = if_at src inner statement (after lexemes)
started_at src inner statement start.While lexemes = while_at src inner statement (after lexemes)
started_at src inner statement start.For lexemes = for_at src inner statement (after lexemes)
started_at src inner statement start.Break lexemes = closed src sign.Semicolon (
  stmt.Break
      (span_of lexemes),
  after lexemes,
)
started_at src inner statement start.Continue lexemes = closed src sign.Semicolon (
  stmt.Continue
      (span_of lexemes),
  after lexemes,
)
started_at src inner statement start.Return lexemes = told stmt.Return
    (optional_at src inner sign.Semicolon (after lexemes))
started_at src inner statement start.Expression lexemes = told stmt.Expr
    (inner COMMA lexemes >>= closed src sign.Semicolon)

unfoldable pub statement_by : List ℕ → Reader → Statements → Statements
statement_by src inner statement lexemes =
    started_at src inner statement (start_of (word_of lexemes)) lexemes

-- a statement with so many levels left for it and its parts
unfoldable pub statement_at : List ℕ → ℕ → Statements
statement_at src zero lexemes = nested src lexemes
statement_at src (suc levels) lexemes = statement_by src (expression_at src levels)
    (statement_at src levels) lexemes
