-- Reading expressions from the left. This project's own.
use Rattle.std.specs.Prelude.{ℕ, zero, suc, Bool, true, false, nat_eq, if◌then◌else◌}
use Rattle.std.specs.Prelude.{List, [], ◌∷◌, Option, Some, None, Ok}
use Rattle.wap_base.specs.Outcome.{◌>>=◌}
use Rattle.wap_value.specs.declared.operator.BinOp.{BinOp}
use Rattle.wap_value.specs.declared.operator.UnOp.{UnOp}
use Rattle.wap_grammar.specs.declared.program.expression.Literal.{Literal}
use Rattle.wap_grammar.specs.declared.program.program.Id.{Id}
use Rattle.wap_grammar.specs.declared.program.expression.Expr.{Expr}
use Rattle.wap_grammar.specs.declared.program.expression.Expr.TheVariants as expr
use Rattle.wap_grammar.specs.declared.callee.Callee.{Callee}
use Rattle.wap_grammar.specs.declared.callee.Callee.TheVariants as callee
use Rattle.wap_grammar.specs.declared.lexeme.Lexeme.{Lexeme}
use Rattle.wap_grammar.specs.declared.precedence.TheConstants.{UNARY, CONDITIONAL}
use Rattle.wap_grammar.specs.declared.precedence.TheConstants.{ASSIGNMENT, COMMA}
use Rattle.wap_grammar.specs.declared.word.Sign.TheVariants as sign
use Rattle.wap_grammar.specs.Lexemes.{unary_of, step_of, assignment_of, operator_of}
use Rattle.wap_grammar.specs.Lexemes.{is_sign, is_name, is_comma}
use Rattle.wap_grammar.specs.Values.{id_of, literal_of, called}
use Rattle.wap_grammar.specs.reading.TokenReading.{Reading, word_of, span_of, after, syntax, nested}
use Rattle.wap_grammar.specs.reading.TokenReading.{told, closed, id_at, Next, items_at}

-- expressions of a level of precedence, tightest first
abbrev pub Reader : Type 0
Reader = ℕ → List Lexeme → Reading Expr

-- ---- what a call names

unfoldable pub callee_after : List ℕ → Id → List Lexeme → Reading Callee
callee_after src id lexemes =
    if is_sign sign.Hash (word_of lexemes) then told (callee.External id) (id_at src
    (after lexemes)) else
    if is_sign sign.Dot (word_of lexemes) then told (callee.Library id) (id_at src
    (after lexemes)) else
    Ok (callee.Local id, lexemes)

unfoldable pub callee_at : List ℕ → List Lexeme → Reading Callee
callee_at src lexemes = id_at src lexemes >>= λ id. callee_after src id.0 id.1

-- ---- a variable

abbrev pub stepped : Id → List Lexeme → Option Bool → Reading Expr
stepped id lexemes (Some up) = Ok (expr.Step id up false, after lexemes)
stepped id lexemes None = Ok (expr.Var id, lexemes)

unfoldable pub variable_at : List ℕ → Callee → List Lexeme → Reading Expr
variable_at src (callee.Local id) lexemes = stepped id lexemes (step_of (word_of lexemes))
variable_at src (callee.External unit f) lexemes = syntax src lexemes
variable_at src (callee.Library library f) lexemes = syntax src lexemes

-- ---- with what stands one level deeper

unfoldable pub next_argument : Reader → Next Expr
next_argument inner lexemes =
    if is_comma (word_of lexemes) then told Some (inner ASSIGNMENT (after lexemes)) else Ok
    (None, lexemes)

-- arguments after their `(`
unfoldable pub arguments_at : List ℕ → Reader → List Lexeme → Reading (List Expr)
arguments_at src inner lexemes =
    if is_sign sign.Close (word_of lexemes) then Ok ([], after lexemes) else
    (inner ASSIGNMENT lexemes >>= λ first.
    items_at (next_argument inner) first.1 >>= λ others.
    closed src sign.Close (first.0 ∷ others.0, others.1))

unfoldable pub named_at : List ℕ → Reader → List Lexeme → Reading Expr
named_at src inner lexemes =
    callee_at src lexemes >>= λ name.
    if is_sign sign.Open (word_of name.1) then told (called name.0) (arguments_at src inner
    (after name.1)) else
    variable_at src name.0 name.1

abbrev pub primary_by : List ℕ → Reader → List Lexeme → Option Literal → Reading Expr
primary_by src inner lexemes (Some literal) = Ok (expr.Lit literal, after lexemes)
primary_by src inner lexemes None =
    if is_sign sign.Open (word_of lexemes) then (inner COMMA
    (after lexemes) >>= closed src sign.Close) else
    named_at src inner lexemes

unfoldable pub primary_at : List ℕ → Reader → List Lexeme → Reading Expr
primary_at src inner lexemes = primary_by src inner lexemes (literal_of src (span_of lexemes)
    (word_of lexemes))

abbrev pub prefixed : Bool → Id → Expr
prefixed up id = expr.Step id up true

abbrev pub step_by : List ℕ → Reader → List Lexeme → Option Bool → Reading Expr
step_by src inner lexemes (Some up) = told (prefixed up) (id_at src (after lexemes))
step_by src inner lexemes None = primary_at src inner lexemes

abbrev pub unary_by : List ℕ → Reader → List Lexeme → Option UnOp → Reading Expr
unary_by src inner lexemes (Some op) = told (expr.Unary op) (inner UNARY (after lexemes))
unary_by src inner lexemes None = step_by src inner lexemes (step_of (word_of lexemes))

unfoldable pub unary_at : List ℕ → Reader → List Lexeme → Reading Expr
unary_at src inner lexemes = unary_by src inner lexemes (unary_of (word_of lexemes))

-- operands of a level of precedence, from a reader of those of the next tighter one
abbrev pub operand_by : (List Lexeme → Reading Expr) → List Lexeme → Option BinOp →
    Reading (Option (BinOp × Expr))
operand_by tighter lexemes (Some op) = told (λ operand. Some (op, operand)) (tighter
    (after lexemes))
operand_by tighter lexemes None = Ok (None, lexemes)

unfoldable pub next_operand : ℕ → (List Lexeme → Reading Expr) → Next (BinOp × Expr)
next_operand level tighter lexemes = operand_by tighter lexemes (operator_of level
    (word_of lexemes))

-- operands of one level of precedence, which are an operand alone where there is no other
abbrev pub chained : Expr → List (BinOp × Expr) → Expr
chained first [] = first
chained first (pair ∷ pairs) = expr.Chain first (pair ∷ pairs)

unfoldable pub chain_at : ℕ → (List Lexeme → Reading Expr) → List Lexeme → Reading Expr
chain_at level tighter lexemes =
    tighter lexemes >>= λ first. told (chained first.0) (items_at
    (next_operand level tighter) first.1)

-- the branches of `?:` after the `?`
unfoldable pub branches_at : List ℕ → Reader → Expr → List Lexeme → Reading Expr
branches_at src inner condition lexemes =
    inner ASSIGNMENT lexemes >>= λ yes.
    closed src sign.Colon yes >>= λ yes.
    told (expr.Cond condition yes.0) (inner ASSIGNMENT yes.1)

unfoldable pub conditional_at : List ℕ → Reader → (List Lexeme → Reading Expr) → List Lexeme →
    Reading Expr
conditional_at src inner tighter lexemes =
    tighter lexemes >>= λ first.
    if is_sign sign.Question (word_of first.1) then branches_at src inner first.0
    (after first.1) else Ok first

abbrev pub assignment_by : List ℕ → Reader → (List Lexeme → Reading Expr) → List Lexeme → Bool →
    Option (Option BinOp) → Reading Expr
assignment_by src inner tighter lexemes true (Some op) =
    told (expr.Assign (id_of src (span_of lexemes)) op) (inner ASSIGNMENT (after (after lexemes)))
assignment_by src inner tighter lexemes true None = tighter lexemes
assignment_by src inner tighter lexemes false op = tighter lexemes

unfoldable pub assignment_at : List ℕ → Reader → (List Lexeme → Reading Expr) → List Lexeme →
    Reading Expr
assignment_at src inner tighter lexemes =
    assignment_by src inner tighter lexemes (is_name (word_of lexemes)) (assignment_of (word_of
    (after lexemes)))

abbrev pub looser_at : List ℕ → Reader → ℕ → (List Lexeme → Reading Expr) → List Lexeme →
    Reading Expr
looser_at src inner level tighter lexemes =
    if nat_eq level CONDITIONAL then conditional_at src inner tighter lexemes else
    if nat_eq level ASSIGNMENT then assignment_at src inner tighter lexemes else
    chain_at level tighter lexemes

-- at a level at which parts may stand, with a reader of those one level deeper
unfoldable pub part_at : List ℕ → Reader → Reader
part_at src inner zero = unary_at src inner
part_at src inner (suc level) = looser_at src inner (suc level) (part_at src inner level)

-- an expression with so many levels left for it and its parts
unfoldable pub expression_at : List ℕ → ℕ → Reader
expression_at src zero level lexemes = nested src lexemes
expression_at src (suc levels) level lexemes = part_at src (expression_at src levels) level lexemes
