-- `for` by what stands in its parentheses, and `while` as a condition and what is done.
use Rattle.std.proofs.Common.{◌≡◌, ℕ, List, Option, Result, Ok, Err, refl}
use Rattle.wap_base.specs.Outcome.{◌>>=◌}
use Rattle.wap_grammar.specs.declared.program.expression.Expr.{Expr}
use Rattle.wap_grammar.specs.declared.program.statement.Stmt.{Stmt}
use Rattle.wap_grammar.specs.declared.program.statement.Stmt.TheVariants as stmt
use Rattle.wap_grammar.specs.declared.fault.ParseFault.{ParseFault}
use Rattle.wap_grammar.specs.declared.lexeme.Lexeme.{Lexeme}
use Rattle.wap_grammar.specs.declared.word.Sign.TheVariants as sign
use Rattle.wap_grammar.specs.reading.TokenReading.{Reading, told, expect_at}
use Rattle.wap_grammar.specs.reading.Expressions.{Reader}
use Rattle.wap_grammar.specs.reading.Statements.{Statements, optional_at, initial_at}
use Rattle.wap_grammar.specs.reading.Statements.{condition_at, arm_at, while_at, for_at}
use Rattle.wap_parse.specs.inside.Headers.{limits_at, turns_at, header_at}

-- what is done first, the condition, and what is done after each turn
abbrev Header : Type 0
Header = Stmt × (Option Expr × Option Expr)

module _ (statement : Statements) where
  abbrev repeated : Header × List Lexeme → Reading Stmt
  repeated h = told (stmt.For h.0.0 h.0.1.0 h.0.1.1) (statement h.1)

  abbrev limited : (List Lexeme → Reading (Option Expr)) → Reading (Option Expr) →
      Reading (Option Expr × Option Expr)
  limited next condition = condition >>= λ c. told (λ update. (c.0, update)) (next c.1)

  abbrev with_first : Stmt → Reading (Option Expr × Option Expr) → Reading Header
  with_first first limits = told (λ found. (first, found)) limits

  by_update : (first : Stmt) (c : Option Expr) (update : Reading (Option Expr)) →
      (update >>= λ u. told (stmt.For first c u.0) (statement u.1))
      ≡ (with_first first (told (λ u. (c, u)) update) >>= repeated)
  by_update first c (Ok u) = refl
  by_update first c (Err f) = refl

  by_condition : (first : Stmt) (next : List Lexeme → Reading (Option Expr))
      (condition : Reading (Option Expr)) →
      (condition >>= λ c. next c.1 >>= λ u. told (stmt.For first c.0 u.0) (statement u.1))
      ≡ (with_first first (limited next condition) >>= repeated)
  by_condition first next (Ok c) = by_update first c.0 (next c.1)
  by_condition first next (Err f) = refl

  by_first : (one two : List Lexeme → Reading (Option Expr)) (first : Reading Stmt) →
      (first >>= λ f. one f.1 >>= λ c. two c.1 >>= λ u. told (stmt.For f.0 c.0 u.0) (statement u.1))
      ≡ ((first >>= λ f. with_first f.0 (limited two (one f.1))) >>= repeated)
  by_first one two (Ok f) = by_condition f.0 two (one f.1)
  by_first one two (Err f) = refl

  by_open : (one two : List Lexeme → Reading (Option Expr)) (initial : List Lexeme → Reading Stmt)
      (opened : Result (List Lexeme) ParseFault) →
      (opened >>= λ rest. initial rest >>= λ f. one f.1 >>= λ c. two c.1 >>= λ u.
      told (stmt.For f.0 c.0 u.0) (statement u.1))
      ≡ ((opened >>= λ rest. initial rest >>= λ f. with_first f.0 (limited two (one f.1)))
      >>= repeated)
  by_open one two initial (Ok rest) = by_first one two (initial rest)
  by_open one two initial (Err f) = refl

  by_body : (c : Expr) (body : Reading Stmt) →
      told (stmt.While c) body
      ≡ (told {B = Expr × Stmt} (λ s. (c, s)) body >>= λ arm.
      Ok (stmt.While arm.0.0 arm.0.1, arm.1))
  by_body c (Ok s) = refl
  by_body c (Err f) = refl

  by_held : (condition : Reading Expr) → (condition >>= λ c. told (stmt.While c.0) (statement c.1))
      ≡ ((condition >>= λ c. told {B = Expr × Stmt} (λ s. (c.0, s)) (statement c.1)) >>= λ arm.
      Ok (stmt.While arm.0.0 arm.0.1, arm.1))
  by_held (Ok c) = by_body c.0 (statement c.1)
  by_held (Err f) = refl

module _ (src : List ℕ) (inner : Reader) (statement : Statements) (lexemes : List Lexeme) where
  pub for_by_header : for_at src inner statement lexemes
      ≡ (header_at src inner lexemes >>= λ h. told (stmt.For h.0.0 h.0.1.0 h.0.1.1)
      (statement h.1))
  unfolding for_at header_at turns_at limits_at
  for_by_header =
      by_open statement (optional_at src inner sign.Semicolon) (optional_at src inner sign.Close)
      (initial_at src inner) (expect_at src sign.Open lexemes)

  pub while_by_arm : while_at src inner statement lexemes
      ≡ (arm_at src inner statement lexemes >>= λ arm. Ok (stmt.While arm.0.0 arm.0.1, arm.1))
  unfolding while_at arm_at
  while_by_arm = by_held statement (condition_at src inner lexemes)
