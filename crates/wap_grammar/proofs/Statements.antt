-- Statements are read as they are spelled.
use Rattle.std.proofs.Common.{◌≡◌, ℕ, zero, suc, true, false, List, [], ◌∷◌}
use Rattle.std.proofs.Common.{Option, Ok, refl, sym, ap, subst, ◌∙◌, arith}
use Rattle.wap_base.specs.Outcome.{◌>>=◌}
use Rattle.wap_grammar.specs.declared.program.program.Span.{Span}
use Rattle.wap_grammar.specs.declared.program.expression.Expr.{Expr}
use Rattle.wap_grammar.specs.declared.program.statement.Stmt.{Stmt}
use Rattle.wap_grammar.specs.declared.program.statement.Stmt.TheVariants as stmt
use Rattle.wap_grammar.specs.declared.lexeme.Lexeme.{Lexeme}
use Rattle.wap_grammar.specs.declared.precedence.TheConstants.{COMMA}
use Rattle.wap_grammar.specs.declared.start.Start.{Start}
use Rattle.wap_grammar.specs.declared.start.Start.TheVariants as start
use Rattle.wap_grammar.specs.declared.word.Word.{Word}
use Rattle.wap_grammar.specs.declared.word.Word.TheVariants as word
use Rattle.wap_grammar.specs.declared.word.Sign.{Sign}
use Rattle.wap_grammar.specs.declared.word.Sign.TheVariants as signs
use Rattle.wap_grammar.specs.Lexemes.{word_of, is_same_sign, is_sign, start_of, start_by}
use Rattle.wap_grammar.specs.Spellings.{Spelling, token, sign, Several}
use Rattle.wap_grammar.specs.Expressions.{Expressions, IsExpression}
use Rattle.wap_grammar.specs.Statements as stated
use Rattle.wap_grammar.specs.Statements.{IsOptional, IsInitial, IsCondition, IsElse}
use Rattle.wap_grammar.specs.Statements.{IsStatementOf, IsStatement}
use Rattle.wap_grammar.specs.reading.TokenReading.{Reading, span_of, after, nested, told, closed}
use Rattle.wap_grammar.specs.reading.Expressions.{Reader, expression_at}
use Rattle.wap_grammar.specs.reading.Statements.{Statements, optional_at, condition_at}
use Rattle.wap_grammar.specs.reading.Statements.{arm_at, else_at, if_at, while_at, for_at}
use Rattle.wap_grammar.specs.reading.Statements.{started_at, statement_by, statement_at}
use Rattle.wap_grammar.proofs.Firsts.{starts, no_start}
use Rattle.wap_grammar.proofs.Items.{Reads, Implies, Shorter}
use Rattle.wap_grammar.proofs.Operands.{AllRead, AllStart}
use Rattle.wap_grammar.proofs.Levels.{reads_expression, expression_starts}
pub use Rattle.wap_grammar.proofs.Blocks.{ReadsStatements}
use Rattle.wap_grammar.proofs.Blocks.{reads_block}
use Rattle.wap_grammar.proofs.Elses.{reads_else}
use Rattle.wap_grammar.proofs.CommaLists.{Declared, reads_variables, reads_optional}
use Rattle.wap_grammar.proofs.CommaLists.{reads_initial, reads_condition}
use Rattle.wap_grammar.proofs.Productions.{Anything, Given, given, Made, made, Turn, turn, Behind}
use Rattle.wap_grammar.proofs.Productions.{behind, Before, before, reads_given, reads_made}
use Rattle.wap_grammar.proofs.Productions.{reads_then, reads_behind, reads_before}

-- the sign of its own that a statement begins with which is no expression
pub sign_for : Start → Sign
sign_for start.Empty = signs.Semicolon
sign_for start.Block = signs.OpenBlock
sign_for start.Vars = signs.Var
sign_for start.If = signs.If
sign_for start.While = signs.While
sign_for start.For = signs.For
sign_for start.Break = signs.Break
sign_for start.Continue = signs.Continue
sign_for start.Return = signs.Return
sign_for start.Expression = signs.Open

abbrev IsOther : Start → Type 0
IsOther k = k ≡ start.Expression → ⊥

sign_by : (t : Sign) (k : Start) → start_by t ≡ k → IsOther k → t ≡ sign_for k
unfolding sign_for
sign_by signs.Semicolon k e other = ap sign_for e
sign_by signs.OpenBlock k e other = ap sign_for e
sign_by signs.Var k e other = ap sign_for e
sign_by signs.If k e other = ap sign_for e
sign_by signs.While k e other = ap sign_for e
sign_by signs.For k e other = ap sign_for e
sign_by signs.Break k e other = ap sign_for e
sign_by signs.Continue k e other = ap sign_for e
sign_by signs.Return k e other = ap sign_for e
sign_by t k e other = absurd (other (sym e))

start_is : (w : Word) (k : Start) → start_of w ≡ k → IsOther k → w ≡ word.Sign (sign_for k)
start_is (word.Sign t) k e other = ap word.Sign (sign_by t k e other)
start_is word.Name k e other = absurd (other (sym e))
start_is w k e other = absurd (other (sym e))

start_first : (a : List Lexeme) (k : Start) → start_of (word_of a) ≡ k → IsOther k →
    a ≡ sign (sign_for k) (span_of a) ∷ after a
start_first [] k e other = absurd (other (sym e))
start_first (l ∷ x) k e other = ap (λ (w : Word). token w l.span ∷ x) (start_is l.word k e other)

start_again : (k : Start) → IsOther k →
    (start_by (sign_for k) ≡ k) × (is_same_sign signs.CloseBlock (sign_for k) ≡ false)
unfolding sign_for
start_again start.Expression other = absurd (other refl)
start_again start.Empty other = (refl, refl)
start_again k other = (refl, refl)

-- what begins an expression begins no other statement
start_plain : (s : Sign) → is_same_sign signs.Open s ≡ true → start_by s ≡ start.Expression
start_plain signs.Open e = refl
start_plain signs.Access e = refl
start_plain s e = absurd cc

pub starts_expression : (w : Word) → starts w ≡ true → start_of w ≡ start.Expression
starts_expression (word.Sign s) e = start_plain s e
starts_expression word.Name e = refl
starts_expression w e = refl

module _ (src : List ℕ) (Inner : Expressions) (inner : Reader) (deep : AllRead Inner inner)
    (begin : AllStart Inner)
    (Statement : Spelling Stmt) (statement : Statements)
    (inmost : ReadsStatements Statement statement) where
  abbrev reads : Reads Statement Anything statement
  reads = inmost.reads

  abbrev semicolon : Reads (IsOptional Inner signs.Semicolon) Anything
      (optional_at src inner signs.Semicolon)
  semicolon = reads_optional src Inner inner deep begin signs.Semicolon refl (omega arith) refl

  abbrev close : Reads (IsOptional Inner signs.Close) Anything (optional_at src inner signs.Close)
  close = reads_optional src Inner inner deep begin signs.Close refl (omega arith) refl

  abbrev conditions : Reads (IsCondition Inner) Anything (condition_at src inner)
  conditions = reads_condition src Inner inner deep begin

  abbrev elses : Reads (IsElse Statement) Anything (else_at statement)
  elses = reads_else Statement statement reads

  -- ---- each kind

  abbrev Here : Spelling Stmt
  Here = IsStatementOf src Inner Statement

  -- an expression, and the `;`
  abbrev Alone : Spelling Stmt
  Alone = Made stmt.Expr (Before signs.Semicolon (Inner COMMA))

  reads_alone : Reads Alone Anything (λ a. told stmt.Expr (inner COMMA a >>= closed src
      signs.Semicolon))
  reads_alone = reads_made stmt.Expr (reads_before src signs.Semicolon refl (deep COMMA)
      (λ span b. omega arith))

  -- what follows the sign of a statement of this kind, whose place is given
  abbrev Follows : Span → Start → Spelling Stmt
  Follows w start.Empty = Given stmt.Empty
  Follows w start.Block = Made stmt.Block (Before signs.CloseBlock (Several Statement))
  Follows w start.Vars = Declared src Inner inner deep begin
  Follows w start.If = Turn {A = Expr × Stmt}
      (Turn (IsCondition Inner) (λ c. Made (λ s. (c, s)) Statement)) (λ arm. Made (stmt.If arm.0
      arm.1) (IsElse Statement))
  Follows w start.While = Turn (IsCondition Inner) (λ c. Made (stmt.While c) Statement)
  Follows w start.For = Behind (word.Sign signs.Open) (Turn (IsInitial src Inner) (λ first.
      Turn (IsOptional Inner signs.Semicolon) (λ c. Turn (IsOptional Inner signs.Close) (λ update.
      Made (stmt.For first c update) Statement))))
  Follows w start.Break = Before signs.Semicolon (Given (stmt.Break w))
  Follows w start.Continue = Before signs.Semicolon (Given (stmt.Continue w))
  Follows w start.Return = Made stmt.Return (IsOptional Inner signs.Semicolon)
  Follows w start.Expression = Alone

  reads_follows : (w : Span) (k : Start) → IsOther k → Reads (Follows w k) Anything
      (λ a. started_at src inner statement k (sign (sign_for k) w ∷ a))
  unfolding started_at if_at arm_at while_at for_at
  reads_follows w start.Empty other = reads_given stmt.Empty
  reads_follows w start.Block other =
      reads_made stmt.Block (reads_block src Statement statement inmost)
  reads_follows w start.Vars other = reads_variables src Inner inner deep begin
  reads_follows w start.If other = reads_then (reads_then conditions
      (λ c. reads_made (λ s. (c, s)) reads)) (λ arm. reads_made (stmt.If arm.0 arm.1) elses)
  reads_follows w start.While other = reads_then conditions (λ c. reads_made (stmt.While c) reads)
  reads_follows w start.For other = reads_behind src signs.Open refl
      (reads_then (reads_initial src Inner inner deep begin) (λ first. reads_then semicolon (λ c.
      reads_then close (λ update. reads_made (stmt.For first c update) reads))))
  reads_follows w start.Break other =
      reads_before src signs.Semicolon refl (reads_given {E = Anything} (stmt.Break w)) (λ span b.
      tt)
  reads_follows w start.Continue other =
      reads_before src signs.Semicolon refl (reads_given {E = Anything} (stmt.Continue w))
      (λ span b. tt)
  reads_follows w start.Return other = reads_made stmt.Return semicolon
  reads_follows w start.Expression other = absurd (other refl)

  -- ---- statements by their parts

  if_from : (w : Span) (a y z b : List Lexeme) (c : Expr) → IsCondition Inner a c y →
      (arm : Expr × Stmt) → Made (λ s. (c, s)) Statement y arm z → (s : Stmt) →
      Made (stmt.If arm.0 arm.1) (IsElse Statement) z s b → Here (sign signs.If w ∷ a) s b
  if_from w a y z b c one arm (made y' z' t two) s (made z2 b' other three) =
      stated.if_ w a y z b c t other one two three

  while_from : (w : Span) (a y b : List Lexeme) (c : Expr) → IsCondition Inner a c y → (s : Stmt) →
      Made (stmt.While c) Statement y s b → Here (sign signs.While w ∷ a) s b
  while_from w a y b c one s (made y' b' t two) = stated.while w a y b c t one two

  for_from : (w left : Span) (a y z u b : List Lexeme) (first : Stmt) (c update : Option Expr) →
      IsInitial src Inner a first y → IsOptional Inner signs.Semicolon y c z →
      IsOptional Inner signs.Close z update u → (s : Stmt) →
      Made (stmt.For first c update) Statement u s b →
      Here (sign signs.For w ∷ sign signs.Open left ∷ a) s b
  for_from w left a y z u b first c update one two three s (made u' b' t four) =
      stated.for w left a y z u b first t c update one two three four

  follows_from : (w : Span) (k : Start) → IsOther k → (a : List Lexeme) (s : Stmt)
      (b : List Lexeme) → Follows w k a s b → Here (sign (sign_for k) w ∷ a) s b
  unfolding sign_for
  follows_from w start.Empty other a s b (given a') = stated.empty w a
  follows_from w start.Block other a s b (made a' b' ss (before right a2 b2 ss' are)) =
      stated.block w right a b ss are
  follows_from w start.Vars other a s b (made a' b' ds (before end a2 b2 ds' are)) =
      stated.IsStatementOf.variables w end a b ds are
  follows_from w start.If other a s b (turn a' z b' arm s' (turn a2 y z' c arm' one two) three) =
      if_from w a y z b c one arm two s three
  follows_from w start.While other a s b (turn a' y b' c s' one two) =
      while_from w a y b c one s two
  follows_from w start.For other a s b (behind left x b' s' (turn x' y b2 first s2 one
      (turn y' z b3 c s3 two (turn z' u b4 update s4 three four)))) =
      for_from w left x y z u b first c update one two three s four
  follows_from w start.Break other a s b (before end a' b' s' (given a2)) = stated.break w end b
  follows_from w start.Continue other a s b (before end a' b' s' (given a2)) =
      stated.continue w end b
  follows_from w start.Return other a s b (made a' b' e one) = stated.return w a b e one
  follows_from w start.Expression other a s b is = absurd (other refl)

  alone_from : Implies Alone Here
  alone_from a s b (made a' b' e (before end a2 b2 e' one)) =
      stated.IsStatementOf.expression end a b e one

  -- a statement is an expression, or follows its sign
  data Started : List Lexeme → Stmt → List Lexeme → Type 0 where
    alone : (a b : List Lexeme) (s : Stmt) → Alone a s b → Started a s b
    begun : (w : Span) (k : Start) (a b : List Lexeme) (s : Stmt) → IsOther k →
        Follows w k a s b → Started (sign (sign_for k) w ∷ a) s b

  started : Implies Here Started
  unfolding sign_for
  started a s b (stated.IsStatementOf.expression end a' b' e one) =
      alone a b s (made a b e (before end a b e one))
  started a s b (stated.empty w x) = begun w start.Empty x b s (λ e. absurd cc) (given x)
  started a s b (stated.block w right x b' ss are) =
      begun w start.Block x b s (λ e. absurd cc) (made x b ss (before right x b ss are))
  started a s b (stated.IsStatementOf.variables w end x b' ds are) =
      begun w start.Vars x b s (λ e. absurd cc) (made x b ds (before end x b ds are))
  started a s b (stated.if_ w x y z b' c t other one two three) =
      begun w start.If x b s (λ e. absurd cc) (turn x z b (c, t) s
      (turn x y z c (c, t) one (made y z t two)) (made z b other three))
  started a s b (stated.while w x y b' c t one two) =
      begun w start.While x b s (λ e. absurd cc) (turn x y b c s one (made y b t two))
  started a s b (stated.for w left x y z u b' first t c update one two three four) =
      begun w start.For (sign signs.Open left ∷ x) b s (λ e. absurd cc)
      (behind left x b s (turn x y b first s one (turn y z b c s two
      (turn z u b update s three (made u b t four)))))
  started a s b (stated.break w end x) =
      begun w start.Break _ b s (λ e. absurd cc) (before end _ b s (given _))
  started a s b (stated.continue w end x) =
      begun w start.Continue _ b s (λ e. absurd cc) (before end _ b s (given _))
  started a s b (stated.return w x b' e one) =
      begun w start.Return x b s (λ e. absurd cc) (made x b e one)

  begun_ok : (k : Start) (a : List Lexeme) (s : Stmt) (b : List Lexeme) → IsOther k →
      start_of (word_of a) ≡ k → started_at src inner statement k a ≡ Ok (s, b) → Here a s b
  begun_ok k a s b other is e =
      let whole = start_first a k is other in
      subst (λ c. Here c s b) (sym whole) (follows_from (span_of a) k other (after a) s b
      ((reads_follows (span_of a) k other).takes (after a) s b
      (ap (started_at src inner statement k) (sym whole) ∙ e)))

  statement_ok : (k : Start) (a : List Lexeme) (s : Stmt) (b : List Lexeme) →
      start_of (word_of a) ≡ k → started_at src inner statement k a ≡ Ok (s, b) → Here a s b
  unfolding started_at
  statement_ok start.Expression a s b is e = alone_from a s b (reads_alone.takes a s b e)
  statement_ok start.Empty a s b is e = begun_ok start.Empty a s b (λ q. absurd cc) is e
  statement_ok k a s b is e = begun_ok k a s b (λ q. absurd cc) is e

  -- what begins an expression is read as one
  alone_start : (a : List Lexeme) (s : Stmt) (b : List Lexeme) → Alone a s b →
      starts (word_of a) ≡ true
  alone_start a s b (made a' b' e (before end a2 b2 e' one)) = begin COMMA a e _ one

  started_again : (a : List Lexeme) (s : Stmt) (b : List Lexeme) → Started a s b →
      statement_by src inner statement a ≡ Ok (s, b)
  unfolding statement_by started_at
  started_again a s b (alone a' b' s' is) =
      ap (λ (k : Start). started_at src inner statement k a)
      (starts_expression (word_of a) (alone_start a s b is)) ∙ reads_alone.again a s b is tt
  started_again a s b (begun w k x b' s' other is) =
      ap (λ (j : Start). started_at src inner statement j (sign (sign_for k) w ∷ x))
      (start_again k other).0 ∙ (reads_follows w k other).again x s b is tt

  started_shorter : Shorter Started
  started_shorter a s b (alone a' b' s' (made a2 b2 e (before end a3 b3 e' one))) =
      omega (arith, (deep COMMA).within a e (sign signs.Semicolon end ∷ b) one)
  started_shorter a s b (begun w k x b' s' other is) =
      omega (arith, (reads_follows w k other).within x s b is)

  -- no statement begins with `}`
  started_inside : (a : List Lexeme) (s : Stmt) (b : List Lexeme) → Started a s b →
      is_sign signs.CloseBlock (word_of a) ≡ false
  started_inside a s b (alone a' b' s' is) =
      no_start signs.CloseBlock a refl (alone_start a s b is)
  started_inside a s b (begun w k x b' s' other is) = (start_again k other).1

  pub reads_of : ReadsStatements Here (statement_by src inner statement)
  unfolding statement_by
  reads_of = record {
    reads = record {
      takes = λ a s b e. statement_ok (start_of (word_of a)) a s b refl e;
      again = λ a s b is any. started_again a s b (started a s b is);
      within = λ a s b is. omega (arith, started_shorter a s b (started a s b is));
    };
    shorter = λ a s b is. started_shorter a s b (started a s b is);
    inside = λ a s b is. started_inside a s b (started a s b is);
  }

-- ---- all depths

statement_nested : (src : List ℕ) (a b : List Lexeme) (s : Stmt) →
    ◌≡◌ {A = Reading Stmt} (nested src a) (Ok (s, b)) → ⊥
statement_nested src a b s e = absurd cc

pub reads_statements : (src : List ℕ) (levels : ℕ) → ReadsStatements (IsStatement src levels)
    (statement_at src levels)
unfolding IsStatement statement_at
reads_statements src zero = record {
  reads = record {
    takes = λ a s b e. absurd (statement_nested src a b s e);
    again = λ a s b is any. absurd is;
    within = λ a s b is. absurd is;
  };
  shorter = λ a s b is. absurd is;
  inside = λ a s b is. absurd is;
}
reads_statements src (suc levels) =
    reads_of src (IsExpression src levels) (expression_at src levels) (reads_expression src levels)
    (expression_starts src levels)
    (IsStatement src levels) (statement_at src levels) (reads_statements src levels)
