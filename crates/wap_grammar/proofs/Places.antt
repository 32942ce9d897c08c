-- Expressions and statements read with parts too deep at some places: the readings part at the
-- first such part.
use Rattle.std.proofs.Common.{ℕ, zero, suc, ◌<◌, Bool, true, false, List, [], ◌∷◌}
use Rattle.std.proofs.Common.{length, Option, Some, None, refl}
use Rattle.wap_value.specs.declared.operator.BinOp.{BinOp}
use Rattle.wap_value.specs.declared.operator.UnOp.{UnOp}
use Rattle.wap_grammar.specs.declared.program.expression.Literal.{Literal}
use Rattle.wap_grammar.specs.declared.program.expression.Expr.{Expr}
use Rattle.wap_grammar.specs.declared.program.expression.Expr.TheVariants as expr
use Rattle.wap_grammar.specs.declared.program.program.Id.{Id}
use Rattle.wap_grammar.specs.declared.program.statement.Stmt.TheVariants as stmt
use Rattle.wap_grammar.specs.declared.callee.Callee.{Callee}
use Rattle.wap_grammar.specs.declared.callee.Callee.TheVariants as callee
use Rattle.wap_grammar.specs.declared.lexeme.Lexeme.{Lexeme}
use Rattle.wap_grammar.specs.declared.precedence.TheConstants.{UNARY, ASSIGNMENT, COMMA}
use Rattle.wap_grammar.specs.declared.start.Start.{Start}
use Rattle.wap_grammar.specs.declared.start.Start.TheVariants as start
use Rattle.wap_grammar.specs.declared.word.Sign.TheVariants as signs
use Rattle.wap_grammar.specs.declared.word.Sign.{Sign}
use Rattle.wap_grammar.specs.Lexemes.{word_of, unary_of, step_of, assignment_of, operator_of}
use Rattle.wap_grammar.specs.Lexemes.{is_sign, is_name, start_of}
use Rattle.wap_grammar.specs.Values.{id_of, literal_of, called}
use Rattle.wap_grammar.specs.Statements.{done_first}
use Rattle.wap_grammar.specs.reading.TokenReading.{Reading, span_of}
use Rattle.wap_grammar.specs.reading.Expressions.{Reader, chained, callee_after, callee_at}
use Rattle.wap_grammar.specs.reading.Expressions.{prefixed, stepped, variable_at, next_argument}
use Rattle.wap_grammar.specs.reading.Expressions.{arguments_at, named_at, primary_by, primary_at}
use Rattle.wap_grammar.specs.reading.Expressions.{step_by, unary_by, unary_at, operand_by}
use Rattle.wap_grammar.specs.reading.Expressions.{next_operand, chain_at, branches_at}
use Rattle.wap_grammar.specs.reading.Expressions.{conditional_at, assignment_by, assignment_at}
use Rattle.wap_grammar.specs.reading.Expressions.{part_at}
use Rattle.wap_grammar.specs.reading.Statements.{Statements, next_listed, listed_at, valued}
use Rattle.wap_grammar.specs.reading.Statements.{declaration_after, declaration_at, variables_at}
use Rattle.wap_grammar.specs.reading.Statements.{optional_at, initial_at, condition_at}
use Rattle.wap_grammar.specs.reading.Statements.{next_statement, block_at, while_at, for_at, arm_at}
use Rattle.wap_grammar.specs.reading.Statements.{else_at, if_at, started_at, statement_by}
use Rattle.wap_grammar.proofs.Guards.{Guard, IsRest, Forks, Walks, sooner, gives, stops, by_first}
use Rattle.wap_grammar.proofs.Guards.{choose, behind, next, takes, then, tells, expects, closes}
use Rattle.wap_grammar.proofs.Guards.{names, many}

module _ (src : List ℕ) (whole : List Lexeme) (limit : ℕ) where
  abbrev Parts : {A : Type 0} → ℕ → (Guard → List Lexeme → Reading A) → Type 0
  Parts most r = Walks src whole limit most r

  -- what follows a first token, however it is read
  abbrev Behind : {A : Type 0} → ℕ → (Guard → List Lexeme → Reading A) → Lexeme → Type 0
  Behind most r l = (x : List Lexeme) → IsRest src whole limit (l ∷ x) →
      length (l ∷ x) < suc most → Forks src whole limit (length (l ∷ x)) (λ g. r g (l ∷ x))

  -- ---- names

  parts_behind : {most : ℕ} (id : Id) → Parts most (λ g. callee_after src id)
  unfolding callee_after
  parts_behind id = choose _ (next (tells (callee.External id) names))
      (choose _ (next (tells (callee.Library id) names)) (gives (callee.Local id)))

  parts_callee : {most : ℕ} → Parts most (λ g. callee_at src)
  unfolding callee_at
  parts_callee = then names parts_behind

  parts_variable : {most : ℕ} (f : Callee) → Parts most (λ g. variable_at src f)
  unfolding variable_at
  parts_variable (callee.Local id) = by_first (λ c. step_of (word_of c)) by_step where
    by_step : {most : ℕ} (o : Option Bool) → Parts most (λ g c. stepped id c o)
    by_step (Some up) = next (gives (expr.Step id up false))
    by_step None = gives (expr.Var id)
  parts_variable (callee.External unit f) = stops
  parts_variable (callee.Library library f) = stops

  -- ---- lists with commas

  pub parts_listed : {A : Type 0} {most : ℕ} {item : Guard → List Lexeme → Reading A} →
      Parts most item → Parts most (λ g. listed_at (item g))
  unfolding listed_at next_listed
  parts_listed one = then one (λ first. tells (λ others. first ∷ others)
      (many (choose _ (next (tells Some one)) (gives None))))

  -- ---- expressions, from a place with so many tokens left

  module _ (inner : Guard → Reader) (most : ℕ) (deep : (level : ℕ) →
      Parts most (λ g. inner g level)) where
    parts_arguments : Parts most (λ g. arguments_at src (inner g))
    unfolding arguments_at next_argument
    parts_arguments = choose _ (next (gives [])) (then (deep ASSIGNMENT) (λ first.
        then (many (choose _ (next (tells Some (deep ASSIGNMENT))) (gives None)))
        (λ others. closes signs.Close (gives (first ∷ others)))))

    parts_named : Parts (suc most) (λ g. named_at src (inner g))
    unfolding named_at
    parts_named = then parts_callee (λ f. takes (is_sign signs.Open) refl
        (tells (called f) parts_arguments) (parts_variable f))

    parts_primary : (l : Option Literal) → Parts (suc most) (λ g c. primary_by src (inner g) c l)
    parts_primary (Some l) = next (gives (expr.Lit l))
    parts_primary None = takes (is_sign signs.Open) refl (closes signs.Close (deep COMMA))
        parts_named

    parts_step : (o : Option Bool) → Parts (suc most) (λ g c. step_by src (inner g) c o)
    unfolding primary_at
    parts_step (Some up) = next (tells (prefixed up) names)
    parts_step None = by_first (λ c. literal_of src (span_of c) (word_of c)) parts_primary

    parts_unary : Parts (suc most) (λ g. unary_at src (inner g))
    unfolding unary_at
    parts_unary = record { forks = at } where
      plain : Parts (suc most) (λ g c. unary_by src (inner g) c None)
      plain = by_first (λ c. step_of (word_of c)) parts_step

      by_operator : (o : Option UnOp) (l : Lexeme) →
          Behind most (λ g c. unary_by src (inner g) c o) l
      by_operator (Some o) l = behind (tells (expr.Unary o) (deep UNARY)) l
      by_operator None l = λ x. plain.forks (l ∷ x)

      at : (c : List Lexeme) → IsRest src whole limit c → length c < suc most →
          Forks src whole limit (length c) (λ g. unary_by src (inner g) c (unary_of (word_of c)))
      at [] = plain.forks []
      at (l ∷ x) = by_operator (unary_of l.word) l x

    module _ (read : Guard → List Lexeme → Reading Expr) (tighter : Parts (suc most) read) where
      parts_chain : (level : ℕ) → Parts (suc most) (λ g. chain_at level (read g))
      unfolding chain_at next_operand
      parts_chain level = then tighter (λ first. tells (chained first)
          (many (by_first (λ c. operator_of level (word_of c)) by_operator))) where
            by_operator : (o : Option BinOp) → Parts (suc most) (λ g c. operand_by (read g) c o)
            by_operator (Some o) = tells (λ operand. Some (o, operand)) (next tighter)
            by_operator None = gives None

      parts_conditional : Parts (suc most) (λ g. conditional_at src (inner g) (read g))
      unfolding conditional_at branches_at
      parts_conditional = then tighter (λ first. takes (is_sign signs.Question) refl
          (then (deep ASSIGNMENT) (λ yes. then (closes signs.Colon (gives yes))
          (λ yes. tells (expr.Cond first yes) (deep ASSIGNMENT)))) (gives first))

      parts_assignment : Parts (suc most) (λ g. assignment_at src (inner g) (read g))
      unfolding assignment_at
      parts_assignment = record { forks = at } where
        by_word : (l : Lexeme) (named : Bool) (o : Option (Option BinOp)) →
            Behind most (λ g c. assignment_by src (inner g) (read g) c named o) l
        by_word l true (Some o) = behind (tells (expr.Assign (id_of src l.span) o)
            (next (deep ASSIGNMENT))) l
        by_word l true None = λ x. tighter.forks (l ∷ x)
        by_word l false o = λ x. tighter.forks (l ∷ x)

        at : (c : List Lexeme) → IsRest src whole limit c → length c < suc most →
            Forks src whole limit (length c) (λ g. assignment_at src (inner g) (read g) c)
        at [] = tighter.forks []
        at (l ∷ x) = by_word l (is_name l.word) (assignment_of (word_of x)) x

    pub parts_part : (level : ℕ) → Parts (suc most) (λ g. part_at src (inner g) level)
    unfolding part_at
    parts_part zero = parts_unary
    parts_part (suc level) =
        let tighter = parts_part level in
        let read = λ (g : Guard). part_at src (inner g) level in
        choose _ (parts_conditional read tighter)
        (choose _ (parts_assignment read tighter) (parts_chain read tighter (suc level)))

  -- ---- statements, from a place with so many tokens left

  module _ (statement : Guard → Statements) (most : ℕ)
      (below : Parts most (λ g. statement g)) where
    pub parts_block : Parts most (λ g. block_at src (statement g))
    unfolding block_at next_statement
    parts_block = closes signs.CloseBlock (many (choose _ (gives None) (tells Some below)))

    module _ (inner : Guard → Reader) (part : (level : ℕ) →
        Parts (suc most) (λ g. inner g level)) where
      parts_variables : Parts most (λ g. variables_at src (inner g))
      unfolding variables_at declaration_at declaration_after
      parts_variables = tells stmt.Vars (closes signs.Semicolon (parts_listed
          (then names (λ id. choose _ (next (tells (valued id) (sooner (part ASSIGNMENT))))
          (gives (id, None))))))

      parts_optional : (s : Sign) → Parts most (λ g. optional_at src (inner g) s)
      unfolding optional_at
      parts_optional s = choose _ (next (gives None))
          (tells Some (closes s (sooner (part COMMA))))

      parts_initial : Parts most (λ g. initial_at src (inner g))
      unfolding initial_at
      parts_initial = choose _ (next parts_variables)
          (tells done_first (parts_optional signs.Semicolon))

      parts_condition : Parts most (λ g. condition_at src (inner g))
      unfolding condition_at
      parts_condition = sooner (expects signs.Open (closes signs.Close (sooner (part COMMA))))

      parts_if : Parts most (λ g. if_at src (inner g) (statement g))
      unfolding if_at arm_at else_at
      parts_if = then (then parts_condition (λ c. tells (λ s. (c, s)) below)) (λ arm.
          tells (stmt.If arm.0 arm.1) (choose _ (next (tells Some below)) (gives None)))

      parts_while : Parts most (λ g. while_at src (inner g) (statement g))
      unfolding while_at
      parts_while = then parts_condition (λ c. tells (stmt.While c) below)

      parts_for : Parts most (λ g. for_at src (inner g) (statement g))
      unfolding for_at
      parts_for = sooner (expects signs.Open (then parts_initial (λ first.
          then (parts_optional signs.Semicolon) (λ c. then (parts_optional signs.Close) (λ update.
          tells (stmt.For first c update) below)))))

      alone : Parts (suc most) (λ g. started_at src (inner g) (statement g) start.Expression)
      unfolding started_at
      alone = tells stmt.Expr (closes signs.Semicolon (part COMMA))

      by_start : (k : Start) (l : Lexeme) →
          Behind most (λ g. started_at src (inner g) (statement g) k) l
      unfolding started_at
      by_start start.Empty l = behind (gives stmt.Empty) l
      by_start start.Block l = behind (tells stmt.Block parts_block) l
      by_start start.Vars l = behind parts_variables l
      by_start start.If l = behind parts_if l
      by_start start.While l = behind parts_while l
      by_start start.For l = behind parts_for l
      by_start start.Break l = behind (closes signs.Semicolon (gives (stmt.Break l.span))) l
      by_start start.Continue l = behind (closes signs.Semicolon (gives (stmt.Continue l.span))) l
      by_start start.Return l = behind (tells stmt.Return (parts_optional signs.Semicolon)) l
      by_start start.Expression l = λ x. alone.forks (l ∷ x)

      pub parts_statement : Parts (suc most) (λ g. statement_by src (inner g) (statement g))
      unfolding statement_by started_at
      parts_statement = record { forks = at } where
        at : (c : List Lexeme) → IsRest src whole limit c → length c < suc most →
            Forks src whole limit (length c) (λ g. statement_by src (inner g) (statement g) c)
        at [] = alone.forks []
        at (l ∷ x) = by_start (start_of l.word) l x
