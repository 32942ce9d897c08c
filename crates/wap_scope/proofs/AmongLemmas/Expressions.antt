-- What an expression says stands among the tokens that spell it.
use Rattle.std.proofs.Common.{ℕ, zero, suc, true, false, List, ◌∷◌, length}
use Rattle.std.specs.List.{flat_map}
use Rattle.wap_value.specs.declared.operator.BinOp.{BinOp}
use Rattle.wap_grammar.specs.declared.program.expression.Expr.{Expr}
use Rattle.wap_grammar.specs.declared.lexeme.Lexeme.{Lexeme}
use Rattle.wap_grammar.specs.declared.precedence.TheConstants.{UNARY, ASSIGNMENT, COMMA}
use Rattle.wap_grammar.specs.Values.{id_of}
use Rattle.wap_grammar.specs.Spellings.{Spelling}
use Rattle.wap_grammar.specs.Expressions.{Expressions, IsArgument, AreArguments}
use Rattle.wap_grammar.specs.Expressions.{IsUnary, IsOperand, IsLooser, IsPart, IsExpression}
use Rattle.wap_grammar.specs.Expressions as expressed
use Rattle.wap_scope.specs.Among.{no_more}
use Rattle.wap_scope.proofs.AmongLemmas.Rows.{over, in_a_row, same, past, Finds, several}
use Rattle.wap_scope.proofs.AmongLemmas.Sayings.{Sayings}

module _ {X : Type 0} {src : List ℕ} {At : Lexeme → X → Type 0} (says : Sayings src At) where
  module _ (Inner : Expressions)
      (inner : (level : ℕ) → Finds At says.expression (Inner level)) where
    finds_argument : Finds At says.expression (IsArgument Inner)
    finds_argument x' e' y (expressed.argument comma x y' e is) = over (inner ASSIGNMENT x e y is)

    finds_arguments : Finds At (flat_map says.expression) (AreArguments Inner)
    finds_arguments x' es' y (expressed.none closed x) = over (no_more y)
    finds_arguments x es' z (expressed.some closed x' y z' e es first rest) =
        past (in_a_row (inner ASSIGNMENT x e y first)
        (several At says.expression (IsArgument Inner) finds_argument y es _ rest))

    finds_unary : Finds At says.expression (IsUnary src Inner)
    finds_unary x' e' y (expressed.literal w span x l is) =
        same (says.of_literal l) (says.at_literal w span l y is)
    finds_unary x' e' y (expressed.variable v x) =
        same (says.of_variable (id_of src v)) (says.at_variable v y)
    finds_unary x' e' y (expressed.postfix v step x up) =
        same (says.of_step (id_of src v) up false) (past (says.at_variable v _))
    finds_unary x' e' y (expressed.prefix step v x up) =
        over (same (says.of_step (id_of src v) up true) (says.at_variable v y))
    finds_unary x e' z (expressed.call opened x' y z' f es names arguments) =
        same (says.of_call f es) (in_a_row (past (says.at_callee (length es) x f _ names))
        (finds_arguments y es z arguments))
    finds_unary x' e' y (expressed.parentheses opened closed x y' e is) =
        over (past (inner COMMA x e _ is))
    finds_unary x' e' y (expressed.unary w span x y' o e so is) =
        over (same (says.of_unary o e) (inner UNARY x e y is))

    module _ (level : ℕ) (IsTighter : Spelling Expr)
        (tight : Finds At says.expression IsTighter) where
      finds_operand : Finds At (λ (pair : BinOp × Expr). says.expression pair.1)
          (IsOperand level IsTighter)
      finds_operand x' pair y (expressed.operand o span x y' e so is) = over (tight x e y is)

      finds_looser : Finds At says.expression (IsLooser src Inner level IsTighter)
      finds_looser x e y (expressed.tighter x' y' e' is) = tight x e y is
      finds_looser x e' z (expressed.chain x' y z' e pair pairs first rest) =
          same (says.of_chain e (pair ∷ pairs)) (in_a_row (tight x e y first)
          (several At (λ (pair : BinOp × Expr). says.expression pair.1)
          (IsOperand level IsTighter) finds_operand y (pair ∷ pairs) z rest))
      finds_looser x e' rest (expressed.conditional question colon x' y z rest' c one other so
          first second third) =
          same (says.of_choice c one other) (in_a_row (past (tight x c _ first))
          (in_a_row (past (inner ASSIGNMENT y one _ second)) (inner ASSIGNMENT z other rest third)))
      finds_looser x' e' y (expressed.assignment v span x y' o e so is) =
          same (says.of_assignment (id_of src v) o e) (in_a_row (says.at_variable v _)
          (in_a_row (says.at_operator o span x) (inner ASSIGNMENT x e y is)))

    finds_part : (level : ℕ) → Finds At says.expression (IsPart src Inner level)
    unfolding IsPart
    finds_part zero x e y is = finds_unary x e y is
    finds_part (suc level) x e y is =
        finds_looser (suc level) (IsPart src Inner level) (finds_part level) x e y is

  pub finds_expression : (levels level : ℕ) →
      Finds At says.expression (IsExpression src levels level)
  unfolding IsExpression
  finds_expression zero level x e y is = absurd is
  finds_expression (suc levels) level x e y is =
      finds_part (IsExpression src levels) (finds_expression levels) level x e y is
