-- What the functions of a program say stands among the tokens that spell them.
use Rattle.std.proofs.Common.{ℕ, Bool, List, [], ◌∷◌, ◌++◌}
use Rattle.std.specs.List.{flat_map}
use Rattle.wap_grammar.specs.declared.program.program.Span.{Span}
use Rattle.wap_grammar.specs.declared.program.program.Id.{Id}
use Rattle.wap_grammar.specs.declared.program.program.Use.{Use}
use Rattle.wap_grammar.specs.declared.program.program.Function.{Function}
use Rattle.wap_grammar.specs.declared.program.program.Program.{Program}
use Rattle.wap_grammar.specs.declared.program.statement.Stmt.{Stmt}
use Rattle.wap_grammar.specs.declared.lexeme.Lexeme.{Lexeme}
use Rattle.wap_grammar.specs.Values.{id_of}
use Rattle.wap_grammar.specs.Spellings.{Spelling, name}
use Rattle.wap_grammar.specs.Programs.{IsUse, IsHead, IsParameter, AreParameters, IsTail}
use Rattle.wap_grammar.specs.Programs.{IsFunction, IsProgramOf}
use Rattle.wap_grammar.specs.Programs as formed
use Rattle.wap_scope.specs.Among.{StandAmong, no_more}
use Rattle.wap_scope.proofs.AmongLemmas.Rows.{over, in_a_row, up_to, past, Finds, several, listed}

module _ {X : Type 0} {At : Lexeme → X → Type 0} where
  pub passes_head : (x : List Lexeme) (out : Bool) (y : List Lexeme) → IsHead x out y →
      StandAmong At x [] y
  passes_head x' out y (formed.own word x) = over (no_more y)
  passes_head x' out y (formed.external extern word x) = over (over (no_more y))

  passes_tail : (x y : List Lexeme) → IsTail x y → StandAmong At x [] y
  passes_tail x y (formed.without x') = no_more x
  passes_tail x' y (formed.semicolon end x) = over (no_more y)

  -- what the names of functions and parameters say, what statements say, and pragmas
  module _ (src : List ℕ) (title : Id → List X)
      (at_title : (f : Span) (x : List Lexeme) → StandAmong At (name f ∷ x) (title (id_of src f)) x)
      (said : Stmt → List X) (Statement : Spelling Stmt) (statement : Finds At said Statement) where
    finds_parameter : Finds At title (IsParameter src)
    finds_parameter x' v' y (formed.parameter v x) = at_title v y

    finds_parameters : Finds At (flat_map title) (AreParameters src)
    finds_parameters x' ps y (formed.none right x) = over (no_more y)
    finds_parameters x ps y (formed.some right x' y' ps' is) =
        past (listed At title (IsParameter src) finds_parameter x ps _ is)

    abbrev pub of_function : Function → List X
    of_function f = title f.name ++ (flat_map title f.params ++ flat_map said f.body)

    pub finds_function : Finds At of_function (IsFunction src Statement)
    finds_function x f' v (formed.function f left opened closed x' y z u v' out ps ss head params
        body tail) =
        in_a_row (passes_head x out _ head) (in_a_row (at_title f _) (over (in_a_row
        (past (finds_parameters y ps _ params))
        (up_to (past (several At said Statement statement z ss _ body)) (passes_tail u v tail)))))

  pub finds_program : (src : List ℕ) (Statement : Spelling Stmt) (of_use : Use → List X)
      (of_function : Function → List X) → Finds At of_use (IsUse src) →
      Finds At of_function (IsFunction src Statement) → (x : List Lexeme) (p : Program) →
      IsProgramOf src Statement x p →
      StandAmong At x (flat_map of_use p.uses ++ flat_map of_function p.functions) []
  finds_program src Statement of_use of_function uses functions x p (formed.program x' y us f fs
      first second) =
      in_a_row (several At of_use (IsUse src) uses x us y first)
      (several At of_function (IsFunction src Statement) functions y (f ∷ fs) [] second)
