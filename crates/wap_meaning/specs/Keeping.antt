-- What parts of sources keep: none gives turns back, and none makes or takes away variables. This
-- project's own.
use Rattle.std.specs.Prelude.{◌≡◌, ℕ, ◌≤◌, List, length}
use Rattle.wap_value.specs.declared.value.Value.{Value}
use Rattle.wap_grammar.specs.declared.program.expression.Expr.{Expr}
use Rattle.wap_grammar.specs.declared.program.statement.Stmt.{Stmt}
use Rattle.wap_grammar.specs.declared.program.program.Program.{Program}
use Rattle.wap_execution.specs.Effects.{Called}
use Rattle.wap_execution.specs.Running.{Calls}
use Rattle.wap_meaning.specs.SourceParts.{Came, gave, over, Does}
use Rattle.wap_meaning.specs.Expressions.{Around, eval}
use Rattle.wap_meaning.specs.Statements.{run}
use Rattle.wap_meaning.specs.Functions.{program_runs}

-- no call gives turns back
abbrev pub GiveNoTurns : {S : Type 0} → Calls S → Type 0
GiveNoTurns {S} call = (callee : Called) (arguments : List Value) (turns : ℕ) (state : S)
    → (call callee arguments turns state).turns ≤ turns

-- no more turns are left than these, and as many variables as there were
abbrev pub Lessens : {A S : Type 0} → List Value → ℕ → Came A S → Type 0
Lessens before most (gave a variables turns state) =
    (turns ≤ most) × (length variables ≡ length before)
Lessens before most (over ended) = ended.turns ≤ most

-- a part gives no turns back, and leaves as many variables as there were
abbrev pub Keeps : {A S : Type 0} → Does A S → Type 0
Keeps {A} {S} does = (variables : List Value) (turns : ℕ) (state : S)
    → Lessens variables turns (does variables turns state)

-- where no call gives turns back, no part of a source does; and variables stay as many
pub record KeepTurnsAndVariables (S : Type 0) : Type 0 where
  pub expressions : (around : Around S) → GiveNoTurns around.call → (e : Expr)
      → Keeps (eval around e)
  pub statements : (around : Around S) → GiveNoTurns around.call → (s : Stmt)
      → Keeps (run around s)
  pub functions : (string : ℕ) (call : Calls S) → GiveNoTurns call → (p : Program) (index : ℕ)
      (arguments : List Value) (turns : ℕ) (state : S)
      → (program_runs string call p index arguments turns state).turns ≤ turns
