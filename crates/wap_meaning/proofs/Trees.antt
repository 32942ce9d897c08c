-- No part of a source gives turns back, and variables stay as many, by induction on trees.
use Rattle.std.proofs.Common.{ℕ, zero, suc, ◌≤◌, Bool, true, false, List, [], ◌∷◌, Option, Some}
use Rattle.std.proofs.Common.{None, map, sym, subst, arith, eqb, cond, length, slice_get}
use Rattle.std.specs.Prelude.{if◌then◌else◌}
use Rattle.wap_value.specs.declared.value.Value.{Value}
use Rattle.wap_value.specs.declared.value.Value.TheVariants.{Bool as Boolean, Str}
use Rattle.wap_grammar.specs.declared.program.program.Id.{Id}
use Rattle.wap_grammar.specs.declared.program.program.Program.{Program}
use Rattle.wap_grammar.specs.declared.program.program.Function.{Function as SourceFunction}
use Rattle.wap_grammar.specs.declared.program.expression.Expr.{Expr}
use Rattle.wap_grammar.specs.declared.program.statement.Stmt.{Stmt, roll-Stmt, map-Stmt}
use Rattle.wap_grammar.specs.declared.program.statement.Stmt.TheOpen.{Stmt-F}
use Rattle.wap_grammar.specs.declared.program.statement.Stmt.TheFolds.{fold-roll-Stmt, ind-Stmt}
use Rattle.wap_execution.specs.Effects.{jumps_at}
use Rattle.wap_execution.specs.Outcomes.{value, stuck}
use Rattle.wap_execution.specs.Running.{ended, Calls}
use Rattle.wap_meaning.specs.SourceParts.{Came, gave, over, Does, ◌>>=◌, done, give, store, turn}
use Rattle.wap_meaning.specs.Names.{variable_at, names_in}
use Rattle.wap_meaning.specs.Functions.{first_values, function_runs, program_runs}
use Rattle.wap_meaning.specs.Keeping.{KeepTurnsAndVariables, GiveNoTurns, Lessens, Keeps}
use Rattle.wap_meaning.specs.Expressions.{Around, eval}
use Rattle.wap_meaning.specs.Statements.{Ending, goes_on, breaks, continues, returns, if_goes_on}
use Rattle.wap_meaning.specs.Statements.{and_then, in_order, if_continues, looped, loop, test_of}
use Rattle.wap_meaning.specs.Statements.{update_of, declared, run_by_part, run}
use Rattle.wap_meaning.specs.Functions.{run_body, result_of}
use Rattle.wap_meaning.proofs.Following.{keeps_both}
use Rattle.wap_meaning.proofs.KeepingParts.{give_keeps, load_keeps, store_keeps, kept_keeps}
use Rattle.wap_meaning.proofs.KeepingParts.{turn_keeps, calling_keeps, if_keeps}
use Rattle.wap_meaning.proofs.Meanings.{of_expr}

-- what follows a statement
pub if_goes_on_keeps : {S : Type 0} (next : Does Ending S) → Keeps next → (ending : Ending)
    → Keeps (if_goes_on next ending)
if_goes_on_keeps next falls goes_on = falls
if_goes_on_keeps next falls ending = give_keeps ending

-- what follows the body of a loop
continues_keeps : {S : Type 0} (next : Does Ending S) → Keeps next → (ending : Ending)
    → Keeps (if_continues next ending)
continues_keeps next falls breaks = give_keeps goes_on
continues_keeps next falls (returns v) = give_keeps (returns v)
continues_keeps next falls _ = falls

-- a loop with so many turns
looped_keeps : {S : Type 0} (test : Does Value S) (body : Does Ending S)
    (update : Does (Unit {0}) S)
    → Keeps test → Keeps body → Keeps update → (more : ℕ)
    → Keeps (looped test body update more)
looped_keeps test body update tests bodies updates zero = λ variables turns state. omega arith
looped_keeps test body update tests bodies updates (suc more) =
    let again = update >>= λ _. turn >>= λ _. looped test body update more in
    keeps_both test (λ v. if jumps_at v then give goes_on else body >>= if_continues again) tests
    (λ v. if_keeps (jumps_at v) (give goes_on) (body >>= if_continues again)
    (give_keeps goes_on)
    (keeps_both body (if_continues again) bodies
    (continues_keeps again
    (keeps_both update (λ _. turn >>= λ _. looped test body update more) updates
    (λ _. keeps_both turn (λ _. looped test body update more) turn_keeps
    (λ _. looped_keeps test body update tests bodies updates more))))))

-- a loop
pub loop_keeps : {S : Type 0} (test : Does Value S) (body : Does Ending S)
    (update : Does (Unit {0}) S)
    → Keeps test → Keeps body → Keeps update → Keeps (loop test body update)
loop_keeps test body update tests bodies updates variables turns state =
    looped_keeps test body update tests bodies updates (suc turns) variables turns state

module _ {S : Type 0} (around : Around S) (falls : GiveNoTurns around.call) where
  -- every expression
  pub eval_keeps : (e : Expr) → Keeps (eval around e)
  eval_keeps e = of_expr around 0 (λ _. Unit {0}) (λ A does. Keeps does) (record {
    left = λ one other free. tt;
    right = λ one other free. tt;
    gives = λ A a. give_keeps a;
    follows = λ A B does next. keeps_both does next;
    loads = load_keeps;
    stores = λ index v may. store_keeps index v;
    measures = λ v. kept_keeps around.string v;
    calls = λ callee arguments. calling_keeps around.call falls callee arguments;
  }) e tt

  -- ---- statements

  -- one statement, and the next
  then_keeps : (does next : Does Ending S) → Keeps does → Keeps next → Keeps (and_then does next)
  then_keeps does next ones others =
      keeps_both does (if_goes_on next) ones (if_goes_on_keeps next others)

  -- a statement keeps them
  abbrev StmtClaim : Stmt → Type 0
  StmtClaim s = Keeps (run around s)

  -- a statement that keeps them
  abbrev StmtPart : Type 0
  StmtPart = (s : Stmt) × StmtClaim s

  -- statements in order
  block_keeps : (ss : List StmtPart)
      → Keeps (in_order (map (run around) (map (λ (s : StmtPart). s.0) ss)))
  block_keeps [] = give_keeps goes_on
  block_keeps (s ∷ ss) =
      then_keeps (run around s.0) (in_order (map (run around) (map (λ (s : StmtPart). s.0) ss)))
      s.1 (block_keeps ss)

  -- a declaration
  declared_keeps : (pair : Id × Option Expr) → Keeps (declared around pair)
  declared_keeps (v, None) =
      keeps_both (store (variable_at around.names v) (Str [])) (λ _. give goes_on)
      (store_keeps (variable_at around.names v) (Str [])) (λ _. give_keeps goes_on)
  declared_keeps (v, Some e) =
      keeps_both (eval around e)
      (λ given. store (variable_at around.names v) given >>= λ _. give goes_on) (eval_keeps e)
      (λ given. keeps_both (store (variable_at around.names v) given) (λ _. give goes_on)
      (store_keeps (variable_at around.names v) given) (λ _. give_keeps goes_on))

  -- declarations in order
  variables_keep : (pairs : List (Id × Option Expr))
      → Keeps (in_order (map (declared around) pairs))
  variables_keep [] = give_keeps goes_on
  variables_keep (pair ∷ pairs) =
      then_keeps (declared around pair) (in_order (map (declared around) pairs))
      (declared_keeps pair) (variables_keep pairs)

  -- the condition of a `for`
  tests_keep : (c : Option Expr) → Keeps (test_of around c)
  tests_keep None = give_keeps (Boolean true)
  tests_keep (Some e) = eval_keeps e

  -- its update
  updates_keep : (update : Option Expr) → Keeps (update_of around update)
  updates_keep None = give_keeps (tt {0})
  updates_keep (Some e) =
      keeps_both (eval around e) (λ v. give tt) (eval_keeps e) (λ v. give_keeps (tt {0}))

  -- a statement, by its parts
  stmt_layers : (y : Stmt-F StmtPart)
      → Keeps (run_by_part around (map-Stmt Stmt (Does Ending S) (run around)
      (map-Stmt StmtPart Stmt (λ s. s.0) y)))
  stmt_layers Stmt-F.Empty = give_keeps goes_on
  stmt_layers (Stmt-F.Expr e) =
      keeps_both (eval around e) (λ v. give goes_on) (eval_keeps e) (λ v. give_keeps goes_on)
  stmt_layers (Stmt-F.Block ss) = block_keeps ss
  stmt_layers (Stmt-F.Vars pairs) = variables_keep pairs
  stmt_layers (Stmt-F.If c s None) =
      keeps_both (eval around c) (λ v. if jumps_at v then give goes_on else run around s.0)
      (eval_keeps c)
      (λ v. if_keeps (jumps_at v) (give goes_on) (run around s.0) (give_keeps goes_on) s.1)
  stmt_layers (Stmt-F.If c s (Some other)) =
      keeps_both (eval around c) (λ v. if jumps_at v then run around other.0 else run around s.0)
      (eval_keeps c)
      (λ v. if_keeps (jumps_at v) (run around other.0) (run around s.0) other.1 s.1)
  stmt_layers (Stmt-F.While c s) =
      loop_keeps (eval around c) (run around s.0) (give tt) (eval_keeps c) s.1
      (give_keeps (tt {0}))
  stmt_layers (Stmt-F.For first c update s) =
      then_keeps (run around first.0)
      (loop (test_of around c) (run around s.0) (update_of around update)) first.1
      (loop_keeps (test_of around c) (run around s.0) (update_of around update) (tests_keep c) s.1
      (updates_keep update))
  stmt_layers (Stmt-F.Break word) = give_keeps breaks
  stmt_layers (Stmt-F.Continue word) = give_keeps continues
  stmt_layers (Stmt-F.Return None) = give_keeps (returns (Str []))
  stmt_layers (Stmt-F.Return (Some e)) =
      keeps_both (eval around e) (λ v. give (returns v)) (eval_keeps e)
      (λ v. give_keeps (returns v))

  -- every statement
  pub run_keeps : (s : Stmt) → StmtClaim s
  unfolding run
  run_keeps = ind-Stmt StmtClaim (λ x y is. subst (λ x. StmtClaim (roll-Stmt x)) is
      (subst Keeps (sym (fold-roll-Stmt (Does Ending S) (run_by_part around)
      (map-Stmt StmtPart Stmt (λ s. s.0) y))) (stmt_layers y)))

  -- what a function gives leaves as few turns
  ended_lessens : (came : Came Ending S) (before : List Value) (most : ℕ) → Lessens before most came
      → (done came (λ ending variables turns state.
      ended (value (result_of ending)) turns state)).turns ≤ most
  ended_lessens (gave ending variables turns state) before most less = less.0
  ended_lessens (over end) before most less = less

  -- the statements of a function
  bodies_keep : (ss : List Stmt) → Keeps (in_order (map (run around) ss))
  bodies_keep [] = give_keeps goes_on
  bodies_keep (s ∷ ss) =
      then_keeps (run around s) (in_order (map (run around) ss)) (run_keeps s) (bodies_keep ss)

  -- a function's statements give no turns back
  pub body_keeps : (ss : List Stmt) (variables : List Value) (turns : ℕ) (state : S)
      → (run_body around ss variables turns state).turns ≤ turns
  body_keeps ss variables turns state =
      ended_lessens (in_order (map (run around) ss) variables turns state) variables turns
      (bodies_keep ss variables turns state)

-- nor does a function
function_keeps : {S : Type 0} (string : ℕ) (call : Calls S) → GiveNoTurns call → (p : Program)
    (f : Option SourceFunction) (arguments : List Value) (turns : ℕ) (state : S)
    → (function_runs string call p f arguments turns state).turns ≤ turns
function_keeps string call gives p None arguments turns state = omega arith
function_keeps {S} string call gives p (Some f) arguments turns state =
    let around : Around S = record { string = string; names = names_in p f; call = call } in
    elim (eqb (length arguments) (length f.params)) as (λ (b : Bool). (cond b
    (run_body around f.body (first_values f arguments) turns state)
    (ended stuck turns state)).turns ≤ turns) [
      | true ↦ body_keeps around gives f.body (first_values f arguments) turns state
      | false ↦ omega arith
    ]

-- all of it, for each type of states
pub keeps : (S : Type 0) → KeepTurnsAndVariables S
unfolding program_runs
keeps S = record {
  expressions = λ around gives e. eval_keeps around gives e;
  statements = λ around gives s. run_keeps around gives s;
  functions = λ string call gives p index arguments turns state.
      function_keeps string call gives p (slice_get p.functions index) arguments turns state;
}
