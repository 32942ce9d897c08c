-- Each statement and its code agree, and so does each function.
use Rattle.std.proofs.Common.{◌≡◌, ℕ, ◌+◌, Bool, true, false, List, [], ◌∷◌, ◌++◌, length, Option}
use Rattle.std.proofs.Common.{Some, None, map, refl, sym, ap, ◌∙◌, subst, arith}
use Rattle.std.specs.List.{flat_map}
use Rattle.wap_value.specs.declared.value.Value.{Value}
use Rattle.wap_grammar.specs.declared.program.program.Id.{Id}
use Rattle.wap_grammar.specs.declared.program.expression.Expr.{Expr, roll-Expr, map-Expr, out-Expr}
use Rattle.wap_grammar.specs.declared.program.expression.Expr.{roll-out-Expr}
use Rattle.wap_grammar.specs.declared.program.expression.Expr.TheOpen.{Expr-F}
use Rattle.wap_grammar.specs.declared.program.expression.Expr.TheFolds.{fold-roll-Expr}
use Rattle.wap_value.specs.declared.operator.BinOp.{BinOp}
use Rattle.wap_unit.specs.declared.row.OpName.{OpName}
use Rattle.wap_execution.specs.declared.action.Action.TheVariants.{AssignVariable}
use Rattle.wap_execution.specs.Actions.{action_of}
use Rattle.wap_meaning.specs.coding.Needs.{Need, expr_needs_by, expr_needs, optional_needs}
use Rattle.wap_meaning.specs.coding.Needs.{declared_needs, stmt_needs_by, stmt_needs}
use Rattle.wap_meaning.specs.Expressions.{Around, eval_by, eval}
use Rattle.wap_meaning.specs.Statements.{in_order, dropped, Ending, goes_on, declared, run_by_part}
use Rattle.wap_meaning.specs.Statements.{run, test_of, update_of}
use Rattle.wap_meaning.specs.coding.Statements.{writes, changed_code, effect_code, stmt_code_by}
use Rattle.wap_meaning.specs.coding.Statements.{stmt_code, declared_code, test_code, update_code}
use Rattle.wap_meaning.specs.coding.Statements.{dropped_code}
use Rattle.wap_meaning.specs.coding.Coded.{all_code, Exits, with_operand, Coded, ◌⨾◌, empty}
use Rattle.wap_compiled_laws.proofs.Statements.Adding.{adding_piece, spares}
use Rattle.wap_compiled_laws.proofs.Statements.Statements.{leaves}
use Rattle.wap_compiled_laws.proofs.Statements.Statements.{Runs, runs_both, break_runs, choice_runs}
use Rattle.wap_compiled_laws.proofs.Statements.Statements.{empty_runs, declared_runs, assigned_runs}
use Rattle.wap_compiled_laws.proofs.Statements.Statements.{dropped_runs, empty_agrees, stepped_runs}
use Rattle.wap_compiled_laws.proofs.Statements.Statements.{returned_runs, ended_runs, continue_runs}
use Rattle.wap_grammar.specs.declared.program.statement.Stmt.{Stmt, roll-Stmt, map-Stmt}
use Rattle.wap_grammar.specs.declared.program.statement.Stmt.TheOpen.{Stmt-F}
use Rattle.wap_grammar.specs.declared.program.statement.Stmt.TheFolds.{fold-roll-Stmt, ind-Stmt}
use Rattle.wap_meaning.specs.SourceParts.{Came, gave, over, Does, from, give, done}
use Rattle.wap_meaning.specs.Names.{variable_at}
use Rattle.std.specs.Prelude.{if◌then◌else◌}
use Rattle.wap_meaning.specs.coding.Constants.{Numbers}
use Rattle.wap_meaning.specs.coding.Expressions.{expr_code}
use Rattle.wap_meaning.proofs.Following.{keeps_both}
use Rattle.wap_compiled_laws.proofs.Pieces.Pieces.{Site, onto, empty_piece}
use Rattle.wap_compiled_laws.proofs.Pieces.Instructions.{nothing}
use Rattle.wap_compiled_laws.proofs.Expressions.Agreeing.{Agrees}
use Rattle.wap_meaning.proofs.KeepingParts.{give_keeps}
use Rattle.wap_compiled_laws.proofs.Expressions.Expressions.{around, Met, met_front, met_back}
use Rattle.wap_compiled_laws.proofs.Expressions.Expressions.{agrees}
use Rattle.wap_compiled_laws.proofs.Statements.Loops.{branch_runs, Tests, no_test, one_test}
use Rattle.wap_compiled_laws.proofs.Statements.Loops.{Updates, loop_runs}
use Rattle.wap_unit.specs.declared.row.OpName.TheVariants as op
use Rattle.wap_value.specs.declared.operator.BinOp.TheVariants as bin

module _ {S : Type 0} (site : Site S) (numbers : Numbers)
    (counted : site.count ≡ length numbers.names.variables) where
  -- what parts depend on at the site
  abbrev here : Around S
  here = around site numbers

  -- the site's unit has what is needed
  abbrev IsMet : List Need → Type 0
  IsMet = Met site numbers

  -- every expression and its code agree
  abbrev expr_agrees : (e : Expr) → IsMet (expr_needs e)
      → Agrees site (eval here e) (expr_code numbers e)
  expr_agrees = agrees site numbers

  -- where its needs are met, a statement and its code agree
  abbrev Claim : Stmt → Type 0
  Claim s = IsMet (stmt_needs s) → Runs site (run here s) (stmt_code numbers s)

  -- a statement of which it is so
  abbrev Part : Type 0
  Part = (s : Stmt) × Claim s

  -- a statement agrees by its parts
  abbrev Layer : Stmt-F Stmt → Type 0
  Layer x =
      IsMet (stmt_needs_by (map-Stmt Stmt (List Need) stmt_needs x))
      → Runs site (run_by_part here (map-Stmt Stmt (Does Ending S) (run here) x))
      (stmt_code_by numbers (map-Stmt Stmt Coded (stmt_code numbers) x))

  -- a statement that agrees by its parts agrees
  rolled : (x : Stmt-F Stmt) → Layer x → Claim (roll-Stmt x)
  unfolding run stmt_code stmt_needs
  rolled x layer met =
      subst (λ does. Runs site does (stmt_code numbers (roll-Stmt x)))
      (sym (fold-roll-Stmt (Does Ending S) (run_by_part here) x))
      (subst (λ coded. Runs site (run_by_part here (map-Stmt Stmt (Does Ending S) (run here) x))
      coded)
      (sym (fold-roll-Stmt Coded (stmt_code_by numbers) x))
      (layer (subst IsMet (fold-roll-Stmt (List Need) stmt_needs_by x) met)))

  -- ---- expressions as statements

  -- an expression agrees as a statement, where it does so by its parts
  by_parts : (x : Expr-F Expr) {e : Expr} {coded : Coded} → roll-Expr x ≡ e
      → (IsMet (expr_needs_by (map-Expr Expr (List Need) expr_needs x))
      → Runs site (dropped (eval_by here (map-Expr Expr (Does Value S) (eval here) x))) coded)
      → IsMet (expr_needs e) → Runs site (dropped (eval here e)) coded
  unfolding eval expr_needs
  by_parts x {coded} is parts met =
      subst (λ (does : Does Value S). Runs site (dropped does) coded)
      (sym (fold-roll-Expr (Does Value S) (eval_by here) x) ∙ ap (eval here) is)
      (parts (subst IsMet
      (ap expr_needs (sym is) ∙ fold-roll-Expr (List Need) expr_needs_by x) met))

  -- `x += e` and `x -= e`, whether e writes x or not
  changed_runs : (v : Id) {binop : BinOp} (name : OpName) (right : Expr) {e : Expr}
      → action_of name ≡ AssignVariable binop
      → roll-Expr (Expr-F.Assign v (Some binop) right) ≡ e → IsMet (expr_needs e)
      → Runs site (dropped (eval here e))
      (changed_code numbers (variable_at numbers.names v) name right (expr_code numbers e))
  changed_runs v {binop} name right {e} acts is met =
      by (writes numbers.names right (variable_at numbers.names v)) refl
    where
      by : (does : Bool) → writes numbers.names right (variable_at numbers.names v) ≡ does
          → Runs site (dropped (eval here e))
          (if does then dropped_code (expr_code numbers e)
          else expr_code numbers right ⨾ with_operand name (variable_at numbers.names v))
      by true writes = dropped_runs site (expr_agrees e met)
      by false none = by_parts (Expr-F.Assign v (Some binop) right) is (λ parts.
          adding_piece site name acts parts.1.0 (omega (arith, parts.0, counted))
          (expr_agrees right parts.1.1)
          (spares here (variable_at numbers.names v) right none)) met

  -- an expression as a statement
  effect_runs : (x : Expr-F Expr) (e : Expr) → roll-Expr x ≡ e → IsMet (expr_needs e)
      → Runs site (dropped (eval here e)) (effect_code numbers x (expr_code numbers e))
  effect_runs (Expr-F.Assign v None right) e is met =
      by_parts (Expr-F.Assign v None right) is (λ parts.
      assigned_runs site (variable_at numbers.names v) (expr_agrees right parts.1)) met
  effect_runs (Expr-F.Assign v (Some bin.Add) right) e is met =
      changed_runs v op.AddAsg right refl is met
  effect_runs (Expr-F.Assign v (Some bin.Sub) right) e is met =
      changed_runs v op.SubAsg right refl is met
  effect_runs (Expr-F.Step v up prefix) e is met =
      by_parts (Expr-F.Step v up prefix) is (λ parts.
      stepped_runs site (variable_at numbers.names v) up prefix) met
  effect_runs _ e is met = dropped_runs site (expr_agrees e met)

  -- ---- lists

  -- the statements
  abbrev trees : List Part → List Stmt
  trees ss = map (λ (s : Part). s.0) ss

  -- statements in order
  block_runs : (ss : List Part)
      → IsMet (flat_map (λ (needs : List Need). needs) (map stmt_needs (trees ss)))
      → Runs site (in_order (map (run here) (trees ss)))
      (all_code (map (stmt_code numbers) (trees ss)))
  block_runs [] met = empty_runs site
  block_runs (s ∷ ss) met =
      runs_both site (s.1 (met_front site numbers (stmt_needs s.0) _ met))
      (block_runs ss (met_back site numbers (stmt_needs s.0) _ met))

  -- a declaration
  variable_runs : (pair : Id × Option Expr) → IsMet (declared_needs pair)
      → Runs site (declared here pair) (declared_code numbers pair)
  variable_runs (v, None) met = declared_runs site (variable_at numbers.names v) (empty_agrees site)
  variable_runs (v, Some e) met =
      declared_runs site (variable_at numbers.names v) (expr_agrees e met.1)

  -- declarations in order
  variables_run : (pairs : List (Id × Option Expr))
      → IsMet (flat_map declared_needs pairs)
      → Runs site (in_order (map (declared here) pairs))
      (all_code (map (declared_code numbers) pairs))
  variables_run [] met = empty_runs site
  variables_run (pair ∷ pairs) met =
      runs_both site (variable_runs pair (met_front site numbers (declared_needs pair) _ met))
      (variables_run pairs (met_back site numbers (declared_needs pair) _ met))

  -- ---- loops

  -- the condition of a loop
  condition_tests : (c : Option Expr) → IsMet (optional_needs c)
      → Tests site (test_of here c) (test_code numbers c)
  condition_tests None met = no_test site
  condition_tests (Some e) met = one_test site (expr_agrees e met)

  -- an expression that is a statement leaves nothing behind, and goes on
  dropped_same : (exits : Exits) (next : ℕ) (operands : List Value) (came : Came Value S)
      → done (from came (λ v. give goes_on)) (leaves site exits next operands)
      ≡ done (from came (λ v. give (tt {0}))) (onto site nothing exits next operands)
  dropped_same exits next operands (gave v vs left later) = refl
  dropped_same exits next operands (over end) = refl

  -- the update of a `for`
  given_updates : (update : Option Expr) → IsMet (optional_needs update)
      → Updates site (update_of here update) (update_code numbers update)
  given_updates None met = empty_piece site (λ exits i operands variables turns state. refl)
  given_updates (Some e) met =
      let runs = effect_runs (out-Expr e) e (roll-out-Expr e) met in
      let size = (effect_code numbers (out-Expr e) (expr_code numbers e)).size in
      record {
        sized = runs.sized;
        falls = keeps_both (eval here e) (λ v. give tt) (expr_agrees e met).falls
            (λ v. give_keeps (tt {0}));
        follows = λ exits i reach holds variables fits operands turns state.
            runs.follows exits i reach holds variables fits operands turns state
            ∙ dropped_same exits (i + size) operands (eval here e variables turns state);
      }

  -- ---- statements

  -- every construct
  layers : (y : Stmt-F Part) → Layer (map-Stmt Part Stmt (λ s. s.0) y)
  layers Stmt-F.Empty met = empty_runs site
  layers (Stmt-F.Expr e) met = effect_runs (out-Expr e) e (roll-out-Expr e) met
  layers (Stmt-F.Block ss) met = block_runs ss met
  layers (Stmt-F.Vars pairs) met = variables_run pairs met
  layers (Stmt-F.If c s None) met =
      branch_runs site (expr_agrees c (met_front site numbers (expr_needs c) _ met))
      (s.1 (met_front site numbers (stmt_needs s.0) []
      (met_back site numbers (expr_needs c) _ met)))
  layers (Stmt-F.If c s (Some other)) met =
      let rest = met_back site numbers (expr_needs c) (stmt_needs s.0 ++ stmt_needs other.0) met in
      choice_runs site (expr_agrees c (met_front site numbers (expr_needs c) _ met))
      (s.1 (met_front site numbers (stmt_needs s.0) (stmt_needs other.0) rest))
      (other.1 (met_back site numbers (stmt_needs s.0) (stmt_needs other.0) rest))
  layers (Stmt-F.While c s) met =
      loop_runs site (eval here c) (run here s.0) (give tt) (test_code numbers (Some c))
      (stmt_code numbers s.0) empty
      (condition_tests (Some c) (met_front site numbers (expr_needs c) _ met))
      (s.1 (met_back site numbers (expr_needs c) _ met)) (given_updates None tt)
  layers (Stmt-F.For first c update s) met =
      let after_first = met_back site numbers (stmt_needs first.0) _ met in
      let after_test = met_back site numbers (optional_needs c) _ after_first in
      runs_both site (first.1 (met_front site numbers (stmt_needs first.0) _ met))
      (loop_runs site (test_of here c) (run here s.0) (update_of here update) (test_code numbers c)
      (stmt_code numbers s.0) (update_code numbers update)
      (condition_tests c (met_front site numbers (optional_needs c) _ after_first))
      (s.1 (met_back site numbers (optional_needs update) _ after_test))
      (given_updates update (met_front site numbers (optional_needs update) _ after_test)))
  layers (Stmt-F.Break word) met = break_runs site
  layers (Stmt-F.Continue word) met = continue_runs site
  layers (Stmt-F.Return None) met = ended_runs site
  layers (Stmt-F.Return (Some e)) met = returned_runs site (expr_agrees e met)

  -- every statement and its code agree
  pub runs : (s : Stmt) → Claim s
  runs = ind-Stmt Claim (λ x y is. subst (λ x. Claim (roll-Stmt x)) is
      (rolled (map-Stmt Part Stmt (λ s. s.0) y) (layers y)))
