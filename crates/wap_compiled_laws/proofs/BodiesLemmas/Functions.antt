-- The functions of a unit that a program is compiled to come to what the program's come to.
use Rattle.std.proofs.Common.{◌≡◌, ℕ, ◌+◌, List, [], ◌∷◌, ◌++◌, length, Option, Some, None, map}
use Rattle.std.proofs.Common.{replicate, refl, sym, ap, ◌∙◌, subst, arith, slice_get, length-append}
use Rattle.std.proofs.lemmas.List.{length-replicate}
use Rattle.std.proofs.lemmas.Bool.Decides.{eqb_tells}
use Rattle.std.specs.List.{flat_map}
use Rattle.std.specs.Option.{option_map_or}
use Rattle.wap_value.specs.declared.value.Value.{Value}
use Rattle.wap_value.specs.declared.value.Value.TheVariants.{Str}
use Rattle.wap_unit.specs.declared.unit.Code.{Code}
use Rattle.wap_asm.specs.Placed.{IsPlaced}
use Rattle.wap_grammar.specs.declared.program.expression.Literal.{Literal}
use Rattle.wap_grammar.specs.declared.program.program.Function.{Function as SourceFunction}
use Rattle.wap_grammar.specs.declared.program.program.Program.{Program}
use Rattle.wap_grammar.specs.declared.program.statement.Stmt.{Stmt}
use Rattle.wap_execution.specs.Frames.{Function, code_of, code_at, begun}
use Rattle.wap_execution.specs.Outcomes.{value, Ended}
use Rattle.wap_execution.specs.Running.{ended, Calls, at_place, goes}
use Rattle.wap_execution.specs.laws.Forgetting.{forgotten}
use Rattle.wap_meaning.specs.Names.{names_in}
use Rattle.wap_meaning.specs.Statements.{Ending, goes_on, in_order, run}
use Rattle.wap_meaning.specs.Functions.{result_of, run_body, first_values, function_runs}
use Rattle.wap_meaning.specs.Functions.{program_runs, plain_ways, code_runs, unit_runs}
use Rattle.wap_meaning.specs.Keeping.{GiveNoTurns}
use Rattle.wap_meaning.proofs.Following.{done_same}
use Rattle.wap_meaning.proofs.Variables.{variables_first}
use Rattle.wap_meaning.specs.coding.Coded.{all_code}
use Rattle.wap_meaning.specs.coding.Constants.{Numbers}
use Rattle.wap_meaning.specs.coding.Statements.{stmt_code}
use Rattle.wap_meaning.specs.coding.Needs.{stmt_needs}
use Rattle.wap_meaning.specs.coding.Compiled.{function_code, numbers_in, IsCodeOf, IsCompiled}
use Rattle.wap_meaning.specs.coding.Compiled.{AgreeWithPrograms}
use Rattle.wap_compiled_laws.proofs.Pieces.Standing.{at_end}
use Rattle.wap_compiled_laws.proofs.Pieces.Pieces.{Holds, holds_all, Site, spot}
use Rattle.wap_compiled_laws.proofs.Expressions.Expressions.{around, Met, met_front, met_back}
use Rattle.wap_compiled_laws.proofs.Statements.Statements.{leaves, Runs, empty_runs, runs_both}
use Rattle.wap_compiled_laws.proofs.Statements.Running.{runs}
use Rattle.std.proofs.lemmas.Grind.{common_steps}

-- ---- statements and their forms

module _ {S : Type 0} (site : Site S) (numbers : Numbers)
    (counted : site.count ≡ length numbers.names.variables) where
  -- statements and their code agree
  all_statements : (ss : List Stmt) → Met site numbers (flat_map stmt_needs ss)
      → Runs site (in_order (map (run (around site numbers)) ss))
      (all_code (map (stmt_code numbers) ss))
  all_statements [] met = empty_runs site
  all_statements (s ∷ ss) met =
      runs_both site (runs site numbers counted s (met_front site numbers (stmt_needs s) _ met))
      (all_statements ss (met_back site numbers (stmt_needs s) _ met))

  -- where the site's forms are a body's code, it does what the body means
  body_runs : (ss : List Stmt) → Met site numbers (flat_map stmt_needs ss)
      → site.forms ≡ (all_code (map (stmt_code numbers) ss)).forms None 0
      → (variables : List Value) → length variables ≡ site.count → (turns : ℕ) (state : S)
      → spot site 0 variables [] turns state
      ≡ run_body (around site numbers) ss variables turns state
  body_runs ss met is variables fits turns state =
      let parts = map (run (around site numbers)) ss in
      let whole = all_code (map (stmt_code numbers) ss) in
      let all = all_statements ss met in
      let size : length site.forms ≡ whole.size = ap length is ∙ all.sized None 0 in
      let to_end : 0 + whole.size ≡ length site.forms = omega (arith, size) in
      all.follows None 0 tt
      (subst (λ forms. Holds forms 0 (whole.forms None 0)) (sym is)
      (holds_all [] (whole.forms None 0)))
      variables fits [] turns state
      ∙ done_same (in_order parts variables turns state) (leaves site None (0 + whole.size) [])
      (λ ending variables turns state. ended (value (result_of ending)) turns state)
      (by (0 + whole.size) (ap site.pos to_end ∙ site.placed.ends))
    where
      by : (end : ℕ) → site.pos end ≡ length (code_of site.function) → (ending : Ending)
          (variables : List Value) (turns : ℕ) (state : S)
          → leaves site None end [] ending variables turns state
          ≡ ended (value (result_of ending)) turns state
      by end last goes_on variables turns state =
          at_end site.string site.call site.falls site.function variables [] last
      by end last _ variables turns state = refl

-- ---- a function and its code

module _ {S : Type 0} (string : ℕ) (call : Calls S) (gives : GiveNoTurns call) (p : Program)
    (function : Function) (pool : List Literal) (f : SourceFunction) (code : Code)
    (spelled : code_of function ≡ code.code) (coded : IsCodeOf p function.unit pool f code)
    (arguments : List Value) (turns : ℕ) (state : S) where
  -- what the source means
  abbrev source : Ended S
  source =
      run_body (record { string = string; names = names_in p f; call = call }) f.body
      (first_values f arguments) turns state

  -- what the code comes to
  abbrev target : Ended S
  target = goes (plain_ways string call) (begun function code arguments) turns state

  -- with as many arguments as parameters they are the same
  same_body : length arguments ≡ length f.params → source ≡ forgotten target
  same_body many =
      let numbers = numbers_in p pool f in
      let forms = (function_code numbers f).forms None 0 in
      let variables : List Value = arguments ++ replicate code.locals (Str []) in
      let site : Site S = record {
        count = length variables;
        string = string;
        call = call;
        falls = gives;
        function = function;
        forms = forms;
        pos = coded.start;
        placed = subst (λ bytes. IsPlaced bytes forms coded.start) (sym spelled) coded.placed;
      } in
      let counted : length variables ≡ length numbers.names.variables =
      omega (
        arith,
        length-append arguments (replicate code.locals (Str [])),
        length-replicate code.locals (Str []),
        coded.variables,
        many,
        variables_first f,
      ) in
      ap (λ (n : ℕ). run_body (around site numbers) f.body
      (arguments ++ replicate n (Str [])) turns state) (sym coded.variables)
      ∙ sym (body_runs site numbers counted f.body coded.met refl variables refl turns state)
      ∙ ap (λ (place : ℕ). forgotten (goes (plain_ways string call)
      (at_place function place variables []) turns state)) coded.placed.begins

  -- with any they are
  same_code : function_runs string call p (Some f) arguments turns state
      ≡ forgotten (code_runs string call function (Some code) arguments turns state)
  same_code = grind (arith, common_steps, eqb_tells, source, same_body, target)

-- a function that is there, and none
same_function : {S : Type 0} (string : ℕ) (call : Calls S) → GiveNoTurns call → (p : Program)
    (function : Function) → IsCompiled p function.unit → (f : Option SourceFunction)
    → slice_get p.functions function.index ≡ f
    → (arguments : List Value) (turns : ℕ) (state : S)
    → function_runs string call p f arguments turns state
    ≡ forgotten (code_runs string call function (code_at function) arguments turns state)
same_function string call gives p function compiled None is arguments turns state =
    ap (λ (code : Option Code).
    forgotten (code_runs string call function code arguments turns state))
    (sym (compiled.none function.index is))
same_function string call gives p function compiled (Some f) is arguments turns state =
    let found = compiled.some function.index f is in
    let spelled : code_of function ≡ found.0.code =
    ap (λ (code : Option Code). option_map_or (λ found. found.code) code []) found.1 in
    same_code string call gives p function compiled.pool f found.0 spelled found.2 arguments turns
    state
    ∙ ap (λ (code : Option Code).
    forgotten (code_runs string call function code arguments turns state)) (sym found.1)

-- of all states
pub agrees : (S : Type 0) → AgreeWithPrograms S
unfolding program_runs unit_runs
agrees S = record {
  functions = λ p function compiled string call gives arguments turns state.
      same_function string call gives p function compiled (slice_get p.functions function.index)
      refl arguments turns state;
}
