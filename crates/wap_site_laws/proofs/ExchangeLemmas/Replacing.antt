-- Units in place of the sources with which they agree leave the site.
use Rattle.std.proofs.Common.{◌≡◌, ℕ, zero, suc, ◌-◌, ◌≤◌, Bool, true, false, List, [], ◌∷◌, length}
use Rattle.std.proofs.Common.{Option, Some, None, refl, sym, ap, ◌∙◌, leb, eqb, cond, arith, inl}
use Rattle.std.proofs.Common.{inr}
use Rattle.std.proofs.Math.Path.{fun_ext}
use Rattle.std.proofs.lemmas.Bool.Decides.{eqb_tells}
use Rattle.std.specs.Prelude.{Result, Ok, Err, unwrap_or}
use Rattle.std.specs.Option.{option_map, option_and_then}
use Rattle.wap_base.specs.declared.limits.Limits.{Limits}
use Rattle.wap_base.specs.declared.limits.TheConstants.{MOST_DEPTH}
use Rattle.wap_base.specs.Texts.{is_same_text}
use Rattle.wap_url.specs.declared.url.Url.{Url}
use Rattle.wap_url.specs.Printing.{name_for, without_fragment}
use Rattle.wap_value.specs.declared.value.Value.{Value}
use Rattle.wap_unit.specs.declared.unit.Unit.{Unit}
use Rattle.wap_unit.specs.declared.unit.Code.{Code}
use Rattle.wap_execution.specs.declared.fatal.Fatal.TheVariants as fatal_is
use Rattle.wap_execution.specs.declared.fatal.Fatal.TheVariants.{Depth}
use Rattle.wap_execution.specs.declared.found.Found.{Found}
use Rattle.wap_execution.specs.declared.found.Found.TheVariants.{Callee, Not}
use Rattle.wap_execution.specs.declared.library.HostOut.{HostOut}
use Rattle.wap_execution.specs.declared.library.HostOut.TheVariants as out
use Rattle.wap_execution.specs.Frames.{FunctionOf, Function, code_at, begun}
use Rattle.wap_execution.specs.Effects.{Called, local, library, external}
use Rattle.wap_execution.specs.Outcomes.{Outcome, fatal, waits, stuck, Ended, Hosting, HostingOf}
use Rattle.wap_execution.specs.Outcomes.{Setting, SettingOf}
use Rattle.wap_execution.specs.Running.{ended, returned_by, library_gave, entered, called, Calls}
use Rattle.wap_execution.specs.Running.{began, goes, run_by, enter, resumed, finished}
use Rattle.wap_execution.specs.laws.Settings.{uncounted}
use Rattle.wap_execution.specs.laws.Keyed.{answered_in}
use Rattle.wap_execution.specs.laws.Forgetting.{forgotten_by, forgotten}
use Rattle.wap_execution.proofs.LawsLemmas.ForgetLaws as forget_laws
use Rattle.wap_execution.proofs.LawsLemmas.FrameLaws.{enters}
use Rattle.wap_execution.proofs.LawsLemmas.RunLaws.{Any, any_keeps, called_follows, enter_follows}
use Rattle.wap_world.specs.declared.refusal.Refusal.{Refusal}
use Rattle.wap_world.specs.Shelves.{Shelf, Shelved, script_page}
use Rattle.wap_world.specs.World.{place_now}
use Rattle.wap_world.specs.Steps.{Step}
use Rattle.wap_world.specs.Requests.{plain_get, test_of}
use Rattle.wap_world.specs.Urls.{target_of}
use Rattle.wap_world.specs.Sites.{External, Call}
use Rattle.wap_world.specs.scripting.Units.{external_in}
use Rattle.wap_world.specs.scripting.Additions.{with_test, with_request}
use Rattle.wap_world.specs.scripting.Dialogs.{by_keys}
use Rattle.wap_world.specs.scripting.Hosting.{callable, callable_if, found_under, found_at}
use Rattle.wap_world.specs.scripting.Hosting.{external_call, library_call}
use Rattle.wap_world.specs.scripting.ScriptPages.{PageOf, script, page_under, script_in, shelved}
use Rattle.wap_world.specs.scripting.ScriptPages.{shelf_by, script_under, externals_by, keyed_by}
use Rattle.wap_world.specs.scripting.UnitSites.{Pages, units, shelf_of, no_unit, unit_under}
use Rattle.wap_world.specs.scripting.UnitSites.{externals_of, keyed_host, ran_of, started_at}
use Rattle.wap_world.specs.scripting.UnitSites.{run_unit, units_site}
use Rattle.wap_meaning.specs.Functions.{plain_ways, code_runs, unit_runs}
use Rattle.wap_world.specs.scripting.Sources.{LanguageOf, Script, of_unit, of_source, AllPages}
use Rattle.wap_world.specs.scripting.Sources.{both, script_external, meant, run_script, site_of}
use Rattle.wap_world.specs.scripting.Sources.{Agrees, compiled_script, compiled_page}
use Rattle.wap_world.specs.scripting.Sources.{compiled_pages}

-- ---- frames that are forgotten

-- what is forgotten once is forgotten twice
twice : {S : Type 0} (outcome : Outcome) (turns : ℕ) (s : S)
    → forgotten (forgotten_by outcome turns s) ≡ forgotten_by outcome turns s
twice (waits dialog frames) turns s = refl
twice outcome turns s = refl

-- turns stay
same_turns : {S : Type 0} (outcome : Outcome) (turns : ℕ) (s : S)
    → (forgotten_by outcome turns s).turns ≡ turns
same_turns (waits dialog frames) turns s = refl
same_turns outcome turns s = refl

-- nothing follows a function that nobody called
alone_by : {S : Type 0} (set : Setting S) (outcome : Outcome) (turns : ℕ) (s : S)
    → forgotten (returned_by [] (resumed set []) outcome turns s)
    ≡ forgotten (ended outcome turns s)
unfolding resumed
alone_by set (waits dialog inner) turns s = refl
alone_by set outcome turns s = refl

-- how a script ended doesn't hang on frames
ended_same : (outcome : Outcome) (turns : ℕ) (s : Step)
    → ran_of (ended outcome turns s) ≡ ran_of (forgotten_by outcome turns s)
ended_same (waits dialog frames) turns s = refl
ended_same outcome turns s = refl

-- a library's call has no frames
library_same : (gave : HostOut) (turns : ℕ) (s : Step)
    → forgotten (library_gave gave turns s) ≡ library_gave gave turns s
library_same (out.Asks dialog) turns s = refl
library_same gave turns s = refl

module _ {P : Type 0} (language : LanguageOf P) (compiler : P → Unit)
    (agrees : (one : P) → Agrees language one (compiler one)) (pages : AllPages P) where
  -- the pages with units in place of sources
  abbrev others : Pages
  others = compiled_pages language compiler pages

  -- the unit that stands in place of a script
  abbrev code_of : Script P → Unit
  code_of = compiled_script language compiler

  -- ---- names

  -- under each name is the page with a unit in place of its script
  same_under : (all : AllPages P) (name : List ℕ)
      → page_under name (compiled_pages language compiler all)
      ≡ option_map (compiled_page language compiler) (page_under name all)
  same_under [] name = refl
  same_under (one ∷ all) name =
      elim (is_same_text one.0 name) as (λ (b : Bool).
      cond b (Some (compiled_page language compiler one.1))
      (page_under name (compiled_pages language compiler all))
      ≡ option_map (compiled_page language compiler)
      (cond b (Some one.1) (page_under name all))) [
        | true ↦ refl
        | false ↦ same_under all name
      ]

  -- the rules see the same of it
  shelved_same : (page : Option (PageOf (Script P)))
      → shelved units (option_map (compiled_page language compiler) page)
      ≡ shelved (both language) page
  shelved_same (Some (script (of_source one))) = ap script_page (agrees one).entrances
  shelved_same page = refl

  -- both shelves are the same
  shelf_same : (name : List ℕ) → shelf_of others name ≡ shelf_by (both language) pages name
  shelf_same name =
      ap (shelved units) (same_under pages name) ∙ shelved_same (page_under name pages)

  -- a page's unit is that in place of its script
  unit_same_in : (page : Option (PageOf (Script P)))
      → unwrap_or (script_in (option_map (compiled_page language compiler) page)) no_unit
      ≡ code_of (unwrap_or (script_in page) (of_unit no_unit))
  unit_same_in (Some (script one)) = refl
  unit_same_in page = refl

  -- and so is a name's
  unit_same : (name : List ℕ)
      → unit_under others name ≡ code_of (script_under (both language) pages name)
  unit_same name =
      ap (λ page. unwrap_or (script_in page) no_unit) (same_under pages name)
      ∙ unit_same_in (page_under name pages)

  -- a page has the same external functions
  externals_same_in : (page : Option (PageOf (Script P))) (function : List ℕ)
      → option_and_then (λ one. external_in one function)
      (script_in (option_map (compiled_page language compiler) page))
      ≡ option_and_then (λ one. script_external language one function) (script_in page)
  externals_same_in (Some (script (of_source one))) function = (agrees one).names function
  externals_same_in page function = refl

  -- and so has a name
  externals_same : (name function : List ℕ)
      → externals_of others name function ≡ externals_by (both language) pages name function
  externals_same name function =
      ap (λ page. option_and_then (λ (one : Unit). external_in one function) (script_in page))
      (same_under pages name)
      ∙ externals_same_in (page_under name pages) function

  -- ---- the same host, but for what stands for a script

  -- what a call finds, with units in place of scripts
  abbrev as_unit : Found (Script P) → Found Unit
  as_unit (Callee one base index) = Callee (code_of one) base index
  as_unit (Not why) = Not why

  -- the shelf of the pages
  abbrev shelf : Shelf
  shelf = shelf_by (both language) pages

  -- their external functions
  abbrev names : List ℕ → List ℕ → Option External
  names = externals_by (both language) pages

  -- their scripts
  abbrev scripts : List ℕ → Script P
  scripts = script_under (both language) pages

  -- the same functions may be entered
  callable_same : (name : List ℕ) (base : Url) (count depth working : ℕ) (o : Option External)
      → callable (code_of (scripts name)) base count depth working o
      ≡ as_unit (callable (scripts name) base count depth working o)
  callable_same name base count depth working None = refl
  callable_same name base count depth working (Some one) =
      by (eqb one.arguments count) (leb depth working)
    where
      by : (b c : Bool)
          → cond b (cond c (Not fatal_is.Depth) (Callee (code_of (scripts name)) base one.index))
          (Not fatal_is.Arguments)
          ≡ as_unit (cond b
          (cond c (Not fatal_is.Depth) (Callee (scripts name) base one.index))
          (Not fatal_is.Arguments))
      by true true = refl
      by true false = refl
      by false c = refl

  -- the same, after the access pragmas
  if_same : (b : Bool) (one : Found Unit) (two : Found (Script P)) → one ≡ as_unit two
      → callable_if b one ≡ as_unit (callable_if b two)
  if_same true one two same = same
  if_same false one two same = refl

  -- the unit in place of a name's script
  abbrev in_place : List ℕ → Unit
  in_place name = code_of (scripts name)

  -- a call by the page that answers
  under_same : (caller url : Url) (function : List ℕ) (count working : ℕ) (s : Step)
      (page : Shelved)
      → found_under shelf names in_place caller url function count working s page
      ≡ (let found = found_under shelf names scripts caller url function count working s page in
      (as_unit found.0, found.1))
  under_same caller url function count working s (script_page one) =
      let test = test_of url (Some caller) one in
      ap (λ (f : Found Unit). (f, with_test test s))
      (if_same test.allowed
      (callable (in_place (name_for url)) (without_fragment url) count s.world.limits.depth working
      (names (name_for url) function))
      (callable (scripts (name_for url)) (without_fragment url) count s.world.limits.depth working
      (names (name_for url) function))
      (callable_same (name_for url) (without_fragment url) count s.world.limits.depth working
      (names (name_for url) function)))
  under_same caller url function count working s page = refl

  -- a call by its target
  at_same : (caller : Url) (function : List ℕ) (count working : ℕ) (s : Step)
      (r : Result Url Refusal)
      → found_at shelf names in_place caller function count working s r
      ≡ (let found = found_at shelf names scripts caller function count working s r in
      (as_unit found.0, found.1))
  at_same caller function count working s (Ok url) =
      under_same caller url function count working (with_request (plain_get url) s)
      (shelf (name_for url))
  at_same caller function count working s (Err why) = refl

  -- the host among units
  abbrev one : Hosting Step
  one = keyed_host others

  -- the host among units and sources
  abbrev all : HostingOf (Script P) Step
  all = keyed_by (both language) pages

  -- calls of other scripts
  external_same : (s : Step) (caller : Url) (url name : List ℕ) (count working : ℕ)
      → one.external s caller url name count working
      ≡ (let found = all.external s caller url name count working in (as_unit found.0, found.1))
  external_same s caller url name count working =
      ap (λ (f : Shelf). external_call f (externals_of others) (unit_under others) s caller url name
      count working) (fun_ext shelf_same)
      ∙ ap (λ (f : List ℕ → List ℕ → Option External). external_call shelf f (unit_under others) s
      caller url name count working) (fun_ext (λ n. fun_ext (λ f. externals_same n f)))
      ∙ ap (λ (f : List ℕ → Unit). external_call shelf names f s caller url name count working)
      (fun_ext unit_same)
      ∙ at_same caller name count working s (target_of (Some caller) url)

  -- a library by a shelf, whose dialogs are answered
  abbrev library_with : Shelf → Step → Url → Option Url → ℕ → ℕ → List Value → HostOut × Step
  library_with f s base referer number index arguments =
      let gave = library_call f (place_now f) s base referer number index arguments in
      answered_in (by_keys f) gave.0 gave.1

  -- calls of libraries
  library_is : (s : Step) (base : Url) (referer : Option Url) (number index : ℕ)
      (arguments : List Value)
      → one.library s base referer number index arguments
      ≡ all.library s base referer number index arguments
  library_is s base referer number index arguments =
      ap (λ (f : Shelf). library_with f s base referer number index arguments) (fun_ext shelf_same)

  -- ---- runs

  -- among units and sources
  abbrev mixed : Limits → SettingOf (Script P) Step
  mixed limits = record { limits = limits; host = all; tick = λ function s. s }

  -- the function in the unit that stands in place of its script
  abbrev in_unit : FunctionOf (Script P) → Function
  in_unit function = record {
    unit = code_of function.unit;
    base = function.base;
    referer = function.referer;
    index = function.index;
  }

  -- what a unit's function comes to is what its script's does, but for the frames that wait
  abbrev AlikeAt : Limits → ℕ → Type 0
  AlikeAt limits more =
      (function : FunctionOf (Script P)) (arguments : List Value) (turns : ℕ) (s : Step)
      → forgotten (enter (uncounted limits one) more (in_unit function) arguments turns s)
      ≡ meant language (mixed limits) more function arguments turns s

  module _ (limits : Limits) (more : ℕ) (alike : AlikeAt limits more) (working : ℕ) where
    -- runs among units
    abbrev set : Setting Step
    set = uncounted limits one

    -- a function that was found, entered in both
    found_same : (base : Url) (arguments : List Value) (found : Found (Script P)) (turns : ℕ)
        (s : Step)
        → forgotten (entered (enter set more) base arguments (as_unit found) turns s)
        ≡ entered (meant language (mixed limits) more) base arguments found turns s
    found_same base arguments (Callee one url index) turns s =
        alike (record { unit = one; base = url; referer = Some base; index = index })
        arguments turns s
    found_same base arguments (Not why) turns s = refl

    -- what any call comes to
    call_same : (function : FunctionOf (Script P)) (callee : Called) (arguments : List Value)
        (turns : ℕ) (s : Step)
        → forgotten (called set working (enter set more) (in_unit function) callee arguments turns
        s)
        ≡ called (mixed limits) working (meant language (mixed limits) more) function callee
        arguments turns s
    call_same function (local n) arguments turns s =
        elim (leb limits.depth working) as (λ (b : Bool).
        forgotten (cond b (ended (fatal Depth) turns s)
        (enter set more (record (in_unit function) { index = n }) arguments turns s))
        ≡ cond b (ended (fatal Depth) turns s)
        (meant language (mixed limits) more (record function { index = n }) arguments turns s)) [
          | true ↦ refl
          | false ↦ alike (record function { index = n }) arguments turns s
        ]
    call_same function (library number n) arguments turns s =
        let gave = one.library s function.base function.referer number n arguments in
        library_same gave.0 turns gave.1
        ∙ ap (λ (g : HostOut × Step). library_gave g.0 turns g.1)
        (library_is s function.base function.referer number n arguments)
    call_same function (external url name) arguments turns s =
        let found = all.external s function.base url name (length arguments) working in
        ap (λ (f : Found Unit × Step). forgotten
        (entered (enter set more) function.base arguments f.0 turns f.1))
        (external_same s function.base url name (length arguments) working)
        ∙ found_same function.base arguments found.0 turns found.1

  -- a function of a unit, by calls that are the same but for the frames that wait
  code_same : (limits : Limits) (call call' : Calls Step)
      → ((callee : Called) (arguments : List Value) (turns : ℕ) (s : Step)
      → forgotten (call callee arguments turns s) ≡ forgotten (call' callee arguments turns s))
      → (function : Function) (code : Option Code) (arguments : List Value) (turns : ℕ) (s : Step)
      → forgotten (code_runs limits.string call function code arguments turns s)
      ≡ forgotten (code_runs limits.string call' function code arguments turns s)
  code_same limits call call' same function None arguments turns s = refl
  code_same limits call call' same function (Some code) arguments turns s =
      elim (eqb (length arguments) code.args) as (λ (b : Bool).
      forgotten (cond b (goes (plain_ways limits.string call)
      (begun function code arguments) turns s)
      (ended stuck turns s))
      ≡ forgotten (cond b
      (goes (plain_ways limits.string call') (begun function code arguments) turns s)
      (ended stuck turns s))) [
        | true ↦
            (forget_laws.agrees Step).forgets (plain_ways limits.string call) call' same
            (begun function code arguments) turns s
        | false ↦ refl
      ]

  -- a run of a unit, by what its calls come to
  enter_is : (limits : Limits) (more : ℕ) (function : Function) (code : Option Code)
      (arguments : List Value) (turns : ℕ) (s : Step)
      → began (uncounted limits one) (MOST_DEPTH - more)
      (enter (uncounted limits one) more) function
      code arguments turns s
      ≡ code_runs limits.string (called (uncounted limits one) (MOST_DEPTH - more)
      (enter (uncounted limits one) more) function) function code arguments turns s
  enter_is limits more function None arguments turns s = refl
  enter_is limits more function (Some code) arguments turns s = refl

  module _ (limits : Limits) (more : ℕ) (alike : AlikeAt limits more)
      (function : FunctionOf (Script P)) where
    -- what the calls of a function come to, among units
    abbrev unit_calls : Calls Step
    unit_calls =
        called (uncounted limits one) (MOST_DEPTH - more) (enter (uncounted limits one) more)
        (in_unit function)

    -- and among units and sources
    abbrev mixed_calls : Calls Step
    mixed_calls =
        called (mixed limits) (MOST_DEPTH - more) (meant language (mixed limits) more) function

    -- calls among units, without the frames that wait, are those among both
    calls_same : (callee : Called) (arguments : List Value) (turns : ℕ) (s : Step)
        → forgotten (unit_calls callee arguments turns s) ≡ mixed_calls callee arguments turns s
    calls_same = call_same limits more alike (MOST_DEPTH - more) function

    -- calls among both have no frames that wait
    calls_plain : (callee : Called) (arguments : List Value) (turns : ℕ) (s : Step)
        → forgotten (unit_calls callee arguments turns s)
        ≡ forgotten (mixed_calls callee arguments turns s)
    calls_plain callee arguments turns s =
        let end = unit_calls callee arguments turns s in
        sym (twice end.outcome end.turns end.state)
        ∙ ap forgotten (calls_same callee arguments turns s)

    -- calls among units give no turns back
    calls_fall : (callee : Called) (arguments : List Value) (turns : ℕ) (s : Step)
        → (unit_calls callee arguments turns s).turns ≤ turns
    calls_fall callee arguments turns s =
        let set : Setting Step = uncounted limits one in
        (called_follows set Any (any_keeps set) (MOST_DEPTH - more) (enter set more)
        (enter_follows set Any (any_keeps set) more) (in_unit function) callee arguments turns
        s).turns_fall

    -- nor do calls among both
    mixed_fall : (callee : Called) (arguments : List Value) (turns : ℕ) (s : Step)
        → (mixed_calls callee arguments turns s).turns ≤ turns
    mixed_fall callee arguments turns s =
        let end = unit_calls callee arguments turns s in
        let same : (mixed_calls callee arguments turns s).turns ≡ end.turns =
        ap (λ (e : Ended Step). e.turns) (sym (calls_same callee arguments turns s))
        ∙ same_turns end.outcome end.turns end.state in
        omega (arith, same, calls_fall callee arguments turns s)

  -- a function of a script, by what those that are called come to
  script_same : (limits : Limits) (more : ℕ) → AlikeAt limits more → (one_script : Script P)
      (base : Url) (referer : Option Url) (index : ℕ) (arguments : List Value) (turns : ℕ)
      (s : Step)
      → let function : FunctionOf (Script P) = record {
        unit = one_script;
        base = base;
        referer = referer;
        index = index;
      } in
      forgotten (enter (uncounted limits one) (suc more) (in_unit function) arguments turns s)
      ≡ meant language (mixed limits) (suc more) function arguments turns s
  unfolding enter meant unit_runs
  script_same limits more alike (of_unit u) base referer index arguments turns s =
      let function : FunctionOf (Script P) = record {
        unit = of_unit u;
        base = base;
        referer = referer;
        index = index;
      } in
      let code = code_at (in_unit function) in
      ap forgotten (enter_is limits more (in_unit function) code arguments turns s)
      ∙ code_same limits (unit_calls limits more alike function)
      (mixed_calls limits more alike function) (calls_plain limits more alike function)
      (in_unit function) code arguments turns s
  script_same limits more alike (of_source p) base referer index arguments turns s =
      let function : FunctionOf (Script P) = record {
        unit = of_source p;
        base = base;
        referer = referer;
        index = index;
      } in
      let code = code_at (in_unit function) in
      ap forgotten (enter_is limits more (in_unit function) code arguments turns s)
      ∙ code_same limits (unit_calls limits more alike function)
      (mixed_calls limits more alike function) (calls_plain limits more alike function)
      (in_unit function) code arguments turns s
      ∙ sym ((agrees p).functions limits.string (mixed_calls limits more alike function)
      (mixed_fall limits more alike function) base referer index arguments turns s)

  -- by how many functions may be entered
  alike_at : (limits : Limits) (more : ℕ) → AlikeAt limits more
  unfolding enter meant
  alike_at limits zero function arguments turns s = refl
  alike_at limits (suc more) function arguments turns s =
      script_same limits more (alike_at limits more) function.unit function.base function.referer
      function.index arguments turns s

  -- ---- the site

  -- a function with as many arguments as it takes
  many_first : (limits : Limits) (function : Function) (code : Code)
      → code_at function ≡ Some code → (arguments : List Value) (turns : ℕ) (s : Step)
      → eqb (length arguments) code.args ≡ true → length arguments ≡ code.args
      → forgotten (finished (uncounted limits one)
      (started_at function arguments (Some code)) turns s)
      ≡ forgotten (enter (uncounted limits one) MOST_DEPTH function arguments turns s)
  many_first limits function code found arguments turns s is many =
      let end = enter (uncounted limits one) MOST_DEPTH function arguments turns s in
      ap (λ (b : Bool). forgotten (finished (uncounted limits one)
      (cond b (begun function code arguments ∷ []) []) turns s)) is
      ∙ sym (ap forgotten (enters (uncounted limits one) [] function code arguments turns s
      (omega arith) found many))
      ∙ alone_by (uncounted limits one) end.outcome end.turns end.state

  -- a function at its beginning, which may not be there, or take another number of arguments
  first_same : (limits : Limits) (function : Function) (code : Option Code)
      → code_at function ≡ code → (arguments : List Value) (turns : ℕ) (s : Step)
      → forgotten (finished (uncounted limits one) (started_at function arguments code) turns s)
      ≡ forgotten (enter (uncounted limits one) MOST_DEPTH function arguments turns s)
  unfolding enter finished
  first_same limits function None found arguments turns s =
      ap (λ (c : Option Code). forgotten (began (uncounted limits one) (MOST_DEPTH - 254)
      (enter (uncounted limits one) 254) function c arguments turns s)) (sym found)
  first_same limits function (Some code) found arguments turns s =
      elim (eqb_tells (length arguments) code.args) [
        | inl many ↦ many_first limits function code found arguments turns s many.0 many.1
        | inr other ↦
            ap (λ (b : Bool). forgotten (finished (uncounted limits one)
            (cond b (begun function code arguments ∷ []) []) turns s)) other.0
            ∙ sym (ap (λ (c : Option Code). forgotten (began (uncounted limits one)
            (MOST_DEPTH - 254) (enter (uncounted limits one) 254) function c arguments turns s))
            found
            ∙ ap (λ (b : Bool). forgotten (cond b
            (run_by (uncounted limits one) (MOST_DEPTH - 254) (enter (uncounted limits one) 254)
            (begun function code arguments) turns s) (ended stuck turns s))) other.0)
      ]

  -- what a script comes to that is started
  run_same : (name : List ℕ) (base : Url) (referer : Option Url) (index : ℕ)
      (arguments : List Value)
      (turns : ℕ) (step : Step)
      → run_unit others (unit_under others name) base referer index arguments turns step
      ≡ run_script language pages name base referer index arguments turns step
  run_same name base referer index arguments turns step =
      let limits = step.world.limits in
      let in_unit_of : Unit → Function = λ u. record {
        unit = u;
        base = base;
        referer = referer;
        index = index;
      } in
      let run : Unit → Ended Step = λ u.
      finished (uncounted limits one) (started_at (in_unit_of u) arguments (code_at (in_unit_of u)))
      turns step in
      let function = in_unit_of (code_of (scripts name)) in
      let end = run (code_of (scripts name)) in
      ap (λ u. ran_of (run u)) (unit_same name)
      ∙ ended_same end.outcome end.turns end.state
      ∙ ap ran_of (first_same limits function (code_at function) refl arguments turns step
      ∙ alike_at limits MOST_DEPTH
      (record { unit = scripts name; base = base; referer = referer; index = index })
      arguments turns step)

  -- both sites are the same
  pub replaces : (call : List ℕ → Option Call)
      → site_of language call pages ≡ units_site call others
  unfolding units_site site_of
  replaces call = λ i. record {
    shelf = fun_ext (λ name. sym (shelf_same name)) i;
    external = fun_ext (λ name. fun_ext (λ function. sym (externals_same name function))) i;
    run = fun_ext (λ name. fun_ext (λ base. fun_ext (λ referer. fun_ext (λ index. fun_ext
        (λ arguments. fun_ext (λ turns. fun_ext (λ step.
        sym (run_same name base referer index arguments turns step)))))))) i;
    call = call;
  }
