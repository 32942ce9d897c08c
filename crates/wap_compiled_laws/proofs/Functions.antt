-- The functions of a program: what they need is there, their code may be placed and has the wide
-- size but for what is saved, and so the unit is one that the program is compiled to.
use Rattle.std.proofs.Common.{◌≡◌, ℕ, suc, ◌+◌, ◌*◌, ◌≤◌, ◌<◌, ◌∷◌, map, sym, ap, ◌∙◌}
use Rattle.std.proofs.Common.{zero, true, false, List, ◌++◌, Some, None, IsTrue, refl, subst, arith}
use Rattle.std.proofs.Common.{[], length, Option, IsSomeAnd, slice_get, length-append, append_assoc}
use Rattle.std.specs.List.{All, AllByRecursion, flat_map}
use Rattle.std.specs.Option.{option_map, option_map_or}
use Rattle.std.proofs.lemmas.List.{append-nil}
use Rattle.std.proofs.lemmas.List.Elements.{recursion_from_All, filter_map-append}
use Rattle.std.proofs.lemmas.Option.{slice_get-map, same_Some}
use Rattle.wap_unit.specs.declared.unit.Code.{Code}
use Rattle.wap_unit.specs.declared.instr.Instr.{Instr}
use Rattle.wap_unit.specs.declared.row.OpName.{OpName}
use Rattle.wap_unit.specs.declared.row.Row.{Row}
use Rattle.wap_asm.specs.Spelling.{holds}
use Rattle.wap_asm.specs.Spellings.{operation_of, longest}
use Rattle.wap_asm.specs.Placing.{wide}
use Rattle.wap_asm.specs.Placed.{Leads, ArePlaceable, start}
use Rattle.wap_asm.specs.declared.form.Form.{Form}
use Rattle.wap_asm.specs.declared.form.Form.TheVariants.{Op}
use Rattle.wap_asm.proofs.PlacedLaws.{is_placed}
use Rattle.wap_grammar.specs.declared.program.program.Id.{Id}
use Rattle.wap_grammar.specs.declared.program.program.Function.{Function}
use Rattle.wap_grammar.specs.declared.program.program.Program.{Program}
use Rattle.wap_scope.specs.declared.limits.TheConstants.{VARIABLE_LIMIT, FUNCTION_LIMIT}
use Rattle.wap_scope.specs.Names.{Mention, Declares, said, declared, mentions}
use Rattle.wap_scope.specs.Names.{names_declared}
use Rattle.wap_scope.specs.Scoped.{IsScoped}
use Rattle.wap_scope.specs.accepted.Known.{variables, CanBeCoded}
use Rattle.wap_scope.proofs.InOrder.{in_order}
use Rattle.wap_scope.proofs.AcceptedLemmas.Known.{all_can_be}
use Rattle.wap_meaning.specs.coding.Compiled.{function_code, numbers_in, IsCodeOf, IsCompiled}
use Rattle.wap_meaning.specs.coding.Needs.{Need, Constant, Operator, Other, AreMet, literals_of}
use Rattle.wap_meaning.specs.coding.Needs.{stmt_needs}
use Rattle.wap_compiled_laws.proofs.BodiesLemmas.Pooled.{InPool, all_in}
use Rattle.wap_compiled_laws.proofs.Depths.Spots.{Layout, Ranged}
use Rattle.wap_compiled_laws.proofs.Depths.Bodies.{layout_of, wired_at, body_told}
use Rattle.wap_compiled_laws.proofs.Labels.Wired.{WiredForm, LeadsTo, forward, tests, backward}
use Rattle.wap_meaning.specs.needs.Drawn.{function_needs, HasOperator}
use Rattle.wap_meaning.specs.compiled.Pool.{use_literals, function_literals, literals_needed, pool}
use Rattle.wap_meaning.specs.compiled.Units.{forms_of, compiled_function, compiled}
use Rattle.wap_meaning.specs.compiled.Wide.{function_wide}
use Rattle.wap_meaning.specs.compiled.Accepted.{HasRoom}
use Rattle.wap_meaning.specs.compiled.Savings.{saved, function_saves}
use Rattle.wap_meaning.proofs.Each.{each_front, each_back}
use Rattle.wap_compiled_laws.proofs.CodeSizes.Costs.{Fits, has_room, both_costs}
use Rattle.wap_compiled_laws.proofs.CodeSizes.Places.{Place, numbers, Given}
use Rattle.wap_compiled_laws.proofs.CodeSizes.Bodies.{DoesCost, body_good}
use Rattle.wap_compiled_laws.proofs.Induction.Pieces.{Saves}

-- ---- how many functions and variables there are

-- items of which each stands after fewer than so many are at most so many
few_items : {X : Type 0} (n : ℕ) (before rest : List X) → length before ≤ n
    → ((b : List X) (x : X) (a : List X) → before ++ rest ≡ b ++ x ∷ a → length b < n)
    → length (before ++ rest) ≤ n
few_items n before [] less each = omega (arith, less, length-append before [])
few_items n before (x ∷ rest) less each =
    let one = each before x rest refl in
    let whole = append_assoc before (x ∷ []) rest in
    subst (λ (xs : List _). length xs ≤ n) whole
    (few_items n (before ++ x ∷ []) rest (omega (arith, one, length-append before (x ∷ [])))
    (λ b y a is. each b y a (sym whole ∙ is)))

-- the same of the names that are declared
few_names : (n : ℕ) (before rest : List Mention) → length (names_declared before) ≤ n
    → ((b : List Mention) (v : Id) (a : List Mention)
    → before ++ rest ≡ b ++ Declares v ∷ a → length (names_declared b) < n)
    → length (names_declared (before ++ rest)) ≤ n
few_names n before [] less each =
    subst (λ (ms : List Mention). length (names_declared ms) ≤ n) (sym (append-nil before)) less
few_names n before (m ∷ rest) less each =
    let whole = append_assoc before (m ∷ []) rest in
    subst (λ (ms : List Mention). length (names_declared ms) ≤ n) whole
    (few_names n (before ++ m ∷ []) rest (by m (λ v is. each before v rest
    (ap (λ (m : Mention). before ++ m ∷ rest) is)))
    (λ b v a is. each b v a (sym whole ∙ is)))
  where
    by : (m : Mention)
        → ((v : Id) → m ≡ Declares v
        → length (names_declared before) < n)
        → length (names_declared (before ++ m ∷ [])) ≤ n
    by (Declares v) one =
        omega (
          arith,
          one v refl,
          ap length (filter_map-append declared before (Declares v ∷ [])),
          length-append (names_declared before) (v.name ∷ []),
        )
    by other one =
        omega (
          arith,
          less,
          ap length (filter_map-append declared before (other ∷ [])),
          length-append (names_declared before) [],
        )

-- a program has at most so many functions
pub few_functions : (p : Program) → IsScoped p → length p.functions ≤ FUNCTION_LIMIT
few_functions p scoped =
    few_items FUNCTION_LIMIT [] p.functions (omega arith) (λ before f after whole.
    (in_order p scoped).too_many_functions before f (record { after = after; whole = whole }))

-- a function of a program
pub record Among (p : Program) (f : Function) : Type 0 where
  pub earlier : List Function
  pub later : List Function
  pub functions : p.functions ≡ earlier ++ f ∷ later

-- a function of a program has at most so many variables
pub few_variables : (p : Program) → IsScoped p → (f : Function) → Among p f
    → length (variables f) ≤ VARIABLE_LIMIT
few_variables p scoped f among =
    few_names VARIABLE_LIMIT [] (said f) (omega arith) (λ before v after whole.
    (in_order p scoped).too_many_locals before v (record {
      earlier = among.earlier;
      function = f;
      later = among.later;
      functions = among.functions;
      after = after;
      whole = whole;
    }))

-- ---- what a function needs

-- the operators of all assignments take both values
abbrev pub AllTake : Program → Type 0
AllTake p = All (λ (f : Function). AllByRecursion HasOperator (function_needs f)) p.functions

-- what holds of each item of lists in a row holds of those of one of them
of_one : {X Y : Type 0} (P : Y → Type 0) (g : X → List Y) (earlier : List X) (x : X)
    (later : List X)
    → AllByRecursion P (flat_map g (earlier ++ x ∷ later)) → AllByRecursion P (g x)
of_one P g [] x later all = each_front P (g x) (flat_map g later) all
of_one P g (y ∷ earlier) x later all =
    of_one P g earlier x later (each_back P (g y) (flat_map g (earlier ++ x ∷ later)) all)

-- the pool has what a function needs
in_pool : (p : Program) (f : Function) → Among p f
    → AllByRecursion (InPool (pool p)) (function_literals p f)
unfolding pool literals_needed
in_pool p f among =
    let uses = flat_map use_literals p.uses in
    let all = all_in [] (literals_needed p) in
    of_one (InPool (pool p)) (function_literals p) among.earlier f among.later
    (subst (λ (fs : List Function). AllByRecursion (InPool (pool p))
    (flat_map (function_literals p) fs)) among.functions
    (each_back (InPool (pool p)) uses (flat_map (function_literals p) p.functions) all))

-- and what the pragmas need
pub in_uses : (p : Program) → AllByRecursion (InPool (pool p)) (flat_map use_literals p.uses)
unfolding pool literals_needed
in_uses p =
    each_front (InPool (pool p)) (flat_map use_literals p.uses)
    (flat_map (function_literals p) p.functions)
    (all_in [] (literals_needed p))

-- the constants and operators that are needed are given
module _ (here : Place) where
  given : (needs : List Need)
      → AllByRecursion (InPool here.pool)
      (flat_map (literals_of (numbers here).names) needs)
      → AllByRecursion HasOperator needs → AllByRecursion (Given here) needs
  given [] all takes = tt
  given (Constant l ∷ needs) all takes = (all.0, given needs all.1 takes.1)
  given (Operator o ∷ needs) all takes = (takes.0, given needs all takes.1)
  given (Other u f ∷ needs) all takes =
      ((all.0 tt, all.1.0 tt), given needs all.1.1 takes.1)
  given (_ ∷ needs) all takes = (tt, given needs all takes.1)

-- ---- a function of a program whose names are in order

-- a mapped option has what is mapped
both_mapped : {X Y Z : Type 0} (f : Y → Z) (g : X → Y) (o : Option X)
    → option_map f (option_map g o) ≡ option_map (λ x. f (g x)) o
both_mapped f g None = refl
both_mapped f g (Some x) = refl

module _ (p : Program) (scoped : IsScoped p) (takes : AllTake p)
    (few : length (pool p) ≤ 65536) (f : Function) (among : Among p f) where
  -- its place in the program and its unit
  place : Place
  unfolding compiled compiled_function
  place = record {
    program = p;
    function = f;
    unit = compiled p;
    pool = pool p;
    has = record { constants = refl; charset = refl };
    arities = λ i.
        ap (option_map (λ (code : Code). code.args))
        (slice_get-map (compiled_function p) p.functions i)
        ∙ both_mapped (λ (code : Code). code.args) (compiled_function p) (slice_get p.functions i);
    few_constants = few;
    few_functions = omega (arith, few_functions p scoped);
    few_variables = omega (arith, few_variables p scoped f among);
  }

  -- the function is among those of which something holds
  pub one_of : (P : Function → Type 0) → All P p.functions → P f
  one_of P all =
      (each_back P among.earlier (f ∷ among.later)
      (subst (AllByRecursion P) among.functions (recursion_from_All P p.functions all))).0

  -- what its statements need is met, and they cost what the wide size says but for what they save
  good : AreMet (compiled p) (numbers place) (flat_map stmt_needs f.body)
      × Saves (DoesCost place) false (function_code (numbers_in p (pool p) f) f) (function_saves f)
      (function_wide f)
  unfolding place
  good =
      let said_all =
      one_of (λ (f : Function). All (CanBeCoded p f) (said f)) (all_can_be p (in_order p scoped)) in
      body_good place f.body
      (each_back (CanBeCoded p f) (map Declares f.params)
      (flat_map (λ s. mentions s false) f.body)
      (recursion_from_All (CanBeCoded p f) (said f) said_all))
      (given place (flat_map stmt_needs f.body) (in_pool p f among)
      (one_of (λ (f : Function). AllByRecursion HasOperator (function_needs f)) takes))

  -- they cost the bytes of its forms, and what these save
  forms_cost : good.1.size ≡ wide (forms_of p f) + saved (forms_of p f)
  unfolding forms_of
  forms_cost = sym (good.1.holds.costs None 0 tt) ∙ both_costs (forms_of p f)

  -- the wide size is that of its forms, with what these and its statements save
  pub wide_exact : function_wide f ≡ wide (forms_of p f) + saved (forms_of p f) + function_saves f
  wide_exact =
      good.1.whole ∙ ap (λ (n : ℕ). n + function_saves f) forms_cost

  -- its statements save no more than three bytes for two that are left
  pub saves_few : function_saves f * 2 ≤ (wide (forms_of p f) + saved (forms_of p f)) * 3
  saves_few =
      subst (λ (n : ℕ). function_saves f * 2 ≤ n * 3) forms_cost good.1.few

  -- ---- its forms may be placed

  -- a form at an index
  at_index : {X : Type 0} (P : X → Type 0) (xs : List X) (i : ℕ) {x : X} → AllByRecursion P xs
      → slice_get xs i ≡ Some x → P x
  at_index P [] i all here = absurd (cc here)
  at_index P (y ∷ xs) zero {x} all here = subst P (same_Some y x here) all.0
  at_index P (y ∷ xs) (suc i) all here = at_index P xs i all.1 here

  -- an operation whose operands have room
  roomy : (form : Instr) → has_room form ≡ true
      → IsSomeAnd (longest (operation_of form.name))
      (λ (row : Row). IsTrue (holds row form.a form.b form.c))
  roomy form is = by (longest (operation_of form.name)) is
    where
      by : (o : Option Row)
          → option_map_or (λ (row : Row). holds row form.a form.b form.c) o false ≡ true
          → IsSomeAnd o (λ (row : Row). IsTrue (holds row form.a form.b form.c))
      by None is = absurd (cc is)
      by (Some row) is = is

  -- where a jump leads by its name
  leads : {i n : ℕ} {name : OpName} → LeadsTo i n name → Leads (operation_of name) i n
  unfolding operation_of
  leads (forward less) = less
  leads (tests less) = less
  leads (backward less) = less

  -- its forms, in its unit
  abbrev layout : Layout
  layout = layout_of (compiled p) (numbers place) f.body

  -- each form is an operation, a jump that knows its label, or a label that knows itself
  wired : (k : ℕ) {form : Form} → slice_get (forms_of p f) k ≡ Some form
      → WiredForm (Ranged layout) (forms_of p f) k form
  unfolding forms_of place pool
  wired k here = wired_at (body_told (compiled p) (numbers place) f.body good.0) k here

  -- so they may be placed
  pub placeable : ArePlaceable (forms_of p f)
  unfolding forms_of
  placeable = record {
    ops = λ i instr here. roomy instr (fits i instr here);
    jumps = λ i n name here.
        let jump = wired i here in
        record {
          index = n;
          stands = jump.0;
          once = λ t there. sym (wired t there);
          leads = leads jump.1;
        };
  }
    where
      fits : (i : ℕ) (instr : Instr) → slice_get (forms_of p f) i ≡ Some (Op instr)
          → has_room instr ≡ true
      fits i instr here = at_index Fits (forms_of p f) i (good.1.holds.fits None 0) here

  -- the unit's function is its code
  pub code_is : function_wide f ≤ 65535
      → IsCodeOf p (compiled p) (pool p) f (compiled_function p f)
  unfolding compiled_function forms_of pool place
  code_is less = record {
    parameters = refl;
    variables = refl;
    met = good.0;
    start = start (forms_of p f);
    placed = is_placed (forms_of p f) placeable (omega (arith, wide_exact, less));
  }

-- ---- the whole program

-- an item of a list, and those before and after it
among_at : {X : Type 0} (xs : List X) (i : ℕ) (x : X) → slice_get xs i ≡ Some x
    → (earlier : List X) × (later : List X) × (xs ≡ earlier ++ x ∷ later)
among_at [] i x here = absurd (cc here)
among_at (y ∷ xs) zero x here = ([], xs, ap (λ (z : _). z ∷ xs) (same_Some y x here))
among_at (y ∷ xs) (suc i) x here =
    let rest = among_at xs i x here in
    (y ∷ rest.0, rest.1, ap (λ (zs : List _). y ∷ zs) rest.2)

pub function_at_index : (p : Program) (i : ℕ) (f : Function) → slice_get p.functions i ≡ Some f
    → Among p f
function_at_index p i f here =
    let found = among_at p.functions i f here in
    record { earlier = found.0; later = found.1; functions = found.2 }

-- the unit is one that the program is compiled to
pub compiled_is : {p : Program} → IsScoped p → AllTake p → HasRoom p → IsCompiled p (compiled p)
unfolding compiled
compiled_is {p} scoped takes room = record {
  pool = pool p;
  none = λ i here.
      slice_get-map (compiled_function p) p.functions i
      ∙ ap (option_map (compiled_function p)) here;
  some = λ i f here.
      let among = function_at_index p i f here in (
        compiled_function p f,
        slice_get-map (compiled_function p) p.functions i
            ∙ ap (option_map (compiled_function p)) here,
        code_is p scoped takes room.constants f among (one_of p scoped takes room.constants f among
            (λ (f : Function). function_wide f ≤ 65535) room.code),
      );
}
