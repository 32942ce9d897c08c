-- The code of functions has one number of operands at each form, none where statements begin; its
-- jumps know their labels, and its operands are in range where what it needs is there.
use Rattle.std.proofs.Common.{◌≡◌, ℕ, zero, suc, ◌+◌, List, [], ◌∷◌, Some, None, refl, sym, ap, map}
use Rattle.std.proofs.Common.{false, length, Option, subst, arith, unwrap_or, option_map, slice_get}
use Rattle.std.specs.List.{flat_map}
use Rattle.std.specs.Option.{option_map_or}
use Rattle.std.proofs.lemmas.Option.{slice_get_within}
use Rattle.wap_unit.specs.declared.unit.Unit.{Unit as CodeUnit}
use Rattle.wap_unit.specs.declared.unit.Code.{Code}
use Rattle.wap_unit.specs.declared.row.OpName.{OpName}
use Rattle.wap_unit.specs.declared.row.Operands.{Operands}
use Rattle.wap_unit.specs.declared.row.Operands.TheVariants as operands
use Rattle.wap_unit.specs.declared.instr.Instr.{Instr}
use Rattle.wap_unit.specs.declared.row.OpName.TheVariants as op
use Rattle.wap_asm.specs.Spellings.{operation_of, longest}
use Rattle.wap_asm.specs.declared.form.Form.{Form}
use Rattle.wap_grammar.specs.declared.program.statement.Stmt.{Stmt}
use Rattle.wap_scope.specs.Names.{Mention, mentions}
use Rattle.wap_meaning.specs.coding.Coded.{Coded, all_code, instr}
use Rattle.wap_meaning.specs.coding.Constants.{Numbers}
use Rattle.wap_meaning.specs.coding.Needs.{IsMet, AreMet, stmt_needs}
use Rattle.wap_meaning.specs.coding.Statements.{stmt_code}
use Rattle.wap_compiled_laws.proofs.Pieces.Pieces.{holds_all}
use Rattle.wap_meaning.proofs.Each.{each_any}
use Rattle.wap_compiled_laws.proofs.Labels.Ranges.{AreThere, function_within}
use Rattle.wap_compiled_laws.proofs.Labels.Wired.{IsOperation, WiredForm}
use Rattle.wap_compiled_laws.proofs.Depths.Flow.{Flow, goes}
use Rattle.wap_compiled_laws.proofs.Depths.Spots.{Same, Layout, Ranged, AllSpots, Shape, shape_both}
use Rattle.wap_compiled_laws.proofs.Depths.Spots.{shape_op, shape_leaves, shape_empty}
use Rattle.wap_compiled_laws.proofs.Depths.Shapes.{shape_branches, shape_branch, shape_short}
use Rattle.wap_compiled_laws.proofs.Depths.Loops.{no_test, one_test, shape_loop, shape_exit}
use Rattle.wap_compiled_laws.proofs.Induction.Pieces.{Property, HasFacts, OfPieces, flow_is}
use Rattle.wap_compiled_laws.proofs.Induction.Pieces.{operation_is, names_is}
use Rattle.wap_compiled_laws.proofs.Induction.Statements.{of_body}

-- ---- pieces

-- a function that takes so many arguments takes them
by_option : (o : Option Code) (count : ℕ) → option_map (λ (code : Code). code.args) o ≡ Some count
    → option_map_or (λ (code : Code). code.args) o 0 ≡ count
by_option None count is = absurd (cc is)
by_option (Some code) count is = cc is

module _ (layout : Layout) where
  open layout use {unit, variables}

  -- an operation whose operands are in range by what they name
  facts_wired : (form : Instr) {names : Operands} {flow : Flow} {size : ℕ}
      → HasFacts unit form names flow size → AreThere unit variables names form
      → IsOperation form.name × Ranged layout form
  facts_wired form has there = (
    operation_is unit form has,
    subst (λ (k : Operands). AreThere unit variables k form)
        (sym (names_is unit form has)) there,
  )

  -- one without operands
  plain_wired : {name : OpName} {flow : Flow}
      → HasFacts unit (instr name 0 0 0) operands.Plain flow 1
      → IsOperation name × Ranged layout (instr name 0 0 0)
  plain_wired {name} has = facts_wired (instr name 0 0 0) has tt

  -- a piece goes from one number of operands to another, whatever it costs
  abbrev IsShaped : Property
  IsShaped inside coded from to size = Shape layout coded from to

  -- the pieces of code do, whatever their sources say
  shapes : OfPieces unit variables (λ (m : Mention). Unit {0}) IsShaped
  unfolding operation_of longest
  shapes = record {
    none = λ {x}. shape_empty layout x;
    plain_op = λ name x has.
        shape_op layout x (flow_is unit (instr name 0 0 0) has) (plain_wired has);
    leaving = λ name x has.
        shape_leaves layout x (flow_is unit (instr name 0 0 0) has) (plain_wired has);
    variable_op = λ name a x has there.
        shape_op layout x (flow_is unit (instr name a 0 0) has)
        (facts_wired (instr name a 0 0) has there);
    constant_op = λ a there. shape_op layout _ refl ((refl, refl), there);
    local_op = λ a x is.
        shape_op layout x (ap (λ (n : ℕ). goes n 1) (by_option (slice_get unit.functions a) _ is))
        ((refl, refl), function_within unit a _ is);
    other_op = λ a b {count} x one two said.
        shape_op layout {form = instr op.CallUrl a b count} x refl
        ((refl, refl), ((_, one), (_, two)));
    library_op = λ a b x is.
        shape_op layout {form = instr op.CallLib a b 0} x
        (ap (λ (o : Option ℕ). goes (unwrap_or o 0) 1) is)
        ((refl, refl), (_, is));
    both = shape_both layout;
    either = shape_branches layout;
    branch = shape_branch layout;
    short_circuit = λ name has.
        shape_short layout (flow_is unit (instr name 0 0 0) has) (plain_wired has);
    endless = shape_loop layout (no_test layout);
    loop = λ tests. shape_loop layout (one_test layout _ tests);
    break_out = λ said.
        shape_exit layout (λ labels d end free. (free.0, free.1, free.2));
    next_turn = λ said.
        shape_exit layout (λ labels d end free. (free.3, free.4, free.5));
  }

-- ---- the statements of a function

-- a number of a list, and 0 behind its end
number_at : List ℕ → ℕ → ℕ
number_at [] k = 0
number_at (x ∷ numbers) zero = x
number_at (x ∷ numbers) (suc k) = number_at numbers k

-- behind its end there is none
number_past : (numbers : List ℕ) → number_at numbers (length numbers) ≡ 0
unfolding number_at
number_past [] = refl
number_past (x ∷ numbers) = number_past numbers

-- the numbers of a list stand in order
in_order : (d : ℕ → ℕ) (i : ℕ) (numbers : List ℕ)
    → ((k : ℕ) → d (i + k) ≡ number_at numbers k) → Same d i numbers
unfolding number_at
in_order d i [] is = tt
in_order d i (x ∷ numbers) is = (
  (let e : i + 0 ≡ i = omega arith in subst (λ n. d n ≡ x) e (is 0)),
  in_order d (i + 1) numbers (λ k.
      let e : i + suc k ≡ i + 1 + k = omega arith in
      subst (λ n. d n ≡ number_at numbers k) e (is (suc k))),
)

-- the forms of statements, in a unit and a function with its names
abbrev pub layout_of : CodeUnit → Numbers → List Stmt → Layout
layout_of unit numbers ss = record {
  unit = unit;
  variables = length numbers.names.variables;
  forms = (all_code (map (stmt_code numbers) ss)).forms None 0;
}

-- what is told of each form, with how many operands stand before it
pub record Told (layout : Layout) : Type 0 where
  pub depth : ℕ → ℕ
  pub begins : depth 0 ≡ 0
  pub spots : AllSpots layout depth 0 (length layout.forms)

-- a form is an operation whose operands are in range, or knows its label
pub wired_at : {layout : Layout} → Told layout → (k : ℕ) {form : Form}
    → slice_get layout.forms k ≡ Some form → WiredForm (Ranged layout) layout.forms k form
wired_at {layout} told k {form} here =
    let less = slice_get_within layout.forms k form here in
    (told.spots k (omega arith) (omega arith)).wired form here

-- it is told of those of statements whose needs are met
pub body_told : (unit : CodeUnit) (numbers : Numbers) (ss : List Stmt)
    → AreMet unit numbers (flat_map stmt_needs ss) → Told (layout_of unit numbers ss)
body_told unit numbers ss met =
    let layout = layout_of unit numbers ss in
    let coded : Coded = all_code (map (stmt_code numbers) ss) in
    let shape : Shape layout coded 0 0 = (of_body (record {
      unit = unit;
      numbers = numbers;
      Needed = IsMet unit numbers;
      Said = λ (m : Mention). Unit {0};
      own = λ v said. tt;
      meets = λ need met settled. met;
      P = IsShaped layout;
      pieces = shapes layout;
    }) ss met (each_any (flat_map (λ (s : Stmt). mentions s false) ss))).1.holds in
    let d : ℕ → ℕ = number_at shape.depths in
    let size : length (coded.forms None 0) ≡ coded.size = shape.sized None 0 in
    let last : d (0 + coded.size) ≡ 0 =
    let e : length shape.depths ≡ 0 + coded.size = omega (arith, shape.long) in
    subst (λ n. d n ≡ 0) e (number_past shape.depths) in
    let fits = shape.fits None 0 d
    (in_order d 0 shape.depths
    (λ k. let e : k ≡ 0 + k = omega arith in subst (λ n. d n ≡ d k) e refl))
    last tt (holds_all [] (coded.forms None 0)) in
    record {
      depth = d;
      begins = fits.0;
      spots = subst (λ n. AllSpots layout d 0 n) (sym size) fits.1;
    }
