-- What holds of the pieces of code holds of the code of expressions as statements, of declarations
-- and of loops; what they need is met.
use Rattle.std.proofs.Common.{◌≡◌, ℕ, ◌+◌, Bool, true, false, cond, List, [], ◌∷◌, Option, Some}
use Rattle.std.proofs.Common.{None, refl, sym, ap, ◌∙◌, arith, map}
use Rattle.std.specs.List.{flat_map, sum_by}
use Rattle.std.proofs.lemmas.List.Sums.{sum_by-cons}
use Rattle.wap_value.specs.declared.operator.BinOp.{BinOp}
use Rattle.wap_value.specs.declared.operator.BinOp.TheVariants as bin
use Rattle.wap_unit.specs.declared.row.OpName.{OpName}
use Rattle.wap_unit.specs.declared.row.OpName.TheVariants as op
use Rattle.wap_unit.specs.declared.row.Operands.TheVariants as operands
use Rattle.wap_asm.specs.Spellings.{operation_of, longest}
use Rattle.wap_asm.specs.Placing.{wide_size}
use Rattle.wap_grammar.specs.declared.program.program.Id.{Id}
use Rattle.wap_grammar.specs.declared.program.expression.Expr.{Expr, roll-Expr, map-Expr, out-Expr}
use Rattle.wap_grammar.specs.declared.program.expression.Expr.{roll-out-Expr}
use Rattle.wap_grammar.specs.declared.program.expression.Expr.TheOpen.{Expr-F}
use Rattle.wap_grammar.specs.declared.program.expression.Expr.TheFolds.{fold-roll-Expr}
use Rattle.wap_scope.specs.Names.{references, Mention, Refers, refers, refers_if, declares}
use Rattle.wap_meaning.specs.Names.{variable_at}
use Rattle.wap_meaning.specs.coding.Coded.{Coded, ◌⨾◌, instr, with_operand, all_code}
use Rattle.wap_meaning.specs.coding.Expressions.{store_code, expr_code}
use Rattle.wap_meaning.specs.coding.Statements.{dropped_code, writes, changed_code, effect_code}
use Rattle.wap_meaning.specs.coding.Statements.{test_code, loop_code, update_code, declared_code}
use Rattle.wap_meaning.specs.coding.Needs.{Need, Variable, expr_needs, optional_needs}
use Rattle.wap_meaning.specs.coding.Needs.{declared_needs}
use Rattle.wap_meaning.specs.compiled.Wide.{expr_wide_by, expr_wide, effect_wide, effect_wide_if}
use Rattle.wap_meaning.specs.compiled.Wide.{declared_wide, loop_wide}
use Rattle.wap_meaning.specs.compiled.Savings.{effect_saves, effect_saves_if}
use Rattle.wap_compiled_laws.proofs.Depths.Flow.{goes}
use Rattle.wap_meaning.proofs.Each.{each_of}
use Rattle.wap_compiled_laws.proofs.Induction.Pieces.{HasFacts, Saves, Setting}
use Rattle.wap_compiled_laws.proofs.Induction.Known.{Known, front, behind, Met, none_met, both_met}
use Rattle.wap_compiled_laws.proofs.Induction.Known.{KnownOf, unrolled}
use Rattle.wap_compiled_laws.proofs.Induction.Parts.{same, store_holds, change_holds}
use Rattle.wap_compiled_laws.proofs.Induction.Expressions.{of_expr}

module _ (here : Setting) where
  open here use {unit, numbers, Said, own, meets, P, pieces}

  -- what is known of statements
  abbrev pub Stated : List Need → List Mention → Type 0
  Stated = Known here Said

  -- what a statement says of an expression is known of it
  pub known_of : (e : Expr) → Stated (expr_needs e) (refers e) → KnownOf here e
  known_of e stated = record {
    given = stated.given;
    said = each_of Said Refers (references e) stated.said;
  }

  -- ---- what is saved

  -- code leaves the operands as they were, and saves so many bytes of so many
  abbrev pub Rests : Bool → Coded → ℕ → ℕ → Type 0
  Rests = Saves P

  -- it saves none
  pub exactly : {inside : Bool} {coded : Coded} {n : ℕ} → P inside coded 0 0 n
      → Rests inside coded 0 n
  exactly {n} holds = record { size = n; holds = holds; whole = omega arith; few = omega arith }

  -- sizes that are the same
  pub rests_same : {inside : Bool} {coded : Coded} {a b m n : ℕ} → a ≡ b → m ≡ n
      → Rests inside coded a m → Rests inside coded b n
  rests_same saves wide rests = record {
    size = rests.size;
    holds = rests.holds;
    whole = omega (arith, rests.whole, saves, wide);
    few = omega (arith, rests.few, saves);
  }

  -- two parts with so many bytes more
  pub rests_more : {one two three : Bool} {first second whole : Coded} {a b m n : ℕ} (more : ℕ)
      (firsts : Rests one first a m) (seconds : Rests two second b n)
      → P three whole 0 0 (firsts.size + seconds.size + more)
      → Rests three whole (a + b) (m + n + more)
  rests_more more firsts seconds holds = record {
    size = firsts.size + seconds.size + more;
    holds = holds;
    whole = omega (arith, firsts.whole, seconds.whole);
    few = omega (arith, firsts.few, seconds.few);
  }

  -- one statement after the other
  pub rests_both : {inside : Bool} {first second : Coded} {a b m n : ℕ} → Rests inside first a m
      → Rests inside second b n → Rests inside (first ⨾ second) (a + b) (m + n)
  rests_both firsts seconds =
      rests_same refl (omega arith) (rests_more 0 firsts seconds
      (same here (omega arith) (pieces.both firsts.holds seconds.holds)))

  -- ---- expressions as statements

  -- an expression whose value is dropped
  dropped_rests : {inside : Bool} (e : Expr) → KnownOf here e
      → Rests inside (dropped_code (expr_code numbers e)) 0 (effect_wide e)
  unfolding wide_size operation_of longest
  dropped_rests {inside} e known =
      exactly (pieces.both ((of_expr here e inside known).1 0) (pieces.plain_op op.Pop 0 refl))

  -- an expression is as wide as its parts make it
  wide_is : (x : Expr-F Expr) (e : Expr) → roll-Expr x ≡ e
      → expr_wide e ≡ expr_wide_by (map-Expr Expr ℕ expr_wide x)
  unfolding expr_wide
  wide_is x e is = ap expr_wide (sym is) ∙ fold-roll-Expr ℕ expr_wide_by x

  -- `x = e`
  taken_rests : {inside : Bool} (v : Id) (right : Expr) {e : Expr}
      → roll-Expr (Expr-F.Assign v None right) ≡ e → KnownOf here e
      → Rests inside (expr_code numbers right ⨾ store_code (variable_at numbers.names v)) 3
      (effect_wide e)
  taken_rests {inside} v right {e} is known =
      let parts = unrolled here (Expr-F.Assign v None right) is known in
      let there = meets (Variable v) parts.given.0 parts.said.0 in
      let part = of_expr here right inside
      (record { given = parts.given.1; said = parts.said.1 }) in
      let wide : expr_wide e ≡ expr_wide right + 4 =
      wide_is (Expr-F.Assign v None right) e is in
      record {
        size = expr_wide right + 2;
        holds = pieces.both (part.1 0) (store_holds here there);
        whole = omega (arith, wide);
        few = omega arith;
      }

  -- `x++`, `++x`, `x--` and `--x`
  step_rests : {inside : Bool} (v : Id) (up prefix : Bool) {e : Expr}
      → roll-Expr (Expr-F.Step v up prefix) ≡ e → KnownOf here e
      → Rests inside (effect_code numbers (Expr-F.Step v up prefix) (expr_code numbers e)) 3
      (effect_wide e)
  step_rests {inside} v up prefix {e} is known =
      let parts = unrolled here (Expr-F.Step v up prefix) is known in
      let there = meets (Variable v) parts.given.0 parts.said.0 in
      let wide : expr_wide e ≡ 4 = wide_is (Expr-F.Step v up prefix) e is in
      record {
        size = 2;
        holds = change_holds here inside up (variable_at numbers.names v) 0 there;
        whole = omega (arith, wide);
        few = omega arith;
      }

  -- `x += e` and `x -= e`, whether e writes x or not
  changed_rests : {inside : Bool} (v : Id) (o : BinOp) {name : OpName} (right : Expr) {e : Expr}
      → HasFacts unit (instr name (variable_at numbers.names v) 0 0) operands.Variable (goes 1 0) 8
      → roll-Expr (Expr-F.Assign v (Some o) right) ≡ e → KnownOf here e
      → Rests inside (changed_code numbers (variable_at numbers.names v) name right
      (expr_code numbers e)) 0 (effect_wide e)
  changed_rests {inside} v o {name} right {e} facts is known =
      by (writes numbers.names right (variable_at numbers.names v))
    where
      by : (does : Bool) → Rests inside (cond does (dropped_code (expr_code numbers e))
          (expr_code numbers right ⨾ with_operand name (variable_at numbers.names v)))
          0 (effect_wide e)
      by true = dropped_rests e known
      by false =
          let parts = unrolled here (Expr-F.Assign v (Some o) right) is known in
          let there = meets (Variable v) parts.given.0 parts.said.0 in
          let part = of_expr here right inside
          (record { given = parts.given.1.1; said = parts.said.1 }) in
          let wide : expr_wide e ≡ expr_wide right + 7 =
          wide_is (Expr-F.Assign v (Some o) right) e is in
          exactly (same here (omega (arith, wide)) (pieces.both (part.1 0)
          (pieces.variable_op name (variable_at numbers.names v) 0 facts there)))

  -- an expression as a statement
  effect_rests : {inside : Bool} (x : Expr-F Expr) {e : Expr} → roll-Expr x ≡ e → KnownOf here e
      → Rests inside (effect_code numbers x (expr_code numbers e)) (effect_saves x) (effect_wide e)
  unfolding wide_size operation_of longest
  effect_rests (Expr-F.Assign v None right) is known = taken_rests v right is known
  effect_rests (Expr-F.Assign v (Some bin.Add) right) is known =
      changed_rests v bin.Add right refl is known
  effect_rests (Expr-F.Assign v (Some bin.Sub) right) is known =
      changed_rests v bin.Sub right refl is known
  effect_rests (Expr-F.Step v up prefix) is known = step_rests v up prefix is known
  effect_rests _ {e} is known = dropped_rests e known

  -- the same of a whole expression
  pub whole_rests : (inside : Bool) (e : Expr) → KnownOf here e
      → Met here (expr_needs e)
      × Rests inside (effect_code numbers (out-Expr e) (expr_code numbers e))
      (effect_saves (out-Expr e)) (effect_wide e)
  whole_rests inside e known =
      ((of_expr here e inside known).0, effect_rests (out-Expr e) (roll-out-Expr e) known)

  -- ---- declarations

  -- a declaration
  declared_rests : (inside : Bool) (pair : Id × Option Expr)
      → Stated (declared_needs pair) (declares pair)
      → Met here (declared_needs pair)
      × P inside (declared_code numbers pair) 0 0 (declared_wide pair)
  unfolding wide_size operation_of longest
  declared_rests inside (v, None) stated =
      let there = meets (Variable v) stated.given.0 (own v stated.said.0) in (
        record { met = (there, tt) },
        pieces.both (pieces.plain_op op.ConstEs 0 refl) (store_holds here there),
      )
  declared_rests inside (v, Some e) stated =
      let there = meets (Variable v) stated.given.0 (own v stated.said.0) in
      let part = of_expr here e inside
      (known_of e (record { given = stated.given.1; said = stated.said.1 })) in (
        record { met = (there, part.0.met) },
        pieces.both (part.1 0) (store_holds here there),
      )

  -- declarations in order
  pub variables_rest : (inside : Bool) (pairs : List (Id × Option Expr))
      → Stated (flat_map declared_needs pairs) (flat_map declares pairs)
      → Met here (flat_map declared_needs pairs)
      × P inside (all_code (map (declared_code numbers) pairs)) 0 0 (sum_by declared_wide pairs)
  variables_rest inside [] stated = (none_met here, pieces.none)
  variables_rest inside (pair ∷ pairs) stated =
      let one = declared_rests inside pair (front here _ _ stated) in
      let rest = variables_rest inside pairs
      (behind here (declared_needs pair) (declares pair) stated) in (
        both_met here one.0 rest.0,
        same here (sym (sum_by-cons declared_wide pair pairs)) (pieces.both one.1 rest.1),
      )

  -- ---- loops

  -- the update of a `for`
  pub update_rests : (inside : Bool) (update : Option Expr)
      → Stated (optional_needs update) (refers_if update)
      → Met here (optional_needs update)
      × Rests inside (update_code numbers update) (effect_saves_if update) (effect_wide_if update)
  update_rests inside None stated = (none_met here, exactly pieces.none)
  update_rests inside (Some e) stated = whole_rests inside e (known_of e stated)

  -- a loop, with a condition or without
  pub loop_rests : (inside : Bool) (c : Option Expr) {body update : Coded} {a b m n : ℕ}
      → Stated (optional_needs c) (refers_if c) → Rests true body a m → Rests inside update b n
      → Met here (optional_needs c)
      × Rests inside (loop_code (test_code numbers c) body update) (a + b) (m + n + loop_wide c)
  loop_rests inside None stated bodies updates =
      (none_met here, rests_more 3 bodies updates (pieces.endless bodies.holds updates.holds))
  loop_rests inside (Some e) stated bodies updates =
      let test = of_expr here e inside (known_of e stated) in (
        test.0,
        rests_more (expr_wide e + 6) bodies updates
            (pieces.loop (test.1 0) bodies.holds updates.holds),
      )
