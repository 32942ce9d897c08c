-- What holds of the steps of parts holds of what expressions mean, by induction on trees.
use Rattle.std.proofs.Common.{ℕ, Bool, true, false, List, [], ◌∷◌, Option, Some, None, map, sym}
use Rattle.std.proofs.Common.{subst, eqb, ◌||◌}
use Rattle.std.specs.Prelude.{if◌then◌else◌}
use Rattle.std.specs.List.{list_any}
use Rattle.wap_value.specs.declared.value.Value.{Value}
use Rattle.wap_value.specs.declared.value.Value.TheVariants.{Bool as Boolean, Invalid}
use Rattle.wap_value.specs.declared.operator.UnOp.TheVariants.{ToBool}
use Rattle.wap_value.specs.declared.operator.BinOp.{BinOp}
use Rattle.wap_value.specs.declared.operator.BinOp.TheVariants.{And, Or, Comma}
use Rattle.wap_value.specs.Conversion.{boolean_of}
use Rattle.wap_value.specs.Unary.{unary_of}
use Rattle.wap_value.specs.Binary.{binary_of}
use Rattle.wap_grammar.specs.declared.program.expression.Expr.{Expr, roll-Expr, map-Expr}
use Rattle.wap_grammar.specs.declared.program.expression.Expr.TheOpen.{Expr-F}
use Rattle.wap_grammar.specs.declared.program.expression.Expr.TheFolds.{fold-roll-Expr, ind-Expr}
use Rattle.wap_execution.specs.Effects.{Called, jumps_at}
use Rattle.wap_meaning.specs.SourceParts.{Does, ◌>>=◌, give, load, store, kept, calling}
use Rattle.wap_meaning.specs.Names.{Names, variable_at, callee_local, callee_external}
use Rattle.wap_meaning.specs.Names.{callee_library}
use Rattle.wap_meaning.specs.Expressions.{value_of, Around, decides, as_boolean, joined, chained}
use Rattle.wap_meaning.specs.Expressions.{each_of, step_of, eval_by, eval}
use Rattle.wap_meaning.specs.coding.Statements.{writes_by, writes}

-- what holds of the steps of parts: of what is given, of one part after the other, of variables
-- that are read or written, of values that must not be too long, and of calls; whether it is the
-- variable with this index that is written must be free
pub record OfSteps {S : Type 0} (around : Around S) (index : ℕ) (Free : Bool → Type 0)
    (P : (A : Type 0) → Does A S → Type 0) : Type 1 where
  pub left : (one other : Bool) → Free (one || other) → Free one
  pub right : (one other : Bool) → Free (one || other) → Free other
  pub gives : (A : Type 0) (a : A) → P A (give a)
  pub follows : (A B : Type 0) (does : Does A S) (next : A → Does B S) → P A does
      → ((a : A) → P B (next a)) → P B (does >>= next)
  pub loads : (other : ℕ) → P Value (load other)
  pub stores : (other : ℕ) (v : Value) → Free (eqb other index) → P (Unit {0}) (store other v)
  pub measures : (v : Value) → P Value (kept around.string v)
  pub calls : (callee : Called) (arguments : List Value)
      → P Value (calling around.call callee arguments)

module _ {S : Type 0} (around : Around S) (index : ℕ) (Free : Bool → Type 0)
    (P : (A : Type 0) → Does A S → Type 0) (steps : OfSteps around index Free P) where
  -- what names mean there
  abbrev names : Names
  names = around.names

  -- it holds of what an expression means that is free
  abbrev Claim : Expr → Type 0
  Claim e = Free (writes names e index) → P Value (eval around e)

  -- an expression of which it does
  abbrev Part : Type 0
  Part = (e : Expr) × Claim e

  -- one of two parts
  of_if : {A : Type 0} (test : Bool) (one other : Does A S) → P A one → P A other
      → P A (if test then one else other)
  of_if true one other ones others = ones
  of_if false one other ones others = others

  -- a short-circuit, by what its first operand is as Boolean
  of_decides : (by : Bool) (truth : Option Bool) (does : Does Value S) → P Value does
      → P Value (decides by truth does)
  of_decides by None does holds = steps.gives Value Invalid
  of_decides true (Some true) does holds = steps.gives Value (Boolean true)
  of_decides true (Some false) does holds = holds
  of_decides false (Some true) does holds = holds
  of_decides false (Some false) does holds = steps.gives Value (Boolean false)

  -- a short-circuit
  of_short : (by : Bool) (truth : Option Bool) (right : Does Value S) → P Value right
      → P Value (decides by truth (as_boolean right))
  of_short by truth right holds =
      of_decides by truth (as_boolean right)
      (steps.follows Value Value right (λ v. give (unary_of ToBool v)) holds
      (λ v. steps.gives Value (unary_of ToBool v)))

  -- an operator and the operand on its right
  of_joined : (binop : BinOp) (left : Value) (right : Does Value S) → P Value right
      → P Value (joined around.string binop left right)
  of_joined And left right holds = of_short false (boolean_of left) right holds
  of_joined Or left right holds = of_short true (boolean_of left) right holds
  of_joined Comma left right holds = holds
  of_joined binop left right holds =
      steps.follows Value Value right (λ v. kept around.string (binary_of binop left v)) holds
      (λ v. steps.measures (binary_of binop left v))

  -- a variable is written, and something given
  of_stored : (other : ℕ) (v given : Value) → Free (eqb other index)
      → P Value (store other v >>= λ _. give given)
  of_stored other v given free =
      steps.follows (Unit {0}) Value (store other v) (λ _. give given) (steps.stores other v free)
      (λ _. steps.gives Value given)

  -- operators of one precedence
  of_chain : (first : Does Value S) → P Value first → (pairs : List (BinOp × Part))
      → Free (list_any (λ (pair : BinOp × (ℕ → Bool)). pair.1 index)
      (map (λ (pair : BinOp × Expr). (pair.0, writes names pair.1))
      (map (λ (pair : BinOp × Part). (pair.0, pair.1.0)) pairs)))
      → P Value (chained around.string first
      (map (λ (pair : BinOp × Expr). (pair.0, eval around pair.1))
      (map (λ (pair : BinOp × Part). (pair.0, pair.1.0)) pairs)))
  of_chain first firsts [] free = firsts
  of_chain first firsts (pair ∷ pairs) free =
      let right = eval around pair.1.0 in
      let next : Value → Does Value S = λ left. joined around.string pair.0 left right in
      of_chain (first >>= next) (steps.follows Value Value first next firsts
      (λ left. of_joined pair.0 left right
      (pair.1.1 (steps.left (writes names pair.1.0 index) _ free)))) pairs
      (steps.right (writes names pair.1.0 index) _ free)

  -- what arguments mean
  abbrev evals : List Part → List (Does Value S)
  evals es = map (eval around) (map (λ (e : Part). e.0) es)

  -- whether one of some expressions writes the variable
  abbrev SomeWrites : List Part → Bool
  SomeWrites es =
      list_any (λ (e : ℕ → Bool). e index) (map (writes names) (map (λ (e : Part). e.0) es))

  -- arguments
  of_each : (es : List Part) → Free (SomeWrites es) → P (List Value) (each_of (evals es))
  of_each [] free = steps.gives (List Value) []
  of_each (e ∷ es) free =
      steps.follows Value (List Value) (eval around e.0)
      (λ v. each_of (evals es) >>= λ vs. give (v ∷ vs))
      (e.1 (steps.left (writes names e.0 index) _ free))
      (λ v. steps.follows (List Value) (List Value) (each_of (evals es)) (λ vs. give (v ∷ vs))
      (of_each es (steps.right (writes names e.0 index) _ free))
      (λ vs. steps.gives (List Value) (v ∷ vs)))

  -- a call and its arguments
  of_call : (callee : Called) (es : List Part) → Free (SomeWrites es)
      → P Value (each_of (evals es) >>= λ vs. calling around.call callee vs)
  of_call callee es free =
      steps.follows (List Value) Value (each_of (evals es))
      (λ vs. calling around.call callee vs) (of_each es free) (steps.calls callee)

  -- every construct
  layers : (y : Expr-F Part)
      → Free (writes_by names (map-Expr Expr (ℕ → Bool) (writes names)
      (map-Expr Part Expr (λ e. e.0) y)) index)
      → P Value (eval_by around (map-Expr Expr (Does Value S) (eval around)
      (map-Expr Part Expr (λ e. e.0) y)))
  layers (Expr-F.Lit l) free = steps.measures (value_of l)
  layers (Expr-F.Var v) free = steps.loads (variable_at names v)
  layers (Expr-F.Assign v None e) free =
      let place = variable_at names v in
      let may = steps.left (eqb place index) (writes names e.0 index) free in
      steps.follows Value Value (eval around e.0) (λ given. store place given >>= λ _. give given)
      (e.1 (steps.right (eqb place index) (writes names e.0 index) free))
      (λ given. of_stored place given given may)
  layers (Expr-F.Assign v (Some binop) e) free =
      let place = variable_at names v in
      let may = steps.left (eqb place index) (writes names e.0 index) free in
      let last : Value → Does Value S = λ new. store place new >>= λ _. give new in
      let later : Value → Value → Does Value S = λ old given.
      kept around.string (binary_of binop old given) >>= last in
      steps.follows Value Value (load place) (λ old. eval around e.0 >>= later old)
      (steps.loads place)
      (λ old. steps.follows Value Value (eval around e.0) (later old)
      (e.1 (steps.right (eqb place index) (writes names e.0 index) free))
      (λ given. steps.follows Value Value (kept around.string (binary_of binop old given)) last
      (steps.measures (binary_of binop old given)) (λ new. of_stored place new new may)))
  layers (Expr-F.Step v up prefix) free =
      let place = variable_at names v in
      let unop = step_of up in
      steps.follows Value Value (load place) (λ old. store place (unary_of unop old) >>= λ _.
      give (if prefix then unary_of unop old else old)) (steps.loads place)
      (λ old. of_stored place (unary_of unop old) (if prefix then unary_of unop old else old) free)
  layers (Expr-F.Unary unop e) free =
      steps.follows Value Value (eval around e.0) (λ v. give (unary_of unop v)) (e.1 free)
      (λ v. steps.gives Value (unary_of unop v))
  layers (Expr-F.Chain e pairs) free =
      of_chain (eval around e.0) (e.1 (steps.left (writes names e.0 index) _ free)) pairs
      (steps.right (writes names e.0 index) _ free)
  layers (Expr-F.Cond c first second) free =
      let one = writes names first.0 index in
      let two = writes names second.0 index in
      let rest = steps.right (writes names c.0 index) (one || two) free in
      steps.follows Value Value (eval around c.0)
      (λ v. if jumps_at v then eval around second.0 else eval around first.0)
      (c.1 (steps.left (writes names c.0 index) (one || two) free))
      (λ v. of_if (jumps_at v) (eval around second.0) (eval around first.0)
      (second.1 (steps.right one two rest)) (first.1 (steps.left one two rest)))
  layers (Expr-F.Call f es) free = of_call (callee_local names f) es free
  layers (Expr-F.External unit f es) free = of_call (callee_external names unit f) es free
  layers (Expr-F.Library l f es) free = of_call (callee_library l f) es free

  -- every expression
  pub of_expr : (e : Expr) → Claim e
  unfolding eval writes
  of_expr = ind-Expr Claim (λ x y is. subst (λ x. Claim (roll-Expr x)) is
      (λ free. subst (P Value) (sym (fold-roll-Expr (Does Value S) (eval_by around)
      (map-Expr Part Expr (λ e. e.0) y)))
      (layers y (subst (λ (w : ℕ → Bool). Free (w index))
      (fold-roll-Expr (ℕ → Bool) (writes_by names) (map-Expr Part Expr (λ e. e.0) y)) free))))
