-- What holds of the pieces of code holds of the code of literals, of operators and of variables.
use Rattle.std.proofs.Common.{◌≡◌, ℕ, suc, ◌+◌, ◌<◌, Bool, true, false, List, ◌∷◌, length}
use Rattle.std.proofs.Common.{map, refl, sym, ◌∙◌, subst, arith}
use Rattle.std.specs.List.{AllByRecursion}
use Rattle.std.proofs.lemmas.List.{length-map}
use Rattle.wap_value.specs.declared.operator.UnOp.{UnOp}
use Rattle.wap_value.specs.declared.operator.UnOp.TheVariants as un
use Rattle.wap_value.specs.declared.operator.BinOp.{BinOp}
use Rattle.wap_value.specs.declared.operator.BinOp.TheVariants as bin
use Rattle.wap_value.specs.Binary.{TakesBoth}
use Rattle.wap_unit.specs.declared.unit.Unit.{Unit as CodeUnit}
use Rattle.wap_unit.specs.declared.row.OpName.TheVariants as op
use Rattle.wap_unit.specs.declared.row.Operands.TheVariants as operands
use Rattle.wap_asm.specs.Spellings.{operation_of, longest}
use Rattle.wap_asm.specs.Placing.{wide_size}
use Rattle.wap_grammar.specs.declared.program.expression.Literal.{Literal}
use Rattle.wap_grammar.specs.declared.program.expression.Literal.TheVariants as literal
use Rattle.wap_meaning.specs.coding.Coded.{Coded, ◌⨾◌, instr, plain, with_operand}
use Rattle.wap_meaning.specs.coding.Constants.{number_of}
use Rattle.wap_meaning.specs.coding.Needs.{Constant, AreMet, literal_needs}
use Rattle.wap_meaning.specs.coding.Expressions.{literal_code, unary_code, binary_name, joined_code}
use Rattle.wap_meaning.specs.coding.Expressions.{load_code, store_code, change_name}
use Rattle.wap_meaning.specs.coding.Expressions.{step_code}
use Rattle.wap_meaning.specs.compiled.Wide.{literal_wide, unary_wide, binary_wide}
use Rattle.wap_compiled_laws.proofs.Depths.Flow.{goes}
use Rattle.wap_compiled_laws.proofs.Labels.Ranges.{constant_within}
use Rattle.wap_compiled_laws.proofs.Induction.Pieces.{HasFacts, Setting}

-- the operation of an operator that takes both values makes one value of two
binary_is : (unit : CodeUnit) (binop : BinOp) → TakesBoth binop
    → HasFacts unit (instr (binary_name binop) 0 0 0) operands.Plain (goes 2 1) 1
unfolding wide_size operation_of longest
binary_is unit bin.And takes = absurd takes
binary_is unit bin.Or takes = absurd takes
binary_is unit bin.Comma takes = absurd takes
binary_is unit binop takes = refl

-- lists to which one is mapped have as many items
pub as_many : {X Y Z : Type 0} (f : X → Y) (g : X → Z) (xs : List X)
    → length (map f xs) ≡ length (map g xs)
as_many f g xs = length-map xs f ∙ sym (length-map xs g)

module _ (here : Setting) where
  open here use {unit, numbers, Needed, meets, P, pieces}

  -- a size that is the same
  pub same : {inside : Bool} {coded : Coded} {from to m n : ℕ} → m ≡ n → P inside coded from to m
      → P inside coded from to n
  same {inside} {coded} {from} {to} is holds = subst (P inside coded from to) is holds

  -- code leaves one operand more
  abbrev pub Gives : Bool → Coded → ℕ → Type 0
  Gives inside coded size = (x : ℕ) → P inside coded x (suc x) size

  -- what a literal needs is met
  pub literal_met : (l : Literal) → AllByRecursion Needed (literal_needs l)
      → AreMet unit numbers (literal_needs l)
  literal_met (literal.Int z) given = (meets (Constant (literal.Int z)) given.0 tt, tt)
  literal_met (literal.Str (c ∷ cs)) given =
      (meets (Constant (literal.Str (c ∷ cs))) given.0 tt, tt)
  literal_met _ given = tt

  -- a literal
  pub literal_gives : {inside : Bool} (l : Literal) → AreMet unit numbers (literal_needs l)
      → Gives inside (literal_code numbers l) (literal_wide l)
  unfolding wide_size operation_of longest
  literal_gives (literal.Int z) met x =
      pieces.constant_op (number_of numbers (literal.Int z)) (constant_within unit met.0)
  literal_gives (literal.Str (c ∷ cs)) met x =
      pieces.constant_op (number_of numbers (literal.Str (c ∷ cs))) (constant_within unit met.0)
  literal_gives (literal.Bool true) met x = pieces.plain_op op.ConstTrue x refl
  literal_gives _ met x = pieces.plain_op _ x refl

  -- an operator of one operand
  pub unary_holds : {inside : Bool} (unop : UnOp) {x : ℕ}
      → P inside (unary_code unop) (suc x) (suc x) (unary_wide unop)
  unfolding wide_size operation_of longest
  unary_holds un.Plus {x} =
      pieces.both (pieces.plain_op op.Const0 (suc x) refl) (pieces.plain_op op.Sub x refl)
  unary_holds _ {x} = pieces.plain_op _ x refl

  -- an operator that takes both values
  pub binary_holds : {inside : Bool} (binop : BinOp) {x : ℕ} → TakesBoth binop
      → P inside (plain (binary_name binop)) (suc (suc x)) (suc x) 1
  binary_holds binop {x} takes = pieces.plain_op (binary_name binop) x (binary_is unit binop takes)

  -- such an operator, and the operand on its right
  operator_holds : {inside : Bool} (binop : BinOp) {second : Coded} {n : ℕ} → TakesBoth binop
      → Gives inside second n → {x : ℕ}
      → P inside (second ⨾ plain (binary_name binop)) (suc x) (suc x) (1 + n)
  operator_holds binop takes gives {x} =
      same (omega arith) (pieces.both (gives (suc x)) (binary_holds binop takes))

  -- every operator and the operand on its right
  pub joined_holds : {inside : Bool} (binop : BinOp) {second : Coded} {n : ℕ}
      → Gives inside second n → {x : ℕ}
      → P inside (joined_code binop second) (suc x) (suc x) (binary_wide binop + n)
  unfolding wide_size operation_of longest
  joined_holds bin.And gives {x} = pieces.short_circuit op.Scand refl (gives x)
  joined_holds bin.Or gives {x} = pieces.short_circuit op.Scor refl (gives x)
  joined_holds bin.Comma gives {x} = pieces.both (pieces.plain_op op.Pop x refl) (gives x)
  joined_holds binop gives = operator_holds binop tt gives

  -- a variable
  pub load_gives : {inside : Bool} {a : ℕ} → a < length numbers.names.variables
      → Gives inside (load_code a) 2
  unfolding wide_size operation_of longest
  load_gives {a} there x = pieces.variable_op op.LoadVar a x refl there

  -- a value that is stored
  pub store_holds : {inside : Bool} {a x : ℕ} → a < length numbers.names.variables
      → P inside (store_code a) (suc x) x 2
  unfolding wide_size operation_of longest
  store_holds {a} {x} there = pieces.variable_op op.StoreVar a x refl there

  -- a value that is stored and loaded again
  pub kept_holds : {inside : Bool} {a x : ℕ} → a < length numbers.names.variables
      → P inside (store_code a ⨾ load_code a) (suc x) (suc x) 4
  kept_holds {x} there = pieces.both (store_holds there) (load_gives there x)

  -- a variable that goes up or down
  pub change_holds : (inside up : Bool) (a x : ℕ) → a < length numbers.names.variables
      → P inside (with_operand (change_name up) a) x x 2
  unfolding wide_size operation_of longest
  change_holds inside true a x there = pieces.variable_op op.IncrVar a x refl there
  change_holds inside false a x there = pieces.variable_op op.DecrVar a x refl there

  -- a step
  pub step_gives : {inside : Bool} {a : ℕ} (up prefix : Bool) → a < length numbers.names.variables
      → Gives inside (step_code a up prefix) 4
  step_gives {inside} {a} up true there x =
      pieces.both (change_holds inside up a x there) (load_gives there x)
  step_gives {inside} {a} up false there x =
      pieces.both (load_gives there x) (change_holds inside up a (suc x) there)
