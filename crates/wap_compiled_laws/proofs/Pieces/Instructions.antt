-- What each instruction that doesn't jump does, as a part.
use Rattle.std.proofs.Common.{◌≡◌, ℕ, List, ◌∷◌, Option, Some}
use Rattle.std.proofs.Common.{None, Result, Ok, Err, refl, slice_get, slice_set}
use Rattle.wap_value.specs.declared.value.Value.{Value}
use Rattle.wap_value.specs.declared.fault.ValueFault.{ValueFault}
use Rattle.wap_value.specs.declared.operator.UnOp.{UnOp}
use Rattle.wap_value.specs.declared.operator.BinOp.{BinOp}
use Rattle.wap_value.specs.Unary.{unary_of}
use Rattle.wap_value.specs.Binary.{binary_of}
use Rattle.wap_value.specs.TooLong.{kept_within}
use Rattle.wap_unit.specs.declared.row.OpName.{OpName}
use Rattle.wap_execution.specs.declared.action.Action.TheVariants.{Unary, Binary}
use Rattle.wap_execution.specs.Actions.{action_of}
use Rattle.wap_execution.specs.Effects.{Effect, onward, with_value, with_kept, stored, effect_of}
use Rattle.wap_execution.specs.Outcomes.{Ended}
use Rattle.wap_meaning.specs.SourceParts.{Does, done, give, given, load, store, kept_by, kept}
use Rattle.wap_meaning.specs.coding.Coded.{Coded, plain, with_operand}
use Rattle.wap_meaning.proofs.KeepingParts.{give_keeps, load_keeps, store_keeps, kept_keeps}
use Rattle.wap_compiled_laws.proofs.Pieces.Standing.{at}
use Rattle.wap_compiled_laws.proofs.Pieces.Pieces.{Site, settle, onto, Piece, op_piece}
use Rattle.wap_unit.specs.declared.row.OpName.TheVariants as op
use Rattle.std.proofs.Common.{arith}
use Rattle.std.proofs.lemmas.Grind.{common_steps}

-- operands as they are
abbrev pub as_is : List Value → List Value
as_is operands = operands

-- one operand more, on top
abbrev pub pushed : Value → List Value → List Value
pushed v operands = v ∷ operands

-- what is given leaves no operand
abbrev pub nothing : {A : Type 0} → A → List Value → List Value
nothing a operands = operands

module _ {S : Type 0} (site : Site S) where
  -- what an effect comes to
  abbrev settles : Effect → ℕ → S → Ended S
  settles = settle site

  -- what a frame comes to that goes on at a place
  abbrev going_on : ℕ → List Value → List Value → ℕ → S → Ended S
  going_on = at site.string site.call site.falls site.function

  -- a piece of code does what a part does, and leaves operands by what that gives
  abbrev IsPiece : {A : Type 0} → Does A S → Coded → (List Value → List Value)
      → (A → List Value → List Value) → Type 0
  IsPiece does coded pop push =
      Piece site does coded pop
      (onto site push)

  -- ---- what instructions need

  -- a value that has to be there
  pub value_settles : (o : Option Value) (next : Value → Effect) {variables : List Value}
      {turns : ℕ} {state : S} (end : Value → List Value → ℕ → S → Ended S)
      → ((v : Value) → settles (next v) turns state ≡ end v variables turns state)
      → settles (with_value o next) turns state ≡ done (given o variables turns state) end
  value_settles None next end nexts = refl
  value_settles (Some v) next end nexts = nexts v

  -- a value that must not be too long
  pub kept_settles : (k : Result Value ValueFault) (next : Value → Effect) {variables : List Value}
      {turns : ℕ} {state : S} (end : Value → List Value → ℕ → S → Ended S)
      → ((v : Value) → settles (next v) turns state ≡ end v variables turns state)
      → settles (with_kept k next) turns state ≡ done (kept_by k variables turns state) end
  kept_settles (Err fault) next end nexts = refl
  kept_settles (Ok v) next end nexts = nexts v

  -- a value that is stored
  pub stored_settles : (index : ℕ) (v : Value) (variables operands : List Value) (place : ℕ)
      (turns : ℕ) (state : S)
      → settles (stored index variables v operands place) turns state
      ≡ done (store index v variables turns state)
      (λ _ variables turns state. going_on place variables operands turns state)
  stored_settles index v variables operands place turns state =
      grind (arith, common_steps, settles, slice_set, going_on)

  -- ---- instructions

  -- LOAD_VAR reads a variable
  pub load_piece : {index : ℕ} → IsPiece (load index) (with_operand op.LoadVar index) as_is pushed
  unfolding effect_of
  load_piece {index} =
      op_piece site (load_keeps index) (λ exits place i other variables operands turns state.
      value_settles (slice_get variables index) (λ v. onward (site.pos i) variables (v ∷ operands))
      (λ v variables turns state. going_on (site.pos i) variables (v ∷ operands) turns state)
      (λ v. refl))

  -- STORE_VAR writes one
  pub store_piece : {index : ℕ} {v : Value}
      → IsPiece (store index v) (with_operand op.StoreVar index) (pushed v) nothing
  unfolding effect_of
  store_piece {index} {v} =
      op_piece site (store_keeps index v) (λ exits place i other variables operands turns state.
      stored_settles index v variables operands (site.pos i) turns state)

  -- an operator of two operands
  pub binary_piece : (name : OpName) (binop : BinOp) (left right : Value)
      → action_of name ≡ Binary binop
      → IsPiece (kept site.string (binary_of binop left right)) (plain name)
      (λ operands. right ∷ left ∷ operands) pushed
  unfolding effect_of
  binary_piece name binop left right is =
      op_piece site (kept_keeps site.string (binary_of binop left right))
      (λ exits place i other variables operands turns state.
      rw is (kept_settles (kept_within site.string (binary_of binop left right))
      (λ v. onward (site.pos i) variables (v ∷ operands))
      (λ v variables turns state. going_on (site.pos i) variables (v ∷ operands) turns state)
      (λ v. refl)))

  -- an operator of one operand
  pub unary_piece : {name : OpName} {unop : UnOp} {v : Value} → action_of name ≡ Unary unop
      → IsPiece (give (unary_of unop v)) (plain name) (pushed v) pushed
  unfolding effect_of
  unary_piece {unop} {v} is =
      op_piece site (give_keeps (unary_of unop v))
      (λ exits place i other variables operands turns state. rw is refl)

  -- POP drops what was given
  pub pop_piece : {v : Value} → IsPiece (give v) (plain op.Pop) (pushed v) nothing
  unfolding effect_of
  pop_piece {v} =
      op_piece site (give_keeps v) (λ exits place i other variables operands turns state. refl)
