-- Assignments, steps, literals and calls.
use Rattle.std.proofs.Common.{◌≡◌, ℕ, ◌+◌, Bool, true, false, ltb, cond, List, ◌++◌}
use Rattle.std.proofs.Common.{length, reverse, Option, Some, None, refl, ap, ◌∙◌}
use Rattle.std.proofs.Common.{arith, slice_get, slice_set, option_map, length-append, length-set}
use Rattle.std.proofs.Common.{get_or-set_same, subst}
use Rattle.std.proofs.lemmas.Bool.{ltb-true, le-leb}
use Rattle.std.proofs.lemmas.Option.{slice_get-get_or}
use Rattle.std.proofs.lemmas.List.{reverse-reverse, length-reverse}
use Rattle.wap_value.specs.declared.value.Value.{Value}
use Rattle.wap_value.specs.declared.value.Value.TheVariants.{Invalid}
use Rattle.wap_value.specs.declared.operator.UnOp.{UnOp}
use Rattle.wap_value.specs.declared.operator.BinOp.{BinOp}
use Rattle.wap_value.specs.Unary.{unary_of}
use Rattle.wap_value.specs.Binary.{TakesBoth}
use Rattle.wap_unit.specs.declared.unit.Code.{Code}
use Rattle.wap_unit.specs.declared.row.OpName.{OpName}
use Rattle.wap_unit.specs.Libraries.{lib_args}
use Rattle.wap_unit.specs.Strings.{string_at}
use Rattle.wap_execution.specs.declared.action.Action.TheVariants.{ChangeVariable, Binary}
use Rattle.wap_execution.specs.Actions.{action_of}
use Rattle.wap_execution.specs.Effects.{local, library, external, Effect, calls, with_arguments}
use Rattle.wap_execution.specs.Effects.{stored, effect_of}
use Rattle.wap_execution.specs.Outcomes.{stuck}
use Rattle.wap_execution.specs.Running.{ended}
use Rattle.wap_meaning.specs.SourceParts.{Came, gave, over, Does, from, ◌>>=◌, done, give, given}
use Rattle.wap_meaning.specs.SourceParts.{load, store, calling}
use Rattle.wap_meaning.specs.Expressions.{assigned, stepped}
use Rattle.wap_asm.specs.declared.form.Form.TheVariants.{Op}
use Rattle.wap_meaning.specs.coding.Coded.{Coded, one, ◌⨾◌, instr, with_operand}
use Rattle.wap_meaning.specs.coding.Expressions.{load_code, store_code, assigned_code, binary_name}
use Rattle.wap_meaning.proofs.KeepingParts.{give_keeps, load_keeps, store_keeps, calling_keeps}
use Rattle.wap_meaning.proofs.Following.{from_done, keeps_both}
use Rattle.wap_meaning.specs.Keeping.{Lessens, Keeps}
use Rattle.wap_compiled_laws.proofs.Pieces.Pieces.{Site, spot, After, onto, Piece, both, op_piece}
use Rattle.wap_compiled_laws.proofs.Pieces.Instructions.{as_is, pushed, nothing, load_piece}
use Rattle.wap_compiled_laws.proofs.Pieces.Instructions.{store_piece, value_settles, stored_settles}
use Rattle.wap_compiled_laws.proofs.Pieces.Instructions.{binary_piece}
use Rattle.wap_unit.specs.declared.row.OpName.TheVariants as op
use Rattle.std.proofs.lemmas.Grind.{common_steps}

-- the arguments of a call, the last of them on top
abbrev pub popped : List Value → List Value → List Value
popped vs operands = reverse vs ++ operands

-- ---- variables

-- what was stored is loaded
loaded_by : {S : Type 0} {within : Bool} (index : ℕ) (v : Value) (variables : List Value)
    (turns : ℕ) (state : S) → ltb index (length variables) ≡ within
    → from (cond within (gave (tt {0}) (slice_set variables index v) turns state)
    (over (ended stuck turns state))) (λ _. load index)
    ≡ from (cond within (gave (tt {0}) (slice_set variables index v) turns state)
    (over (ended stuck turns state))) (λ _. give v)
loaded_by {within = true} index v variables turns state is =
    let within = ltb-true index (length variables) is in
    let there : slice_get (slice_set variables index v) index ≡ Some v =
    slice_get-get_or (slice_set variables index v) index v
    (omega (arith, length-set variables index v))
    ∙ ap Some (get_or-set_same variables index v v within) in
    ap (λ (o : Option Value). given o (slice_set variables index v) turns state) there
loaded_by index v variables turns state is = refl

-- a variable that was stored is loaded as it was stored
pub loaded : {S : Type 0} (index : ℕ) (v : Value) (variables : List Value) (turns : ℕ) (state : S)
    → (store index v >>= λ _. load index) variables turns state
    ≡ (store index v >>= λ _. give v) variables turns state
loaded index v variables turns state = loaded_by index v variables turns state refl

-- parts that come to the same may follow each other's place
pub from_same : {A B S : Type 0} (came : Came A S) {some other : A → Does B S}
    → ((a : A) (variables : List Value) (turns : ℕ) (state : S)
    → some a variables turns state ≡ other a variables turns state)
    → from came some ≡ from came other
from_same (gave a variables turns state) same = same a variables turns state
from_same (over end) same = refl

-- three parts in a row, however they are taken together
pub from_from : {A B C S : Type 0} (came : Came A S) (some : A → Does B S) (other : B → Does C S)
    → from (from came some) other ≡ from came (λ a. some a >>= other)
from_from (gave a variables turns state) some other = refl
from_from (over end) some other = refl

-- an operator that takes both operands has an operation that does the same
acts_as : (binop : BinOp) → TakesBoth binop → action_of (binary_name binop) ≡ Binary binop
acts_as binop h1 = grind (arith, common_steps)

module _ {S : Type 0} (site : Site S) where
  -- another part that comes to the same
  pub piece_same : {A : Type 0} {does other : Does A S} {coded : Coded}
      {pop : List Value → List Value} {after : After site A}
      → ((variables : List Value) (turns : ℕ) (state : S)
      → does variables turns state ≡ other variables turns state)
      → Piece site does coded pop after → Piece site other coded pop after
  piece_same {coded} {after} same piece = record {
    sized = piece.sized;
    falls = λ variables turns state.
        subst (λ (came : Came _ S). Lessens variables turns came) (same variables turns state)
        (piece.falls variables turns state);
    follows = λ exits i reach holds variables fits operands turns state.
        piece.follows exits i reach holds variables fits operands turns state
        ∙ ap (λ (came : Came _ S). done came (after exits (i + coded.size) operands))
        (same variables turns state);
  }

  -- the same above operands that stay
  pub above : {A : Type 0} {does : Does A S} {coded : Coded} (push : A → List Value → List Value)
      {below : List Value → List Value} → Piece site does coded as_is (onto site push)
      → Piece site does coded below (onto site (λ a operands. push a (below operands)))
  above push {below} piece = record {
    sized = piece.sized;
    falls = piece.falls;
    follows = λ exits i reach holds variables fits operands turns state.
        piece.follows exits i reach holds variables fits (below operands) turns state;
  }

  -- the same where other operands are meant by what is given
  pub as_other : {A B : Type 0} {does : Does A S} {f : A → B} {coded : Coded}
      {pop : List Value → List Value} {push : A → List Value → List Value}
      (push' : B → List Value → List Value)
      → ((a : A) (operands : List Value) → push a operands ≡ push' (f a) operands)
      → Piece site does coded pop (onto site push)
      → Piece site (does >>= λ a. give (f a)) coded pop (onto site push')
  as_other {does} {f} {coded} {push} push' same piece = record {
    sized = piece.sized;
    falls = keeps_both does (λ a. give (f a)) piece.falls (λ a. give_keeps (f a));
    follows = λ exits i reach holds variables fits operands turns state.
        piece.follows exits i reach holds variables fits operands turns state
        ∙ from_done (does variables turns state) (λ a. give (f a))
        (onto site push exits (i + coded.size) operands)
        (onto site push' exits (i + coded.size) operands)
        (λ a vs left later. ap (λ (os : List Value). spot site (i + coded.size) vs os left later)
        (same a operands));
  }

  -- a value is stored and left
  pub stored_piece : {index : ℕ} (v : Value)
      → Piece site (store index v >>= λ _. give v) (store_code index ⨾ load_code index) (pushed v)
      (onto site pushed)
  stored_piece {index} v =
      piece_same (loaded index v) (both site tt (store_piece site) (λ _. load_piece site))

  -- an assignment
  pub assigned_piece : (index : ℕ) {right : Does Value S} {second : Coded}
      → Piece site right second as_is (onto site pushed)
      → Piece site (assigned site.string index None right) (assigned_code index None second) as_is
      (onto site pushed)
  assigned_piece index piece = both site Invalid piece (stored_piece)

  -- an assignment with an operator
  pub changed_piece : {index : ℕ} (binop : BinOp) {right : Does Value S} {second : Coded}
      → TakesBoth binop → Piece site right second as_is (onto site pushed)
      → Piece site (assigned site.string index (Some binop) right)
      (assigned_code index (Some binop) second) as_is (onto site pushed)
  changed_piece binop takes piece =
      let name = binary_name binop in
      both site Invalid (load_piece site) (λ old. both site Invalid (above pushed piece)
      (λ v. both site Invalid (binary_piece site name binop old v (acts_as binop takes))
      (stored_piece)))

  -- ---- steps

  -- a step keeps turns and variables
  change_keeps : (index : ℕ) (unop : UnOp)
      → Keeps {S = S} (load index >>= λ old. store index (unary_of unop old))
  change_keeps index unop =
      keeps_both (load index) (λ old. store index (unary_of unop old)) (load_keeps index)
      (λ old. store_keeps index (unary_of unop old))

  -- a step of a variable
  pub change_piece : {index : ℕ} {name : OpName} {unop : UnOp}
      → action_of name ≡ ChangeVariable unop
      → Piece site (load index >>= λ old. store index (unary_of unop old))
      (with_operand name index) as_is (onto site nothing)
  unfolding effect_of
  change_piece {index} {unop} acts =
      op_piece site (change_keeps index unop) (λ exits place i other variables operands turns state.
      rw acts (value_settles site (slice_get variables index)
      (λ old. stored index variables (unary_of unop old) operands (site.pos i))
      (λ old variables turns state. done (store index (unary_of unop old) variables turns
      state) (λ _ variables turns state. spot site i variables operands turns state))
      (λ old. stored_settles site index (unary_of unop old) variables operands (site.pos i) turns
      state)
      ∙ from_done (given (slice_get variables index) variables turns state)
      (λ old. store index (unary_of unop old))
      (λ old variables turns state. done (store index (unary_of unop old) variables turns
      state) (λ _ variables turns state. spot site i variables operands turns state))
      (λ _ variables turns state. spot site i variables operands turns state)
      (λ old vs left later. refl)))

  -- a step whose new value is given
  pub prefix_piece : {index : ℕ} {name : OpName} {unop : UnOp}
      → action_of name ≡ ChangeVariable unop
      → Piece site (stepped index unop true) (with_operand name index ⨾ load_code index) as_is
      (onto site pushed)
  prefix_piece {index} {unop} acts =
      piece_same
      (λ variables turns state.
      from_from (load index variables turns state) (λ old. store index (unary_of unop old))
      (λ _. load index)
      ∙ from_same (load index variables turns state)
      (λ old vs left later. loaded index (unary_of unop old) vs left later)) (both site tt
      (change_piece acts) (λ _. load_piece site))

  -- a variable that was read before its step has its old value
  postfix_same : (index : ℕ) (unop : UnOp) (variables : List Value) (turns : ℕ) (state : S)
      (o : Option Value) → slice_get variables index ≡ o
      → from (given o variables turns state)
      (λ old. (load index >>= λ x. store index (unary_of unop x)) >>= λ _. give old)
      ≡ from (given o variables turns state)
      (λ old. store index (unary_of unop old) >>= λ _. give old)
  postfix_same index unop variables turns state o h6 = grind (arith, common_steps)

  -- a step whose old value is given
  pub postfix_piece : {index : ℕ} {name : OpName} {unop : UnOp}
      → action_of name ≡ ChangeVariable unop
      → Piece site (stepped index unop false) (load_code index ⨾ with_operand name index) as_is
      (onto site pushed)
  postfix_piece {index} {unop} acts =
      piece_same
      (λ variables turns state.
      postfix_same index unop variables turns state (slice_get variables index) refl)
      (both site Invalid (load_piece site) (λ old. as_other pushed (λ _ operands. refl)
      (above nothing (change_piece acts))))

  -- ---- calls

  -- a call takes its arguments off the operands, the last from the top
  arguments_taken : {vs operands : List Value} (next : List Value → List Value → Effect)
      → with_arguments (length vs) (reverse vs ++ operands) next ≡ next vs operands
  arguments_taken {vs} {operands} next =
      grind (arith, common_steps, length-reverse, le-leb, length-append, reverse-reverse)

  -- a call of a function of the unit
  pub local_piece : {index : ℕ} (vs : List Value)
      → option_map (λ (code : Code). code.args) (slice_get site.function.unit.functions index)
      ≡ Some (length vs)
      → Piece site (calling site.call (local index) vs) (with_operand op.Call index) (popped vs)
      (onto site pushed)
  unfolding effect_of
  local_piece {index} vs is =
      op_piece site (calling_keeps site.call site.falls (local index) vs)
      (λ exits place i other variables operands turns state.
      rw (
        is,
        arguments_taken (λ arguments operands.
            calls (local index) arguments (site.pos i) variables operands),
      ) refl)

  -- a call of a library
  pub library_piece : {number index : ℕ} (vs : List Value)
      → lib_args number index ≡ Some (length vs)
      → Piece site (calling site.call (library number index) vs)
      (one (λ exits at. Op (instr op.CallLib index number 0))) (popped vs) (onto site pushed)
  unfolding effect_of
  library_piece {number} {index} vs is =
      op_piece site (calling_keeps site.call site.falls (library number index) vs)
      (λ exits place i other variables operands turns state.
      rw (
        is,
        arguments_taken (λ arguments operands.
            calls (library number index) arguments (site.pos i) variables operands),
      ) refl)

  -- a call of another unit
  pub external_piece : {a b : ℕ} {url name : List ℕ} (vs : List Value)
      → string_at site.function.unit a ≡ Some url → string_at site.function.unit b ≡ Some name
      → Piece site (calling site.call (external url name) vs)
      (one (λ exits at. Op (instr op.CallUrl a b (length vs)))) (popped vs) (onto site pushed)
  unfolding effect_of
  external_piece {url} {name} vs one_is two_is =
      op_piece site (calling_keeps site.call site.falls (external url name) vs)
      (λ exits place i other variables operands turns state.
      rw (
        one_is,
        two_is,
        arguments_taken (λ arguments operands.
            calls (external url name) arguments (site.pos i) variables operands),
      ) refl)
