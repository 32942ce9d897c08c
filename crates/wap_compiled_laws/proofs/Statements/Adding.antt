-- Assignments that add or subtract, as statements.
use Rattle.std.proofs.Common.{◌≡◌, ℕ, zero, suc, ◌+◌, ◌<◌, Bool, true, false, ltb, cond, eqb}
use Rattle.std.proofs.Common.{List, [], ◌∷◌, length, Option, Some, None, refl, sym, ap, ◌∙◌}
use Rattle.std.proofs.Common.{arith, slice_get, slice_set, get_or, Result, Ok, Err, ◌≢◌, inl}
use Rattle.std.proofs.Common.{inr, true≢false}
use Rattle.std.proofs.lemmas.Option.{slice_get-get_or}
use Rattle.std.proofs.lemmas.Bool.{or_parts}
use Rattle.std.proofs.lemmas.Bool.Decides.{eqb_tells}
use Rattle.wap_value.specs.declared.value.Value.{Value}
use Rattle.wap_value.specs.declared.value.Value.TheVariants.{Invalid}
use Rattle.wap_value.specs.declared.fault.ValueFault.{ValueFault}
use Rattle.wap_value.specs.declared.operator.BinOp.{BinOp}
use Rattle.wap_value.specs.Binary.{binary_of, TakesBoth}
use Rattle.wap_value.specs.TooLong.{kept_within}
use Rattle.wap_unit.specs.declared.row.OpName.{OpName}
use Rattle.wap_grammar.specs.declared.program.expression.Expr.{Expr}
use Rattle.wap_execution.specs.declared.action.Action.TheVariants.{AssignVariable}
use Rattle.wap_execution.specs.Actions.{action_of}
use Rattle.wap_execution.specs.Effects.{Called, stored, effect_of}
use Rattle.wap_execution.specs.Outcomes.{Outcome, value, stuck}
use Rattle.wap_execution.specs.Running.{ended, Calls}
use Rattle.wap_meaning.specs.SourceParts.{Came, gave, over, Does, from, ◌>>=◌, done, give, given}
use Rattle.wap_meaning.specs.SourceParts.{load, store, kept, kept_by, turn, calling, called_with}
use Rattle.wap_meaning.specs.SourceParts.{came_by}
use Rattle.wap_meaning.specs.Expressions.{Around, assigned, eval}
use Rattle.wap_meaning.specs.Statements.{Ending, goes_on, dropped}
use Rattle.wap_asm.specs.declared.form.Form.TheVariants.{Op}
use Rattle.wap_meaning.specs.coding.Coded.{Exits, Coded, one, ◌⨾◌, instr, with_operand}
use Rattle.wap_meaning.specs.coding.Statements.{writes}
use Rattle.wap_meaning.proofs.Following.{Gave, from_gave, from_done_where, keeps_both}
use Rattle.wap_meaning.proofs.KeepingParts.{give_keeps}
use Rattle.wap_meaning.proofs.Meanings.{of_expr}
use Rattle.wap_compiled_laws.proofs.Pieces.Pieces.{sized_both, Site, spot, onto, Piece, nearer}
use Rattle.wap_compiled_laws.proofs.Pieces.Pieces.{front, behind, op_here}
use Rattle.wap_compiled_laws.proofs.Pieces.Instructions.{as_is, pushed, kept_settles}
use Rattle.wap_compiled_laws.proofs.Pieces.Instructions.{stored_settles}
use Rattle.wap_compiled_laws.proofs.Pieces.Assignments.{from_from, changed_piece}
use Rattle.wap_compiled_laws.proofs.Expressions.Agreeing.{Agrees}
use Rattle.wap_compiled_laws.proofs.Statements.Statements.{leaves}

-- ---- a variable that is not written

-- the variable with this index has the value that it had
abbrev pub Same : {A : Type 0} → ℕ → List Value → A → List Value → ℕ → Type 0
Same index before a variables left = slice_get variables index ≡ slice_get before index

-- a part leaves the variable at a place as it is
abbrev pub Spares : {A S : Type 0} → ℕ → Does A S → Type 0
Spares {S} index does = (variables : List Value) (turns : ℕ) (state : S)
    → Gave (Same index variables) (does variables turns state)

-- what spares a variable from there spares it from before
same_again : {A S : Type 0} (index : ℕ) (one two : List Value) (came : Came A S)
    → slice_get two index ≡ slice_get one index → Gave (Same index two) came
    → Gave (Same index one) came
same_again index one two (gave a variables turns state) is same = same ∙ is
same_again index one two (over end) is same = tt

-- one part after the other
spares_both : {A B S : Type 0} (index : ℕ) (does : Does A S) (next : A → Does B S)
    → Spares index does → ((a : A) → Spares index (next a)) → Spares index (does >>= next)
spares_both index does next one two variables turns state =
    from_gave (Same index variables) (Same index variables) (does variables turns state) next
    (one variables turns state)
    (λ a vs left later is. same_again index variables vs (next a vs left later) is
    (two a vs left later))

-- what is given changes nothing
spares_give : {A S : Type 0} (index : ℕ) (a : A) → Spares {A = A} {S = S} index (give a)
spares_give index a variables turns state = refl

-- a value that has to be there
spares_given : {S : Type 0} (index : ℕ) (o : Option Value) → Spares {S = S} index (given o)
spares_given index None variables turns state = tt
spares_given index (Some v) variables turns state = refl

-- a variable is read
spares_load : {S : Type 0} (index other : ℕ) → Spares {S = S} index (load other)
spares_load index other variables turns state =
    spares_given index (slice_get variables other) variables turns state

-- a variable that is written leaves the others
set_other : (variables : List Value) (i j : ℕ) (v : Value) → i ≢ j
    → slice_get (slice_set variables i v) j ≡ slice_get variables j
set_other [] i j v apart = refl
set_other (x ∷ xs) zero zero v apart = absurd (apart refl)
set_other (x ∷ xs) zero (suc j) v apart = refl
set_other (x ∷ xs) (suc i) zero v apart = refl
set_other (x ∷ xs) (suc i) (suc j) v apart =
    set_other xs i j v (λ same. apart (ap suc same))

-- another variable is written
spares_store : {S : Type 0} (index other : ℕ) (v : Value) → eqb other index ≡ false
    → Spares {S = S} index (store other v)
spares_store index other v apart variables turns state = by (ltb other (length variables))
  where
    by : (within : Bool) → Gave {A = Unit {0}} (Same index variables)
        (cond within (gave (tt {0}) (slice_set variables other v) turns state)
        (over (ended stuck turns state)))
    by true = set_other variables other index v (elim (eqb_tells other index) [
      | inl here ↦ absurd (true≢false (sym here.0 ∙ apart))
      | inr away ↦ away.1
    ])
    by false = tt

-- a value that was measured
spares_kept_by : {S : Type 0} (index : ℕ) (k : Result Value ValueFault)
    → Spares {S = S} index (kept_by k)
spares_kept_by index (Ok v) variables turns state = refl
spares_kept_by index (Err fault) variables turns state = tt

-- a value that must not be too long
spares_kept : {S : Type 0} (index string : ℕ) (v : Value) → Spares {S = S} index (kept string v)
spares_kept index string v = spares_kept_by index (kept_within string v)

-- a turn is taken
spares_turn : {S : Type 0} (index : ℕ) → Spares {S = S} index turn
spares_turn index variables zero state = tt
spares_turn index variables (suc turns) state = refl

-- what a call comes to
spares_came : {S : Type 0} (index : ℕ) (outcome : Outcome) (variables : List Value) (left : ℕ)
    (state : S) → Gave (Same index variables) (came_by outcome variables left state)
spares_came index (value v) variables left state = refl
spares_came index _ variables left state = tt

-- a call has variables of its own
spares_calling : {S : Type 0} (index : ℕ) (call : Calls S) (callee : Called)
    (arguments : List Value) → Spares index (calling call callee arguments)
spares_calling index call callee arguments =
    spares_both index turn (λ _. called_with call callee arguments) (spares_turn index)
    (λ _ variables turns state.
    let end = call callee arguments turns state in
    spares_came index end.outcome variables end.turns end.state)

-- an expression that doesn't write the variable spares it
pub spares : {S : Type 0} (around : Around S) (index : ℕ) (e : Expr)
    → writes around.names e index ≡ false → Spares index (eval around e)
spares around index =
    of_expr around index (λ (does : Bool). does ≡ false) (λ A does. Spares index does) (record {
      left = λ one other none. (or_parts one other none).0;
      right = λ one other none. (or_parts one other none).1;
      gives = λ A a. spares_give index a;
      follows = λ A B does next. spares_both index does next;
      loads = spares_load index;
      stores = spares_store index;
      measures = spares_kept index around.string;
      calls = spares_calling index around.call;
    })

-- ---- the statement

module _ {S : Type 0} (site : Site S) where
  -- an assignment with an operator, as a statement
  abbrev changing : ℕ → BinOp → Does Value S → Does Ending S
  changing index binop right = dropped (assigned site.string index (Some binop) right)

  -- what follows its right side
  abbrev rest_of : ℕ → BinOp → Value → Value → Does Ending S
  rest_of index binop old v =
      (kept site.string (binary_of binop old v) >>= λ new. store index new >>= λ _. give new)
      >>= λ _. give goes_on

  -- the instruction, where the variable has the value
  add_here : {name : OpName} {binop : BinOp} {index : ℕ} (i : ℕ) {old : Value} (v : Value)
      (variables operands : List Value) (turns : ℕ) (state : S) (exits : Exits)
      → action_of name ≡ AssignVariable binop
      → slice_get site.forms i ≡ Some (Op (instr name index 0 0))
      → slice_get variables index ≡ Some old
      → spot site i variables (v ∷ operands) turns state
      ≡ done (rest_of index binop old v variables turns state)
      (leaves site exits (i + 1) operands)
  unfolding effect_of
  add_here {binop} {index} i {old} v variables operands turns state exits acts is has =
      op_here site i is variables (v ∷ operands) turns state
      (λ other. rw (acts, has) (kept_settles site
      (kept_within site.string (binary_of binop old v))
      (λ new. stored index variables new operands (site.pos (i + 1)))
      (λ new variables turns state. done (store index new variables turns state)
      (λ _ variables turns state. spot site (i + 1) variables operands turns state))
      (λ new. stored_settles site index new variables operands (site.pos (i + 1)) turns state)
      ∙ by (kept site.string (binary_of binop old v) variables turns state)))
    where
      stores : (came : Came (Unit {0}) S) (new : Value)
          → done came (λ _ variables turns state. spot site (i + 1) variables operands turns state)
          ≡ done (from (from came (λ _. give new)) (λ _. give goes_on))
          (leaves site exits (i + 1) operands)
      stores (gave one vs left later) new = refl
      stores (over end) new = refl

      by : (came : Came Value S)
          → done came (λ new variables turns state.
          done (store index new variables turns state)
          (λ _ variables turns state. spot site (i + 1) variables operands turns state))
          ≡ done (from (from came (λ new. store index new >>= λ _. give new)) (λ _. give goes_on))
          (leaves site exits (i + 1) operands)
      by (gave new vs left later) = stores (store index new vs left later) new
      by (over end) = refl

  -- ADD_ASG and SUB_ASG do what the assignment means, where its right side spares the variable
  pub adding_piece : (name : OpName) {binop : BinOp} {index : ℕ} {right : Does Value S}
      {second : Coded} → action_of name ≡ AssignVariable binop → TakesBoth binop
      → index < site.count
      → Agrees site right second → Spares index right
      → Piece site (changing index binop right) (second ⨾ with_operand name index) as_is
      (leaves site)
  adding_piece name {binop} {index} {right} {second} acts takes within agrees spares = record {
    sized = sized_both second (with_operand name index) agrees.sized (λ exits i. refl);
    falls = keeps_both (assigned site.string index (Some binop) right) (λ v. give goes_on)
        (changed_piece site binop takes agrees).falls (λ v. give_keeps goes_on);
    follows = λ exits i reach holds variables fits operands turns state.
        let old : Value = get_or variables index Invalid in
        let had : slice_get variables index ≡ Some old =
        slice_get-get_or variables index Invalid (omega (arith, fits, within)) in
        let there = behind site.forms i second.size (second.forms exits i) _ holds
        (agrees.sized exits i) in
        let e : i + second.size + 1 ≡ i + (second.size + 1) = omega arith in
        agrees.follows exits i (nearer site exits (omega arith) reach)
        (front site.forms i (second.forms exits i) _ holds) variables fits operands turns state
        ∙ from_done_where (Same index variables) (right variables turns state)
        (rest_of index binop old)
        (onto site pushed exits (i + second.size) operands)
        (leaves site exits (i + (second.size + 1)) operands)
        (spares variables turns state)
        (λ v vs left later same. add_here (i + second.size) v vs operands left later exits acts
        there.0 (same ∙ had)
        ∙ ap (λ (n : ℕ). done (rest_of index binop old v vs left later)
        (leaves site exits n operands)) e)
        ∙ ap (λ (came : Came Ending S). done came (leaves site exits (i + (second.size + 1))
        operands))
        (sym (ap (λ (o : Option Value). from (from (given o variables turns state)
        (λ old. right >>= λ v. kept site.string (binary_of binop old v) >>= λ new.
        store index new >>= λ _. give new)) (λ _. give goes_on)) had
        ∙ from_from (right variables turns state)
        (λ v. kept site.string (binary_of binop old v) >>= λ new. store index new >>= λ _. give new)
        (λ _. give goes_on)));
  }
