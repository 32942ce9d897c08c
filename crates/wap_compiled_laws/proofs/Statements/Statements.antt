-- Statements and their code agree, by the ways in which they are made.
use Rattle.std.proofs.Common.{◌≡◌, ℕ, ◌+◌, ◌<◌, Bool, true, false, List, [], length, Some}
use Rattle.std.proofs.Common.{None, refl, sym, ◌∙◌, subst, arith, slice_get}
use Rattle.std.specs.Prelude.{if◌then◌else◌}
use Rattle.wap_value.specs.declared.value.Value.{Value}
use Rattle.wap_value.specs.declared.value.Value.TheVariants.{Str, Invalid}
use Rattle.wap_value.specs.declared.operator.UnOp.{UnOp}
use Rattle.wap_value.specs.declared.operator.UnOp.TheVariants as un
use Rattle.wap_value.specs.Unary.{unary_of}
use Rattle.wap_unit.specs.declared.row.OpName.{OpName}
use Rattle.wap_execution.specs.declared.action.Action.TheVariants.{ChangeVariable}
use Rattle.wap_execution.specs.Actions.{action_of}
use Rattle.wap_execution.specs.Effects.{jumps_at, effect_of}
use Rattle.wap_execution.specs.Outcomes.{value, Ended}
use Rattle.wap_execution.specs.Running.{ended}
use Rattle.wap_meaning.specs.SourceParts.{Does, ◌>>=◌, done, give, load, store}
use Rattle.wap_meaning.specs.Expressions.{assigned, stepped, step_of}
use Rattle.wap_meaning.specs.Statements.{Ending, goes_on, breaks, continues, returns, if_goes_on}
use Rattle.wap_meaning.specs.Statements.{and_then, dropped}
use Rattle.wap_meaning.specs.coding.Coded.{Exits, Coded, empty, one, ◌⨾◌, plain, with_operand}
use Rattle.wap_meaning.specs.coding.Expressions.{store_code, change_name}
use Rattle.wap_meaning.specs.coding.Statements.{exit_form, dropped_code}
use Rattle.wap_meaning.proofs.Following.{from_done, gave_any, keeps_both}
use Rattle.wap_compiled_laws.proofs.Pieces.Pieces.{Holds, Site, spot, empty_piece, in_turn, After}
use Rattle.wap_compiled_laws.proofs.Pieces.Pieces.{onto, Reaches, Piece, both, op_here, op_piece}
use Rattle.wap_compiled_laws.proofs.Pieces.Instructions.{as_is, pushed, nothing, store_piece}
use Rattle.wap_compiled_laws.proofs.Pieces.Assignments.{from_same, from_from, piece_same}
use Rattle.wap_compiled_laws.proofs.Pieces.Assignments.{change_piece}
use Rattle.wap_compiled_laws.proofs.Pieces.Jumps.{HasLabel, jump_here, Shifts, branches_piece}
use Rattle.wap_compiled_laws.proofs.Pieces.Sizes.{branches}
use Rattle.wap_compiled_laws.proofs.Expressions.Agreeing.{Agrees}
use Rattle.wap_meaning.proofs.KeepingParts.{give_keeps}
use Rattle.wap_meaning.proofs.Trees.{if_goes_on_keeps}
use Rattle.wap_unit.specs.declared.row.OpName.TheVariants as op
use Rattle.std.proofs.lemmas.Grind.{common_steps}

module _ {S : Type 0} (site : Site S) where
  -- where it goes on at an exit
  abbrev pub exit_spot : Exits → (ℕ × ℕ → ℕ) → List Value → List Value → ℕ → S → Ended S
  exit_spot None which variables operands turns state = ended (value (Str [])) turns state
  exit_spot (Some labels) which variables operands turns state =
      spot site (which labels) variables operands turns state

  -- what becomes of a statement's ending
  abbrev pub leaves : After site Ending
  leaves exits next operands goes_on variables turns state =
      spot site next variables operands turns state
  leaves exits next operands breaks variables turns state =
      exit_spot exits (λ labels. labels.0) variables operands turns state
  leaves exits next operands continues variables turns state =
      exit_spot exits (λ labels. labels.1) variables operands turns state
  leaves exits next operands (returns v) variables turns state = ended (value v) turns state

  -- what follows hangs on the next form only so
  pub leaves_shifts : Shifts site leaves
  leaves_shifts exits i n same operands goes_on variables turns state =
      same variables operands turns state
  leaves_shifts exits i n same operands _ variables turns state = refl

  -- a statement and its code agree
  abbrev pub Runs : Does Ending S → Coded → Type 0
  Runs does coded = Piece site does coded as_is leaves

  -- ---- one statement after the other

  -- one statement after the other
  pub runs_both : {does next : Does Ending S} {first second : Coded} → Runs does first
      → Runs next second → Runs (and_then does next) (first ⨾ second)
  runs_both {does} {next} {second} ones twos =
      in_turn site (if_goes_on next) second ones
      (λ variables turns state. gave_any (does variables turns state)) twos.sized
      (if_goes_on_keeps next twos.falls) (λ ending _. by ending)
    where
      by : (ending : Ending) (exits : Exits) (i : ℕ) → Reaches site exits (i + second.size)
          → Holds site.forms i (second.forms exits i)
          → (variables : List Value) → length variables ≡ site.count
          → (operands : List Value) (turns : ℕ) (state : S)
          → leaves exits i operands ending variables turns state
          ≡ done (if_goes_on next ending variables turns state)
          (leaves exits (i + second.size) operands)
      by goes_on = twos.follows
      by _ = λ exits i reach holds variables fits operands turns state. refl

  -- no statement
  pub empty_runs : Runs (give goes_on) empty
  empty_runs = empty_piece site (λ exits i operands variables turns state. refl)

  -- ---- expressions as statements

  -- an expression whose value is dropped
  pub dropped_runs : {does : Does Value S} {coded : Coded} → Agrees site does coded
      → Runs (dropped does) (dropped_code coded)
  unfolding effect_of
  dropped_runs agrees =
      both site {second = plain op.Pop} Invalid agrees (λ v. op_piece site (give_keeps goes_on)
      (λ exits place i other variables operands turns state. refl))

  -- what leaves no operand, and the next statement follows
  goes_on_behind : {does : Does (Unit {0}) S} {coded : Coded} {pop : List Value → List Value}
      → Piece site does coded pop (onto site nothing)
      → Piece site (does >>= λ _. give goes_on) coded pop leaves
  goes_on_behind {does} {coded} piece = record {
    sized = piece.sized;
    falls = keeps_both does (λ _. give goes_on) piece.falls (λ _. give_keeps goes_on);
    follows = λ exits i reach holds variables fits operands turns state.
        piece.follows exits i reach holds variables fits operands turns state
        ∙ from_done (does variables turns state) (λ _. give goes_on)
        (onto site nothing exits (i + coded.size) operands) (leaves exits (i + coded.size) operands)
        (λ _ vs left later. refl);
  }

  -- a variable is written, and the next statement follows
  stored_piece : {index : ℕ} (v : Value)
      → Piece site (store index v >>= λ _. give goes_on) (store_code index) (pushed v) leaves
  stored_piece v = goes_on_behind
      (store_piece site)

  -- a variable that gets a value
  pub declared_runs : (index : ℕ) {does : Does Value S} {coded : Coded} → Agrees site does coded
      → Runs (does >>= λ v. store index v >>= λ _. give goes_on) (coded ⨾ store_code index)
  declared_runs index agrees = both site Invalid agrees (stored_piece)

  -- an assignment whose value is dropped: it is stored, and not loaded again
  pub assigned_runs : (index : ℕ) {right : Does Value S} {coded : Coded} → Agrees site right coded
      → Runs (dropped (assigned site.string index None right)) (coded ⨾ store_code index)
  assigned_runs index {right} agrees =
      piece_same site (λ variables turns state. sym
      (from_from (right variables turns state) (λ v. store index v >>= λ _. give v)
      (λ _. give goes_on)
      ∙ from_same (right variables turns state)
      (λ v vs left later. from_from (store index v vs left later) (λ _. give v)
      (λ _. give goes_on)))) (declared_runs index agrees)

  -- a step whose value is dropped: it isn't loaded
  stepped_same : (index : ℕ) (unop : UnOp) (prefix : Bool) (variables : List Value) (turns : ℕ)
      (state : S)
      → ((load index >>= λ old. store index (unary_of unop old)) >>= λ _. give goes_on) variables
      turns state
      ≡ dropped (stepped index unop prefix) variables turns state
  stepped_same index unop prefix variables turns state =
      grind (arith, common_steps, from_from, from_same)

  -- a step, and the next statement follows
  change_runs : (index : ℕ) (name : OpName) (unop : UnOp) (prefix : Bool)
      → action_of name ≡ ChangeVariable unop
      → Runs (dropped (stepped index unop prefix)) (with_operand name index)
  change_runs index name unop prefix acts =
      piece_same site (stepped_same index unop prefix) (goes_on_behind (change_piece site acts))

  -- up or down
  pub stepped_runs : (index : ℕ) (up prefix : Bool)
      → Runs (dropped (stepped index (step_of up) prefix)) (with_operand (change_name up) index)
  stepped_runs index true prefix = change_runs index op.IncrVar un.Incr prefix refl
  stepped_runs index false prefix = change_runs index op.DecrVar un.Decr prefix refl

  -- the empty text
  pub empty_agrees : Agrees site (give (Str [])) (plain op.ConstEs)
  unfolding effect_of
  empty_agrees =
      op_piece site (give_keeps (Str []))
      (λ exits place i other variables operands turns state. refl)

  -- a value is returned
  pub returned_runs : {does : Does Value S} {coded : Coded} → Agrees site does coded
      → Runs (does >>= λ v. give (returns v)) (coded ⨾ plain op.Return)
  unfolding effect_of
  returned_runs agrees =
      both site {second = plain op.Return} Invalid agrees (λ v. op_piece site
      (give_keeps (returns v)) (λ exits place i other variables operands turns state. refl))

  -- the empty text is returned
  pub ended_runs : Runs (give (returns (Str []))) (plain op.ReturnEs)
  unfolding effect_of
  ended_runs =
      op_piece site (give_keeps (returns (Str [])))
      (λ exits place i other variables operands turns state. refl)

  -- ---- exits

  -- `break` and `continue` jump to their labels
  exit_here : (exits : Exits) {i : ℕ} {which : ℕ × ℕ → ℕ}
      → ((labels : ℕ × ℕ) → exits ≡ Some labels → HasLabel site (which labels) × (i < which labels))
      → slice_get site.forms i ≡ Some (exit_form exits which)
      → (variables operands : List Value) (turns : ℕ) (state : S)
      → spot site i variables operands turns state
      ≡ exit_spot exits which variables operands turns state
  unfolding effect_of
  exit_here None {i} far is variables operands turns state =
      op_here site i is variables operands turns state (λ other. refl)
  exit_here (Some labels) far is variables operands turns state =
      let there = far labels refl in
      jump_here site is there.0 there.1 variables operands turns state

  -- `break`
  pub break_runs : Runs (give breaks) (one (λ exits at. exit_form exits (λ labels. labels.0)))
  break_runs = record {
    sized = λ exits i. refl;
    falls = give_keeps breaks;
    follows = λ exits i reach holds variables fits operands turns state.
        exit_here exits
        (λ labels is. let r = subst (λ exits. Reaches site exits (i + 1)) is reach in
        (r.0, (omega (arith, r.1)))) holds.0 variables operands turns state;
  }

  -- `continue`
  pub continue_runs : Runs (give continues)
      (one (λ exits at. exit_form exits (λ labels. labels.1)))
  continue_runs = record {
    sized = λ exits i. refl;
    falls = give_keeps continues;
    follows = λ exits i reach holds variables fits operands turns state.
        exit_here exits
        (λ labels is. let r = subst (λ exits. Reaches site exits (i + 1)) is reach in
        (r.2, (omega (arith, r.3)))) holds.0 variables operands turns state;
  }

  -- ---- choices

  -- a condition with two branches
  pub choice_runs : {c : Does Value S} {first second : Does Ending S} {one two three : Coded}
      → Agrees site c one → Runs first two → Runs second three
      → Runs (c >>= λ v. if jumps_at v then second else first) (one ⨾ branches two three)
  choice_runs ones twos threes =
      both site Invalid ones (λ v. branches_piece site leaves_shifts twos threes)
