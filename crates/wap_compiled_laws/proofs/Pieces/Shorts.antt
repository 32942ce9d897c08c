-- `&&` and `||`.
use Rattle.std.proofs.Common.{◌≡◌, ℕ, ◌+◌, ◌<◌, Bool, true, false, cond, List, ◌∷◌, Option, Some}
use Rattle.std.proofs.Common.{None, Ok, refl, sym, ap, ◌∙◌, subst, arith, slice_get}
use Rattle.std.specs.Prelude.{slice_index}
use Rattle.wap_value.specs.declared.value.Value.{Value}
use Rattle.wap_value.specs.declared.value.Value.TheVariants.{Bool as Boolean, Invalid}
use Rattle.wap_value.specs.Conversion.{boolean_of}
use Rattle.wap_unit.specs.declared.row.OpName.{OpName}
use Rattle.wap_unit.specs.declared.instr.Instr.{Instr}
use Rattle.wap_unit.specs.Instructions.{row_of}
use Rattle.wap_execution.specs.declared.action.Action.TheVariants.{ShortCircuit}
use Rattle.wap_asm.specs.Spellings.{operation_of}
use Rattle.wap_execution.specs.Actions.{action_of}
use Rattle.wap_compiled_laws.proofs.Pieces.Actions.{acts_same}
use Rattle.wap_execution.specs.Frames.{Frame, code_of}
use Rattle.wap_execution.specs.Effects.{is_decided, decided, pair_with, pair_by}
use Rattle.wap_execution.specs.Outcomes.{Ended}
use Rattle.wap_execution.specs.Running.{at_place}
use Rattle.wap_meaning.specs.SourceParts.{Does, done}
use Rattle.wap_asm.specs.declared.form.Form.TheVariants.{Op}
use Rattle.wap_asm.specs.Placed.{Stands}
use Rattle.wap_meaning.specs.Expressions.{decides, as_boolean}
use Rattle.wap_meaning.specs.coding.Coded.{Coded, ◌⨾◌, instr, plain, label}
use Rattle.wap_meaning.specs.coding.Expressions.{short_code}
use Rattle.wap_compiled_laws.proofs.Pieces.Standing.{at}
use Rattle.wap_meaning.proofs.Following.{done_same}
use Rattle.wap_meaning.proofs.KeepingParts.{decides_keeps}
use Rattle.wap_compiled_laws.proofs.Pieces.Pieces.{front, behind, sized_both, Site, spot, settle}
use Rattle.wap_compiled_laws.proofs.Pieces.Pieces.{After, onto, Piece, both, op_here, Reaches}
use Rattle.wap_compiled_laws.proofs.Pieces.Pieces.{nearer}
use Rattle.wap_compiled_laws.proofs.Pieces.Instructions.{as_is, pushed, unary_piece}
use Rattle.wap_compiled_laws.proofs.Pieces.Jumps.{HasLabel, HasJump, label_here, Shifts}
use Rattle.wap_compiled_laws.proofs.Pieces.Jumps.{onto_shifts}
use Rattle.wap_compiled_laws.proofs.Pieces.Sizes.{sized_short}
use Rattle.wap_unit.specs.declared.row.OpName.TheVariants as op
use Rattle.std.proofs.lemmas.Grind.{common_steps}

-- a short-circuit with the jump behind it
pub pair_reads : (frame : Frame) (by : Bool) {place : ℕ} {jump : Instr}
    → Stands (code_of frame.function) place (operation_of op.TjumpFw) jump
    → pair_by frame by (code_of frame.function) place
    (row_of (slice_index (code_of frame.function) place))
    ≡ pair_with frame by (action_of op.TjumpFw) (Ok jump)
pair_reads frame by {place} stands = grind (arith, common_steps, acts_same)

module _ {S : Type 0} (site : Site S) where
  -- a label behind a piece is passed
  pub then_label : {A : Type 0} {does : Does A S} {coded : Coded} {pop : List Value → List Value}
      {after : After site A} → Shifts site after → Piece site does coded pop after
      → Piece site does (coded ⨾ label) pop after
  then_label {does} {coded} {after} shifts piece = record {
    sized = sized_both coded label piece.sized (λ exits i. refl);
    falls = piece.falls;
    follows = λ exits i reach holds variables fits operands turns state.
        let e : i + coded.size + 1 ≡ i + (coded.size + 1) = omega arith in
        let there =
        behind site.forms i coded.size (coded.forms exits i) _ holds (piece.sized exits i) in
        piece.follows exits i (nearer site exits (omega arith) reach) (front site.forms i
        (coded.forms exits i) _ holds) variables fits operands
        turns state
        ∙ done_same (does variables turns state) (after exits (i + coded.size) operands)
        (after exits (i + (coded.size + 1)) operands)
        (λ a vs left later. shifts exits (i + coded.size) (i + (coded.size + 1))
        (λ vs os left later. label_here site there.0 vs os left later
        ∙ ap (λ (n : ℕ). spot site n vs os left later) e) operands a vs left later);
  }

  -- where it goes on by what the value is as a Boolean
  abbrev decided_spot : Bool → Option Bool → ℕ → ℕ → List Value → List Value → ℕ → S → Ended S
  decided_spot by None past next variables operands turns state =
      spot site past variables (Invalid ∷ operands) turns state
  decided_spot by (Some truth) past next variables operands turns state =
      cond (is_decided by truth) (spot site past variables (Boolean truth ∷ operands) turns state)
      (spot site next variables operands turns state)

  -- what a frame comes to that goes on at a place
  abbrev at_pos : ℕ → List Value → List Value → ℕ → S → Ended S
  at_pos = at site.string site.call site.falls site.function

  -- what a short-circuit settles to
  decided_settles : (by : Bool) (truth : Option Bool) {past next p q : ℕ}
      (variables operands : List Value) (turns : ℕ) (state : S)
      → p ≡ site.pos past → q ≡ site.pos next
      → settle site (decided truth by p q variables operands) turns state
      ≡ decided_spot by truth past next variables operands turns state
  decided_settles by truth variables operands turns state h6 h7 =
      grind (arith, common_steps, at_pos, settle, spot)

  -- a short-circuit and its jump, at their forms
  pair_here : {name : OpName} {by : Bool} (i : ℕ) {n : ℕ} → action_of name ≡ ShortCircuit by
      → slice_get site.forms i ≡ Some (Op (instr name 0 0 0))
      → HasJump site op.TjumpFw (i + 1) n → HasLabel site n → i + 1 < n
      → (v : Value) (variables operands : List Value) (turns : ℕ) (state : S)
      → spot site i variables (v ∷ operands) turns state
      ≡ decided_spot by (boolean_of v) n (i + 1 + 1) variables operands turns state
  pair_here {by} i {n} acts is jumps there further v variables operands turns state =
      let found = site.placed.jumps_on (i + 1) n n op.TjumpFw jumps there further in
      let frame = at_place site.function (site.pos i) variables (v ∷ operands) in
      op_here site i is variables (v ∷ operands) turns state
      (λ other. rw (acts, pair_reads frame by found.stands) (decided_settles by (boolean_of v)
      variables operands turns state found.lands found.ends))

  -- the second operand, turned to Boolean
  abbrev tail_code : Coded → Coded
  tail_code second = second ⨾ plain op.Tobool ⨾ label

  -- it does what the second operand as Boolean does
  tail_piece : {right : Does Value S} {second : Coded}
      → Piece site right second as_is (onto site pushed)
      → Piece site (as_boolean right) (tail_code second) as_is (onto site pushed)
  tail_piece piece =
      both site Invalid piece (λ v. then_label (onto_shifts site pushed) (unary_piece site refl))

  -- a short-circuit does what `&&` and `||` mean
  pub short_piece : {name : OpName} {by : Bool} {v : Value} {right : Does Value S} {second : Coded}
      → action_of name ≡ ShortCircuit by
      → Piece site right second as_is (onto site pushed)
      → Piece site (decides by (boolean_of v) (as_boolean right)) (short_code name second)
      (pushed v) (onto site pushed)
  short_piece {name} {by} {v} {right} {second} acts piece = record {
    sized = sized_short name second piece.sized;
    falls = decides_keeps by (boolean_of v) (as_boolean right)
        (tail_piece piece).falls;
    follows = λ exits i reach holds variables fits operands turns state.
        let tail = (tail_code second).forms exits (i + 1 + 1) in
        let end : ℕ = i + 1 + 1 + second.size + 1 in
        let there = (behind site.forms (i + 1 + 1) second.size (second.forms exits (i + 1 + 1)) _
        holds.1.1 (piece.sized exits (i + 1 + 1))).1.0 in
        let to_end : end ≡ i + 1 + 1 + (second.size + 1) = omega arith in
        let whole : end + 1 ≡ i + (short_code name second).size = omega arith in
        let same : i + 1 + 1 + (tail_code second).size ≡ i + (short_code name second).size =
        omega arith in
        let passes : (vs os : List Value) (left : ℕ) (later : S)
        → spot site (i + 1 + 1 + (second.size + 1)) vs os left later
        ≡ spot site (i + (short_code name second).size) vs os left later =
        λ vs os left later. ap (λ (n : ℕ). spot site n vs os left later) (sym to_end)
        ∙ label_here site there vs os left later
        ∙ ap (λ (n : ℕ). spot site n vs os left later) whole in
        pair_here i acts holds.0 holds.1.0 (subst (HasLabel site) to_end there) (omega arith) v
        variables operands turns state
        ∙ chosen by (boolean_of v) (i + 1 + 1 + (second.size + 1)) (i + 1 + 1)
        (i + (short_code name second).size) (as_boolean right) variables operands turns state
        (passes variables) ((tail_piece piece).follows exits (i + 1 + 1)
        (subst (Reaches site exits) (sym same) reach) holds.1.1 variables
        fits operands turns state
        ∙ ap (λ (n : ℕ). done (as_boolean right variables turns state)
        (onto site pushed exits n operands)) same);
  }
    where
      chosen : (by : Bool) (truth : Option Bool) (past next end : ℕ) (does : Does Value S)
          (variables operands : List Value) (turns : ℕ) (state : S)
          → ((os : List Value) (left : ℕ) (later : S)
          → spot site past variables os left later ≡ spot site end variables os left later)
          → spot site next variables operands turns state
          ≡ done (does variables turns state)
          (λ v vs left later. spot site end vs (v ∷ operands) left later)
          → decided_spot by truth past next variables operands turns state
          ≡ done (decides by truth does variables turns state)
          (λ v vs left later. spot site end vs (v ∷ operands) left later)
      chosen by None past next end does variables operands turns state passes goes =
          passes (Invalid ∷ operands) turns state
      chosen true (Some true) past next end does variables operands turns state passes goes =
          passes (Boolean true ∷ operands) turns state
      chosen true (Some false) past next end does variables operands turns state passes goes = goes
      chosen false (Some true) past next end does variables operands turns state passes goes = goes
      chosen false (Some false) past next end does variables operands turns state passes goes =
          passes (Boolean false ∷ operands) turns state
