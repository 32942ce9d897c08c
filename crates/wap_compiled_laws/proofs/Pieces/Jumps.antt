-- Labels and jumps, and choices that are made of them.
use Rattle.std.proofs.Common.{◌≡◌, ℕ, ◌+◌, ◌-◌, ◌<◌, Bool, true, false, cond, List, ◌∷◌, Some, sym}
use Rattle.std.proofs.Common.{ap, ◌∙◌, subst, arith, slice_get, le-ltb}
use Rattle.std.specs.Prelude.{if◌then◌else◌}
use Rattle.wap_value.specs.declared.value.Value.{Value}
use Rattle.wap_unit.specs.declared.row.OpName.{OpName}
use Rattle.wap_execution.specs.Frames.{code_of}
use Rattle.wap_execution.specs.Effects.{onward, jumps_at, effect_of}
use Rattle.wap_execution.specs.Outcomes.{Ended}
use Rattle.wap_meaning.specs.SourceParts.{Does, done, turn}
use Rattle.wap_asm.specs.declared.form.Form.TheVariants.{Jump, Label}
use Rattle.wap_asm.specs.Placed.{JumpsOn}
use Rattle.wap_asm.specs.Spellings.{operation_of}
use Rattle.wap_meaning.specs.coding.Coded.{Exits, Coded, one}
use Rattle.wap_compiled_laws.proofs.Pieces.Standing.{at}
use Rattle.wap_meaning.proofs.Following.{done_same}
use Rattle.wap_meaning.proofs.KeepingParts.{if_keeps}
use Rattle.wap_compiled_laws.proofs.Pieces.Pieces.{front, behind, Site, spot, settle, After, onto}
use Rattle.wap_compiled_laws.proofs.Pieces.Pieces.{Piece, stands_here, nearer}
use Rattle.wap_compiled_laws.proofs.Pieces.Sizes.{branches, sized_branches}
use Rattle.wap_compiled_laws.proofs.Pieces.Instructions.{as_is, pushed}
use Rattle.wap_unit.specs.declared.row.OpName.TheVariants as op
use Rattle.std.proofs.lemmas.Grind.{common_steps}

module _ {S : Type 0} (site : Site S) where
  -- a label stands at its index
  abbrev pub HasLabel : ℕ → Type 0
  HasLabel n = slice_get site.forms n ≡ Some (Label n)

  -- a jump stands at an index
  abbrev pub HasJump : OpName → ℕ → ℕ → Type 0
  HasJump name i n = slice_get site.forms i ≡ Some (Jump name n)

  -- a label is passed
  pub label_here : {n : ℕ} → HasLabel n → (variables operands : List Value) (turns : ℕ) (state : S)
      → spot site n variables operands turns state
      ≡ spot site (n + 1) variables operands turns state
  label_here {n} is variables operands turns state = grind (arith, common_steps, at)

  -- what a frame comes to that goes on at a place
  abbrev at_pos : ℕ → List Value → List Value → ℕ → S → Ended S
  at_pos = at site.string site.call site.falls site.function

  -- a jump goes on at its label
  pub jump_here : {i n : ℕ} → HasJump op.JumpFw i n → HasLabel n → i < n
      → (variables operands : List Value) (turns : ℕ) (state : S)
      → spot site i variables operands turns state ≡ spot site n variables operands turns state
  unfolding effect_of
  jump_here {i} {n} is there further variables operands turns state =
      let found = site.placed.jumps_on i n n op.JumpFw is there further in
      stands_here site op.JumpFw found.stands variables operands turns state
      (ap (λ (p : ℕ). at_pos p variables operands turns state) found.lands)

  -- a condition that is false or invalid jumps
  pub test_here : {i n : ℕ} → HasJump op.TjumpFw i n → HasLabel n → i < n
      → (v : Value) (variables operands : List Value) (turns : ℕ) (state : S)
      → spot site i variables (v ∷ operands) turns state
      ≡ cond (jumps_at v) (spot site n variables operands turns state)
      (spot site (i + 1) variables operands turns state)
  unfolding effect_of
  test_here {i} {n} is there further v variables operands turns state =
      let found = site.placed.jumps_on i n n op.TjumpFw is there further in
      stands_here site op.TjumpFw found.stands variables (v ∷ operands) turns state
      (by found (jumps_at v))
    where
      by : (found : JumpsOn (code_of site.function) (site.pos i) (site.pos (i + 1)) (site.pos n)
          (operation_of op.TjumpFw)) (jumps : Bool)
          → settle site (cond jumps
          (onward (found.instr.next + found.instr.a) variables operands)
          (onward found.instr.next variables operands)) turns state
          ≡ cond jumps (spot site n variables operands turns state)
          (spot site (i + 1) variables operands turns state)
      by found true = ap (λ (p : ℕ). at_pos p variables operands turns state) found.lands
      by found false = ap (λ (p : ℕ). at_pos p variables operands turns state) found.ends

  -- a jump back takes a turn
  pub back_here : {i n : ℕ} → HasJump op.JumpBw i n → HasLabel n → n < i
      → (variables operands : List Value) (turns : ℕ) (state : S)
      → spot site i variables operands turns state
      ≡ done (turn variables turns state)
      (λ _ variables turns state. spot site n variables operands turns state)
  unfolding effect_of
  back_here {i} {n} is there earlier variables operands turns state =
      let found = site.placed.jumps_back i n n op.JumpBw is there earlier in
      stands_here site op.JumpBw found.stands variables operands turns state
      (rw (le-ltb (site.pos i) found.instr.a found.reaches) (done_same (turn variables turns state)
      (λ _ vs left later. at_pos (site.pos i - found.instr.a) vs operands left later)
      (λ _ vs left later. spot site n vs operands left later)
      (λ _ vs left later. ap (λ (p : ℕ). at_pos p vs operands left later) found.lands)))

  -- ---- choices

  -- what becomes of what is given depends on the next form only by what is done there
  abbrev pub Shifts : {A : Type 0} → After site A → Type 0
  Shifts {A} after =
      (exits : Exits) (i n : ℕ)
      → ((variables operands : List Value) (turns : ℕ) (state : S)
      → spot site i variables operands turns state ≡ spot site n variables operands turns state)
      → (operands : List Value) (a : A) (variables : List Value) (turns : ℕ) (state : S)
      → after exits i operands a variables turns state
      ≡ after exits n operands a variables turns state

  -- operands that are left hang on the next form only so
  pub onto_shifts : {A : Type 0} (push : A → List Value → List Value) → Shifts (onto site push)
  onto_shifts push exits i n same operands a variables turns state =
      same variables (push a operands) turns state

  -- one of two parts, by whether a condition jumps
  pub chosen : {A : Type 0} (jumps : Bool) (does other : Does A S)
      (end : A → List Value → ℕ → S → Ended S) (variables : List Value) (turns : ℕ) (state : S)
      (some rest : Ended S)
      → some ≡ done (does variables turns state) end
      → rest ≡ done (other variables turns state) end
      → cond jumps rest some ≡ done ((cond jumps other does) variables turns state) end
  chosen true does other end variables turns state some rest one two = two
  chosen false does other end variables turns state some rest one two = one

  -- two branches do what the chosen part does
  pub branches_piece : {A : Type 0} {v : Value} {does other : Does A S} {first second : Coded}
      {after : After site A} → Shifts after → Piece site does first as_is after
      → Piece site other second as_is after
      → Piece site (if jumps_at v then other else does) (branches first second) (pushed v) after
  branches_piece {v} {does} {other} {first} {second} {after} shifts p q = record {
    sized = sized_branches first second p.sized q.sized;
    falls = if_keeps (jumps_at v) other does q.falls p.falls;
    follows = λ exits i reach holds variables fits operands turns state.
        let after_first = behind site.forms (i + 1) first.size (first.forms exits (i + 1)) _
        holds.1 (p.sized exits (i + 1)) in
        let end : ℕ = i + 1 + first.size + 1 + 1 + second.size in
        let after_second = behind site.forms (i + 1 + first.size + 1 + 1) second.size
        (second.forms exits (i + 1 + first.size + 1 + 1)) _ after_first.1.1
        (q.sized exits (i + 1 + first.size + 1 + 1)) in
        let whole : end + 1 ≡ i + (branches first second).size = omega arith in
        let to_second : i + 1 + first.size + 1 ≡ i + 1 + (first.size + 1) = omega arith in
        let to_end : end ≡ i + 1 + first.size + 1 + (1 + second.size) = omega arith in
        let second_label = subst HasLabel to_second after_first.1.0 in
        let passes : (vs os : List Value) (left : ℕ) (later : S)
        → spot site end vs os left later
        ≡ spot site (i + (branches first second).size) vs os left later =
        λ vs os left later. label_here after_second.0 vs os left later
        ∙ ap (λ (n : ℕ). spot site n vs os left later) whole in
        let jumps : (vs os : List Value) (left : ℕ) (later : S)
        → spot site (i + 1 + first.size) vs os left later
        ≡ spot site (i + (branches first second).size) vs os left later =
        λ vs os left later. jump_here after_first.0 (subst HasLabel to_end after_second.0)
        (omega arith) vs os left later
        ∙ ap (λ (n : ℕ). spot site n vs os left later) (sym to_end)
        ∙ passes vs os left later in
        test_here holds.0 second_label (omega arith) v variables operands turns state
        ∙ chosen (jumps_at v) does other
        (after exits (i + (branches first second).size) operands) variables turns state
        (spot site (i + 1) variables operands turns state)
        (spot site (i + 1 + (first.size + 1)) variables operands turns state)
        (p.follows exits (i + 1) (nearer site exits (omega arith) reach) (front site.forms (i + 1)
        (first.forms exits (i + 1)) _ holds.1)
        variables fits operands turns state
        ∙ done_same (does variables turns state)
        (after exits (i + 1 + first.size) operands)
        (after exits (i + (branches first second).size) operands)
        (λ a vs left later. shifts exits (i + 1 + first.size) (i + (branches first second).size)
        jumps operands a vs left later))
        (ap (λ (n : ℕ). spot site n variables operands turns state) (sym to_second)
        ∙ label_here after_first.1.0 variables operands turns state
        ∙ q.follows exits (i + 1 + first.size + 1 + 1) (nearer site exits (omega arith) reach)
        (front site.forms (i + 1 + first.size + 1 + 1)
        (second.forms exits (i + 1 + first.size + 1 + 1)) _ after_first.1.1)
        variables fits operands turns state
        ∙ done_same (other variables turns state) (after exits end operands)
        (after exits (i + (branches first second).size) operands)
        (λ a vs left later. shifts exits end (i + (branches first second).size) passes operands a
        vs left later));
  }
