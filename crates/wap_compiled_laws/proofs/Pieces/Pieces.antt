-- Pieces of placed code do what parts of the source do, and pieces that follow one another what one
-- part and then the next does.
use Rattle.std.proofs.Common.{◌≡◌, ℕ, zero, suc, ◌+◌, ◌<◌, ◌≤◌}
use Rattle.std.proofs.Common.{List, [], ◌∷◌, ◌++◌, length, Some, None, Ok, refl, sym, ap, ◌∙◌}
use Rattle.std.proofs.Common.{append_assoc, subst, arith, length-append, slice_get, le_trans}
use Rattle.std.proofs.lemmas.Bool.{ltb-false}
use Rattle.wap_value.specs.declared.value.Value.{Value}
use Rattle.wap_unit.specs.declared.row.OpName.{OpName}
use Rattle.wap_unit.specs.declared.row.Row.{Row}
use Rattle.wap_unit.specs.declared.instr.Instr.{Instr}
use Rattle.wap_unit.specs.Instructions.{read_row}
use Rattle.wap_asm.specs.Spellings.{operation_of}
use Rattle.wap_execution.specs.Actions.{action_of}
use Rattle.wap_execution.specs.declared.action.Action.{Action}
use Rattle.wap_compiled_laws.proofs.Pieces.Actions.{acts_same}
use Rattle.wap_execution.specs.Frames.{Function, Frame, code_of}
use Rattle.wap_execution.specs.Effects.{Effect, effect_read, effect_at}
use Rattle.wap_execution.specs.Outcomes.{Ended}
use Rattle.wap_execution.specs.Running.{Onward, at_place, Calls}
use Rattle.wap_meaning.specs.SourceParts.{Does, ◌>>=◌, give, done}
use Rattle.wap_asm.specs.declared.form.Form.{Form}
use Rattle.wap_asm.specs.declared.form.Form.TheVariants.{Op, Label}
use Rattle.wap_asm.specs.Placed.{Stands, IsPlaced}
use Rattle.wap_meaning.specs.coding.Coded.{Exits, Coded, empty, one, ◌⨾◌, instr}
use Rattle.wap_meaning.specs.Keeping.{GiveNoTurns, Keeps}
use Rattle.wap_compiled_laws.proofs.Pieces.Standing.{at, settled, at_here}
use Rattle.wap_meaning.proofs.Following.{from_done_where, Gave, gave_both, gave_any, lessened}
use Rattle.wap_meaning.proofs.Following.{keeps_both}
use Rattle.wap_meaning.proofs.KeepingParts.{give_keeps}
use Rattle.std.proofs.lemmas.Grind.{common_steps}

-- ---- forms in a list

-- a list holds these forms in order, from an index on
abbrev pub Holds : List Form → ℕ → List Form → Type 0
Holds forms i [] = Unit {0}
Holds forms i (form ∷ more) = (slice_get forms i ≡ Some form) × Holds forms (i + 1) more

-- it holds those that stand first
pub front : (forms : List Form) (i : ℕ) (some other : List Form) → Holds forms i (some ++ other)
    → Holds forms i some
front forms i [] other holds = tt
front forms i (form ∷ some) other holds = (holds.0, front forms (i + 1) some other holds.1)

-- and those that stand behind them
pub behind : (forms : List Form) (i count : ℕ) (some other : List Form)
    → Holds forms i (some ++ other) → length some ≡ count → Holds forms (i + count) other
behind forms i count [] other holds is =
    let e : i ≡ i + count = omega arith in subst (λ n. Holds forms n other) e holds
behind forms i zero (form ∷ some) other holds is = absurd (omega arith)
behind forms i (suc count) (form ∷ some) other holds is =
    let e : i + 1 + count ≡ i + suc count = omega arith in
    subst (λ n. Holds forms n other) e
    (behind forms (i + 1) count some other holds.1 (omega arith))

-- a list holds all of its forms in order
pub holds_all : (before forms : List Form) → Holds (before ++ forms) (length before) forms
holds_all before [] = tt
holds_all before (form ∷ forms) = (
  at_seam before,
  subst (λ i. Holds (before ++ form ∷ forms) i forms) e
      (subst (λ all. Holds all (length (before ++ form ∷ [])) forms)
      (append_assoc before (form ∷ []) forms) (holds_all (before ++ form ∷ []) forms)),
)
  where
    e : length (before ++ form ∷ []) ≡ length before + 1
    e = length-append before (form ∷ [])

    at_seam : (before : List Form) → slice_get (before ++ form ∷ forms) (length before) ≡ Some form
    at_seam [] = refl
    at_seam (other ∷ before) = at_seam before

-- code has as many forms as it says
abbrev pub Sized : Coded → Type 0
Sized coded = (exits : Exits) (i : ℕ) → length (coded.forms exits i) ≡ coded.size

-- one piece after the other
pub sized_both : (first second : Coded) → Sized first → Sized second → Sized (first ⨾ second)
sized_both first second one two exits i =
    omega (
      arith,
      length-append (first.forms exits i) (second.forms exits (i + first.size)),
      one exits i,
      two exits (i + first.size),
    )

-- ---- instructions that stand

-- what was read ends in the code, and behind where it begins
pub read_within : (row : Row) (code : List ℕ) {place : ℕ} {instr : Instr}
    → read_row row code place ≡ Ok instr → place < length code
read_within row code {place} {instr} is = grind (arith, common_steps, ltb-false)

-- the instruction decides the effect
pub effect_stands : (string : ℕ) (frame : Frame) {operation : OpName} {instr : Instr}
    → Stands (code_of frame.function) frame.place operation instr
    → effect_at string frame ≡ effect_read string frame (action_of operation) instr
unfolding effect_at
effect_stands string frame {operation} stands = grind (arith, common_steps)

-- a function whose code is placed forms, how many variables it has, how long Strings may be, and
-- what its calls come to
pub record Site (S : Type 0) : Type 0 where
  pub count : ℕ
  pub string : ℕ
  pub call : Calls S
  pub falls : GiveNoTurns call
  pub function : Function
  pub forms : List Form
  pub pos : ℕ → ℕ
  pub placed : IsPlaced (code_of function) forms pos

module _ {S : Type 0} (site : Site S) where
  -- what the frame comes to that goes on at a form
  abbrev pub spot : Onward S
  spot i variables operands turns state =
      at site.string site.call site.falls site.function (site.pos i) variables operands turns state

  -- what an effect comes to
  abbrev pub settle : Effect → ℕ → S → Ended S
  settle = settled site.string site.call site.falls site.function

  -- what becomes of what a piece gives: by the exits, the form that comes next, and the operands
  -- below
  abbrev pub After : Type 0 → Type 0
  After A = Exits → ℕ → List Value → A → List Value → ℕ → S → Ended S

  -- it goes on with these operands
  abbrev pub onto : {A : Type 0} → (A → List Value → List Value) → After A
  onto push exits next operands a variables turns state =
      spot next variables (push a operands) turns state

  -- the labels of the exits stand behind an end
  abbrev pub Reaches : Exits → ℕ → Type 0
  Reaches None end = Unit {0}
  Reaches (Some labels) end =
      (slice_get site.forms labels.0 ≡ Some (Label labels.0)) × (end ≤ labels.0)
      × (slice_get site.forms labels.1 ≡ Some (Label labels.1)) × (end ≤ labels.1)

  -- what stands behind an end stands behind an earlier one
  pub nearer : (exits : Exits) {some other : ℕ} → some ≤ other → Reaches exits other
      → Reaches exits some
  nearer None less reach = tt
  nearer (Some labels) less reach = (reach.0, le_trans less reach.1, reach.2, le_trans less reach.3)

  -- a piece of code does what a part does, with what it takes on the operands; it has as many forms
  -- as it says, and the part keeps turns and variables
  pub record Piece {A : Type 0} (does : Does A S) (coded : Coded)
      (pop : List Value → List Value) (after : After A) : Type 0 where
    pub sized : Sized coded
    pub falls : Keeps does
    pub follows : (exits : Exits) (i : ℕ) → Reaches exits (i + coded.size)
        → Holds site.forms i (coded.forms exits i)
        → (variables : List Value) → length variables ≡ site.count
        → (operands : List Value) (turns : ℕ) (state : S)
        → spot i variables (pop operands) turns state
        ≡ done (does variables turns state) (after exits (i + coded.size) operands)

  -- no code does what changes nothing
  pub empty_piece : {A : Type 0} {a : A} {after : After A}
      → ((exits : Exits) (i : ℕ) (operands variables : List Value) (turns : ℕ) (state : S)
      → spot i variables operands turns state ≡ after exits i operands a variables turns state)
      → Piece (give a) empty (λ operands. operands) after
  empty_piece {a} same = record {
    sized = λ exits i. refl;
    falls = give_keeps a;
    follows = λ exits i reach holds variables fits operands turns state.
        let e : i ≡ i + 0 = omega arith in
        ap (λ (n : ℕ). spot n variables operands turns state) e
        ∙ same exits (i + 0) operands variables turns state;
  }

  -- one piece after the other does one part after the other, by what becomes of what the first
  -- gives, which has a property
  pub in_turn : {A B : Type 0} {P : A → Type 0} {does : Does A S} (next : A → Does B S)
      {first : Coded} (second : Coded) {pop : List Value → List Value} {middle : After A}
      {after : After B} → Piece does first pop middle
      → ((variables : List Value) (turns : ℕ) (state : S)
      → Gave (λ a vs left. P a) (does variables turns state))
      → Sized second → ((a : A) → Keeps (next a))
      → ((a : A) → P a → (exits : Exits) (i : ℕ) → Reaches exits (i + second.size)
      → Holds site.forms i (second.forms exits i)
      → (variables : List Value) → length variables ≡ site.count
      → (operands : List Value) (turns : ℕ) (state : S)
      → middle exits i operands a variables turns state
      ≡ done (next a variables turns state) (after exits (i + second.size) operands))
      → Piece (does >>= next) (first ⨾ second) pop after
  in_turn {P} {does} next {first} second {middle} {after} one gives sized falls two = record {
    sized = sized_both first second one.sized sized;
    falls = keeps_both does next one.falls falls;
    follows = λ exits i reach holds variables fits operands turns state.
        let e : i + first.size + second.size ≡ i + (first.size + second.size) = omega arith in
        let some = first.forms exits i in
        let other = second.forms exits (i + first.size) in
        one.follows exits i (nearer exits (omega arith) reach) (front site.forms i some other
        holds) variables fits operands turns state
        ∙ from_done_where
        (λ a vs left. ((left ≤ turns) × (length vs ≡ length variables)) × P a)
        (does variables turns state) next (middle exits (i + first.size) operands)
        (after exits (i + (first.size + second.size)) operands)
        (gave_both (λ a vs left. (left ≤ turns) × (length vs ≡ length variables))
        (λ a vs left. P a) (does variables turns state)
        (lessened variables turns (does variables turns state) (one.falls variables turns state))
        (gives variables turns state))
        (λ a vs left later has.
        two a has.1 exits (i + first.size) (subst (Reaches exits) (sym e) reach)
        (behind site.forms i first.size some other holds (one.sized exits i)) vs (has.0.1 ∙ fits)
        operands left later
        ∙ ap (λ (n : ℕ). done (next a vs left later) (after exits n operands)) e);
  }

  -- the same, where the second goes on with what the first gives on the operands
  pub both : {A B : Type 0} {does : Does A S} {next : A → Does B S} {first second : Coded}
      {pop : List Value → List Value} {push : A → List Value → List Value} {after : After B}
      (any : A)
      → Piece does first pop (onto push) → ((a : A) → Piece (next a) second (push a) after)
      → Piece (does >>= next) (first ⨾ second) pop after
  both {does} {next} {second} any one two =
      in_turn next second one (λ variables turns state. gave_any (does variables turns state))
      (two any).sized (λ a. (two a).falls) (λ a _. (two a).follows)

  -- what stands at a form
  pub stands_here : {i : ℕ} (name : OpName) {instr : Instr}
      → Stands (code_of site.function) (site.pos i) (operation_of name) instr
      → (variables operands : List Value) (turns : ℕ) (state : S) {end : Ended S}
      → settle (effect_read site.string
      (at_place site.function (site.pos i) variables operands) (action_of name) instr)
      turns state ≡ end
      → spot i variables operands turns state ≡ end
  stands_here {i} name {instr} stands variables operands turns state so =
      at_here site.string site.call site.falls site.function variables operands turns state
      (read_within stands.row (code_of site.function) stands.reads)
      (effect_stands site.string (at_place site.function (site.pos i) variables operands) stands
      ∙ ap (λ (action : Action). effect_read site.string
      (at_place site.function (site.pos i) variables operands) action instr) (acts_same name))
      ∙ so

  -- an instruction that doesn't jump
  pub op_here : (i : ℕ) {form : Instr} → slice_get site.forms i ≡ Some (Op form)
      → (variables operands : List Value) (turns : ℕ) (state : S) {end : Ended S}
      → ((name : OpName) → settle (effect_read site.string
      (at_place site.function (site.pos i) variables operands) (action_of form.name)
      (record { name = name; a = form.a; b = form.b; c = form.c; next = site.pos (i + 1) }))
      turns state ≡ end)
      → spot i variables operands turns state ≡ end
  op_here i {form} is variables operands turns state so =
      let found = site.placed.ops i form is in
      stands_here form.name found.1 variables operands turns state (so found.0)

  -- an instruction that doesn't jump does what its effect settles to
  pub op_piece : {A : Type 0} {does : Does A S} {name : OpName} {a b c : ℕ}
      {pop : List Value → List Value} {after : After A} → Keeps does
      → ((exits : Exits) (place i : ℕ) (other : OpName) (variables operands : List Value)
      (turns : ℕ) (state : S)
      → settle (effect_read site.string (at_place site.function place variables (pop operands))
      (action_of name)
      (record { name = other; a = a; b = b; c = c; next = site.pos i })) turns state
      ≡ done (does variables turns state) (after exits i operands))
      → Piece does (one (λ exits at. Op (instr name a b c))) pop after
  op_piece {pop} falls so = record {
    sized = λ exits i. refl;
    falls = falls;
    follows = λ exits i reach holds variables fits operands turns state.
        op_here i holds.0 variables (pop operands) turns state
        (λ other. so exits (site.pos i) (i + 1) other variables operands turns state);
  }
