-- What holds of the pieces of which code is made: of no form, of operations, of one piece after
-- the other, of branches, short-circuits, loops and exits. Of a piece is told whether it stands in
-- a loop, how many operands stand before it and behind it, and how many bytes it costs.
use Rattle.std.proofs.Common.{◌≡◌, ℕ, zero, suc, ◌+◌, ◌*◌, ◌<◌, ◌≤◌, Bool, true, false, List}
use Rattle.std.proofs.Common.{length, Some}
use Rattle.std.proofs.Common.{ap, option_map, slice_get}
use Rattle.wap_unit.specs.declared.unit.Unit.{Unit as CodeUnit}
use Rattle.wap_unit.specs.declared.unit.Code.{Code}
use Rattle.wap_unit.specs.declared.row.OpName.{OpName}
use Rattle.wap_unit.specs.declared.row.OpName.TheVariants as op
use Rattle.wap_unit.specs.declared.row.Operands.{Operands}
use Rattle.wap_unit.specs.declared.row.Operands.TheVariants as operands
use Rattle.wap_unit.specs.declared.instr.Instr.{Instr}
use Rattle.wap_unit.specs.Libraries.{lib_args}
use Rattle.wap_unit.specs.Strings.{string_at}
use Rattle.wap_asm.specs.Spellings.{operation_of}
use Rattle.wap_asm.specs.declared.form.Form.TheVariants.{Op}
use Rattle.wap_grammar.specs.declared.program.program.Id.{Id}
use Rattle.wap_grammar.specs.declared.program.program.Span.{Span}
use Rattle.wap_scope.specs.Names.{Variable as named, Local as called, External}
use Rattle.wap_scope.specs.Names.{Library as supplied, Mention, Declares, Refers, Jumps}
use Rattle.wap_meaning.specs.coding.Coded.{Coded, empty, one, ◌⨾◌, instr, plain, with_operand}
use Rattle.wap_meaning.specs.coding.Coded.{jump_over}
use Rattle.wap_meaning.specs.coding.Constants.{Numbers}
use Rattle.wap_meaning.specs.coding.Expressions.{short_code}
use Rattle.wap_meaning.specs.coding.Needs.{Need, Constant, Variable, Local, Library, IsMet}
use Rattle.wap_meaning.specs.coding.Statements.{branch_code, exit_form, loop_code}
use Rattle.wap_compiled_laws.proofs.BodiesLemmas.Pooled.{IsPoolable}
use Rattle.wap_compiled_laws.proofs.Pieces.Sizes.{branches}
use Rattle.wap_compiled_laws.proofs.Depths.Flow.{Flow, goes, leaves, short, flow_of}
use Rattle.wap_compiled_laws.proofs.Labels.Wired.{is_jump, IsOperation}
use Rattle.wap_compiled_laws.proofs.Labels.Ranges.{kind_of}
use Rattle.wap_compiled_laws.proofs.CodeSizes.Costs.{has_room, cost}

-- so many operands more
abbrev pub higher : ℕ → ℕ → ℕ
higher zero x = x
higher (suc n) x = higher n (suc x)

-- what may hold of a piece: in a loop or not, with so many operands before it and behind it, where
-- it costs so many bytes
abbrev pub Property : Type 1
Property = (inside : Bool) → Coded → (from to size : ℕ) → Type 0

-- what is known of an operation: what its operands name, which operation it spells, whether it is
-- a jump, what it takes and gives, whether it has room without operands, and what it costs
pub record Facts : Type 0 where
  pub names : Operands
  pub spells : OpName
  pub jumps : Bool
  pub flow : Flow
  pub roomy : Bool
  pub size : ℕ

-- it, by its table
abbrev pub facts : CodeUnit → Instr → Facts
facts unit form = record {
  names = kind_of form.name;
  spells = operation_of form.name;
  jumps = is_jump form.name;
  flow = flow_of unit form;
  roomy = has_room (instr form.name 0 0 0);
  size = cost (Op form);
}

-- an operation that is no jump
abbrev pub HasFacts : CodeUnit → Instr → Operands → Flow → ℕ → Type 0
HasFacts unit form names flow size =
    facts unit form ≡ record {
      names = names;
      spells = form.name;
      jumps = false;
      flow = flow;
      roomy = true;
      size = size;
    }

-- it takes and gives what they say
pub flow_is : (unit : CodeUnit) (form : Instr) {names : Operands} {flow : Flow} {size : ℕ}
    → HasFacts unit form names flow size → flow_of unit form ≡ flow
flow_is unit form {flow} has = ap (λ (f : Facts). f.flow) has

-- it is an operation
pub operation_is : (unit : CodeUnit) (form : Instr) {names : Operands} {flow : Flow} {size : ℕ}
    → HasFacts unit form names flow size → IsOperation form.name
operation_is unit form has = (ap (λ (f : Facts). f.spells) has, ap (λ (f : Facts). f.jumps) has)

-- its operands name what they say
pub names_is : (unit : CodeUnit) (form : Instr) {names : Operands} {flow : Flow} {size : ℕ}
    → HasFacts unit form names flow size → kind_of form.name ≡ names
names_is unit form {names} has = ap (λ (f : Facts). f.names) has

-- ---- pieces

-- what holds of the pieces of code in a unit, of a function with so many variables, by what its
-- source says
pub record OfPieces (unit : CodeUnit) (variables : ℕ) (Said : Mention → Type 0) (P : Property)
    : Type 0 where
  -- of no form
  pub none : {inside : Bool} {x : ℕ} → P inside empty x x 0
  -- of an operation without operands
  pub plain_op : {inside : Bool} (name : OpName) {takes gives : ℕ} (x : ℕ)
      → HasFacts unit (instr name 0 0 0) operands.Plain (goes takes gives) 1
      → P inside (plain name) (higher takes x) (higher gives x) 1
  -- of one that leaves the function
  pub leaving : {inside : Bool} (name : OpName) {takes : ℕ} (x : ℕ) {y : ℕ}
      → HasFacts unit (instr name 0 0 0) operands.Plain (leaves takes) 1
      → P inside (plain name) (higher takes x) y 1
  -- of an operation on a variable
  pub variable_op : {inside : Bool} (name : OpName) (a : ℕ) {takes gives : ℕ} (x : ℕ) {size : ℕ}
      → HasFacts unit (instr name a 0 0) operands.Variable (goes takes gives) size → a < variables
      → P inside (with_operand name a) (higher takes x) (higher gives x) size
  -- of a constant
  pub constant_op : {inside : Bool} (a : ℕ) {x : ℕ} → a < length unit.constants
      → P inside (with_operand op.LoadConst a) x (suc x) 3
  -- of a call of a function of the unit
  pub local_op : {inside : Bool} (a : ℕ) {count : ℕ} (x : ℕ)
      → option_map (λ (code : Code). code.args) (slice_get unit.functions a) ≡ Some count
      → P inside (with_operand op.Call a) (higher count x) (suc x) 2
  -- of a call of a function of another unit
  pub other_op : {inside : Bool} {u f : Id} (a b : ℕ) {count : ℕ} (x : ℕ) {url name : List ℕ}
      → string_at unit a ≡ Some url → string_at unit b ≡ Some name
      → Said (Refers (External u f count))
      → P inside (one (λ exits at. Op (instr op.CallUrl a b count))) (higher count x) (suc x) 6
  -- of a call of a function of a library
  pub library_op : {inside : Bool} (a b : ℕ) {count : ℕ} (x : ℕ) → lib_args b a ≡ Some count
      → P inside (one (λ exits at. Op (instr op.CallLib a b 0))) (higher count x) (suc x) 4
  -- of one piece after the other
  pub both : {inside : Bool} {first second : Coded} {x y z m n : ℕ} → P inside first x y m
      → P inside second y z n → P inside (first ⨾ second) x z (m + n)
  -- of two branches
  pub either : {inside : Bool} {first second : Coded} {x y m n : ℕ} → P inside first x y m
      → P inside second x y n → P inside (branches first second) (suc x) y (m + n + 6)
  -- of one branch
  pub branch : {inside : Bool} {body : Coded} {n : ℕ} → P inside body 0 0 n
      → P inside (branch_code body) 1 0 (n + 3)
  -- of a short-circuit
  pub short_circuit : {inside : Bool} (name : OpName) {second : Coded} {x n : ℕ}
      → HasFacts unit (instr name 0 0 0) operands.Plain short 1 → P inside second x (suc x) n
      → P inside (short_code name second) (suc x) (suc x) (5 + n)
  -- of a loop without condition
  pub endless : {inside : Bool} {body update : Coded} {m n : ℕ} → P true body 0 0 m
      → P inside update 0 0 n → P inside (loop_code (λ over. empty) body update) 0 0 (m + n + 3)
  -- of a loop with one
  pub loop : {inside : Bool} {test body update : Coded} {l m n : ℕ} → P inside test 0 1 l
      → P true body 0 0 m → P inside update 0 0 n
      → P inside (loop_code (λ over. test ⨾ jump_over op.TjumpFw over) body update) 0 0
      (m + n + (l + 6))
  -- of `break`
  pub break_out : {inside : Bool} {word : Span} → Said (Jumps word inside)
      → P inside (one (λ exits at. exit_form exits (λ labels. labels.0))) 0 0 3
  -- of `continue`
  pub next_turn : {inside : Bool} {word : Span} → Said (Jumps word inside)
      → P inside (one (λ exits at. exit_form exits (λ labels. labels.1))) 0 0 3

-- of a piece that leaves the operands as they were so many bytes are saved: what is saved is the
-- rest of its wide size, and no more than three bytes for two that are left
pub record Saves (P : Property) (inside : Bool) (coded : Coded) (saves wide : ℕ) : Type 0 where
  pub size : ℕ
  pub holds : P inside coded 0 0 size
  pub whole : wide ≡ size + saves
  pub few : saves * 2 ≤ size * 3

-- ---- sources

-- what the names of a source settle of a need, where something holds of what is said
abbrev pub Settled : (Mention → Type 0) → Need → Type 0
Settled Said (Constant l) = IsPoolable l
Settled Said (Variable v) = Said (Refers (named v))
Settled Said (Local f count) = Said (Refers (called f count))
Settled Said (Library l f count) = Said (Refers (supplied l f count))
Settled Said _ = Unit {0}

-- a unit, what the names of a function and its constants are there, what is known of its needs and
-- of what its source says, which meets the needs, and what holds of the pieces of its code
pub record Setting : Type 1 where
  pub unit : CodeUnit
  pub numbers : Numbers
  pub Needed : Need → Type 0
  pub Said : Mention → Type 0
  pub own : (v : Id) → Said (Declares v) → Said (Refers (named v))
  pub meets : (need : Need) → Needed need → Settled Said need → IsMet unit numbers need
  pub P : Property
  pub pieces : OfPieces unit (length numbers.names.variables) Said P
