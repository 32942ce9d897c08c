-- Where a frame stands, the effect of its instruction has all that it needs: no run of a unit that
-- may be run is stuck.
use Rattle.std.proofs.Common.{◌≡◌, ◌≢◌, ℕ, zero, suc, ◌+◌, ◌-◌, ◌^◌, ◌<◌, ◌≤◌, Bool, true}
use Rattle.std.proofs.Common.{false, ltb, cond, ◌&&◌, List, [], ◌∷◌, length, take, drop}
use Rattle.std.proofs.Common.{Option, Some, None, Result, Ok, Err, refl, sym, ap, subst}
use Rattle.std.proofs.Common.{◌∙◌, inl, inr, arith, length-drop}
use Rattle.std.specs.Prelude.{slice_get, slice_index, slice_set, reverse, is_some}
use Rattle.std.specs.Prelude.{unwrap_or, option_map, option_and_then}
use Rattle.std.specs.List.{AllByRecursion}
use Rattle.std.specs.Option.{option_map_or}
use Rattle.std.proofs.lemmas.Bool.{and_parts, ltb-false, le-leb, ltb-true, lt-ltb}
use Rattle.std.proofs.lemmas.List.{length-reverse, length-take-le, length-set}
use Rattle.std.proofs.lemmas.Option.{slice_get_cases}
use Rattle.wap_base.proofs.Choices.{ok_same}
use Rattle.wap_base.specs.declared.charset.Charset.{Charset}
use Rattle.wap_base.specs.Charsets.{charset_of, characters_of}
use Rattle.wap_value.specs.declared.value.Value.{Value}
use Rattle.wap_value.specs.declared.value.Value.TheVariants.{Int, Bool as Boolean, Str, Invalid}
use Rattle.wap_value.specs.declared.fault.ValueFault.{ValueFault}
use Rattle.wap_value.specs.Conversion.{boolean_of}
use Rattle.wap_value.specs.Unary.{unary_of}
use Rattle.wap_value.specs.declared.operator.BinOp.{BinOp}
use Rattle.wap_value.specs.declared.operator.BinOp.TheVariants.{And, Or, Comma}
use Rattle.wap_value.specs.Binary.{TakesBoth, binary_of}
use Rattle.wap_value.specs.TooLong.{kept_within}
use Rattle.wap_unit.specs.declared.unit.Unit.{Unit as CodeUnit}
use Rattle.wap_unit.specs.declared.unit.Code.{Code}
use Rattle.wap_unit.specs.declared.unit.Constant.{Constant}
use Rattle.wap_unit.specs.declared.unit.Constant.TheVariants.{Int8, Int16, Int32, Float, Utf8}
use Rattle.wap_unit.specs.declared.unit.Constant.TheVariants.{Empty, Coded}
use Rattle.wap_unit.specs.declared.row.Slot.{Slot}
use Rattle.wap_unit.specs.declared.row.Slot.TheVariants.{Absent, Low, Byte, Word}
use Rattle.wap_unit.specs.declared.row.Row.{Row}
use Rattle.wap_asm.specs.Spelling.{limit}
use Rattle.wap_asm.specs.Operands.{Holds}
use Rattle.wap_asm.proofs.RowLaws.{code_below}
use Rattle.wap_unit.specs.declared.instr.Instr.{Instr}
use Rattle.wap_unit.specs.declared.instr.InstrFault.{InstrFault}
use Rattle.wap_unit.specs.declared.instr.InstrFault.TheVariants.{Operand}
use Rattle.wap_unit.specs.Instructions.{size, row_of, read, read_row}
use Rattle.wap_unit.specs.Libraries.{lib_args}
use Rattle.wap_unit.specs.Strings.{string_of, string_at, holds_text, is_string}
use Rattle.wap_unit.specs.Sequences.{IsRow}
use Rattle.wap_unit.specs.Units.{IsConstant}
use Rattle.wap_unit.specs.Spelling.{HasSpelling}
use Rattle.wap_unit.specs.inside.Fitting.{FitsFunction}
use Rattle.wap_unit.proofs.SpellingLaws.{unit_fits}
use Rattle.wap_verify.specs.declared.step.Step.{Step}
use Rattle.wap_verify.specs.declared.step.Way.{Way}
use Rattle.wap_verify.specs.declared.fault.VerifyFault.{VerifyFault}
use Rattle.wap_verify.specs.declared.fault.VerifyFault.TheVariants.{LoneShort}
use Rattle.wap_verify.specs.CodePlaces.{values_taken, operand_fault, step_of, pair}
use Rattle.wap_verify.specs.CodePlaces.{is_conditional_forward, jump_read, jump_by, pair_at}
use Rattle.wap_verify.specs.CodePlaces.{is_pair}
use Rattle.wap_verify.specs.CodePlaces.{fine_at, checked, instr_read, step_by, step_at}
use Rattle.wap_verify.specs.Paths.{HasWay, Reaches}
use Rattle.wap_verify.specs.Sound.{IsVerified}
use Rattle.wap_verify.specs.Ready.{IsReady}
use Rattle.wap_verify.proofs.Verifying.{never_stuck}
use Rattle.wap_execution.specs.declared.action.Action.{Action}
use Rattle.wap_execution.specs.declared.action.Action.TheVariants.{Jump, JumpBack, JumpUnless}
use Rattle.wap_execution.specs.declared.action.Action.TheVariants.{JumpBackUnless, ShortCircuit}
use Rattle.wap_execution.specs.declared.action.Action.TheVariants.{CallLocal, CallLibrary}
use Rattle.wap_execution.specs.declared.action.Action.TheVariants.{CallExternal, LoadVariable}
use Rattle.wap_execution.specs.declared.action.Action.TheVariants.{StoreVariable, ChangeVariable}
use Rattle.wap_execution.specs.declared.action.Action.TheVariants.{AssignVariable, LoadConstant}
use Rattle.wap_execution.specs.declared.action.Action.TheVariants.{GiveInteger, GiveBoolean}
use Rattle.wap_execution.specs.declared.action.Action.TheVariants.{GiveEmpty, GiveInvalid, Unary}
use Rattle.wap_execution.specs.declared.action.Action.TheVariants.{Binary, Pop, Return, ReturnEmpty}
use Rattle.wap_execution.specs.declared.action.Action.TheVariants.{Pass}
use Rattle.wap_execution.specs.Actions.{action_of}
use Rattle.wap_execution.specs.Frames.{Function, Frame, code_at, code_of, constant_of, constant_at}
use Rattle.wap_execution.specs.Effects.{Called, local, library, external, Effect, onward, back}
use Rattle.wap_execution.specs.Effects.{calls, with_top, with_kept, with_arguments, with_count}
use Rattle.wap_execution.specs.Effects.{jumps_at, stored, effect_of, is_decided, decided}
use Rattle.wap_execution.specs.Effects.{is_jump_unless, pair_with, pair_by, effect_read}
use Rattle.wap_execution.specs.Effects.{effect_with, effect_by, effect_at}
use Rattle.wap_execution.specs.Running.{at_place}
use Rattle.wap_machine.specs.declared.next.Next.{Next}
use Rattle.wap_machine.specs.declared.next.Next.TheVariants.{Onward, Back, Call}
use Rattle.wap_machine.specs.declared.next.Next.TheVariants.{Return as Gives, End}
use Rattle.wap_machine.specs.Seen.{effect_after}
use Rattle.wap_machine.specs.Doing.{StandsFor, Does, Acts}
use Rattle.wap_machine.specs.inside.InstructionParts.{IsSmall, IsInstruction, given}
use Rattle.wap_machine.specs.Standing.{Stands, CanCall, Onwards, Fits}
use Rattle.wap_machine.proofs.Rows.{Traits, traits_of, has_traits, is_short}
use Rattle.wap_machine.proofs.Rows.{operator_takes_both, is_fine, fine_row}

-- ---- strings of units that were read

-- a coded string's character set is known
abbrev IsKnown : ℕ → Constant → Type 0
IsKnown charset constant = (value : Value) × (constant_of charset constant ≡ Some value)

known : (charset : ℕ) (bytes : List ℕ) (constant : Constant) → IsConstant charset bytes constant
    → IsKnown charset constant
known charset bytes (Int8 number) is = (Int number, refl)
known charset bytes (Int16 number) is = (Int number, refl)
known charset bytes (Int32 number) is = (Int number, refl)
known charset bytes (Float number) is = (Invalid, refl)
known charset bytes (Utf8 text) is = (Str text, refl)
known charset bytes Empty is = (Str [], refl)
known charset bytes (Coded text) is =
    let coded = is.2.2.1 in (
      Str (characters_of coded.set text),
      ap (λ (o : Option Charset). option_map Str (option_map (λ set. characters_of set text) o))
          coded.known,
    )

row_known : (charset : ℕ) (bytes : List ℕ) (constants : List Constant)
    → IsRow (IsConstant charset) bytes constants → (index : ℕ) (constant : Constant)
    → slice_get constants index ≡ Some constant → IsKnown charset constant
row_known charset bytes [] row index constant is = absurd (cc is)
row_known charset bytes (first ∷ rest) row zero constant is =
    subst (IsKnown charset) (some_is first constant is) (known charset row.front first row.first)
  where
    some_is : (x y : Constant) → Some x ≡ Some y → x ≡ y
    some_is x y e = cc
row_known charset bytes (first ∷ rest) row (suc index) constant is =
    row_known charset row.back rest row.second index constant is

constant_there : (unit : CodeUnit) (index : ℕ) → HasSpelling unit → index < length unit.constants
    → (value : Value) × (constant_at unit index ≡ Some value)
constant_there unit index spelled within =
    let pool = spelled.1.body_is.first in
    elim ((slice_get_cases unit.constants index).1) [
      | inl there ↦
          let value =
          row_known unit.charset pool.second.back unit.constants pool.second.second index
          there.0 there.2 in
          (value.0, ap (option_and_then (constant_of unit.charset)) there.2 ∙ value.1)
      | inr past ↦ let few = past.0 in absurd (omega arith)
    ]

text_of_value : (charset : ℕ) (constant : Constant) → holds_text constant ≡ true
    → IsKnown charset constant → (text : List ℕ) × (string_of charset constant ≡ Some text)
text_of_value charset (Int8 number) text is = absurd (cc text)
text_of_value charset (Int16 number) text is = absurd (cc text)
text_of_value charset (Int32 number) text is = absurd (cc text)
text_of_value charset (Float number) text is = absurd (cc text)
text_of_value charset (Utf8 content) text is = (content, refl)
text_of_value charset Empty text is = ([], refl)
text_of_value charset (Coded content) text is =
    by (option_map (λ set. characters_of set content) (charset_of charset)) refl is.1
  where
    by : (o : Option (List ℕ))
        → option_map (λ set. characters_of set content) (charset_of charset) ≡ o
        → option_map Str o ≡ Some is.0
        → (text : List ℕ)
        × (option_map (λ set. characters_of set content) (charset_of charset) ≡ Some text)
    by None e given = absurd (cc given)
    by (Some text) e given = (text, e)

string_there : (unit : CodeUnit) (index : ℕ) → HasSpelling unit → is_string unit index ≡ true
    → (text : List ℕ) × (string_at unit index ≡ Some text)
string_there unit index spelled is =
    let pool = spelled.1.body_is.first in
    elim ((slice_get_cases unit.constants index).1) [
      | inl there ↦
          let holds : holds_text there.0 ≡ true =
          sym (ap (λ (o : Option Constant). option_map_or holds_text o false) there.2) ∙ is in
          let text =
          text_of_value unit.charset there.0 holds (row_known unit.charset pool.second.back
          unit.constants pool.second.second index there.0 there.2) in
          (text.0, ap (option_and_then (string_of unit.charset)) there.2 ∙ text.1)
      | inr past ↦
          let holds : false ≡ true =
          sym (ap (λ (o : Option Constant). option_map_or holds_text o false) past.1) ∙ is in
          absurd (cc holds)
    ]

-- ---- one instruction

abbrev read_if : Bool → Instr → Result Instr InstrFault
read_if short instr = cond short (Err Operand) (Ok instr)

next_is : (row : Row) (code : List ℕ) (at : ℕ) (instr : Instr) → read_row row code at ≡ Ok instr
    → at < instr.next
next_is row code at instr is = by (ltb (length code - at) (size row)) is
  where
    by : (short : Bool) → read_if short (read row code at) ≡ Ok instr → at < instr.next
    by true e = absurd (cc e)
    by false e =
        subst (λ (i : Instr). at < i.next) (ok_same (read row code at) instr e) (omega arith)

abbrev to : ℕ → ℕ → Way
to place gives = record { to = place; gives = gives }

some_when : (test : Bool) (fault : VerifyFault) → cond test None (Some fault) ≡ None → test ≡ true
some_when true fault e = refl
some_when false fault e = absurd (cc e)

module _ (string : ℕ) (function : Function) (place : ℕ) (variables : List Value)
    (code : Code) (instr : Instr)
    (spelled : HasSpelling function.unit) (verified : IsVerified function.unit)
    (found : code_at function ≡ Some code) (long : length variables ≡ code.args + code.locals)
    (further : place < instr.next) where
  -- what the verifier knows of the instruction, with so many operands there
  record Readiness (values : ℕ) (step : Step) : Type 0 where
    enough : step.takes ≤ values
    stays : step.strays ≡ false
    within : (way : Way) → HasWay step way → way.to ≤ length code.code
    reach : (way : Way) → HasWay step way
        → Reaches function.unit function.index code way.to (values - step.takes + way.gives)

  abbrev here : List Value → Frame
  here operands = at_place function place variables operands

  abbrev step_for : Action → Step
  step_for action =
      step_of (traits_of action).after place instr (values_taken function.unit
      (traits_of action).takes (traits_of action).operands instr) (traits_of action).gives

  abbrev NoFault : Action → Type 0
  NoFault action =
      operand_fault function.unit function.index code place (traits_of action).operands instr ≡ None

  stands : (there : ℕ) (changed operands : List Value) (coming values : ℕ)
      → length changed ≡ length variables → there ≤ length code.code
      → Reaches function.unit function.index code there values
      → values ≡ length operands + coming → Stands (at_place function there changed operands) coming
  stands there changed operands coming values same within reach is = record {
    spelled = spelled;
    verified = verified;
    code = code;
    found = found;
    variables = same ∙ long;
    within = within;
    reached = subst (λ (n : ℕ). Reaches function.unit function.index code there n) is reach;
  }

  goes : (operands : List Value) (there : ℕ) (changed left : List Value) (coming values : ℕ)
      → place < there → length changed ≡ length variables → there ≤ length code.code
      → Reaches function.unit function.index code there values → values ≡ length left + coming
      → Onwards place (at_place function there changed left) coming
  goes operands there changed left coming values onwards same within reach is = record {
    further = onwards;
    stands = stands there changed left coming values same within reach is;
  }

  variable_there : NoFault LoadVariable → instr.a < length variables
  variable_there fine =
      let a : instr.a < code.args + code.locals = ltb-true instr.a (code.args + code.locals)
      (some_when (ltb instr.a (code.args + code.locals)) _ fine) in
      omega arith

  value_there : instr.a < length variables
      → (value : Value) × (slice_get variables instr.a ≡ Some value)
  value_there within = elim ((slice_get_cases variables instr.a).1) [
    | inl there ↦ (there.0, there.2)
    | inr past ↦ let few = past.0 in absurd (omega arith)
  ]

  -- it goes on after the instruction, with so many values
  next : (before : List Value) (changed operands : List Value) (values : ℕ)
      → length changed ≡ length variables → instr.next ≤ length code.code
      → Reaches function.unit function.index code instr.next values → values ≡ length operands + 0
      → Fits (here before) (onward instr.next changed operands)
  next before changed operands values same within reach is =
      goes before instr.next changed operands 0 values further same within reach is

  stores : (before : List Value) (value : Value) (operands : List Value) (values : ℕ)
      → instr.a < length variables → instr.next ≤ length code.code
      → Reaches function.unit function.index code instr.next values → values ≡ length operands + 0
      → Fits (here before) (stored instr.a variables value operands instr.next)
  stores before value operands values there within reach is =
      rw (lt-ltb instr.a (length variables) there) (next before (slice_set variables instr.a value)
      operands values (length-set variables instr.a value) within reach is)

  kept : (before : List Value) (r : Result Value ValueFault) (go : Value → Effect)
      → ((value : Value) → Fits (here before) (go value)) → Fits (here before) (with_kept r go)
  kept before (Ok value) go fits = fits value
  kept before (Err fault) go fits = tt

  hands : (operands : List Value) (count : ℕ) (callee : Called) → count ≤ length operands
      → instr.next ≤ length code.code
      → Reaches function.unit function.index code instr.next (length operands - count + 1)
      → ((arguments : List Value) → length arguments ≡ count → CanCall function callee arguments)
      → Fits (here operands) (with_arguments count operands
      (λ arguments rest. calls callee arguments instr.next variables rest))
  hands operands count callee enough within reach can =
      rw (le-leb count (length operands) enough) (
        goes operands instr.next variables (drop count operands) 1 (length operands - count + 1)
            further refl within reach (ap (λ (n : ℕ). n + 1) (sym (length-drop count operands))),
        can (reverse (take count operands))
            (length-reverse (take count operands) ∙ length-take-le count operands enough),
      )

  -- a value is given
  gives : (operands : List Value) (value : Value) → Readiness (length operands) (step_for GiveEmpty)
      → Fits (here operands) (onward instr.next variables (value ∷ operands))
  gives operands value ready =
      next operands variables (value ∷ operands) (length operands - 0 + 1) refl
      (ready.within (to instr.next 1) (inl refl))
      (ready.reach (to instr.next 1) (inl refl)) (omega arith)

  -- ---- each action

  fits : (action : Action) (operands : List Value) → is_pair (traits_of action).after ≡ false
      → Readiness (length operands) (step_for action) → NoFault action
      → Fits (here operands) (effect_of string (here operands) action instr)
  unfolding effect_of
  fits Jump operands single ready fine =
      goes operands (instr.next + instr.a) variables operands 0 (length operands - 0 + 0)
      (omega arith) refl (ready.within (to (instr.next + instr.a) 0) (inr refl))
      (ready.reach (to (instr.next + instr.a) 0) (inr refl)) (omega arith)
  fits JumpBack operands single ready fine =
      let stays : ltb place instr.a ≡ false = ready.stays in
      rw stays (stands (place - instr.a) variables operands 0 (length operands - 0 + 0) refl
      (ready.within (to (place - instr.a) 0) (inr refl))
      (ready.reach (to (place - instr.a) 0) (inr refl)) (omega arith))
  fits JumpUnless [] single ready fine = let enough : 1 ≤ 0 = ready.enough in absurd (omega arith)
  fits JumpUnless (v ∷ operands) single ready fine =
      elim (jumps_at v) as (λ (b : Bool). Fits (here (v ∷ operands)) (cond b
      (onward (instr.next + instr.a) variables operands) (onward instr.next variables operands))) [
        | true ↦
            goes (v ∷ operands) (instr.next + instr.a) variables operands 0 (suc (length operands)
            - 1 + 0) (omega arith) refl (ready.within (to (instr.next + instr.a) 0) (inr refl))
            (ready.reach (to (instr.next + instr.a) 0) (inr refl)) (omega arith)
        | false ↦
            next (v ∷ operands) variables operands (suc (length operands) - 1 + 0) refl
            (ready.within (to instr.next 0) (inl refl))
            (ready.reach (to instr.next 0) (inl refl)) (omega arith)
      ]
  fits JumpBackUnless [] single ready fine =
      let enough : 1 ≤ 0 = ready.enough in
      absurd (omega arith)
  fits JumpBackUnless (v ∷ operands) single ready fine =
      let stays : ltb place instr.a ≡ false = ready.stays in
      rw stays (elim (jumps_at v) as (λ (b : Bool). Fits (here (v ∷ operands))
      (cond b (back (place - instr.a) variables operands) (onward instr.next variables operands))) [
        | true ↦
            stands (place - instr.a) variables operands 0 (suc (length operands) - 1 + 0) refl
            (ready.within (to (place - instr.a) 0) (inr refl))
            (ready.reach (to (place - instr.a) 0) (inr refl)) (omega arith)
        | false ↦
            next (v ∷ operands) variables operands (suc (length operands) - 1 + 0) refl
            (ready.within (to instr.next 0) (inl refl))
            (ready.reach (to instr.next 0) (inl refl)) (omega arith)
      ])
  fits (ShortCircuit decides) operands single ready fine = absurd (cc single)
  fits CallLocal operands single ready fine =
      elim ((slice_get_cases function.unit.functions instr.a).1) [
        | inl there ↦
            let taken : option_map_or (λ (f : Code). f.args)
            (slice_get function.unit.functions instr.a) 0
            ≡ there.0.args =
            ap (λ (o : Option Code). option_map_or (λ (f : Code). f.args) o 0) there.2 in
            let enough : there.0.args ≤ length operands =
            let few : option_map_or (λ (f : Code). f.args)
            (slice_get function.unit.functions instr.a) 0
            ≤ length operands = ready.enough in omega arith in
            let reach = ready.reach (to instr.next 1) (inl refl) in
            rw (there.2) (hands operands there.0.args (local instr.a) enough
            (ready.within (to instr.next 1) (inl refl))
            (subst (λ (n : ℕ).
            Reaches function.unit function.index code instr.next (length operands - n + 1))
            taken reach)
            (λ arguments as_many. record { code = there.0; found = there.2; as_many = as_many }))
        | inr past ↦
            let within : instr.a < length function.unit.functions =
            ltb-true instr.a (length function.unit.functions)
            (some_when (ltb instr.a (length function.unit.functions)) _ fine) in
            let few = past.0 in absurd (omega arith)
      ]
  fits CallLibrary operands single ready fine = by (lib_args instr.b instr.a) refl
    where
      by : (o : Option ℕ) → lib_args instr.b instr.a ≡ o
          → Fits (here operands) (with_count o (λ count.
          with_arguments count operands (λ arguments rest.
          calls (library instr.b instr.a) arguments instr.next variables rest)))
      by None is =
          let there : false ≡ true = sym (ap (λ (o : Option ℕ). is_some o) is)
          ∙ some_when (is_some (lib_args instr.b instr.a)) _ fine in
          absurd (cc there)
      by (Some count) is =
          let taken : values_taken function.unit (traits_of CallLibrary).takes
          (traits_of CallLibrary).operands instr
          ≡ count = ap (λ (o : Option ℕ). unwrap_or o 0) is in
          hands operands count (library instr.b instr.a) (subst (λ (n : ℕ). n ≤ length operands)
          taken ready.enough) (ready.within (to instr.next 1) (inl refl))
          (subst (λ (n : ℕ). Reaches function.unit function.index code instr.next
          (length operands - n + 1)) taken (ready.reach (to instr.next 1) (inl refl)))
          (λ arguments as_many. is ∙ ap Some (sym as_many))
  fits CallExternal operands single ready fine =
      let both =
      and_parts (is_string function.unit instr.a) (is_string function.unit instr.b)
      (some_when (is_string function.unit instr.a && is_string function.unit instr.b) _ fine) in
      let url = string_there function.unit instr.a spelled both.0 in
      let name = string_there function.unit instr.b spelled both.1 in
      rw (url.1) (rw (name.1) (hands operands instr.c (external url.0 name.0) ready.enough
      (ready.within (to instr.next 1) (inl refl)) (ready.reach (to instr.next 1) (inl refl))
      (λ arguments as_many. tt)))
  fits LoadVariable operands single ready fine =
      let there = value_there (variable_there fine) in
      rw (there.1) (next operands variables (there.0 ∷ operands) (length operands - 0 + 1) refl
      (ready.within (to instr.next 1) (inl refl))
      (ready.reach (to instr.next 1) (inl refl)) (omega arith))
  fits StoreVariable [] single ready fine =
      let enough : 1 ≤ 0 = ready.enough in
      absurd (omega arith)
  fits StoreVariable (v ∷ operands) single ready fine =
      stores (v ∷ operands) v operands (suc (length operands) - 1 + 0) (variable_there fine)
      (ready.within (to instr.next 0) (inl refl))
      (ready.reach (to instr.next 0) (inl refl)) (omega arith)
  fits (ChangeVariable op) operands single ready fine =
      let there = value_there (variable_there fine) in
      rw (there.1) (stores operands (unary_of op there.0) operands (length operands - 0 + 0)
      (variable_there fine) (ready.within (to instr.next 0) (inl refl))
      (ready.reach (to instr.next 0) (inl refl)) (omega arith))
  fits (AssignVariable op) [] single ready fine =
      let enough : 1 ≤ 0 = ready.enough in
      absurd (omega arith)
  fits (AssignVariable op) (v ∷ operands) single ready fine =
      let there = value_there (variable_there fine) in
      rw (there.1) (kept (v ∷ operands) (kept_within string (binary_of op there.0 v))
      (λ new. stored instr.a variables new operands instr.next)
      (λ new.
      stores (v ∷ operands) new operands (suc (length operands) - 1 + 0) (variable_there fine)
      (ready.within (to instr.next 0) (inl refl))
      (ready.reach (to instr.next 0) (inl refl)) (omega arith)))
  fits LoadConstant operands single ready fine =
      let there =
      constant_there function.unit instr.a spelled
      (ltb-true instr.a (length function.unit.constants)
      (some_when (ltb instr.a (length function.unit.constants)) _ fine)) in
      rw (there.1) (kept operands (kept_within string there.0)
      (λ value. onward instr.next variables (value ∷ operands))
      (λ value.
      next operands variables (value ∷ operands) (length operands - 0 + 1) refl (ready.within
      (to instr.next 1) (inl refl)) (ready.reach (to instr.next 1) (inl refl)) (omega arith)))
  fits (GiveInteger number) operands single ready fine = gives operands (Int number) ready
  fits (GiveBoolean truth) operands single ready fine = gives operands (Boolean truth) ready
  fits GiveEmpty operands single ready fine = gives operands (Str []) ready
  fits GiveInvalid operands single ready fine = gives operands Invalid ready
  fits (Unary op) [] single ready fine = let enough : 1 ≤ 0 = ready.enough in absurd (omega arith)
  fits (Unary op) (v ∷ operands) single ready fine =
      next (v ∷ operands) variables (unary_of op v ∷ operands) (suc (length operands) - 1 + 1) refl
      (ready.within (to instr.next 1) (inl refl))
      (ready.reach (to instr.next 1) (inl refl)) (omega arith)
  fits (Binary op) [] single ready fine = let enough : 2 ≤ 0 = ready.enough in absurd (omega arith)
  fits (Binary op) (v ∷ []) single ready fine =
      let enough : 2 ≤ 1 = ready.enough in
      absurd (omega arith)
  fits (Binary op) (right ∷ left ∷ operands) single ready fine =
      kept (right ∷ left ∷ operands) (kept_within string (binary_of op left right))
      (λ value. onward instr.next variables (value ∷ operands))
      (λ value.
      next (right ∷ left ∷ operands) variables (value ∷ operands)
      (suc (suc (length operands)) - 2 + 1) refl (ready.within (to instr.next 1) (inl refl))
      (ready.reach (to instr.next 1) (inl refl)) (omega arith))
  fits Pop [] single ready fine = let enough : 1 ≤ 0 = ready.enough in absurd (omega arith)
  fits Pop (v ∷ operands) single ready fine =
      next (v ∷ operands) variables operands (suc (length operands) - 1 + 0) refl
      (ready.within (to instr.next 0) (inl refl))
      (ready.reach (to instr.next 0) (inl refl)) (omega arith)
  fits Return [] single ready fine = let enough : 1 ≤ 0 = ready.enough in absurd (omega arith)
  fits Return (v ∷ operands) single ready fine = tt
  fits ReturnEmpty operands single ready fine = tt
  fits Pass operands single ready fine =
      next operands variables operands (length operands - 0 + 0) refl
      (ready.within (to instr.next 0) (inl refl))
      (ready.reach (to instr.next 0) (inl refl)) (omega arith)

  -- ---- a short-circuit with its jump

  with_jump : (decides : Bool) (jump : Instr) → place < jump.next → (operands : List Value)
      → Readiness (length operands) (pair 1 jump)
      → Fits (here operands) (with_top operands (λ value rest.
      decided (boolean_of value) decides (jump.next + jump.a) jump.next variables rest))
  with_jump decides jump onwards [] ready =
      let enough : 1 ≤ 0 = ready.enough in
      absurd (omega arith)
  with_jump decides jump onwards (v ∷ operands) ready = by (boolean_of v)
    where
      jumps : (value : Value)
          → Fits (here (v ∷ operands)) (onward (jump.next + jump.a) variables (value ∷ operands))
      jumps value =
          goes (v ∷ operands) (jump.next + jump.a) variables (value ∷ operands) 0
          (suc (length operands) - 1 + 1) (omega arith) refl
          (ready.within (to (jump.next + jump.a) 1) (inr refl))
          (ready.reach (to (jump.next + jump.a) 1) (inr refl)) (omega arith)

      by : (truth : Option Bool) → Fits (here (v ∷ operands))
          (decided truth decides (jump.next + jump.a) jump.next variables operands)
      by None = jumps Invalid
      by (Some truth) =
          elim (is_decided decides truth) as (λ (b : Bool).
          Fits (here (v ∷ operands)) (cond b (onward (jump.next + jump.a) variables
          (Boolean truth ∷ operands)) (onward jump.next variables operands))) [
            | true ↦ jumps (Boolean truth)
            | false ↦
                goes (v ∷ operands) jump.next variables operands 0
                (suc (length operands) - 1 + 0) onwards refl
                (ready.within (to jump.next 0) (inl refl))
                (ready.reach (to jump.next 0) (inl refl)) (omega arith)
          ]

  conditional_is : (action : Action) → is_conditional_forward (traits_of action).after ≡ true
      → is_jump_unless action ≡ true
  conditional_is JumpUnless is = refl
  conditional_is _ is = absurd (cc is)

  module _ (decides : Bool) (operands : List Value) (step : Step)
      (ready : Readiness (length operands) step) (code_is : code_of function ≡ code.code) where
    by_jump : (row : Row) (r : Result Instr InstrFault) → read_row row code.code instr.next ≡ r
        → is_jump_unless (action_of row.operation) ≡ true
        → jump_read function.index instr.next 1 r ≡ Ok step
        → Fits (here operands) (pair_with (here operands) decides (action_of row.operation) r)
    by_jump row (Err short) read jumps is = absurd (cc is)
    by_jump row (Ok jump) read jumps is =
        let onwards : place < jump.next =
        let more = next_is row code.code instr.next jump read in omega arith in
        rw jumps (with_jump decides jump onwards operands (subst (λ (s : Step).
        Readiness (length operands) s) (sym (ok_same (pair 1 jump) step is)) ready))

    by_kind : (row : Row) (test : Bool) → is_conditional_forward row.after ≡ test
        → row_of (slice_index code.code instr.next) ≡ Some row
        → cond test (jump_read function.index instr.next 1
        (read_row row code.code instr.next)) (Err (LoneShort function.index place)) ≡ Ok step
        → Fits (here operands) (pair_with (here operands) decides (action_of row.operation)
        (read_row row code.code instr.next))
    by_kind row false kind row_is is = absurd (cc is)
    by_kind row true kind row_is is =
        let after : row.after ≡ (traits_of (action_of row.operation)).after =
        ap (λ (t : Traits). t.after) (has_traits (slice_index code.code instr.next) row row_is) in
        by_jump row (read_row row code.code instr.next) refl
        (conditional_is (action_of row.operation) (sym (ap is_conditional_forward after) ∙ kind)) is

    by_row : (o : Option Row) → row_of (slice_index code.code instr.next) ≡ o
        → jump_by function.index code.code place instr.next 1 o ≡ Ok step
        → Fits (here operands) (pair_by (here operands) decides code.code instr.next o)
    by_row None row_is is = absurd (cc is)
    by_row (Some row) row_is is = by_kind row (is_conditional_forward row.after) refl row_is is

    by_place : (test : Bool)
        → cond test (jump_by function.index code.code place instr.next 1
        (row_of (slice_index code.code instr.next))) (Err (LoneShort function.index place))
        ≡ Ok step
        → Fits (here operands) (pair_by (here operands) decides code.code instr.next
        (row_of (slice_index code.code instr.next)))
    by_place false is = absurd (cc is)
    by_place true is = by_row (row_of (slice_index code.code instr.next)) refl is

    fits_pair : pair_at function.index code.code place instr.next 1 ≡ Ok step
        → Fits (here operands) (pair_by (here operands) decides (code_of function) instr.next
        (row_of (slice_index (code_of function) instr.next)))
    unfolding pair_at
    fits_pair is =
        subst (λ (bytes : List ℕ). Fits (here operands) (pair_by (here operands)
        decides bytes instr.next (row_of (slice_index bytes instr.next)))) (sym code_is)
        (by_place (ltb instr.next (length code.code)) is)

  -- what stands at the place, by the traits of an action
  abbrev fine_by : Traits → Result Step VerifyFault
  fine_by t =
      cond (is_pair t.after) (pair_at function.index code.code place instr.next
      (values_taken function.unit t.takes t.operands instr))
      (Ok
      (step_of t.after place instr (values_taken function.unit t.takes t.operands instr) t.gives))

  single_fits : (action : Action) (operands : List Value) (step : Step)
      → is_pair (traits_of action).after ≡ false → Readiness (length operands) step
      → fine_by (traits_of action) ≡ Ok step → NoFault action
      → Fits (here operands) (effect_of string (here operands) action instr)
  single_fits action operands step single ready is fine =
      let same : step_for action ≡ step =
      ok_same (step_for action) step
      (sym (ap (λ (b : Bool). cond b (pair_at function.index code.code place instr.next
      (values_taken function.unit (traits_of action).takes (traits_of action).operands instr))
      (Ok (step_for action))) single) ∙ is) in
      fits action operands single
      (subst (λ (s : Step). Readiness (length operands) s) (sym same) ready) fine

  read_fits : (action : Action) (operands : List Value) (step : Step) → code_of function ≡ code.code
      → Readiness (length operands) step → fine_by (traits_of action) ≡ Ok step → NoFault action
      → Fits (here operands) (effect_read string (here operands) action instr)
  read_fits Jump operands step code_is ready is fine =
      single_fits Jump operands step refl ready is fine
  read_fits JumpBack operands step code_is ready is fine =
      single_fits JumpBack operands step refl ready is fine
  read_fits JumpUnless operands step code_is ready is fine =
      single_fits JumpUnless operands step refl ready is fine
  read_fits JumpBackUnless operands step code_is ready is fine =
      single_fits JumpBackUnless operands step refl ready is fine
  read_fits (ShortCircuit decides) operands step code_is ready is fine =
      fits_pair decides operands step ready code_is is
  read_fits CallLocal operands step code_is ready is fine =
      single_fits CallLocal operands step refl ready is fine
  read_fits CallLibrary operands step code_is ready is fine =
      single_fits CallLibrary operands step refl ready is fine
  read_fits CallExternal operands step code_is ready is fine =
      single_fits CallExternal operands step refl ready is fine
  read_fits LoadVariable operands step code_is ready is fine =
      single_fits LoadVariable operands step refl ready is fine
  read_fits StoreVariable operands step code_is ready is fine =
      single_fits StoreVariable operands step refl ready is fine
  read_fits (ChangeVariable op) operands step code_is ready is fine =
      single_fits (ChangeVariable op) operands step refl ready is fine
  read_fits (AssignVariable op) operands step code_is ready is fine =
      single_fits (AssignVariable op) operands step refl ready is fine
  read_fits LoadConstant operands step code_is ready is fine =
      single_fits LoadConstant operands step refl ready is fine
  read_fits (GiveInteger number) operands step code_is ready is fine =
      single_fits (GiveInteger number) operands step refl ready is fine
  read_fits (GiveBoolean truth) operands step code_is ready is fine =
      single_fits (GiveBoolean truth) operands step refl ready is fine
  read_fits GiveEmpty operands step code_is ready is fine =
      single_fits GiveEmpty operands step refl ready is fine
  read_fits GiveInvalid operands step code_is ready is fine =
      single_fits GiveInvalid operands step refl ready is fine
  read_fits (Unary op) operands step code_is ready is fine =
      single_fits (Unary op) operands step refl ready is fine
  read_fits (Binary op) operands step code_is ready is fine =
      single_fits (Binary op) operands step refl ready is fine
  read_fits Pop operands step code_is ready is fine =
      single_fits Pop operands step refl ready is fine
  read_fits Return operands step code_is ready is fine =
      single_fits Return operands step refl ready is fine
  read_fits ReturnEmpty operands step code_is ready is fine =
      single_fits ReturnEmpty operands step refl ready is fine
  read_fits Pass operands step code_is ready is fine =
      single_fits Pass operands step refl ready is fine

-- ---- wherever a frame stands

pub code_is : (frame : Frame) (coming : ℕ) (stands : Stands frame coming)
    → code_of frame.function ≡ stands.code.code
code_is frame coming stands =
    ap (λ (o : Option Code). option_map_or (λ (c : Code). c.code) o []) stands.found

module _ (string : ℕ) (frame : Frame) (stands : Stands frame 0)
    (within : frame.place < length stands.code.code) where
  is_ready : IsReady frame.function.unit frame.function.index stands.code frame.place
      (length frame.operands)
  is_ready =
      never_stuck.ready frame.function.unit frame.function.index stands.code frame.place
      (length frame.operands) stands.verified stands.found
      (subst (λ (n : ℕ). Reaches frame.function.unit frame.function.index stands.code frame.place n)
      (omega arith) stands.reached) within

  -- one instruction further
  reaches_on : (way : Way) → HasWay is_ready.step way
      → Reaches frame.function.unit frame.function.index stands.code way.to
      (length frame.operands - is_ready.step.takes + way.gives)
  reaches_on way has =
      let so_far : Reaches frame.function.unit frame.function.index stands.code frame.place
      (length frame.operands) =
      subst (λ (n : ℕ). Reaches frame.function.unit frame.function.index stands.code frame.place n)
      (omega arith) stands.reached in
      record {
        before = (frame.place, length frame.operands) ∷ so_far.before;
        path = (
          record {
            within = within;
            step = is_ready.step;
            stands = is_ready.stands;
            enough = is_ready.enough;
            way = way;
            has = has;
            to = refl;
            values = refl;
          },
          so_far.path,
        );
      }

  -- by the table
  by_table : (row : Row) (instr : Instr)
      → row_of (slice_index stands.code.code frame.place) ≡ Some row
      → read_row row stands.code.code frame.place ≡ Ok instr
      → effect_at string frame ≡ effect_read string frame (action_of row.operation) instr
  unfolding effect_at
  by_table row instr row_is read =
      ap (λ (o : Option Row). effect_by string frame o) (ap (λ (bytes : List ℕ).
      row_of (slice_index bytes frame.place)) (code_is frame 0 stands) ∙ row_is)
      ∙ ap (λ (r : Result Instr InstrFault). effect_with string frame (action_of row.operation) r)
      (ap (λ (bytes : List ℕ). read_row row bytes frame.place) (code_is frame 0 stands) ∙ read)

  fine_is : (row : Row) (instr : Instr)
      → row_of (slice_index stands.code.code frame.place) ≡ Some row
      → read_row row stands.code.code frame.place ≡ Ok instr
      → operand_fault frame.function.unit frame.function.index stands.code frame.place
      row.operands instr
      ≡ None
      → step_at frame.function.unit frame.function.index stands.code frame.place
      ≡ fine_at frame.function.unit frame.function.index stands.code frame.place row instr
  unfolding step_at
  fine_is row instr row_is read fine =
      ap (λ (o : Option Row).
      step_by frame.function.unit frame.function.index stands.code frame.place o) row_is
      ∙ ap (λ (r : Result Instr InstrFault).
      instr_read frame.function.unit frame.function.index stands.code frame.place row r) read
      ∙ ap (λ (o : Option VerifyFault).
      checked frame.function.unit frame.function.index stands.code frame.place row instr o) fine

  pub effect_fits : Fits frame (effect_at string frame)
  unfolding fine_at
  effect_fits =
      let ready = is_ready in
      let same = has_traits (slice_index stands.code.code frame.place) ready.row ready.row_is in
      let fine =
      subst (λ (t : Traits). operand_fault frame.function.unit frame.function.index stands.code
      frame.place t.operands ready.instr
      ≡ None) same ready.operands in
      let is =
      subst (λ (t : Traits). fine_by string frame.function frame.place frame.variables stands.code
      ready.instr stands.spelled stands.verified stands.found stands.variables
      (next_is ready.row stands.code.code frame.place ready.instr ready.read) t
      ≡ Ok ready.step) same
      (sym (fine_is ready.row ready.instr ready.row_is ready.read ready.operands) ∙ ready.stands) in
      subst (Fits frame) (sym (by_table ready.row ready.instr ready.row_is ready.read))
      (read_fits string frame.function frame.place frame.variables stands.code ready.instr
      stands.spelled stands.verified stands.found stands.variables
      (next_is ready.row stands.code.code frame.place ready.instr ready.read)
      (action_of ready.row.operation) frame.operands ready.step (code_is frame 0 stands)
      (record {
        enough = ready.enough;
        stays = ready.stays;
        within = ready.ways;
        reach = reaches_on;
      }) is fine)

-- ---- how great operands are

short_slot : (count n : ℕ) (slot : Slot) → count ≤ 256 → is_short slot ≡ true
    → n < limit count slot → n < 256
short_slot count n Absent few is less = let below : n < 1 = less in omega arith
short_slot count n Low few is less = let below : n < count = less in omega arith
short_slot count n Byte few is less = less
short_slot count n Word few is less = absurd (cc is)

any_slot : (count n : ℕ) (slot : Slot) → count ≤ 256 → n < limit count slot → n < 65536
any_slot count n Absent few less = let below : n < 1 = less in omega arith
any_slot count n Low few less = let below : n < count = less in omega arith
any_slot count n Byte few less = let below : n < 256 = less in omega arith
any_slot count n Word few less = less

operator_is : (op : BinOp) → operator_takes_both op ≡ true → TakesBoth op
operator_is And is = absurd (cc is)
operator_is Or is = absurd (cc is)
operator_is Comma is = absurd (cc is)
operator_is _ is = tt

small_for : (action : Action) (row : Row) (instr : Instr) → is_fine action row ≡ true
    → row.count ≤ 256 → Holds row instr.a instr.b instr.c → IsSmall action instr
small_for CallLocal row instr fine few holds =
    short_slot row.count instr.a row.a few fine holds.a_fits
small_for CallLibrary row instr fine few holds = (
  short_slot row.count instr.a row.a few fine holds.a_fits,
  any_slot row.count instr.b row.b few holds.b_fits,
)
small_for CallExternal row instr fine few holds =
    short_slot row.count instr.c row.c few fine holds.c_fits
small_for (AssignVariable op) row instr fine few holds = operator_is op fine
small_for (Binary op) row instr fine few holds = operator_is op fine
small_for _ row instr fine few holds = tt

next_within : (row : Row) (code : List ℕ) (at : ℕ) (instr : Instr) → at < length code
    → read_row row code at ≡ Ok instr → instr.next ≤ length code
next_within row code at instr inside is = by (ltb (length code - at) (size row)) refl is
  where
    by : (short : Bool) → ltb (length code - at) (size row) ≡ short
        → read_if short (read row code at) ≡ Ok instr → instr.next ≤ length code
    by true kind e = absurd (cc e)
    by false kind e =
        subst (λ (i : Instr). i.next ≤ length code) (ok_same (read row code at) instr e)
        (let enough : size row ≤ length code - at = ltb-false (length code - at) (size row) kind in
        omega arith)

pub code_small : (function : Function) (code : Code) → HasSpelling function.unit
    → code_at function ≡ Some code → length code.code < 2 ^ 32
code_small function code spelled found =
    each function.unit.functions function.index
    (unit_fits spelled.0 function.unit spelled.1).functions.each found
  where
    each : (functions : List Code) (index : ℕ) → AllByRecursion FitsFunction functions
        → slice_get functions index ≡ Some code → length code.code < 2 ^ 32
    each [] index all is = absurd (cc is)
    each (first ∷ rest) zero all is = let same : first ≡ code = cc in subst FitsFunction same all.0
    each (first ∷ rest) (suc index) all is = each rest index all.1 is

pub instruction_is : (frame : Frame) (row : Row) (instr : Instr) → Stands frame 0
    → frame.place < length (code_of frame.function)
    → row_of (slice_index (code_of frame.function) frame.place) ≡ Some row
    → read_row row (code_of frame.function) frame.place ≡ Ok instr
    → (slice_index (code_of frame.function) frame.place < row.first + row.count
    → Holds row instr.a instr.b instr.c)
    → IsInstruction frame (action_of row.operation) instr
instruction_is frame row instr stands within row_is read holds =
    let same : code_of frame.function ≡ stands.code.code = code_is frame 0 stands in
    let inside : frame.place < length stands.code.code =
    subst (λ (l : List ℕ). frame.place < length l) same within in
    let below = code_below (slice_index (code_of frame.function) frame.place) row row_is in
    let few : row.count ≤ 256 = omega (arith, below.1) in
    record {
      effect =
          λ string. by_table string frame stands inside row instr
          (subst (λ (l : List ℕ). row_of (slice_index l frame.place) ≡ Some row) same row_is)
          (subst (λ (l : List ℕ). read_row row l frame.place ≡ Ok instr) same read);
      next = next_within row (code_of frame.function) frame.place instr within read;
      small_code =
          subst (λ (l : List ℕ). length l < 2 ^ 32) (sym same)
          (code_small frame.function stands.code stands.spelled stands.found);
      small_a = any_slot row.count instr.a row.a few (holds below.0).a_fits;
      small =
          small_for (action_of row.operation) row instr
          (fine_row (slice_index (code_of frame.function) frame.place) row row_is) few
          (holds below.0);
    }

-- there is a whole instruction
pub no_row : (frame : Frame) → Stands frame 0 → frame.place < length (code_of frame.function)
    → None ≡ row_of (slice_index (code_of frame.function) frame.place) → ⊥
no_row frame stands within none =
    let same : code_of frame.function ≡ stands.code.code = code_is frame 0 stands in
    let inside : frame.place < length stands.code.code =
    subst (λ (l : List ℕ). frame.place < length l) same within in
    let is = is_ready 0 frame stands inside in
    cc (subst (λ (l : List ℕ). ◌≡◌ {A = Option Row} None (row_of (slice_index l frame.place)))
    same none
    ∙ is.row_is)

pub no_instr : (frame : Frame) (row : Row) (fault : InstrFault) → Stands frame 0
    → frame.place < length (code_of frame.function)
    → Some row ≡ row_of (slice_index (code_of frame.function) frame.place)
    → Err fault ≡ read_row row (code_of frame.function) frame.place → ⊥
no_instr frame row fault stands within row_is short =
    let same : code_of frame.function ≡ stands.code.code = code_is frame 0 stands in
    let inside : frame.place < length stands.code.code =
    subst (λ (l : List ℕ). frame.place < length l) same within in
    let is = is_ready 0 frame stands inside in
    let rows : Some row ≡ Some is.row =
    subst (λ (l : List ℕ). Some row ≡ row_of (slice_index l frame.place)) same row_is ∙ is.row_is in
    let short' : Err fault ≡ read_row row stands.code.code frame.place =
    subst (λ (l : List ℕ).
    ◌≡◌ {A = Result Instr InstrFault} (Err fault) (read_row row l frame.place)) same short in
    let read : read_row row stands.code.code frame.place ≡ Ok is.instr =
    subst (λ (r : Row). read_row r stands.code.code frame.place ≡ Ok is.instr)
    (sym (row_same row is.row rows)) is.read in
    cc (short' ∙ read)
  where
    row_same : (x y : Row) → Some x ≡ Some y → x ≡ y
    row_same x y e = cc

-- ---- one instruction

pub fits_here : (string : ℕ) (frame : Frame) → Stands frame 0
    → frame.place < length (code_of frame.function) → Fits frame (effect_at string frame)
fits_here string frame stands within =
    effect_fits string frame stands
    (subst (λ (l : List ℕ). frame.place < length l) (code_is frame 0 stands) within)

pub acts : (string : ℕ) (before after : Frame) (next : Next) (action : Action) (instr : Instr)
    → IsInstruction before action instr → Stands before 0
    → before.place < length (code_of before.function)
    → Does (effect_read string before action instr) before.function after next
    → Acts string before after next
acts string before after next action instr is stands within does =
    let e : effect_at string before ≡ effect_after next after = is.effect string ∙ does.is in
    record {
      does = record { is = e; same = does.same; in_order = does.in_order };
      fits = subst (Fits before) e (fits_here string before stands within);
    }

-- ---- after an instruction

same_place : (before after : Frame) → after.function ≡ before.function
    → at_place before.function after.place after.variables after.operands ≡ after
same_place before after same =
    ap (λ (f : Function). at_place f after.place after.variables after.operands) (sym same)

pub stands_for : (string : ℕ) (before after : Frame) (next : Next) → Acts string before after next
    → StandsFor after next
stands_for string before after next acts = by next acts.fits
  where
    by : (n : Next) → Fits before (effect_after n after) → StandsFor after n
    by Onward fits =
        subst (λ (f : Frame). Stands f 0) (same_place before after acts.does.same) fits.stands
    by Back fits = subst (λ (f : Frame). Stands f 0) (same_place before after acts.does.same) fits
    by (Call callee arguments) fits =
        subst (λ (f : Frame). Stands f 1) (same_place before after acts.does.same) fits.0.stands
    by (Gives value) fits = tt
    by (End why) fits = tt

pub inside_of : (frame : Frame) (coming : ℕ) → Stands frame coming
    → frame.place ≢ length (code_of frame.function) → frame.place < length (code_of frame.function)
inside_of frame coming stands apart =
    let within : frame.place ≤ length (code_of frame.function) =
    subst (λ (l : List ℕ). frame.place ≤ length l)
    (sym (code_is frame coming stands)) stands.within in
    omega arith
