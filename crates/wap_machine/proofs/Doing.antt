-- What frames have where effects fit.
use Rattle.std.proofs.Common.{◌≡◌, ℕ, zero, suc, ◌+◌, ◌<◌, ◌≤◌, List, [], ◌∷◌, length, cond, ltb}
use Rattle.std.proofs.Common.{Option, Some, None, refl, sym, ap, subst, ◌∙◌, arith}
use Rattle.wap_value.specs.declared.value.Value.{Value}
use Rattle.std.proofs.Common.{Ok, Err, chars}
use Rattle.std.specs.Str.{IsUtf8}
use Rattle.std.proofs.lemmas.Bool.{le-ltb, lt-ltb}
use Rattle.std.proofs.lemmas.Str.{encodes-chars}
use Rattle.wap_base.specs.Utf8.{utf8_len}
use Rattle.wap_base.proofs.Utf8Lengths.{length-encode_utf8_all}
use Rattle.wap_value.specs.declared.value.Value.TheVariants.{Str}
use Rattle.wap_value.specs.declared.fault.ValueFault.TheVariants.{TooLong}
use Rattle.wap_value.specs.TooLong.{kept_within}
use Rattle.wap_unit.specs.declared.instr.Instr.{Instr}
use Rattle.wap_execution.specs.declared.action.Action.TheVariants.{LoadConstant}
use Rattle.wap_verify.specs.Paths.{Reaches}
use Rattle.wap_execution.specs.Frames.{Function, Frame, constant_at}
use Rattle.wap_execution.specs.Effects.{onward, stuck, stored, with_value, with_kept, effect_of}
use Rattle.std.specs.Prelude.{slice_set}
use Rattle.std.proofs.lemmas.List.{length-set}
use Rattle.wap_execution.specs.Running.{at_place}
use Rattle.wap_machine.specs.inside.InstructionParts.{HasConstant}
use Rattle.wap_machine.specs.Standing.{Stands, Fits, IsReached}

-- there is room for one more where the frame goes on with it
pub room_given : (function : Function) (place : ℕ) (variables operands : List Value) (value : Value)
    → Stands (at_place function place variables (value ∷ operands)) 0
    → IsReached function (length operands + 1)
room_given function place variables operands value stands = record {
  code = stands.code;
  found = stands.found;
  at = place;
  reached =
      subst (λ (n : ℕ). Reaches function.unit function.index stands.code place n)
      (omega arith) stands.reached;
}

set-set : (l : List Value) (i : ℕ) (x y : Value) → slice_set (slice_set l i x) i y ≡ slice_set l i y
set-set [] i x y = refl
set-set (z ∷ l) zero x y = refl
set-set (z ∷ l) (suc i) x y = ap (λ (rest : List Value). z ∷ rest) (set-set l i x y)

-- a variable that is stored in twice has the last value
pub stored_again : (index : ℕ) (variables : List Value) (first value : Value)
    (operands : List Value) (place : ℕ)
    → stored index (slice_set variables index first) value operands place
    ≡ stored index variables value operands place
stored_again index variables first value operands place =
    ap (λ (n : ℕ). cond (ltb index n)
    (onward place (slice_set (slice_set variables index first) index value) operands) stuck)
    (length-set variables index first)
    ∙ ap (λ (l : List Value). cond (ltb index (length variables)) (onward place l operands) stuck)
    (set-set variables index first value)

-- ---- literals and constants

pub text_kept : (string : ℕ) (bytes : List ℕ) → IsUtf8 bytes → length bytes ≤ string
    → kept_within string (Str (chars bytes)) ≡ Ok (Str (chars bytes))
text_kept string bytes utf8 short =
    let long : utf8_len (chars bytes) ≡ length bytes =
    sym (length-encode_utf8_all (chars bytes))
    ∙ ap (λ (l : List ℕ). length l) (encodes-chars bytes utf8) in
    rw (le-ltb string (utf8_len (chars bytes)) (omega arith)) refl

pub text_too_long : (string : ℕ) (bytes : List ℕ) → IsUtf8 bytes → string < length bytes
    → kept_within string (Str (chars bytes)) ≡ Err (TooLong (length bytes))
text_too_long string bytes utf8 past =
    let long : utf8_len (chars bytes) ≡ length bytes =
    sym (length-encode_utf8_all (chars bytes))
    ∙ ap (λ (l : List ℕ). length l) (encodes-chars bytes utf8) in
    rw (lt-ltb string (utf8_len (chars bytes)) (omega arith)) (ap (λ (n : ℕ). Err (TooLong n)) long)

pub constant_here : (string : ℕ) (frame : Frame) (instr : Instr)
    → Fits frame (effect_of string frame LoadConstant instr)
    → HasConstant frame.function.unit instr.a
unfolding effect_of
constant_here string frame instr fits = by (constant_at frame.function.unit instr.a) refl fits
  where
    by : (o : Option Value) → constant_at frame.function.unit instr.a ≡ o
        → Fits frame (with_value o (λ value. with_kept (kept_within string value)
        (λ kept. onward instr.next frame.variables (kept ∷ frame.operands))))
        → HasConstant frame.function.unit instr.a
    by None is fits = absurd fits
    by (Some value) is fits = record { value = value; is = is }

-- what loading a constant of this value does
pub loads : (string : ℕ) (frame : Frame) (instr : Instr) (value : Value)
    → constant_at frame.function.unit instr.a ≡ Some value
    → effect_of string frame LoadConstant instr ≡ with_kept (kept_within string value)
    (λ kept. onward instr.next frame.variables (kept ∷ frame.operands))
unfolding effect_of
loads string frame instr value is =
    ap (λ (o : Option Value). with_value o (λ value. with_kept (kept_within string value)
    (λ kept. onward instr.next frame.variables (kept ∷ frame.operands)))) is
