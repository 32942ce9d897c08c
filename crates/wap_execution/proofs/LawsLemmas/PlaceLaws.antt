-- A frame goes on after its instruction, where it does not go back.
use Rattle.std.proofs.Common.{ℕ, ◌+◌, ◌-◌, ◌<◌, Bool, true, false, leb, ltb}
use Rattle.std.proofs.Common.{cond, List, [], ◌∷◌, length, reverse, take, drop, Option}
use Rattle.std.proofs.Common.{Some, None, Result, Ok, Err, arith}
use Rattle.std.specs.Prelude.{⊤, slice_get, slice_index, option_map}
use Rattle.wap_value.specs.declared.value.Value.{Value}
use Rattle.wap_value.specs.declared.fault.ValueFault.{ValueFault}
use Rattle.wap_value.specs.Conversion.{boolean_of}
use Rattle.wap_value.specs.Binary.{binary_of}
use Rattle.wap_value.specs.TooLong.{kept_within}
use Rattle.wap_unit.specs.declared.row.Row.{Row}
use Rattle.wap_unit.specs.declared.instr.Instr.{Instr}
use Rattle.wap_unit.specs.declared.instr.InstrFault.TheVariants.{Operand}
use Rattle.wap_unit.specs.Instructions.{size, row_of, read, read_row}
use Rattle.wap_unit.specs.Libraries.{lib_args}
use Rattle.wap_unit.specs.Strings.{string_at}
use Rattle.wap_execution.specs.declared.action.Action.{Action}
use Rattle.wap_execution.specs.declared.action.Action.TheVariants.{Jump, JumpBack, JumpUnless}
use Rattle.wap_execution.specs.declared.action.Action.TheVariants.{JumpBackUnless, ShortCircuit}
use Rattle.wap_execution.specs.declared.action.Action.TheVariants.{CallLocal, CallLibrary}
use Rattle.wap_execution.specs.declared.action.Action.TheVariants.{CallExternal, LoadVariable}
use Rattle.wap_execution.specs.declared.action.Action.TheVariants.{StoreVariable, ChangeVariable}
use Rattle.wap_execution.specs.declared.action.Action.TheVariants.{AssignVariable, LoadConstant}
use Rattle.wap_execution.specs.declared.action.Action.TheVariants.{Unary, Binary, Pop, Return}
use Rattle.wap_execution.specs.declared.action.Action.TheVariants.{ReturnEmpty}
use Rattle.wap_execution.specs.Actions.{action_of}
use Rattle.wap_execution.specs.Frames.{Frame, code_of, constant_at}
use Rattle.wap_execution.specs.Effects.{local, library, external, Effect, onward, back, calls}
use Rattle.wap_execution.specs.Effects.{stuck, with_top, with_value, with_kept, with_arguments}
use Rattle.wap_execution.specs.Effects.{with_count, with_texts, jumps_at, backward, stored}
use Rattle.wap_execution.specs.Effects.{effect_of, is_decided, decided, is_jump_unless, pair_with}
use Rattle.wap_execution.specs.Effects.{pair_by, effect_read, effect_with, effect_by, effect_at}

-- what goes on, after a call too, goes on behind the place
abbrev pub IsBehind : ℕ → Effect → Type 0
IsBehind at (onward place variables operands) = at < place
IsBehind at (calls callee arguments place variables operands) = at < place
IsBehind at _ = ⊤

module _ (at : ℕ) where
  abbrev Behind : Effect → Type 0
  Behind = IsBehind at

  with_top_behind : (operands : List Value) (next : Value → List Value → Effect)
      → ((value : Value) (rest : List Value) → Behind (next value rest))
      → Behind (with_top operands next)
  with_top_behind [] next nexts = tt
  with_top_behind (value ∷ rest) next nexts = nexts value rest

  with_value_behind : (value : Option Value) (next : Value → Effect)
      → ((value : Value) → Behind (next value)) → Behind (with_value value next)
  with_value_behind None next nexts = tt
  with_value_behind (Some value) next nexts = nexts value

  with_kept_behind : (kept : Result Value ValueFault) (next : Value → Effect)
      → ((value : Value) → Behind (next value)) → Behind (with_kept kept next)
  with_kept_behind (Err fault) next nexts = tt
  with_kept_behind (Ok value) next nexts = nexts value

  if_behind : (test : Bool) (one other : Effect) → Behind one → Behind other
      → Behind (cond test one other)
  if_behind true one other ones others = ones
  if_behind false one other ones others = others

  with_arguments_behind : (count : ℕ) (operands : List Value)
      (next : List Value → List Value → Effect)
      → ((arguments rest : List Value) → Behind (next arguments rest))
      → Behind (with_arguments count operands next)
  with_arguments_behind count operands next nexts =
      if_behind (leb count (length operands)) (next (reverse (take count operands))
      (drop count operands)) stuck (nexts (reverse (take count operands)) (drop count operands)) tt

  with_count_behind : (count : Option ℕ) (next : ℕ → Effect) → ((count : ℕ) → Behind (next count))
      → Behind (with_count count next)
  with_count_behind None next nexts = tt
  with_count_behind (Some count) next nexts = nexts count

  with_texts_behind : (url name : Option (List ℕ)) (next : List ℕ → List ℕ → Effect)
      → ((url name : List ℕ) → Behind (next url name)) → Behind (with_texts url name next)
  with_texts_behind None name next nexts = tt
  with_texts_behind (Some url) None next nexts = tt
  with_texts_behind (Some url) (Some name) next nexts = nexts url name

  backward_behind : (place : ℕ) (instr : Instr) (variables operands : List Value)
      → Behind (backward place instr variables operands)
  backward_behind place instr variables operands =
      if_behind (ltb place instr.a) stuck (back (place - instr.a) variables operands) tt tt

  stored_behind : (index : ℕ) (variables : List Value) (value : Value) (operands : List Value)
      (next : ℕ) → at < next → Behind (stored index variables value operands next)
  stored_behind index variables value operands next further =
      if_behind (ltb index (length variables)) (onward next _ operands) stuck further tt

  effect_of_behind : (string : ℕ) (frame : Frame) (action : Action) (instr : Instr)
      → at < instr.next → Behind (effect_of string frame action instr)
  unfolding effect_of
  effect_of_behind string frame Jump instr further = omega arith
  effect_of_behind string frame JumpBack instr further =
      backward_behind frame.place instr frame.variables frame.operands
  effect_of_behind string frame JumpUnless instr further =
      with_top_behind frame.operands _ (λ value rest.
      if_behind (jumps_at value) (onward (instr.next + instr.a) frame.variables rest)
      (onward instr.next frame.variables rest) (omega arith) further)
  effect_of_behind string frame JumpBackUnless instr further =
      with_top_behind frame.operands _ (λ value rest.
      if_behind (jumps_at value) (backward frame.place instr frame.variables rest) (onward
      instr.next frame.variables rest) (backward_behind frame.place instr frame.variables rest)
      further)
  effect_of_behind string frame (ShortCircuit decides) instr further = tt
  effect_of_behind string frame CallLocal instr further =
      with_count_behind (option_map _ (slice_get frame.function.unit.functions instr.a)) _ (λ count.
      with_arguments_behind count frame.operands (λ arguments operands. calls (local instr.a)
      arguments instr.next frame.variables operands) (λ arguments rest. further))
  effect_of_behind string frame CallLibrary instr further =
      with_count_behind (lib_args instr.b instr.a) _ (λ count.
      with_arguments_behind count frame.operands (λ arguments operands. calls (library instr.b
      instr.a) arguments instr.next frame.variables operands) (λ arguments rest. further))
  effect_of_behind string frame CallExternal instr further =
      with_texts_behind (string_at frame.function.unit instr.a)
      (string_at frame.function.unit instr.b)
      (λ url name. with_arguments instr.c frame.operands (λ arguments operands.
      calls (external url name) arguments instr.next frame.variables operands)) (λ url name.
      with_arguments_behind instr.c frame.operands (λ arguments operands. calls (external url name)
      arguments instr.next frame.variables operands) (λ arguments rest. further))
  effect_of_behind string frame LoadVariable instr further =
      with_value_behind (slice_get frame.variables instr.a) _ (λ value. further)
  effect_of_behind string frame StoreVariable instr further =
      with_top_behind frame.operands _
      (λ value rest. stored_behind instr.a frame.variables value rest instr.next further)
  effect_of_behind string frame (ChangeVariable op) instr further =
      with_value_behind (slice_get frame.variables instr.a) _
      (λ old. stored_behind instr.a frame.variables _ frame.operands instr.next further)
  effect_of_behind string frame (AssignVariable op) instr further =
      with_value_behind (slice_get frame.variables instr.a) _ (λ old.
      with_top_behind frame.operands _ (λ value rest.
      with_kept_behind (kept_within string (binary_of op old value)) _
      (λ new. stored_behind instr.a frame.variables new rest instr.next further)))
  effect_of_behind string frame LoadConstant instr further =
      with_value_behind (constant_at frame.function.unit instr.a) _
      (λ value. with_kept_behind (kept_within string value) _ (λ kept. further))
  effect_of_behind string frame (Unary op) instr further =
      with_top_behind frame.operands _ (λ value rest. further)
  effect_of_behind string frame (Binary op) instr further =
      with_top_behind frame.operands _ (λ right rest.
      with_top_behind rest _ (λ left others.
      with_kept_behind (kept_within string (binary_of op left right)) _ (λ value. further)))
  effect_of_behind string frame Pop instr further =
      with_top_behind frame.operands _ (λ value rest. further)
  effect_of_behind string frame Return instr further =
      with_top_behind frame.operands _ (λ value rest. tt)
  effect_of_behind string frame ReturnEmpty instr further = tt
  effect_of_behind string frame _ instr further = further

  decided_behind : (truth : Option Bool) (decides : Bool) (target next : ℕ)
      (variables operands : List Value) → at < target → at < next
      → Behind (decided truth decides target next variables operands)
  decided_behind None decides target next variables operands over further = over
  decided_behind (Some truth) decides target next variables operands over further =
      if_behind (is_decided decides truth) _ (onward next variables operands) over further

  pair_with_behind : (frame : Frame) (decides : Bool) (action : Action) (jump : Instr)
      → at < jump.next → Behind (pair_with frame decides action (Ok jump))
  pair_with_behind frame decides action jump further =
      if_behind (is_jump_unless action) _ stuck
      (with_top_behind frame.operands _ (λ value rest. decided_behind (boolean_of value) decides
      (jump.next + jump.a) jump.next frame.variables rest (omega arith) further)) tt

  pair_by_behind : (frame : Frame) (decides : Bool) (code : List ℕ) (place : ℕ) (row : Option Row)
      → at < place → Behind (pair_by frame decides code place row)
  pair_by_behind frame decides code place None further = tt
  pair_by_behind frame decides code place (Some row) further =
      by (ltb (length code - place) (size row)) where
        by : (short : Bool) → Behind (pair_with frame decides (action_of row.operation)
            (cond short (Err Operand) (Ok (read row code place))))
        by true = tt
        by false =
            pair_with_behind frame decides (action_of row.operation) (read row code place)
            (omega arith)

  effect_read_behind : (string : ℕ) (frame : Frame) (action : Action) (instr : Instr)
      → at < instr.next → Behind (effect_read string frame action instr)
  effect_read_behind string frame (ShortCircuit decides) instr further =
      pair_by_behind frame decides (code_of frame.function) instr.next
      (row_of (slice_index (code_of frame.function) instr.next)) further
  effect_read_behind string frame action instr further =
      effect_of_behind string frame action instr further

-- an instruction has at least one byte
read_behind : (string : ℕ) (frame : Frame) (row : Row)
    → IsBehind frame.place (effect_with string frame
    (action_of row.operation) (read_row row (code_of frame.function) frame.place))
read_behind string frame row = by (ltb (length (code_of frame.function) - frame.place) (size row))
  where
    by : (short : Bool) → IsBehind frame.place
        (effect_with string frame (action_of row.operation)
        (cond short (Err Operand) (Ok (read row (code_of frame.function) frame.place))))
    by true = tt
    by false =
        effect_read_behind frame.place string frame
        (action_of row.operation) (read row (code_of frame.function) frame.place)
        (omega arith)

by_behind : (string : ℕ) (frame : Frame) (row : Option Row)
    → IsBehind frame.place (effect_by string frame row)
by_behind string frame None = tt
by_behind string frame (Some row) = read_behind string frame row

-- what stands where a frame goes on leads behind it
pub leads_behind : (string : ℕ) (frame : Frame)
    → IsBehind frame.place (effect_at string frame)
unfolding effect_at
leads_behind string frame =
    by_behind string frame (row_of (slice_index (code_of frame.function) frame.place))
