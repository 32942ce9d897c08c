-- What each operation does (WAP-193, section 10), a row for each name. The name of a short form has
-- the row of its operation, which is never asked for: a row of the table of instructions names its
-- operation beside its form.
use Rattle.std.specs.Prelude.{pos, negsuc, true, false}
use Rattle.wap_unit.specs.declared.row.OpName.{OpName}
use Rattle.wap_unit.specs.declared.row.OpName.TheVariants as op
use Rattle.wap_value.specs.declared.operator.UnOp.TheVariants as un
use Rattle.wap_value.specs.declared.operator.BinOp.TheVariants as bin
use Rattle.wap_execution.specs.declared.action.Action.{Action}
use Rattle.wap_execution.specs.declared.action.Action.TheVariants.{Jump, JumpBack, JumpUnless}
use Rattle.wap_execution.specs.declared.action.Action.TheVariants.{JumpBackUnless, ShortCircuit}
use Rattle.wap_execution.specs.declared.action.Action.TheVariants.{CallLocal, CallLibrary}
use Rattle.wap_execution.specs.declared.action.Action.TheVariants.{CallExternal, LoadVariable}
use Rattle.wap_execution.specs.declared.action.Action.TheVariants.{StoreVariable, ChangeVariable}
use Rattle.wap_execution.specs.declared.action.Action.TheVariants.{AssignVariable, LoadConstant}
use Rattle.wap_execution.specs.declared.action.Action.TheVariants.{GiveInteger, GiveBoolean}
use Rattle.wap_execution.specs.declared.action.Action.TheVariants.{GiveEmpty, GiveInvalid, Unary}
use Rattle.wap_execution.specs.declared.action.Action.TheVariants.{Binary, Pop, Return, ReturnEmpty}
use Rattle.wap_execution.specs.declared.action.Action.TheVariants.{Pass}

-- what the operation of a name does
abbrev pub action_of : OpName → Action
action_of op.JumpFw = Jump
action_of op.JumpFwS = Jump
action_of op.JumpFwW = Jump
action_of op.JumpBw = JumpBack
action_of op.JumpBwS = JumpBack
action_of op.JumpBwW = JumpBack
action_of op.TjumpFw = JumpUnless
action_of op.TjumpFwS = JumpUnless
action_of op.TjumpFwW = JumpUnless
action_of op.TjumpBw = JumpBackUnless
action_of op.TjumpBwW = JumpBackUnless
action_of op.Scand = ShortCircuit false
action_of op.Scor = ShortCircuit true
action_of op.Call = CallLocal
action_of op.CallS = CallLocal
action_of op.CallLib = CallLibrary
action_of op.CallLibS = CallLibrary
action_of op.CallLibW = CallLibrary
action_of op.CallUrl = CallExternal
action_of op.CallUrlW = CallExternal
action_of op.LoadVar = LoadVariable
action_of op.LoadVarS = LoadVariable
action_of op.StoreVar = StoreVariable
action_of op.StoreVarS = StoreVariable
action_of op.IncrVar = ChangeVariable un.Incr
action_of op.IncrVarS = ChangeVariable un.Incr
action_of op.DecrVar = ChangeVariable un.Decr
action_of op.AddAsg = AssignVariable bin.Add
action_of op.SubAsg = AssignVariable bin.Sub
action_of op.LoadConst = LoadConstant
action_of op.LoadConstS = LoadConstant
action_of op.LoadConstW = LoadConstant
action_of op.Const0 = GiveInteger (pos 0)
action_of op.Const1 = GiveInteger (pos 1)
action_of op.ConstM1 = GiveInteger (negsuc 0)
action_of op.ConstEs = GiveEmpty
action_of op.ConstInvalid = GiveInvalid
action_of op.ConstTrue = GiveBoolean true
action_of op.ConstFalse = GiveBoolean false
action_of op.Incr = Unary un.Incr
action_of op.Decr = Unary un.Decr
action_of op.Uminus = Unary un.Minus
action_of op.BNot = Unary un.BitNot
action_of op.Not = Unary un.Not
action_of op.Tobool = Unary un.ToBool
action_of op.Typeof = Unary un.TypeOf
action_of op.Isvalid = Unary un.IsValid
action_of op.Add = Binary bin.Add
action_of op.Sub = Binary bin.Sub
action_of op.Mul = Binary bin.Mul
action_of op.Div = Binary bin.Div
action_of op.Idiv = Binary bin.IDiv
action_of op.Rem = Binary bin.Rem
action_of op.BAnd = Binary bin.BitAnd
action_of op.BOr = Binary bin.BitOr
action_of op.BXor = Binary bin.BitXor
action_of op.BLshift = Binary bin.Shl
action_of op.BRsshift = Binary bin.Shr
action_of op.BRszshift = Binary bin.UShr
action_of op.Eq = Binary bin.Eq
action_of op.Le = Binary bin.Le
action_of op.Lt = Binary bin.Lt
action_of op.Ge = Binary bin.Ge
action_of op.Gt = Binary bin.Gt
action_of op.Ne = Binary bin.Ne
action_of op.Pop = Pop
action_of op.Return = Return
action_of op.ReturnEs = ReturnEmpty
action_of op.Debug = Pass
