-- The instructions (WAP-193, section 10), a row for each spelling. The effects of pairs and the
-- verification's counts are this project's own.
use Rattle.std.specs.Prelude.{ℕ, List, [], ◌∷◌}
use Rattle.wap_unit.specs.declared.row.OpName.{OpName}
use Rattle.wap_unit.specs.declared.row.OpName.TheVariants as op
use Rattle.wap_unit.specs.declared.row.Slot.{Slot}
use Rattle.wap_unit.specs.declared.row.Slot.TheVariants.{Absent, Low, Byte, Word}
use Rattle.wap_unit.specs.declared.row.Operands.{Operands}
use Rattle.wap_unit.specs.declared.row.Operands.TheVariants.{Plain, Variable, Constant}
use Rattle.wap_unit.specs.declared.row.Operands.TheVariants.{Function, Library, Address}
use Rattle.wap_unit.specs.declared.row.Takes.{Takes}
use Rattle.wap_unit.specs.declared.row.Takes.TheVariants.{Values, Arguments}
use Rattle.wap_unit.specs.declared.row.After.{After}
use Rattle.wap_unit.specs.declared.row.After.TheVariants.{On, Forward, Backward, ForwardOrOn}
use Rattle.wap_unit.specs.declared.row.After.TheVariants.{BackwardOrOn, Pair, Leave}
use Rattle.wap_unit.specs.declared.row.Row.{Row}

-- the first code and how many there are, the operation and the name, where the operands stand and
-- what they are, the values taken and given, and where it goes on
abbrev pub row : ℕ → ℕ → OpName → OpName → Slot → Slot → Slot → Operands → Takes → ℕ → After → Row
row first count operation name a b c operands takes gives after = record {
  first = first;
  count = count;
  operation = operation;
  name = name;
  a = a;
  b = b;
  c = c;
  operands = operands;
  takes = takes;
  gives = gives;
  after = after;
}

-- the instructions, the shorter spellings of an operation first
abbrev pub rows : List Row
rows =
    row 0x80 32 op.JumpFw op.JumpFwS Low Absent Absent Plain (Values 0) 0 Forward ∷
    row 0x01 1 op.JumpFw op.JumpFw Byte Absent Absent Plain (Values 0) 0 Forward ∷
    row 0x02 1 op.JumpFw op.JumpFwW Word Absent Absent Plain (Values 0) 0 Forward ∷
    row 0xA0 32 op.JumpBw op.JumpBwS Low Absent Absent Plain (Values 0) 0 Backward ∷
    row 0x03 1 op.JumpBw op.JumpBw Byte Absent Absent Plain (Values 0) 0 Backward ∷
    row 0x04 1 op.JumpBw op.JumpBwW Word Absent Absent Plain (Values 0) 0 Backward ∷
    row 0xC0 32 op.TjumpFw op.TjumpFwS Low Absent Absent Plain (Values 1) 0 ForwardOrOn ∷
    row 0x05 1 op.TjumpFw op.TjumpFw Byte Absent Absent Plain (Values 1) 0 ForwardOrOn ∷
    row 0x06 1 op.TjumpFw op.TjumpFwW Word Absent Absent Plain (Values 1) 0 ForwardOrOn ∷
    row 0x07 1 op.TjumpBw op.TjumpBw Byte Absent Absent Plain (Values 1) 0 BackwardOrOn ∷
    row 0x08 1 op.TjumpBw op.TjumpBwW Word Absent Absent Plain (Values 1) 0 BackwardOrOn ∷
    row 0x60 8 op.Call op.CallS Low Absent Absent Function Arguments 1 On ∷
    row 0x09 1 op.Call op.Call Byte Absent Absent Function Arguments 1 On ∷
    row 0x68 8 op.CallLib op.CallLibS Low Byte Absent Library Arguments 1 On ∷
    row 0x0A 1 op.CallLib op.CallLib Byte Byte Absent Library Arguments 1 On ∷
    row 0x0B 1 op.CallLib op.CallLibW Byte Word Absent Library Arguments 1 On ∷
    row 0x0C 1 op.CallUrl op.CallUrl Byte Byte Byte Address Arguments 1 On ∷
    row 0x0D 1 op.CallUrl op.CallUrlW Word Word Byte Address Arguments 1 On ∷
    row 0xE0 32 op.LoadVar op.LoadVarS Low Absent Absent Variable (Values 0) 1 On ∷
    row 0x0E 1 op.LoadVar op.LoadVar Byte Absent Absent Variable (Values 0) 1 On ∷
    row 0x40 16 op.StoreVar op.StoreVarS Low Absent Absent Variable (Values 1) 0 On ∷
    row 0x0F 1 op.StoreVar op.StoreVar Byte Absent Absent Variable (Values 1) 0 On ∷
    row 0x70 8 op.IncrVar op.IncrVarS Low Absent Absent Variable (Values 0) 0 On ∷
    row 0x10 1 op.IncrVar op.IncrVar Byte Absent Absent Variable (Values 0) 0 On ∷
    row 0x11 1 op.DecrVar op.DecrVar Byte Absent Absent Variable (Values 0) 0 On ∷
    row 0x50 16 op.LoadConst op.LoadConstS Low Absent Absent Constant (Values 0) 1 On ∷
    row 0x12 1 op.LoadConst op.LoadConst Byte Absent Absent Constant (Values 0) 1 On ∷
    row 0x13 1 op.LoadConst op.LoadConstW Word Absent Absent Constant (Values 0) 1 On ∷
    row 0x14 1 op.Const0 op.Const0 Absent Absent Absent Plain (Values 0) 1 On ∷
    row 0x15 1 op.Const1 op.Const1 Absent Absent Absent Plain (Values 0) 1 On ∷
    row 0x16 1 op.ConstM1 op.ConstM1 Absent Absent Absent Plain (Values 0) 1 On ∷
    row 0x17 1 op.ConstEs op.ConstEs Absent Absent Absent Plain (Values 0) 1 On ∷
    row 0x18 1 op.ConstInvalid op.ConstInvalid Absent Absent Absent Plain (Values 0) 1 On ∷
    row 0x19 1 op.ConstTrue op.ConstTrue Absent Absent Absent Plain (Values 0) 1 On ∷
    row 0x1A 1 op.ConstFalse op.ConstFalse Absent Absent Absent Plain (Values 0) 1 On ∷
    row 0x1B 1 op.Incr op.Incr Absent Absent Absent Plain (Values 1) 1 On ∷
    row 0x1C 1 op.Decr op.Decr Absent Absent Absent Plain (Values 1) 1 On ∷
    row 0x1D 1 op.AddAsg op.AddAsg Byte Absent Absent Variable (Values 1) 0 On ∷
    row 0x1E 1 op.SubAsg op.SubAsg Byte Absent Absent Variable (Values 1) 0 On ∷
    row 0x1F 1 op.Uminus op.Uminus Absent Absent Absent Plain (Values 1) 1 On ∷
    row 0x20 1 op.Add op.Add Absent Absent Absent Plain (Values 2) 1 On ∷
    row 0x21 1 op.Sub op.Sub Absent Absent Absent Plain (Values 2) 1 On ∷
    row 0x22 1 op.Mul op.Mul Absent Absent Absent Plain (Values 2) 1 On ∷
    row 0x23 1 op.Div op.Div Absent Absent Absent Plain (Values 2) 1 On ∷
    row 0x24 1 op.Idiv op.Idiv Absent Absent Absent Plain (Values 2) 1 On ∷
    row 0x25 1 op.Rem op.Rem Absent Absent Absent Plain (Values 2) 1 On ∷
    row 0x26 1 op.BAnd op.BAnd Absent Absent Absent Plain (Values 2) 1 On ∷
    row 0x27 1 op.BOr op.BOr Absent Absent Absent Plain (Values 2) 1 On ∷
    row 0x28 1 op.BXor op.BXor Absent Absent Absent Plain (Values 2) 1 On ∷
    row 0x29 1 op.BNot op.BNot Absent Absent Absent Plain (Values 1) 1 On ∷
    row 0x2A 1 op.BLshift op.BLshift Absent Absent Absent Plain (Values 2) 1 On ∷
    row 0x2B 1 op.BRsshift op.BRsshift Absent Absent Absent Plain (Values 2) 1 On ∷
    row 0x2C 1 op.BRszshift op.BRszshift Absent Absent Absent Plain (Values 2) 1 On ∷
    row 0x2D 1 op.Eq op.Eq Absent Absent Absent Plain (Values 2) 1 On ∷
    row 0x2E 1 op.Le op.Le Absent Absent Absent Plain (Values 2) 1 On ∷
    row 0x2F 1 op.Lt op.Lt Absent Absent Absent Plain (Values 2) 1 On ∷
    row 0x30 1 op.Ge op.Ge Absent Absent Absent Plain (Values 2) 1 On ∷
    row 0x31 1 op.Gt op.Gt Absent Absent Absent Plain (Values 2) 1 On ∷
    row 0x32 1 op.Ne op.Ne Absent Absent Absent Plain (Values 2) 1 On ∷
    row 0x33 1 op.Not op.Not Absent Absent Absent Plain (Values 1) 1 On ∷
    row 0x34 1 op.Scand op.Scand Absent Absent Absent Plain (Values 1) 0 Pair ∷
    row 0x35 1 op.Scor op.Scor Absent Absent Absent Plain (Values 1) 0 Pair ∷
    row 0x36 1 op.Tobool op.Tobool Absent Absent Absent Plain (Values 1) 1 On ∷
    row 0x37 1 op.Pop op.Pop Absent Absent Absent Plain (Values 1) 0 On ∷
    row 0x38 1 op.Typeof op.Typeof Absent Absent Absent Plain (Values 1) 1 On ∷
    row 0x39 1 op.Isvalid op.Isvalid Absent Absent Absent Plain (Values 1) 1 On ∷
    row 0x3A 1 op.Return op.Return Absent Absent Absent Plain (Values 1) 0 Leave ∷
    row 0x3B 1 op.ReturnEs op.ReturnEs Absent Absent Absent Plain (Values 0) 0 Leave ∷
    row 0x3C 1 op.Debug op.Debug Absent Absent Absent Plain (Values 0) 0 On ∷
    []
