-- The names of instructions as they are shown (WAP-193, section 10).
use Rattle.std.specs.Prelude.{ℕ, Bool, codes, unwrap_or, List, [], ◌∷◌}
use Rattle.std.specs.Map.{lookup}
use Rattle.wap_unit.specs.declared.row.OpName.{OpName}
use Rattle.wap_unit.specs.declared.row.OpName.TheVariants as op
use Rattle.wap_unit.specs.contracts.row.OpName.{the_type}
use denote.Enum.Bare.{sameb}

-- the names of the instructions in the standard's notation
abbrev pub names : List (OpName × List ℕ)
names =
    (op.JumpFwS, codes "JUMP_FW_S") ∷
    (op.JumpFw, codes "JUMP_FW") ∷
    (op.JumpFwW, codes "JUMP_FW_W") ∷
    (op.JumpBwS, codes "JUMP_BW_S") ∷
    (op.JumpBw, codes "JUMP_BW") ∷
    (op.JumpBwW, codes "JUMP_BW_W") ∷
    (op.TjumpFwS, codes "TJUMP_FW_S") ∷
    (op.TjumpFw, codes "TJUMP_FW") ∷
    (op.TjumpFwW, codes "TJUMP_FW_W") ∷
    (op.TjumpBw, codes "TJUMP_BW") ∷
    (op.TjumpBwW, codes "TJUMP_BW_W") ∷
    (op.CallS, codes "CALL_S") ∷
    (op.Call, codes "CALL") ∷
    (op.CallLibS, codes "CALL_LIB_S") ∷
    (op.CallLib, codes "CALL_LIB") ∷
    (op.CallLibW, codes "CALL_LIB_W") ∷
    (op.CallUrl, codes "CALL_URL") ∷
    (op.CallUrlW, codes "CALL_URL_W") ∷
    (op.LoadVarS, codes "LOAD_VAR_S") ∷
    (op.LoadVar, codes "LOAD_VAR") ∷
    (op.StoreVarS, codes "STORE_VAR_S") ∷
    (op.StoreVar, codes "STORE_VAR") ∷
    (op.IncrVarS, codes "INCR_VAR_S") ∷
    (op.IncrVar, codes "INCR_VAR") ∷
    (op.DecrVar, codes "DECR_VAR") ∷
    (op.LoadConstS, codes "LOAD_CONST_S") ∷
    (op.LoadConst, codes "LOAD_CONST") ∷
    (op.LoadConstW, codes "LOAD_CONST_W") ∷
    (op.Const0, codes "CONST_0") ∷
    (op.Const1, codes "CONST_1") ∷
    (op.ConstM1, codes "CONST_M1") ∷
    (op.ConstEs, codes "CONST_ES") ∷
    (op.ConstInvalid, codes "CONST_INVALID") ∷
    (op.ConstTrue, codes "CONST_TRUE") ∷
    (op.ConstFalse, codes "CONST_FALSE") ∷
    (op.Incr, codes "INCR") ∷
    (op.Decr, codes "DECR") ∷
    (op.AddAsg, codes "ADD_ASG") ∷
    (op.SubAsg, codes "SUB_ASG") ∷
    (op.Uminus, codes "UMINUS") ∷
    (op.Add, codes "ADD") ∷
    (op.Sub, codes "SUB") ∷
    (op.Mul, codes "MUL") ∷
    (op.Div, codes "DIV") ∷
    (op.Idiv, codes "IDIV") ∷
    (op.Rem, codes "REM") ∷
    (op.BAnd, codes "B_AND") ∷
    (op.BOr, codes "B_OR") ∷
    (op.BXor, codes "B_XOR") ∷
    (op.BNot, codes "B_NOT") ∷
    (op.BLshift, codes "B_LSHIFT") ∷
    (op.BRsshift, codes "B_RSSHIFT") ∷
    (op.BRszshift, codes "B_RSZSHIFT") ∷
    (op.Eq, codes "EQ") ∷
    (op.Le, codes "LE") ∷
    (op.Lt, codes "LT") ∷
    (op.Ge, codes "GE") ∷
    (op.Gt, codes "GT") ∷
    (op.Ne, codes "NE") ∷
    (op.Not, codes "NOT") ∷
    (op.Scand, codes "SCAND") ∷
    (op.Scor, codes "SCOR") ∷
    (op.Tobool, codes "TOBOOL") ∷
    (op.Pop, codes "POP") ∷
    (op.Typeof, codes "TYPEOF") ∷
    (op.Isvalid, codes "ISVALID") ∷
    (op.Return, codes "RETURN") ∷
    (op.ReturnEs, codes "RETURN_ES") ∷
    (op.Debug, codes "DEBUG") ∷
    []

-- whether it is this instruction
abbrev pub is_op : OpName → OpName → Bool
is_op name other = sameb the_type other name

-- the name of an instruction
unfoldable pub name_of : OpName → List ℕ
name_of name = unwrap_or (lookup (is_op name) names) []
