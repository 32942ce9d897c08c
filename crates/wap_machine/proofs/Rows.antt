-- What the rows of the table say of the actions of their operations: what they take and give, and
-- where it goes on.
use Rattle.std.proofs.Common.{◌≡◌, ℕ, Bool, true, false, inl, inr, List}
use Rattle.std.proofs.Common.{[], ◌∷◌, Some, map, refl, sym, subst}
use Rattle.std.specs.List.{list_all}
use Rattle.wap_unit.specs.declared.row.Slot.{Slot}
use Rattle.wap_unit.specs.declared.row.Slot.TheVariants.{Word}
use Rattle.wap_unit.specs.declared.row.Operands.{Operands}
use Rattle.wap_unit.specs.declared.row.Operands.TheVariants.{Plain, Variable, Constant}
use Rattle.wap_unit.specs.declared.row.Operands.TheVariants.{Function, Library, Address}
use Rattle.wap_unit.specs.declared.row.Takes.{Takes}
use Rattle.wap_unit.specs.declared.row.Takes.TheVariants.{Values, Arguments}
use Rattle.wap_unit.specs.declared.row.After.{After}
use Rattle.wap_unit.specs.declared.row.After.TheVariants.{On, Forward, Backward, ForwardOrOn}
use Rattle.wap_unit.specs.declared.row.After.TheVariants.{BackwardOrOn, Pair, Leave}
use Rattle.wap_unit.specs.declared.row.Row.{Row}
use Rattle.wap_unit.specs.Rows.{rows}
use Rattle.wap_unit.specs.Instructions.{has_code, row_of}
use Rattle.wap_asm.specs.Exact.{Among}
use Rattle.wap_asm.proofs.Finding.{found, all_among}
use Rattle.wap_execution.specs.declared.action.Action.{Action}
use Rattle.wap_execution.specs.declared.action.Action.TheVariants.{Jump, JumpBack, JumpUnless}
use Rattle.wap_execution.specs.declared.action.Action.TheVariants.{JumpBackUnless, ShortCircuit}
use Rattle.wap_execution.specs.declared.action.Action.TheVariants.{CallLocal, CallLibrary}
use Rattle.wap_execution.specs.declared.action.Action.TheVariants.{CallExternal, LoadVariable}
use Rattle.wap_execution.specs.declared.action.Action.TheVariants.{StoreVariable, ChangeVariable}
use Rattle.wap_execution.specs.declared.action.Action.TheVariants.{AssignVariable, LoadConstant}
use Rattle.wap_execution.specs.declared.action.Action.TheVariants.{Unary}
use Rattle.wap_execution.specs.declared.action.Action.TheVariants.{Binary, Pop, Return, ReturnEmpty}
use Rattle.wap_execution.specs.declared.action.Action.TheVariants.{Pass}
use Rattle.wap_execution.specs.Actions.{action_of}
use Rattle.wap_value.specs.declared.operator.BinOp.{BinOp}
use Rattle.wap_value.specs.declared.operator.BinOp.TheVariants.{And, Or, Comma}

pub record Traits : Type 0 where
  pub operands : Operands
  pub takes : Takes
  pub gives : ℕ
  pub after : After

abbrev pub traits : Operands → Takes → ℕ → After → Traits
traits operands takes gives after =
    record { operands = operands; takes = takes; gives = gives; after = after }

abbrev pub traits_of : Action → Traits
traits_of Jump = traits Plain (Values 0) 0 Forward
traits_of JumpBack = traits Plain (Values 0) 0 Backward
traits_of JumpUnless = traits Plain (Values 1) 0 ForwardOrOn
traits_of JumpBackUnless = traits Plain (Values 1) 0 BackwardOrOn
traits_of (ShortCircuit decides) = traits Plain (Values 1) 0 Pair
traits_of CallLocal = traits Function Arguments 1 On
traits_of CallLibrary = traits Library Arguments 1 On
traits_of CallExternal = traits Address Arguments 1 On
traits_of LoadVariable = traits Variable (Values 0) 1 On
traits_of StoreVariable = traits Variable (Values 1) 0 On
traits_of (ChangeVariable op) = traits Variable (Values 0) 0 On
traits_of (AssignVariable op) = traits Variable (Values 1) 0 On
traits_of LoadConstant = traits Constant (Values 0) 1 On
traits_of (Unary op) = traits Plain (Values 1) 1 On
traits_of (Binary op) = traits Plain (Values 2) 1 On
traits_of Pop = traits Plain (Values 1) 0 On
traits_of Return = traits Plain (Values 1) 0 Leave
traits_of ReturnEmpty = traits Plain (Values 0) 0 Leave
traits_of Pass = traits Plain (Values 0) 0 On
traits_of _ = traits Plain (Values 0) 1 On

abbrev pub traits_in : Row → Traits
traits_in row = traits row.operands row.takes row.gives row.after

abbrev pub HasTraits : Row → Type 0
HasTraits row = traits_in row ≡ traits_of (action_of row.operation)

rows_have_traits : map traits_in rows ≡ map (λ row. traits_of (action_of row.operation)) rows
rows_have_traits = refl

-- two functions that map a list to the same list give the same of each row in it
same_among : (f g : Row → Traits) (all : List Row) (row : Row) → map f all ≡ map g all
    → Among row all → f row ≡ g row
same_among f g [] row same among = absurd among
same_among f g (other ∷ all) row same (inl is) =
    let first : f other ≡ g other = cc in
    subst (λ row. f row ≡ g row) (sym is) first
same_among f g (other ∷ all) row same (inr later) =
    let rest : map f all ≡ map g all = cc in
    same_among f g all row rest later

pub has_traits : (code : ℕ) (row : Row) → row_of code ≡ Some row → HasTraits row
unfolding row_of
has_traits code row is =
    same_among traits_in (λ row. traits_of (action_of row.operation)) rows row rows_have_traits
    (found (has_code code) rows row is).1

-- ---- which operands are short

abbrev pub is_short : Slot → Bool
is_short Word = false
is_short _ = true

-- the operators of this action take both values, and its short operands are short
abbrev pub operator_takes_both : BinOp → Bool
operator_takes_both And = false
operator_takes_both Or = false
operator_takes_both Comma = false
operator_takes_both _ = true

abbrev pub is_fine : Action → Row → Bool
is_fine CallLocal row = is_short row.a
is_fine CallLibrary row = is_short row.a
is_fine CallExternal row = is_short row.c
is_fine (AssignVariable op) row = operator_takes_both op
is_fine (Binary op) row = operator_takes_both op
is_fine _ row = true

rows_are_fine : list_all (λ row. is_fine (action_of row.operation) row) rows ≡ true
rows_are_fine = refl

pub fine_row : (code : ℕ) (row : Row) → row_of code ≡ Some row
    → is_fine (action_of row.operation) row ≡ true
unfolding row_of
fine_row code row is =
    all_among (λ row. is_fine (action_of row.operation) row) rows row rows_are_fine
    (found (has_code code) rows row is).1
