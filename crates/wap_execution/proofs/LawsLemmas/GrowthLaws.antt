-- The longest code that is noted only grows.
use Rattle.std.proofs.Common.{◌≤◌, List, [], ◌∷◌, arith}
use Rattle.wap_base.specs.declared.limits.Limits.{Limits}
use Rattle.wap_value.specs.declared.value.Value.{Value}
use Rattle.wap_execution.specs.Outcomes.{Outcome, waits, Ended, Hosting, Setting}
use Rattle.wap_execution.specs.laws.Settings.{Counted, counting}
use Rattle.wap_execution.specs.laws.Dialogs.{answered_by, continued, with_count}
use Rattle.wap_execution.proofs.LawsLemmas.RunLaws.{Keeps, resumed_follows}

abbrev pub Grows : {S : Type 0} → Counted S → Counted S → Type 0
Grows one two = one.longest ≤ two.longest

pub grows_keeps : {S : Type 0} (limits : Limits) (host : Hosting S)
    → Keeps (counting limits host) Grows
grows_keeps limits host = record {
  same = λ counted. omega arith;
  chained = λ one two three some more. omega arith;
  ticks = λ function counted. omega arith;
  external = λ counted caller url name count working. omega arith;
  library = λ counted base referer number index arguments. omega arith;
}

module _ {S : Type 0} (limits : Limits) (host : Hosting S) where
  abbrev set : Setting (Counted S)
  set = counting limits host

  answered_grows : (v : Value) (state : S) (end : Ended (Counted S)) (outcome : Outcome)
      → Grows end.state (answered_by set with_count v state end outcome).state
  answered_grows v state end (waits dialog frames) =
      (resumed_follows set Grows (grows_keeps limits host) frames v end.turns
      (with_count state end.state)).kin
  answered_grows v state end _ = omega arith

  pub continued_grows : (answers : List (Value × S)) (end : Ended (Counted S))
      → Grows end.state (continued set with_count answers end).state
  continued_grows [] end = omega arith
  continued_grows (one ∷ more) end =
      let next = answered_by set with_count one.0 one.1 end end.outcome in
      let some = answered_grows one.0 one.1 end end.outcome in
      let others = continued_grows more next in omega arith
