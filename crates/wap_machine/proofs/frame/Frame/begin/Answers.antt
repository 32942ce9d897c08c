use Rattle.std.proofs.Common.{◌≡◌, ◌∙◌, ap, subst, arith, slice_get, Some}
use Rattle.wap_unit.specs.declared.unit.Unit.{Unit as CodeUnit}
use Rattle.wap_unit.specs.declared.unit.Code.{Code}
use Rattle.wap_verify.specs.Sound.{IsRoom}
use Rattle.wap_machine.specs.declared.script.Script.{Script}
use Rattle.wap_machine.proofs.frame.Frame.begin.Goals as goal

pub invariant_of-result : goal.invariant_of-result
invariant_of-result c =
    let unit : c.deref-4.result.now ≡ c.args.script.unit =
    c.deref-4.ensures ∙ ap (λ (s : Script). s.unit) c.deref-3.ensures in
    let room =
    subst (λ (u : CodeUnit). (code : Code)
    → slice_get u.functions c.args.index ≡ Some code
    → IsRoom u c.args.index code c.room.result) unit c.room.ensures in
    record {
      covers = λ code at values found reached.
          let fits = (room code found).covers at values reached in
          let exact = c.in_ok-operands.ensures.exact in
          omega arith;
    }
