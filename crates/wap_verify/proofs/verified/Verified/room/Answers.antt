use Rattle.std.proofs.Common.{◌≡◌, ◌<◌, Some, length, sym, subst}
use Rattle.std.specs.Prelude.{slice_get}
use Rattle.std.proofs.lemmas.Option.{get_or_from_slice_get}
use Rattle.wap_unit.specs.declared.unit.Unit.{Unit}
use Rattle.wap_verify.specs.Sound.{IsRoom}
use Rattle.wap_verify.proofs.verified.Verified.room.Goals as goal

pub returns : goal.returns
returns c = λ code is.
    let unit : Unit = c.self.inside.unit in
    let within : c.args.function < length unit.functions =
    subst (λ (u : Unit). c.args.function < length u.functions) (sym c.self.view_is) c.requires in
    let there : slice_get unit.functions c.args.function ≡ Some code =
    subst (λ (u : Unit). slice_get u.functions c.args.function ≡ Some code)
    (sym c.self.view_is) is in
    subst (λ (u : Unit). IsRoom u c.args.function code c.in-Some.room.now) c.self.view_is
    (subst (IsRoom unit c.args.function code) (get_or_from_slice_get c.self.inside.rooms
    c.args.function c.in-Some.room.now 0 (sym c.in-Some.ensures.value))
    (c.self.invariant.rooms_are.each c.args.function code within there))
