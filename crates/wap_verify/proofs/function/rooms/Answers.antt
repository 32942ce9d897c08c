use Rattle.std.proofs.Common.{◌≡◌, ◌≢◌, ◌<◌, ℕ, ◌+◌, List, length, Some, Err}
use Rattle.std.proofs.Common.{refl, ap, subst, ◌∙◌, sym, arith}
use Rattle.std.specs.Prelude.{slice_get}
use Rattle.std.proofs.lemmas.Option.{slice_get_read}
use Rattle.std.proofs.lemmas.Result.{err_from_is_err_and}
use Rattle.wap_unit.specs.declared.unit.Code.{Code}
use Rattle.wap_verify.specs.declared.fault.VerifyFault.{VerifyFault}
use Rattle.wap_verify.specs.declared.fault.VerifyFault.TheVariants.{NoMemory}
use Rattle.wap_verify.specs.Faults.{IsFault, function}
use Rattle.wap_verify.specs.Kept.{AreRooms}
use Rattle.wap_verify.proofs.Walks.{exit}
use Rattle.wap_verify.proofs.Verifying.{rooms_push}
use Rattle.wap_verify.proofs.function.rooms.Goals as goal

pub returns-in_err-room-clause-fault : goal.returns-in_err-room-clause-fault
returns-in_err-room-clause-fault c =
    let items : List Code = c.as_slice-function-items.result.now in
    let index : ℕ = c.loop-index.index in
    let within : index < length items = omega arith in
    let there : slice_get c.args.unit.now.functions index ≡ Some c.function-item.result =
    subst (λ (l : List Code). slice_get l index ≡ Some c.function-item.result)
    c.as_slice-function-items.ensures (slice_get_read items
    (length items) index c.function-item.result refl within c.function-item.is) in
    let left = err_from_is_err_and c.from_residual.result c.from_residual.ensures.1 in
    exit (λ (fault : VerifyFault). fault ≢ NoMemory → IsFault c.args.unit.now fault)
    c.from_residual.result c.in_err-room.field-0.0 (left.1 ∙ ap Err left.2)
    (λ other.
    function index c.function-item.result c.requires.pragmas there c.loop-index.invariant.sound
    (c.in_err-room.ensures.fault other))

pub loop-index-preserved : goal.loop-index-preserved
loop-index-preserved c =
    let items : List Code = c.as_slice-function-items.result.now in
    let index : ℕ = c.loop-index.index in
    let within : index < length items = omega arith in
    let there : slice_get c.args.unit.now.functions index ≡ Some c.function-item.result =
    subst (λ (l : List Code). slice_get l index ≡ Some c.function-item.result)
    c.as_slice-function-items.ensures (slice_get_read items
    (length items) index c.function-item.result refl within c.function-item.is) in
    subst (AreRooms c.args.unit.now (index + 1)) (sym c.in_ok-add.ensures.ok)
    (rooms_push c.args.unit.now index c.loop-index.rooms c.function-item.result c.in_ok-room.room
    c.loop-index.invariant there c.in_ok-room.ensures.sound c.in_ok-room.ensures.room)
