use Rattle.std.proofs.Common.{◌≡◌, ◌*◌, ◌≤◌, take}
use Rattle.std.specs.List.{sum_by}
use Rattle.wap_asm.specs.Placing.{wide_size}
use Rattle.wap_asm.proofs.sizes.wide_bytes.Given as goal

abbrev pub invariant-loop-form : goal.invariant-loop-form
invariant-loop-form l = record {
  sum : l.bytes ≡ sum_by wide_size (take l.form-index l.forms);
  few : l.bytes ≤ 7 * l.form-index;
}
