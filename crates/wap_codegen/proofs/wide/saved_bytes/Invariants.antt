use Rattle.std.proofs.Common.{◌≡◌, ◌*◌, ◌≤◌, take}
use Rattle.std.specs.List.{sum_by}
use Rattle.wap_meaning.specs.compiled.Savings.{form_saves}
use Rattle.wap_codegen.proofs.wide.saved_bytes.Given as goal

-- what so many forms save
abbrev pub invariant-loop-form : goal.invariant-loop-form
invariant-loop-form l = record {
  sum : l.bytes ≡ sum_by form_saves (take l.form-index l.forms);
  few : l.bytes ≤ l.form-index * 6;
}
