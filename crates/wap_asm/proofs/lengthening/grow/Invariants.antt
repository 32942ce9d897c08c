use Rattle.std.proofs.Common.{◌≡◌, ℕ, ◌<◌, ◌≤◌, Some, slice_get, sum, true, false}
use Rattle.wap_asm.specs.declared.site.Site.{Site}
use Rattle.wap_asm.specs.inside.Passes.{AreSoFar, IsEnough}
use Rattle.wap_asm.proofs.lengthening.grow.Given as goal

abbrev pub invariant-loop-i : goal.invariant-loop-i
invariant-loop-i l = record {
  so_far : AreSoFar l.forms l.sizes;
  less : sum l.initial.sizes ≤ sum l.sizes;
  more : l.changed ≡ true → sum l.initial.sizes < sum l.sizes;
  same : l.changed ≡ false → l.sizes ≡ l.initial.sizes;
  done : l.changed ≡ false → (k : ℕ) → k < l.i → (site : Site) → slice_get l.sites k ≡ Some site
      → IsEnough l.starts l.sizes k site;
}
