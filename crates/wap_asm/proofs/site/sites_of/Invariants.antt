use Rattle.std.proofs.Common.{◌≡◌, take, map}
use Rattle.wap_asm.specs.inside.Indexes.{site_by}
use Rattle.wap_asm.proofs.site.sites_of.Given as goal

abbrev pub invariant-loop-form : goal.invariant-loop-form
invariant-loop-form l = l.sites.items ≡ map (site_by l.labels) (take l.form-index l.forms)
