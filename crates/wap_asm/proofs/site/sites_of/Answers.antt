use Rattle.std.proofs.Common.{◌∙◌, ap, map, arith}
use Rattle.std.proofs.lemmas.List.{take_all}
use Rattle.wap_asm.specs.inside.Indexes.{site_by}
use Rattle.wap_asm.proofs.IndexLaws.{sites_same}
use Rattle.wap_asm.proofs.site.sites_of.Goals as goal

pub returns : goal.returns
returns c =
    c.loop-form.invariant
    ∙ ap (map (site_by c.in_ok-labels.labels))
    (take_all c.loop-form.form-index c.args.forms.now (omega arith))
    ∙ sites_same c.args.forms.now c.in_ok-labels.labels c.requires c.in_ok-labels.ensures
