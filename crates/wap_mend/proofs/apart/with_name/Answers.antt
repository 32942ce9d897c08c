-- The name is the one that was found.
use Rattle.std.proofs.Common.{ap, ◌∙◌}
use Rattle.std.specs.Prelude.{Some}
use Rattle.wap_mend.proofs.Suiting.{is_renamed}
use Rattle.wap_mend.proofs.apart.with_name.Goals as goal

pub returns-clause-name : goal.returns-clause-name
returns-clause-name c =
    is_renamed c.args.attributes.now c.in-Some.attribute c.in_ok-value.value
    c.in_ok-attribute.field-0 c.in-Some.is c.in_ok-attribute.ensures.same
    c.in_ok-renamed.field-0 c.args.name c.in_ok-renamed.ensures.renamed
    (c.in_ok-value.ensures.plain ∙ ap Some c.in_ok-copy.ensures)
