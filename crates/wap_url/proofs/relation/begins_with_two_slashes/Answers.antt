use Rattle.std.proofs.Common.{ap, ◌∙◌}
use Rattle.wap_url.specs.Calculation.{begins_with_slashes}
use Rattle.wap_url.proofs.RelationLaws.{authority-encodes}
use Rattle.wap_url.proofs.relation.begins_with_two_slashes.Goals as goal

pub returns : goal.returns
returns c =
    c.begins_with_slashes.ensures
    ∙ ap begins_with_slashes (c.as_bytes.ensures.value ∙ c.as_str.ensures.bytes)
    ∙ authority-encodes c.args.path.now
