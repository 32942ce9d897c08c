use Rattle.std.proofs.Common.{ap, ◌∙◌}
use Rattle.wap_url.specs.Characters.{is_slash}
use Rattle.wap_base.specs.Cuts.{begins_with}
use Rattle.wap_url.proofs.JoinLaws.{begins-encodes}
use Rattle.wap_url.proofs.joining.begins_at_root.Goals as goal

pub returns : goal.returns
returns c =
    c.begins_with_byte.ensures
    ∙ ap (begins_with is_slash) (c.as_bytes.ensures.value ∙ c.as_str.ensures.bytes)
    ∙ begins-encodes c.args.path.now
