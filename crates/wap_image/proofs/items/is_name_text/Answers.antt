use Rattle.std.proofs.Common.{ap, ◌∙◌}
use Rattle.wap_base.specs.Names.{is_name}
use Rattle.wap_base.proofs.NameLaws.{name-encode}
use Rattle.wap_image.proofs.items.is_name_text.Goals as goal

pub returns : goal.returns
returns c =
    c.is_name.ensures ∙ ap is_name (c.as_bytes.ensures.value ∙ c.as_str.ensures.bytes)
    ∙ name-encode c.args.name.now
