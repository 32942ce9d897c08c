use Rattle.std.proofs.Common.{ap, ◌∙◌}
use Rattle.std.specs.List.{list_any}
use Rattle.std.proofs.lemmas.Map.Made.{is_some-lookup}
use Rattle.wap_base.specs.Texts.{is_same_text}
use Rattle.wap_mend.proofs.names.Names.has.Goals as goal

pub returns : goal.returns
returns c =
    c.contains_key.ensures
    ∙ is_some-lookup (is_same_text c.args.text.now) c.self.inside.next.entries
    ∙ ap (list_any (is_same_text c.args.text.now)) c.self.view_is
