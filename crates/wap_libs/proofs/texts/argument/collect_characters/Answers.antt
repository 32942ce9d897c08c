use Rattle.std.proofs.Common.{sym, ◌∙◌}
use Rattle.std.proofs.lemmas.List.{map-id}
use Rattle.std.proofs.lemmas.Iterator.{items_from_drains, YieldsList-from_chars}
use Rattle.wap_libs.proofs.texts.argument.collect_characters.Goals as goal

pub returns : goal.returns
returns c =
    let ran = c.in_ok-collect.ensures.ran in
    let yields = YieldsList-from_chars c.args.text.now c.utf8.text c.chars.ensures.rest in
    ran.2.0 ∙ sym (map-id ran.0) ∙ items_from_drains ran.0 ran.1 yields
