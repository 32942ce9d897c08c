-- The name is another one.
use Rattle.std.proofs.Common.{ap, ◌∙◌}
use Rattle.wap_tokens.specs.declared.markup.name.AttrName.TheVariants as attrs
use Rattle.wap_mend.specs.inside.Building.{Kept, has_name}
use Rattle.wap_mend.proofs.Suiting.{others_free}
use Rattle.wap_mend.proofs.Dressing.{all_renamed}
use Rattle.wap_mend.proofs.apart.renamed.Goals as goal

pub add-requires-clause-free : goal.add-requires-clause-free
add-requires-clause-free c =
    ap (λ name. has_name name c.in_ok-kept.kept.rows) c.requires.named
    ∙ ap (λ (kept : Kept). has_name attrs.Name kept.rows) c.in_ok-kept.ensures
    ∙ others_free attrs.Name c.args.attributes.now.rows

pub returns-clause-keeps : goal.returns-clause-keeps
returns-clause-keeps c =
    all_renamed c.args.notes.now.changes c.note_turned.new.self.changes attrs.Name
    c.args.attributes.now c.in_ok-kept.kept c.add.new.self c.in_ok-lost.lost c.in_ok-came.came
    c.args.attribute c.tag.result c.tag.ensures c.in_ok-lost.ensures c.in_ok-came.ensures
    c.in_ok-kept.ensures c.in_ok-add.ensures c.in_ok-note_turned.ensures.turned
