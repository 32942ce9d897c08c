use Rattle.std.proofs.Common.{List, ◌∙◌, sym, ap, ◌++◌, ◌∷◌, [], append_assoc}
use Rattle.wap_base.specs.declared.name.Part.{Part}
use Rattle.wap_tokens.specs.declared.markup.deck.Item.{Item}
use Rattle.wap_tokens.specs.declared.markup.deck.Item.TheVariants as item
use Rattle.wap_deck.specs.documents.Adding.{part_added, part_after}
use Rattle.wap_deck.proofs.DocumentsLemmas.Joining.{part_after_text, part_after_node}
use Rattle.wap_deck.proofs.documents.build.text_from.Goals as goal

pub returns-in-Text : goal.returns-in-Text
returns-in-Text c = λ more.
    ap (λ (last : Item). c.args.items.now ++ part_after (last ∷ []) more) c.in-Text.is
    ∙ ap (λ (items : List Item). c.args.items.now ++ items) (part_after_text c.in-Text.parts more)

pub returns-in_ok-rows_for-in-Node : goal.returns-in_ok-rows_for-in-Node
returns-in_ok-rows_for-in-Node c = λ more.
    let text : List Part → List Item = λ parts. item.Text (part_added parts more) ∷ [] in
    ap (λ (last : Item). c.args.items.now ++ part_after (last ∷ []) more) c.in-Node.is
    ∙ ap (λ (items : List Item). c.args.items.now ++ items) (part_after_node c.in-Node.node more) ∙
    sym
    (append_assoc c.args.items.now (item.Node c.in-Node.node ∷ []) (item.Text (more ∷ []) ∷ [])) ∙
    ap (λ (items : List Item). items ++ item.Text (more ∷ []) ∷ [])
    (sym c.in_ok-add-in-Node.ensures.ok)
    ∙ ap (λ (parts : List Part). c.add.new.self ++ text parts)
    (sym c.in_ok-rows_for-in-Node.ensures)
