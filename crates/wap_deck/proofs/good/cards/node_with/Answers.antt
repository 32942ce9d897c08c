use Rattle.std.proofs.Common.{◌≡◌, ◌∙◌, sym, ap, Bool, true, false, Some, None}
use Rattle.std.specs.Prelude.{if◌then◌else◌}
use Rattle.wap_tokens.specs.declared.markup.name.Tag.{Tag}
use Rattle.wap_tokens.specs.markup.Tables.{is_same_tag}
use Rattle.wap_tokens.specs.markup.Trees.{node_with}
use Rattle.wap_deck.specs.declared.good.kids.Child.{Child}
use Rattle.wap_deck.specs.good.Lent.{item_of}
use Rattle.wap_deck.proofs.GoodLemmas.CardLaw.{tagged_node, tagged_text}
use Rattle.wap_deck.proofs.good.cards.node_with.Goals as goal

pub returns-then-eq : goal.returns-then-eq
returns-then-eq c =
    let node = c.in-Node.node in
    let same : is_same_tag node.tag c.args.tag ≡ true =
    ap (λ (tag : Tag). is_same_tag tag c.args.tag) (sym c.tag.ensures) ∙ sym c.eq.ensures
    ∙ c.if-eq.true in
    sym (ap (λ (child : Child). node_with c.args.tag (item_of child)) c.in-Node.is
    ∙ tagged_node c.args.tag node ∙ ap (λ (b : Bool). if b then Some node else None) same)

pub returns-else-eq : goal.returns-else-eq
returns-else-eq c =
    let node = c.in-Node.node in
    let other : is_same_tag node.tag c.args.tag ≡ false =
    ap (λ (tag : Tag). is_same_tag tag c.args.tag) (sym c.tag.ensures) ∙ sym c.eq.ensures
    ∙ c.if-eq.false in
    sym (ap (λ (child : Child). node_with c.args.tag (item_of child)) c.in-Node.is
    ∙ tagged_node c.args.tag node ∙ ap (λ (b : Bool). if b then Some node else None) other)

pub returns-in-Text : goal.returns-in-Text
returns-in-Text c =
    sym (ap (λ (child : Child). node_with c.args.tag (item_of child)) c.in-Text.is
    ∙ tagged_text c.args.tag c.in-Text.field-0)
