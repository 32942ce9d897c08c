-- The deck that is made is good and made of the one that was given, and there is one if there is a
-- card.
use Rattle.std.proofs.Common.{◌≡◌, suc, ◌-◌, true, false, refl, sym, ap, subst, ◌∙◌}
use Rattle.std.specs.Prelude.{IsTrue}
use Rattle.std.proofs.lemmas.Bool.{false≢true}
use Rattle.std.specs.List.{filter_map, AllByRecursion}
use Rattle.wap_tokens.specs.declared.markup.document.TheConstants.{LEVEL_LIMIT}
use Rattle.wap_tokens.specs.declared.markup.deck.Node.{Node}
use Rattle.wap_tokens.specs.markup.Trees.{node_of}
use Rattle.wap_mend.specs.inside.Building.{Built, Filled, IsApart}
use Rattle.wap_mend.specs.inside.Frames.{nothing, given_items, rows_load, Keeps}
use Rattle.wap_mend.specs.inside.Tops.{Topped, load_top}
use Rattle.wap_mend.proofs.Topping.{root_whole}
use Rattle.wap_tokens.specs.declared.markup.name.Tag.TheVariants as tags
use Rattle.wap_mend.proofs.Putting.{keeps_from}
use Rattle.wap_mend.proofs.Accounted.{deck_made}
use Rattle.wap_mend.proofs.Rooted.{good_root}
use Rattle.wap_mend.proofs.root.made_deck.Goals as goal

pub returns-in-Ok-clause-good : goal.returns-in-Ok-clause-good
returns-in-Ok-clause-good c =
    let top = c.put_items.new.top in
    let content = c.in_ok-content.content in
    let closed = c.in_ok-content.ensures.closed in
    let made = c.in-Ok.ensures.made in
    let same = c.into_node.ensures.node in
    let kids = ap (λ (node : Node). node.kids) same ∙ ap (λ (one : Built). one.node.kids) made in
    good_root top c.in-Ok.element.levels c.into_node.result
    (ap (λ (one : Built). one.levels) made ∙ ap (λ (filled : Filled). suc filled.room) closed)
    c.into_node.ensures.built
    (ap (λ (node : Node). node.tag) same ∙ ap (λ (one : Built). one.node.tag) made
    ∙ c.in_ok-attributes.ensures.tag)
    (kids ∙ ap (λ (filled : Filled). filled.items) closed)
    (subst (λ items. AllByRecursion (IsApart (LEVEL_LIMIT - 1)) (filter_map node_of items))
    (sym kids)
    (subst (λ room. AllByRecursion (IsApart room) (filter_map node_of content.items))
    (ap (λ (filled : Filled). filled.room) closed) c.in-Ok.ensures.inner))
    c.in_ok-content.ensures.kinds c.in_ok-put_items.ensures.gathers.taken
    (λ none. false≢true (subst IsTrue c.if-is_empty.false (c.is_empty.ensures.1 none)))

pub returns-clause-none : goal.returns-clause-none
returns-clause-none c none =
    let content = c.in_ok-content.content in
    let attributes = c.in_ok-attributes.attributes in
    let root : Node =
    record { tag = attributes.tag; attrs = attributes.rows; kids = content.items } in
    let lost : false ≡ true =
    c.in-Err.ensures.whole ∙ root_whole content.rule root
    (ap (λ (filled : Filled). filled.rule) c.in_ok-content.ensures.closed) in
    absurd (cc lost)

pub returns-in-Ok-clause-made_of : goal.returns-in-Ok-clause-made_of
returns-in-Ok-clause-made_of c =
    let begun = c.mended_attributes.new.notes.changes in
    let after = c.put_items.new.notes.changes in
    let top = c.put_items.new.top in
    let given = c.args.deck.now.root in
    let room = LEVEL_LIMIT - 1 in
    let root = c.in_ok-attributes.attributes in
    deck_made room refl begun after top given c.into_node.result refl
    (subst (λ none. Keeps none begun nothing (rows_load tags.Wml c.into_node.result.attrs)
    (rows_load tags.Wml given.attrs)) c.requires.fresh
    (subst (λ rows. Keeps c.args.notes.now.changes begun nothing (rows_load tags.Wml rows)
    (rows_load tags.Wml given.attrs))
    (sym (ap (λ (node : Node). node.attrs) c.into_node.ensures.node
    ∙ ap (λ (one : Built). one.node.attrs) c.in-Ok.ensures.made))
    (keeps_from c.args.notes.now.changes c.note_root.new.notes.changes begun
    (rows_load tags.Wml root.rows) (rows_load tags.Wml given.attrs) c.in_ok-note_root.ensures
    c.in_ok-attributes.ensures.keeps)))
    c.in_ok-content.ensures.kinds
    (ap (λ (node : Node). node.kids) c.into_node.ensures.node
    ∙ ap (λ (one : Built). one.node.kids) c.in-Ok.ensures.made
    ∙ ap (λ (filled : Filled). filled.items) c.in_ok-content.ensures.closed)
    (subst (λ items. Keeps begun after nothing (load_top top) (given_items room items))
    c.as_slice.ensures
    (subst (λ (empty : Topped). Keeps begun after (load_top empty) (load_top top)
    (given_items room c.as_slice.result.now)) c.new-top.ensures c.in_ok-put_items.ensures.keeps))
