use Rattle.std.proofs.Common.{◌∙◌, ◌≡◌, ◌-◌, [], ◌∷◌, ◌++◌, length, List, sym, subst, refl}
use Rattle.std.proofs.lemmas.List.{append-nil}
use Rattle.wap_deck.specs.good.Readers.{all_of}
use Rattle.wap_deck.specs.good.inside.Nodes.{item_at}
use Rattle.wap_deck.specs.good.Lent.{item_of}
use Rattle.wap_deck.specs.declared.good.cards.Place.{Place}
use Rattle.wap_deck.specs.good.inside.KeptBytes.{StandAt}
use Rattle.wap_deck.proofs.GoodLemmas.Ending.{behind_on, drop_behind}
use Rattle.wap_deck.proofs.GoodLemmas.ChildLaw.{children_end}
use Rattle.wap_deck.proofs.GoodLemmas.NoteLaw.{notes_behind}
use Rattle.wap_deck.proofs.GoodLemmas.CardLaw.{levels_below, tagged_in, some_card, no_card}
use Rattle.wap_deck.proofs.GoodLemmas.CardLaw.{child_shorter}
use Rattle.wap_deck.proofs.GoodLemmas.CardLaw.{node_placed, other_placed, all_placed, Placed}
use Rattle.wap_deck.proofs.good.cards.places_in.Goals as goal
use Rattle.wap_deck.proofs.good.cards.places_in.Goals.{then-is_some+in_ok-add, else-is_some}

pub loop-child-init : goal.loop-child-init
loop-child-init c = record {
  behind = c.requires.behind;
  lent = record {
    few = c.requires.lent.few;
    ends = c.requires.lent.ends;
    noted = c.notes_left-left.ensures c.args.content.now c.requires.lent.noted;
  };
  placed = λ others stand.
      subst (λ (places : List Place). StandAt c.args.table.now c.args.bytes.now (places ++ others)
      (tagged_in c.args.tag (all_of (item_at c.args.table.now levels_below) c.args.content.now).0))
      (sym c.new-places.ensures) stand;
}

pub loop-child-smaller : goal.loop-child-smaller
loop-child-smaller c =
    child_shorter c.args.table.now c.loop-child.rest.now
    (item_of c.in-Some.child) c.in-Some.behind.now c.in-Some.ensures.exact

pub loop-child-preserved : goal.loop-child-preserved
loop-child-preserved c =
    let all =
    tagged_in c.args.tag (all_of (item_at c.args.table.now levels_below) c.args.content.now).0 in
    let behind = drop_behind c.in-Some.behind.now c.loop-child.rest.now c.in-Some.ensures.behind in
    record {
      behind =
          behind_on c.in-Some.behind.now c.loop-child.rest.now c.args.bytes.now behind
          c.loop-child.invariant.behind;
      lent = record {
        few = c.loop-child.invariant.lent.few;
        ends =
            children_end c.args.table.now levels_below c.loop-child.rest.now
            (item_of c.in-Some.child)
            c.in-Some.behind.now c.in-Some.ensures.exact c.loop-child.invariant.lent.ends;
        noted = c.notes_left-left-in-Some.ensures c.in-Some.behind.now
            (notes_behind c.in-Some.behind.now c.loop-child.rest.now behind c.loop-child.left.now
            c.loop-child.invariant.lent.noted);
      };
      placed = elim c.if-is_some.branch [
        | then-is_some+in_ok-add w ↦
            let some = some_card c.node_with.result (sym c.is_some.ensures ∙ w.if-is_some.true) in
            let place : Place = record {
              begin = length c.args.bytes.now - length c.loop-child.rest.now;
              note = w.saturating_sub-note.result;
            } in
            let is : c.if-is_some.places ≡ c.loop-child.places ++ place ∷ [] =
            w.places-is ∙ w.in_ok-add.ensures.ok in
            subst (λ (places : List Place).
            Placed c.args.tag c.args.table.now c.args.bytes.now places all c.in-Some.behind.now)
            (sym is)
            (node_placed c.args.tag c.args.table.now c.args.bytes.now c.loop-child.places all
            c.loop-child.rest.now c.in-Some.behind.now
            (item_of c.in-Some.child) c.in-Some.ensures.exact
            c.loop-child.invariant.placed some.0 place
            (sym c.node_with.ensures ∙ some.1) c.loop-child.invariant.behind refl)
        | else-is_some w ↦
            let is : c.if-is_some.places ≡ c.loop-child.places = cc in
            subst (λ (places : List Place).
            Placed c.args.tag c.args.table.now c.args.bytes.now places all c.in-Some.behind.now)
            (sym is)
            (other_placed c.args.tag c.args.table.now c.args.bytes.now c.loop-child.places all
            c.loop-child.rest.now c.in-Some.behind.now
            (item_of c.in-Some.child) c.in-Some.ensures.exact c.loop-child.invariant.placed
            (sym c.node_with.ensures
            ∙ no_card c.node_with.result (sym c.is_some.ensures ∙ w.if-is_some.false)))
      ];
    }

pub returns : goal.returns
returns c =
    let all =
    tagged_in c.args.tag (all_of (item_at c.args.table.now levels_below) c.args.content.now).0 in
    subst (λ (places : List Place). StandAt c.args.table.now c.args.bytes.now places all)
    (append-nil c.loop-child.places)
    (all_placed c.args.tag c.args.table.now c.args.bytes.now c.loop-child.places all
    c.loop-child.rest.now c.in_default.ensures.exact c.loop-child.invariant.placed)
