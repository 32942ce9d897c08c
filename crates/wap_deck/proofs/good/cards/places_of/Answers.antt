use Rattle.std.proofs.Common.{List, ℕ, subst, drop, arith}
use Rattle.std.proofs.lemmas.List.{take_rest}
use Rattle.wap_deck.specs.good.Readers.{IsBehind}
use Rattle.wap_deck.specs.good.inside.Nodes.{IsContent}
use Rattle.wap_deck.proofs.GoodLemmas.Ending.{behind_on, behind_drop}
use Rattle.wap_deck.proofs.GoodLemmas.NoteLaw.{notes_behind}
use Rattle.wap_deck.proofs.GoodLemmas.CardLaw.{content_ends, stand_in}
use Rattle.wap_deck.proofs.good.cards.places_of.Goals as goal

pub places_in-requires-clause-behind : goal.places_in-requires-clause-behind
places_in-requires-clause-behind c =
    behind_on c.kids_begin-content.result.now (drop c.args.root c.args.bytes.now) c.args.bytes.now
    (subst (λ (l : List ℕ). IsBehind c.kids_begin-content.result.now l) (take_rest c.args.bytes.now
    c.args.root) c.kids_begin-content.ensures.behind) (behind_drop c.args.root c.args.bytes.now)

pub places_in-requires-clause-lent : goal.places_in-requires-clause-lent
places_in-requires-clause-lent c =
    let content =
    subst (λ (l : List ℕ). IsContent l c.kids_begin-content.result.now)
    (take_rest c.args.bytes.now c.args.root) c.kids_begin-content.ensures.exact in
    record {
      few = omega arith;
      ends =
          content_ends c.args.table.now c.args.root c.args.bytes.now c.requires.held
          c.kids_begin-content.result.now content;
      noted =
          notes_behind c.kids_begin-content.result.now c.args.bytes.now
          (places_in-requires-clause-behind c) c.args.notes.now c.requires.noted;
    }

pub returns : goal.returns
returns c =
    let content =
    subst (λ (l : List ℕ). IsContent l c.kids_begin-content.result.now)
    (take_rest c.args.bytes.now c.args.root) c.kids_begin-content.ensures.exact in
    stand_in c.args.table.now c.args.root c.args.bytes.now c.requires.held
    c.kids_begin-content.result.now content c.args.tag c.places_in.result c.places_in.ensures
