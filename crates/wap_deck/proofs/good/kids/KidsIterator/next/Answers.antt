use Rattle.std.proofs.Common.{length, ap, rules, ◌∙◌, sym}
use Rattle.wap_deck.specs.good.Lent.{item_of}
use Rattle.wap_deck.proofs.GoodLemmas.ChildLaw.{child_on, child_end, children_end}
use Rattle.wap_deck.proofs.GoodLemmas.Ending.{drop_behind}
use Rattle.wap_deck.proofs.GoodLemmas.NoteLaw.{notes_behind}
use Rattle.wap_deck.proofs.good.kids.KidsIterator.next.Goals as goal

pub returns-in_err-child-clause-steps : goal.returns-in_err-child-clause-steps
returns-in_err-child-clause-steps c =
    let none =
    sym c.self.view_is ∙ child_end c.self.inside.table.now c.self.inside.levels
    c.self.inside.bytes.now c.in_err-child.ensures.exact in
    search rules

pub invariant_of-self : goal.invariant_of-self
invariant_of-self c =
    let behind =
    drop_behind c.in_ok-child.rest.now c.self.inside.bytes.now c.in_ok-child.ensures.behind in
    record {
      few = c.self.invariant.few;
      ends =
          children_end c.self.inside.table.now c.self.inside.levels c.self.inside.bytes.now
          (item_of c.in_ok-child.child)
          c.in_ok-child.rest.now c.in_ok-child.ensures.exact c.self.invariant.ends;
      noted =
          notes_behind c.in_ok-child.rest.now c.self.inside.bytes.now behind c.in_ok-child.left.now
          c.in_ok-child.ensures.noted;
    }

pub returns-clause-steps : goal.returns-clause-steps
returns-clause-steps c =
    sym c.self.view_is
    ∙ child_on c.self.inside.table.now c.self.inside.levels c.self.inside.bytes.now
    (item_of c.in_ok-child.child) c.in_ok-child.rest.now c.in_ok-child.ensures.exact

pub returns-clause-goes : goal.returns-clause-goes
returns-clause-goes c = let shorter = ap length (returns-clause-steps c) in search rules
