use Rattle.std.proofs.Common.{rules, arith}
use Rattle.wap_deck.proofs.GoodLemmas.NoteLaw.{notes_behind}
use Rattle.wap_deck.proofs.GoodLemmas.Seen.{kids_seen, kids_end, few_kids}
use Rattle.wap_deck.proofs.good.view.View.kids.Goals as goal

pub of-requires : goal.of-requires
of-requires c = rw c.saturating_sub.ensures (record {
  few = let few = c.self.invariant.lent.few in omega arith;
  ends =
      kids_end c.self.inside.table.now c.self.inside.levels c.self.inside.bytes.now
      c.self.invariant.lent.read c.content_of-bytes.result.now c.content_of-bytes.ensures.exact;
  noted =
      notes_behind c.content_of-bytes.result.now c.self.inside.bytes.now
      c.content_of-bytes.ensures.behind c.self.inside.notes.now c.self.invariant.lent.noted;
})

pub returns-clause-kids : goal.returns-clause-kids
returns-clause-kids c =
    rw (c.of.ensures, c.saturating_sub.ensures)
    (kids_seen c.self.inside.table.now c.self.inside.levels c.self.inside.bytes.now
    c.self.invariant.lent.read c.args.self.now c.self.view_is c.content_of-bytes.result.now
    c.content_of-bytes.ensures.exact)

pub returns-clause-few : goal.returns-clause-few
returns-clause-few c =
    let few =
    few_kids c.self.inside.table.now c.self.inside.levels c.self.inside.bytes.now
    c.self.invariant.lent.read c.args.self.now c.self.view_is c.content_of-bytes.result.now
    c.content_of-bytes.ensures.exact in
    search rules

pub content_of-bytes-requires-clause-known : goal.content_of-bytes-requires-clause-known
content_of-bytes-requires-clause-known c = c.self.invariant.head.content

pub content_of-bytes-requires-clause-within : goal.content_of-bytes-requires-clause-within
content_of-bytes-requires-clause-within c = c.self.invariant.head.within
