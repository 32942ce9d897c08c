use Rattle.std.proofs.Common.{◌∙◌, sym, ap, subst, drop, List, ℕ, Some, Option, arith}
use Rattle.wap_base.specs.declared.name.Part.{Part}
use Rattle.wap_tokens.specs.declared.markup.deck.Node.{Node}
use Rattle.wap_tokens.specs.declared.markup.deck.Item.{Item}
use Rattle.wap_tokens.specs.declared.markup.deck.Item.TheVariants as item
use Rattle.wap_deck.specs.good.Readers.{Leaves, IsBehind}
use Rattle.wap_deck.specs.good.inside.Nodes.{node_at}
use Rattle.wap_deck.specs.good.Runs.{part_of}
use Rattle.wap_deck.proofs.GoodLemmas.ChildLaw.{are_parts, part_behind, none_read}
use Rattle.wap_deck.proofs.GoodLemmas.ChildLaw.{text_read, node_there, node_read}
use Rattle.wap_deck.proofs.GoodLemmas.NoteLaw.{last_behind}
use Rattle.wap_deck.proofs.good.children.next_child.Goals as goal

pub returns-then-is_end-clause-exact : goal.returns-then-is_end-clause-exact
returns-then-is_end-clause-exact c =
    none_read c.args.table.now c.args.levels c.args.bytes.now
    (sym c.is_end.ensures ∙ c.if-is_end.true)

pub next_bit-requires : goal.next_bit-requires
next_bit-requires c = are_parts c.args.table.now c.args.levels c.args.bytes.now c.requires.ends

pub begun_by-run-requires-clause-parts : goal.begun_by-run-requires-clause-parts
begun_by-run-requires-clause-parts c =
    are_parts c.args.table.now c.args.levels c.args.bytes.now c.requires.ends

pub from_note-node-requires-clause-lent : goal.from_note-node-requires-clause-lent
from_note-node-requires-clause-lent c = record {
  few = c.requires.few;
  read =
      node_there c.args.table.now c.args.levels c.args.bytes.now c.requires.ends
      c.in-Some.ensures.own.none c.in-Some.ensures.own.more;
  noted = c.in-Some.ensures.inside;
}

pub without_note-node-requires : goal.without_note-node-requires
without_note-node-requires c = record {
  few = c.requires.few;
  read =
      node_there c.args.table.now c.args.levels c.args.bytes.now c.requires.ends
      c.in-None.ensures.exact (sym c.is_end.ensures ∙ c.if-is_end.false);
  noted = c.requires.noted;
}

pub returns-in-Some-clause-exact : goal.returns-in-Some-clause-exact
returns-in-Some-clause-exact c =
    let table = c.args.table.now in
    let levels = c.args.levels in
    let bytes = c.args.bytes.now in
    let own = c.in-Some.ensures.own in
    let rest = c.after_noted.result.0.now in
    let leaves : Leaves (node_at table levels) bytes rest =
    subst (Leaves (node_at table levels) bytes) (sym c.after_noted.ensures.rest)
    (own.follows table levels c.requires.few) in
    node_read table levels bytes c.requires.ends own.none own.more rest leaves
    ∙ ap (λ (node : Node). let read : Option (Item × List ℕ) = Some (item.Node node, rest) in read)
    (sym c.from_note-node.ensures)

pub returns-in-Some-clause-behind : goal.returns-in-Some-clause-behind
returns-in-Some-clause-behind c =
    subst (λ (l : List ℕ). IsBehind l (drop 1 c.args.bytes.now))
    (sym c.after_noted.ensures.rest)
    (last_behind c.args.bytes.now c.in-Some.note.now.end c.in-Some.ensures.shorter)

pub returns-in-Some-clause-noted : goal.returns-in-Some-clause-noted
returns-in-Some-clause-noted c =
    c.after_noted.ensures.notes c.args.bytes.now c.in-Some.ensures.inside

pub returns-in-Some-next_bit-clause-exact : goal.returns-in-Some-next_bit-clause-exact
returns-in-Some-next_bit-clause-exact c =
    text_read c.args.table.now c.args.levels c.args.bytes.now c.requires.ends
    (part_of c.in-Some-next_bit.bit)
    c.in-Some-next_bit.rest.now c.after_bits.result.now c.in-Some-next_bit.ensures.exact
    c.after_bits.ensures.exact
    ∙ ap (λ (parts : List Part).
    let read : Option (Item × List ℕ) = Some (item.Text parts, c.after_bits.result.now) in read)
    (sym c.begun_by-run.ensures)

pub returns-in-Some-next_bit-clause-behind : goal.returns-in-Some-next_bit-clause-behind
returns-in-Some-next_bit-clause-behind c =
    part_behind c.args.bytes.now (part_of c.in-Some-next_bit.bit)
    c.in-Some-next_bit.rest.now c.after_bits.result.now c.in-Some-next_bit.ensures.exact
    c.after_bits.ensures.behind

pub returns-in-None-clause-exact : goal.returns-in-None-clause-exact
returns-in-None-clause-exact c =
    node_read c.args.table.now c.args.levels c.args.bytes.now c.requires.ends
    c.in-None.ensures.exact (sym c.is_end.ensures ∙ c.if-is_end.false) c.after_node.result.now
    (c.after_node.ensures.exact c.args.table.now c.args.levels (omega arith))
    ∙ ap (λ (node : Node).
    let read : Option (Item × List ℕ) = Some (item.Node node, c.after_node.result.now) in read)
    (sym c.without_note-node.ensures)
