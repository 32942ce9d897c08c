use Rattle.std.proofs.Common.{◌≡◌, ℕ, List, sym, subst, true}
use Rattle.wap_tokens.specs.declared.markup.name.AttrName.{AttrName}
use Rattle.wap_deck.specs.good.inside.Notes.{lacks, LacksName}
use Rattle.wap_deck.proofs.GoodLemmas.Ending.{behind_on, behind_first, content_there, first_is}
use Rattle.wap_deck.proofs.good.heads.known_of.Goals as goal

pub head_of-requires-clause-content : goal.head_of-requires-clause-content
head_of-requires-clause-content c = λ has.
    content_there c.args.bytes.now c.args.mark c.args.rest.now c.names_of-names.result.1.now
    c.requires has c.names_of-names.ensures.exact

pub head_of-requires-clause-behind : goal.head_of-requires-clause-behind
head_of-requires-clause-behind c =
    behind_on c.names_of-names.result.1.now c.args.rest.now c.args.bytes.now
    c.names_of-names.ensures.behind
    (behind_first c.args.bytes.now c.args.mark c.args.rest.now c.requires)

pub returns-clause-head : goal.returns-clause-head
returns-clause-head c = rw (c.known_with.ensures.names, c.known_with.ensures.head) (record {
  names =
      subst (λ (l : List ℕ). (name : AttrName) → lacks c.names_of-names.result.0 name ≡ true
      → LacksName l name)
      (sym (first_is c.args.bytes.now c.args.mark c.args.rest.now c.requires))
      c.names_of-names.ensures.names;
  content = c.head_of.ensures.content;
  within = c.head_of.ensures.within;
})
