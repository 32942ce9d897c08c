use Rattle.wap_tokens.specs.declared.markup.mark.DocumentType.TheVariants.{Wml}
use Rattle.wap_tokens.specs.markup.Decks.{deck_of}
use Rattle.wap_wbxml.proofs.Answering.{found_is, only_is, refused_is, first_is}
use Rattle.wap_deck.proofs.ReadingLemmas.Answering.{read_so, normal_is}
use Rattle.wap_deck.proofs.reading.decks.read_deck.Goals as goal

pub returns-clause-found : goal.returns-clause-found
returns-clause-found c =
    found_is deck_of Wml c.args.bytes.now c.read.result
    (read_so c.args.bytes.now c.read.result c.read.ensures)

pub returns-clause-only : goal.returns-clause-only
returns-clause-only c =
    only_is deck_of Wml c.args.bytes.now c.read.result
    (read_so c.args.bytes.now c.read.result c.read.ensures)

pub returns-clause-refused : goal.returns-clause-refused
returns-clause-refused c =
    refused_is deck_of Wml c.args.bytes.now c.read.result
    (read_so c.args.bytes.now c.read.result c.read.ensures)

pub returns-clause-first : goal.returns-clause-first
returns-clause-first c =
    first_is deck_of Wml c.args.bytes.now c.read.result
    (read_so c.args.bytes.now c.read.result c.read.ensures)

pub returns-clause-normal : goal.returns-clause-normal
returns-clause-normal c =
    normal_is c.args.bytes.now c.read.result (read_so c.args.bytes.now c.read.result c.read.ensures)

pub returns-clause-exact : goal.returns-clause-exact
returns-clause-exact c = read_so c.args.bytes.now c.read.result c.read.ensures
