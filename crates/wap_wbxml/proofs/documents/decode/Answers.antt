use Rattle.wap_tokens.specs.declared.markup.mark.DocumentType.TheVariants.{Wml}
use Rattle.wap_wbxml.proofs.Answering.{as_it_is, exactly, spelled}
use Rattle.wap_wbxml.proofs.Answering.{found_is, only_is, refused_is, first_is}
use Rattle.wap_wbxml.proofs.documents.decode.Goals as goal

pub returns-clause-found : goal.returns-clause-found
returns-clause-found c =
    spelled Wml c.args.bytes.now c.read.result
    (found_is (λ d. d) Wml c.args.bytes.now c.read.result
    (as_it_is Wml c.args.bytes.now c.read.result c.read.ensures))

pub returns-clause-only : goal.returns-clause-only
returns-clause-only c =
    only_is (λ d. d) Wml c.args.bytes.now c.read.result
    (as_it_is Wml c.args.bytes.now c.read.result c.read.ensures)

pub returns-clause-refused : goal.returns-clause-refused
returns-clause-refused c =
    refused_is (λ d. d) Wml c.args.bytes.now c.read.result
    (as_it_is Wml c.args.bytes.now c.read.result c.read.ensures)

pub returns-clause-first : goal.returns-clause-first
returns-clause-first c =
    first_is (λ d. d) Wml c.args.bytes.now c.read.result
    (as_it_is Wml c.args.bytes.now c.read.result c.read.ensures)

pub returns-clause-exact : goal.returns-clause-exact
returns-clause-exact c =
    exactly Wml c.args.bytes.now c.read.result
    (as_it_is Wml c.args.bytes.now c.read.result c.read.ensures)
