use Rattle.wap_grammar.proofs.Texts.{texts_of}
use Rattle.wap_grammar.proofs.laws.strings_are_texts.Goals as goal

pub returns : goal.returns
returns c = texts_of
