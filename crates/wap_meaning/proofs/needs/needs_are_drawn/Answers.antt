use Rattle.wap_grammar.specs.Lexemes.{lexemes_of}
use Rattle.wap_meaning.proofs.NeedsLemmas.Programs.{drawn}
use Rattle.wap_meaning.proofs.needs.needs_are_drawn.Goals as goal

pub returns : goal.returns
returns c = λ src tokens p spelled. drawn src (lexemes_of src tokens) p spelled
