use Rattle.wap_layout.proofs.Begun.{whole_cut}
use Rattle.wap_layout.proofs.words.word_by_characters.Goals as goal

pub returns-in-None-clause-cut : goal.returns-in-None-clause-cut
returns-in-None-clause-cut c = whole_cut c.args.text.now c.in-None.ensures c.requires
