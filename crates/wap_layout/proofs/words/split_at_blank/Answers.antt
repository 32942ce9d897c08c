use Rattle.std.proofs.Common.{rules}
use Rattle.std.proofs.lemmas.List.Sorted.{answers_always}
use Rattle.wap_layout.proofs.Slices.{blank_cut}
use Rattle.wap_layout.proofs.words.split_at_blank.Goals as goal

pub returns : goal.returns
returns c =
    blank_cut _ c.args.text.now c.split_once.result c.utf8.text c.split_once.ensures.cases
    (answers_always _ _ _ (λ f a r g h. search rules))
