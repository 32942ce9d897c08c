use Rattle.std.proofs.Common.{◌≡◌, ◌-◌, length, take, arith}
use Rattle.std.proofs.lemmas.Grind.{common_steps}
use Rattle.wap_libs.proofs.TextsLemmas.Ends.{cut_whole}
use Rattle.wap_libs.proofs.texts.elements.find_element.Goals as goal

pub returns-clause-whole : goal.returns-clause-whole
returns-clause-whole c =
    let s = c.args.text.now in
    let rest = c.from_element-at.result.1.now in
    let before : c.range.result.now ≡ take (length s - length rest) s =
    grind (arith, common_steps, c.range.ensures.value) in
    cut_whole s c.range.result.now rest c.utf8.text c.from_element-at.ensures.end
    c.from_element-at.ensures.cut before
