use Rattle.std.proofs.Common.{◌≡◌, ◌-◌, length, take, ap, ◌∙◌, arith}
use Rattle.std.proofs.lemmas.Grind.{common_steps}
use Rattle.std.specs.Str.{chars}
use Rattle.wap_libs.proofs.TextsLemmas.Ends.{cut_whole, taken}
use Rattle.wap_libs.proofs.texts.walks.part.Goals as goal

pub returns : goal.returns
returns c =
    let s = c.skip-behind.result.now in
    let rest = c.skip-rest.result.now in
    let before : c.range.result.now ≡ take (length s - length rest) s =
    grind (arith, common_steps, c.range.ensures.value) in
    taken (chars c.range.result.now) (chars s) (chars rest) c.args.count
    (cut_whole s c.range.result.now rest c.skip-behind.utf8 c.skip-rest.ensures.end
    c.skip-rest.ensures.cut before)
    c.skip-rest.ensures.value
    ∙ ap (take c.args.count) c.skip-behind.ensures.value
