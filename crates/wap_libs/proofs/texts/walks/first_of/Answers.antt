use Rattle.std.proofs.Common.{◌≡◌, ◌++◌, sym, ap, ◌∙◌}
use Rattle.std.specs.Char.{encode_utf8}
use Rattle.wap_libs.proofs.TextsLemmas.Ends.{after_first}
use Rattle.wap_libs.proofs.texts.walks.first_of.Goals as goal

pub returns : goal.returns
returns c =
    let s = c.args.text.now in
    let first = c.in_ok-first.first in
    let rest = c.as_str.result.now in
    let same : s ≡ encode_utf8 first ++ rest =
    sym c.chars-characters.ensures.rest ∙ c.in_ok-first.ensures.steps.0
    ∙ ap (λ t. encode_utf8 first ++ t) (sym c.as_str.ensures) in
    let after = after_first first s rest c.utf8.text same in
    (after.parts, after.utf8, after.smaller, after.end)
