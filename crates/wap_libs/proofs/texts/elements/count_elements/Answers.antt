use Rattle.std.proofs.Common.{◌≤◌, length, ap, ◌∙◌, arith}
use Rattle.std.proofs.lemmas.Str.{length-le-encodes}
use Rattle.wap_libs.specs.Elements.{elements}
use Rattle.wap_libs.proofs.TextsLemmas.Parting.{past_count}
use Rattle.wap_libs.proofs.texts.elements.count_elements.Goals as goal

pub overflow_add-result : goal.overflow_add-result
overflow_add-result c = omega (arith, c.from_element-last.ensures.place)

pub returns : goal.returns
returns c =
    let s = c.args.text.now in
    let bytes = c.as_str-text.result.now in
    let fits : length s ≤ length bytes =
    omega (arith, length-le-encodes s, ap length c.as_str-text.ensures.bytes) in
    past_count c.args.separator s (length bytes) c.from_element-last.result.0 fits
    (c.from_element-last.ensures.place
    ∙ ap (λ t. Rattle.wap_libs.specs.Elements.within (elements c.args.separator t) (length bytes))
    c.as_str-text.ensures.characters)
