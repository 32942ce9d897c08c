use Rattle.std.proofs.Common.{[], ap, sym, ◌∙◌}
use Rattle.std.specs.Str.{chars}
use Rattle.std.proofs.lemmas.Result.{IfOk-weaker}
use Rattle.wap_libs.specs.Elements.{elements, element_at}
use Rattle.wap_libs.proofs.TextsLemmas.Parting.{IsParted-split, whole_is_element, element_is}
use Rattle.wap_libs.proofs.texts.elements.element_at.Goals as goal

pub returns-in-Some : goal.returns-in-Some
returns-in-Some c =
    let sep = c.args.separator in
    let place = c.args.place in
    let rest = c.from_element.result.1.now in
    let found = c.in-Some.element.now in
    let behind = c.in-Some.field-0-1.now in
    let step =
    IsParted-split sep rest found behind c.from_element.ensures.utf8 c.in-Some.ensures.cases in
    IfOk-weaker c.of.result _ _ (λ copy is. is
    ∙ sym (element_is sep (chars c.as_str.result.now) c.from_element.result.0 place (chars rest)
    (chars found) (elements sep (chars behind)) c.from_element.ensures.place
    c.from_element.ensures.rest step.parts)
    ∙ ap (element_at sep place) c.as_str.ensures.characters) c.of.ensures

pub returns-in-None : goal.returns-in-None
returns-in-None c =
    let sep = c.args.separator in
    let place = c.args.place in
    let rest = c.from_element.result.1.now in
    IfOk-weaker c.of-in-None.result _ _ (λ copy is. is
    ∙ sym (element_is sep (chars c.as_str.result.now) c.from_element.result.0 place (chars rest)
    (chars rest) [] c.from_element.ensures.place c.from_element.ensures.rest
    (whole_is_element sep rest c.from_element.ensures.utf8 c.in-None.ensures.cases))
    ∙ ap (element_at sep place) c.as_str.ensures.characters) c.of-in-None.ensures
