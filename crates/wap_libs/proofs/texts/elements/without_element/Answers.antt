use Rattle.std.proofs.Common.{◌++◌, ap, sym, ◌∙◌}
use Rattle.std.specs.Str.{chars}
use Rattle.std.proofs.lemmas.Result.{IfOk-weaker}
use Rattle.wap_libs.specs.Elements.{without_element}
use Rattle.wap_libs.proofs.TextsLemmas.Parting.{IsParted-split, whole_is_element, stripped}
use Rattle.wap_libs.proofs.TextsLemmas.Parting.{not_stripped, without_behind, without_last}
use Rattle.wap_libs.proofs.TextsLemmas.Parting.{without_only}
use Rattle.wap_libs.proofs.texts.elements.without_element.Goals as goal

pub returns-in_ok-add-in-Some : goal.returns-in_ok-add-in-Some
returns-in_ok-add-in-Some c =
    let sep = c.args.separator in
    let place = c.args.place in
    let whole = c.find_element in
    let before = chars whole.result.1.now in
    let rest = whole.result.2.now in
    let first = c.in-Some.field-0-0.now in
    let behind = c.in-Some.behind.now in
    let step =
    IsParted-split sep rest first behind whole.ensures.utf8.1 c.in-Some.ensures.cases in
    c.in_ok-add-in-Some.ensures.ok ∙ ap (λ t. t ++ chars behind) c.in_ok-made-in-Some.ensures
    ∙ sym (without_behind sep (chars c.as_str.result.now) whole.result.0 place before (chars rest)
    whole.ensures.whole whole.ensures.rest whole.ensures.place (chars first) (chars behind)
    step.parts)
    ∙ ap (without_element sep place) c.as_str.ensures.characters

pub returns-in-Some-strip_suffix : goal.returns-in-Some-strip_suffix
returns-in-Some-strip_suffix c =
    let sep = c.args.separator in
    let place = c.args.place in
    let whole = c.find_element in
    let before = whole.result.1.now in
    let rest = whole.result.2.now in
    let others = c.in-Some-strip_suffix.others.now in
    IfOk-weaker c.of-in-Some-strip_suffix.result _ _ (λ copy is. is
    ∙ sym (without_last sep (chars c.as_str.result.now) whole.result.0 place (chars before)
    (chars rest) whole.ensures.whole whole.ensures.rest whole.ensures.place (chars others)
    (whole_is_element sep rest whole.ensures.utf8.1 c.in-None.ensures.cases)
    (stripped sep before others whole.ensures.utf8.0 c.in-Some-strip_suffix.ensures.cases))
    ∙ ap (without_element sep place) c.as_str.ensures.characters) c.of-in-Some-strip_suffix.ensures

pub returns-in-None-strip_suffix : goal.returns-in-None-strip_suffix
returns-in-None-strip_suffix c =
    let sep = c.args.separator in
    let place = c.args.place in
    let whole = c.find_element in
    let before = whole.result.1.now in
    let rest = whole.result.2.now in
    c.new.ensures
    ∙ sym (without_only sep (chars c.as_str.result.now) whole.result.0 place (chars before)
    (chars rest) whole.ensures.whole whole.ensures.rest whole.ensures.place
    (whole_is_element sep rest whole.ensures.utf8.1 c.in-None.ensures.cases)
    (not_stripped sep before whole.ensures.utf8.0 c.in-None-strip_suffix.ensures.cases))
    ∙ ap (without_element sep place) c.as_str.ensures.characters
