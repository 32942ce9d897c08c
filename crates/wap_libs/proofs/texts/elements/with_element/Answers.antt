use Rattle.std.proofs.Common.{◌≡◌, ◌++◌, [], ◌∷◌, ap, ap₂, sym, ◌∙◌}
use Rattle.std.specs.Str.{chars}
use Rattle.wap_libs.specs.Elements.{with_element}
use Rattle.wap_libs.proofs.TextsLemmas.Parting.{IsParted-split, whole_is_element, four}
use Rattle.wap_libs.proofs.TextsLemmas.Parting.{with_behind, with_last}
use Rattle.wap_libs.proofs.texts.elements.with_element.Goals as goal

pub returns-in_ok-add-in-Some : goal.returns-in_ok-add-in-Some
returns-in_ok-add-in-Some c =
    let sep = c.args.separator in
    let new = c.args.new.now in
    let place = c.args.place in
    let whole = c.find_element in
    let before = chars whole.result.1.now in
    let rest = whole.result.2.now in
    let first = c.in-Some.field-0-0.now in
    let behind = c.in-Some.behind.now in
    let step =
    IsParted-split sep rest first behind whole.ensures.utf8.1 c.in-Some.ensures.cases in
    let made : c.add-in-Some.new.self ≡ ((before ++ new) ++ sep ∷ []) ++ chars behind =
    c.in_ok-add-in-Some.ensures.ok
    ∙ ap (λ t. t ++ chars behind) (c.in_ok-push-in-Some.ensures.ok
    ∙ ap (λ t. t ++ sep ∷ []) (c.in_ok-add.ensures.ok
    ∙ ap₂ (λ a b. a ++ b) c.in_ok-made.ensures c.as_str-2.ensures.characters)) in
    made ∙ four before new sep (chars behind)
    ∙ sym (with_behind sep (chars c.as_str.result.now) whole.result.0 place before (chars rest)
    whole.ensures.whole whole.ensures.rest whole.ensures.place new (chars first) (chars behind)
    step.parts)
    ∙ ap (with_element sep place new) c.as_str.ensures.characters

pub returns-in-None : goal.returns-in-None
returns-in-None c =
    let sep = c.args.separator in
    let new = c.args.new.now in
    let place = c.args.place in
    let whole = c.find_element in
    let before = chars whole.result.1.now in
    let rest = whole.result.2.now in
    c.in_ok-add.ensures.ok
    ∙ ap₂ (λ a b. a ++ b) c.in_ok-made.ensures c.as_str-2.ensures.characters
    ∙ sym (with_last sep (chars c.as_str.result.now) whole.result.0 place before (chars rest)
    whole.ensures.whole whole.ensures.rest whole.ensures.place new
    (whole_is_element sep rest whole.ensures.utf8.1 c.in-None.ensures.cases))
    ∙ ap (with_element sep place new) c.as_str.ensures.characters
