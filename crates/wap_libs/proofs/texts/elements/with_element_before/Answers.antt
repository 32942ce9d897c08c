use Rattle.std.proofs.Common.{◌≡◌, ◌<◌, ◌++◌, [], ◌∷◌, length, ap, ap₂, sym, subst, ◌∙◌}
use Rattle.std.proofs.Common.{append_assoc}
use Rattle.std.specs.Str.{chars}
use Rattle.wap_libs.specs.Elements.{elements, within, with_element_before}
use Rattle.wap_libs.proofs.TextsLemmas.Parting.{four, some_text, with_after, with_before}
use Rattle.wap_libs.proofs.texts.elements.with_element_before.Goals as goal

pub returns-then-at-place : goal.returns-then-at-place
returns-then-at-place c =
    let sep = c.args.separator in
    let new = c.args.new.now in
    let place = c.args.place in
    let s = c.args.text.now in
    let some = some_text c.is_empty.result s c.is_empty.ensures c.if-is_empty.false in
    let made : c.add.new.self ≡ (s ++ sep ∷ []) ++ new =
    c.in_ok-add.ensures.ok
    ∙ ap₂ (λ a b. a ++ b) (c.in_ok-push.ensures.ok
    ∙ ap (λ t. t ++ sep ∷ []) c.in_ok-made.ensures) c.as_str-then-at-place.ensures.characters in
    made ∙ append_assoc s (sep ∷ []) new
    ∙ sym (with_after sep s c.find_element-at.result.0 place new some
    (c.find_element-at.ensures.place
    ∙ ap (λ t. within (elements sep t) place) c.as_str.ensures.characters) c.if-at-place.true)

pub returns : goal.returns
returns c =
    let sep = c.args.separator in
    let new = c.args.new.now in
    let place = c.args.place in
    let whole = c.find_element-at in
    let s = chars c.as_str.result.now in
    let before = chars whole.result.1.now in
    let rest = chars whole.result.2.now in
    let some : 0 < length s =
    subst (λ t. 0 < length t) (sym c.as_str.ensures.characters)
    (some_text c.is_empty.result c.args.text.now c.is_empty.ensures c.if-is_empty.false) in
    let made : c.add-3.new.self ≡ ((before ++ new) ++ sep ∷ []) ++ rest =
    c.in_ok-add-3.ensures.ok
    ∙ ap (λ t. t ++ rest) (c.in_ok-push-2.ensures.ok
    ∙ ap (λ t. t ++ sep ∷ []) (c.in_ok-add-2.ensures.ok
    ∙ ap₂ (λ a b. a ++ b) c.in_ok-made-2.ensures c.as_str-2.ensures.characters)) in
    made ∙ four before new sep rest
    ∙ sym (with_before sep s whole.result.0 place before rest whole.ensures.whole
    whole.ensures.rest whole.ensures.place new some c.if-at-place.false)
    ∙ ap (with_element_before sep place new) c.as_str.ensures.characters
