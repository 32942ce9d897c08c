use Rattle.std.proofs.Common.{◌≡◌, List, ℕ, Option, Some, None, sym, ap, ◌∙◌}
use Rattle.std.specs.Prelude.{option_and_then, slice_get}
use Rattle.std.proofs.lemmas.Str.{chars-nil}
use Rattle.wap_unit.specs.declared.unit.Unit.{Unit}
use Rattle.wap_unit.specs.declared.unit.Constant.{Constant}
use Rattle.wap_unit.specs.declared.unit.Constant.TheVariants.{Coded}
use Rattle.wap_unit.specs.Strings.{string_of, string_at}
use Rattle.wap_verify.proofs.Verifying.{string_kept, string_missed}
use Rattle.wap_verify.proofs.verified.Verified.string.Goals as goal

pub returns-in-Some-Empty : goal.returns-in-Some-Empty
returns-in-Some-Empty c =
    let unit : Unit = c.self.inside.unit in
    ap Some chars-nil
    ∙ ap (λ (x : Constant). option_and_then (string_of unit.charset) (Some x))
    (sym c.in-Some-Empty.field-0-is)
    ∙ ap (option_and_then (string_of unit.charset)) c.in-Some-Empty.ensures.value
    ∙ ap (λ (u : Unit). string_at u c.args.index) c.self.view_is

pub returns-in-Some-Some : goal.returns-in-Some-Some
returns-in-Some-Some c =
    let unit : Unit = c.self.inside.unit in
    let coded : Some (Coded c.in-Some-Coded.field-0-0) ≡ slice_get unit.constants c.args.index =
    ap Some (sym c.in-Some-Coded.field-0-is) ∙ c.in-Some-Coded.ensures.value in
    let text : Some (Some c.in-Some-Some.text) ≡ slice_get c.self.inside.texts c.args.index =
    ap Some (sym c.in-Some-Some.field-0-is) ∙ c.in-Some-Some.ensures.value in
    ap Some c.as_str-in-Some-Some.ensures.characters
    ∙ string_kept unit c.self.inside.texts c.args.index c.in-Some-Coded.field-0-0
    (Some c.in-Some-Some.text) c.self.invariant.texts_are coded text
    ∙ ap (λ (u : Unit). string_at u c.args.index) c.self.view_is

pub returns-in-Some-None : goal.returns-in-Some-None
returns-in-Some-None c =
    let unit : Unit = c.self.inside.unit in
    let coded : Some (Coded c.in-Some-Coded.field-0-0) ≡ slice_get unit.constants c.args.index =
    ap Some (sym c.in-Some-Coded.field-0-is) ∙ c.in-Some-Coded.ensures.value in
    let text : ◌≡◌ {A = Option (Option (List ℕ))} (Some None)
    (slice_get c.self.inside.texts c.args.index) =
    ap Some (sym c.in-Some-None.field-0-is) ∙ c.in-Some-None.ensures.value in
    string_kept unit c.self.inside.texts c.args.index c.in-Some-Coded.field-0-0 None
    c.self.invariant.texts_are coded text
    ∙ ap (λ (u : Unit). string_at u c.args.index) c.self.view_is

pub returns-in-None-get : goal.returns-in-None-get
returns-in-None-get c =
    let unit : Unit = c.self.inside.unit in
    let coded : Some (Coded c.in-Some-Coded.field-0-0) ≡ slice_get unit.constants c.args.index =
    ap Some (sym c.in-Some-Coded.field-0-is) ∙ c.in-Some-Coded.ensures.value in
    absurd (string_missed unit c.self.inside.texts c.args.index c.in-Some-Coded.field-0-0
    c.self.invariant.texts_are coded c.in-None-get.ensures.value)
