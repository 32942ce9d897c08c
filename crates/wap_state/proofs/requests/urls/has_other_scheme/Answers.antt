use Rattle.std.proofs.Common.{◌∙◌, ap, refl, sym, Option, List, ℕ, codes}
use Rattle.std.specs.Prelude.{not, false}
use Rattle.std.specs.Option.{option_map_or}
use Rattle.wap_base.specs.Texts.{is_same_text}
use Rattle.wap_base.proofs.Plain.{same-plain}
use Rattle.wap_state.proofs.requests.urls.has_other_scheme.Goals as goal

pub returns-in-Some : goal.returns-in-Some
returns-in-Some c =
    c.ne.ensures
    ∙ ap not (same-plain c.as_str.result.now c.in-Some.scheme (codes "http") c.as_str.ensures.bytes
    (sym c.as_str.ensures.characters) refl)
    ∙ ap (λ (scheme : Option (List ℕ)).
    option_map_or (λ one. not (is_same_text one (codes "http"))) scheme false) (sym c.in-Some.is)
