use Rattle.std.proofs.Common.{◌∙◌, codes, refl, sym}
use Rattle.wap_base.proofs.Plain.{same-plain}
use Rattle.wap_image.proofs.items.is_http.Goals as goal

pub returns : goal.returns
returns c =
    c.eq.ensures
    ∙ same-plain c.as_str.result.now c.args.scheme.now (codes "http") c.as_str.ensures.bytes
    (sym c.as_str.ensures.characters) refl
