use Rattle.std.proofs.Common.{sym, ◌∙◌, map, subst₂, List, ℕ}
use Rattle.std.specs.Char.{to_ascii_lowercase}
use Rattle.wap_url.specs.Segments.{IsSuffix, labels}
use Rattle.wap_url.proofs.Utf8Laws.{labels_of_bytes}
use Rattle.wap_url.proofs.access.allows_host.Goals as goal

pub returns : goal.returns
returns c =
    let host = c.as_bytes.ensures.value ∙ c.as_str.ensures.bytes in
    let domain = c.as_bytes-2.ensures.value ∙ c.as_str-2.ensures.bytes in
    let laws =
    labels_of_bytes c.args.domain.now c.args.host.now c.as_str-2.ensures.scalars
    c.as_str.ensures.scalars in
    let P : List ℕ → List ℕ → Type 0 =
    λ h d. IsSuffix (labels (map to_ascii_lowercase d)) (labels h) in (
      λ holds. laws.0 (subst₂ P host domain (c.ends_in_labels.ensures.0 holds)),
      λ suffix. c.ends_in_labels.ensures.1 (subst₂ P (sym host) (sym domain) (laws.1 suffix)),
    )
