use Rattle.std.proofs.Common.{ap, sym, ◌∙◌, subst₂, List, ℕ}
use Rattle.wap_url.specs.Segments.{IsPrefix, segments}
use Rattle.wap_url.specs.Access.{below_root, without_empty_last}
use Rattle.wap_url.proofs.Utf8Laws.{segments_of_bytes}
use Rattle.wap_url.proofs.access.allows_path.Goals as goal

pub returns : goal.returns
returns c =
    let path =
    c.after_root.ensures ∙ ap below_root (c.as_bytes.ensures.value ∙ c.as_str.ensures.bytes) in
    let access =
    c.after_root-2.ensures
    ∙ ap below_root (c.as_bytes-2.ensures.value ∙ c.as_str-2.ensures.bytes) in
    let laws =
    segments_of_bytes c.args.access.now c.args.path.now c.as_str-2.ensures.scalars
    c.as_str.ensures.scalars in
    let P : List ℕ → List ℕ → Type 0 =
    λ p a. IsPrefix (without_empty_last (segments a)) (segments p) in (
      λ holds. laws.0 (subst₂ P path access (c.begins_in_segments.ensures.0 holds)),
      λ prefix. c.begins_in_segments.ensures.1 (subst₂ P (sym path) (sym access) (laws.1 prefix)),
    )
