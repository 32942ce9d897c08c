use Rattle.std.proofs.Common.{◌≡◌, ◌++◌, ap₂, sym, ◌∙◌, arith, length, take-append-drop, map, ◌-◌}
use Rattle.std.specs.Char.{to_ascii_lowercase}
use Rattle.std.proofs.lemmas.List.{length-map}
use Rattle.wap_url.proofs.AccessLaws.{suffix_at_cut, suffix_from_cut, no_suffix}
use Rattle.wap_url.proofs.access.ends_in_labels.Goals as goal

pub returns-then-host-domain : goal.returns-then-host-domain
returns-then-host-domain c = (
  λ wrong. absurd (let w = wrong in cc),
  λ suffix. absurd (no_suffix 46 (map to_ascii_lowercase c.args.domain.now) c.args.host.now
      (omega (arith, length-map c.args.domain.now to_ascii_lowercase)) suffix),
)

pub returns-then-ends_at_dot : goal.returns-then-ends_at_dot
returns-then-ends_at_dot c =
    let cut : c.args.host.now ≡ c.split_at.result.0.now ++ c.split_at.result.1.now =
    sym (ap₂ (λ x y. x ++ y) c.split_at.ensures.front c.split_at.ensures.back
    ∙ take-append-drop (length c.args.host.now - length c.args.domain.now) c.args.host.now) in
    let same : length c.split_at.result.1.now ≡ length (map to_ascii_lowercase c.args.domain.now) =
    omega (arith, length-map c.args.domain.now to_ascii_lowercase, c.split_at.ensures.back_len) in (
      λ holds. suffix_from_cut 46 (map to_ascii_lowercase c.args.domain.now)
          c.args.host.now c.split_at.result.0.now c.split_at.result.1.now cut
          (c.ends_at_dot.ensures.0 c.if-ends_at_dot.true) (c.is_lowered.ensures.0 holds),
      λ suffix. c.is_lowered.ensures.1 (suffix_at_cut 46 (map to_ascii_lowercase c.args.domain.now)
          c.args.host.now c.split_at.result.0.now c.split_at.result.1.now cut same suffix).1,
    )

pub returns-else-ends_at_dot : goal.returns-else-ends_at_dot
returns-else-ends_at_dot c =
    let cut : c.args.host.now ≡ c.split_at.result.0.now ++ c.split_at.result.1.now =
    sym (ap₂ (λ x y. x ++ y) c.split_at.ensures.front c.split_at.ensures.back
    ∙ take-append-drop (length c.args.host.now - length c.args.domain.now) c.args.host.now) in
    let same : length c.split_at.result.1.now ≡ length (map to_ascii_lowercase c.args.domain.now) =
    omega (arith, length-map c.args.domain.now to_ascii_lowercase, c.split_at.ensures.back_len) in (
      λ holds. absurd (let f = c.if-ends_at_dot.false in cc),
      λ suffix. c.ends_at_dot.ensures.1 (suffix_at_cut 46 (map to_ascii_lowercase c.args.domain.now)
          c.args.host.now c.split_at.result.0.now c.split_at.result.1.now cut same suffix).0,
    )
