use Rattle.std.proofs.Common.{◌≡◌, Bool, ◌++◌, ◌∷◌, [], List, ℕ, Bor, map, ap}
use Rattle.std.proofs.Common.{sym, ◌∙◌, cond, true, false, append-nil}
use Rattle.std.proofs.lemmas.List.{map_push}
use Rattle.wap_url.specs.Segments.{segments}
use Rattle.wap_url.specs.Joining.{is_dot_segment, without_dots}
use Rattle.wap_url.proofs.JoinLaws.{takes_one, takes_last}
use Rattle.wap_url.proofs.dots.kept_segments.Goals as goal
use Rattle.wap_url.proofs.dots.kept_segments.Goals.{then-is_dots+in_ok-push, else-is_dots}

abbrev now : Bor (List ℕ) → List ℕ
now s = s.now

pub loop-segment-preserved : goal.loop-segment-preserved
loop-segment-preserved c =
    let one =
    takes_one (map now c.loop-segment.kept.items)
    (map now c.keep.new.kept.items) c.loop-segment.rest.now c.args.path.now
    (c.in-Some.segment, c.in-Some.after) c.in-Some.ensures.cases c.loop-segment.invariant.0
    c.loop-segment.invariant.1 c.loop-segment.invariant.2 c.in_ok-keep.ensures in
    (one.text, one.folds, one.last)

pub returns : goal.returns
returns c =
    let last =
    takes_last (map now c.loop-segment.kept.items) (map now c.keep-2.new.kept.items)
    c.loop-segment.rest.now c.args.path.now c.in_default.ensures.cases c.loop-segment.invariant.1
    c.loop-segment.invariant.2 c.in_ok-keep-2.ensures in
    let from : (t : Bool) → is_dot_segment c.loop-segment.rest.now ≡ t
    → map now c.keep-2.new.kept.items ++ cond t ([] ∷ []) []
    ≡ without_dots (segments c.args.path.now) =
    λ t e. ap (λ t. map now c.keep-2.new.kept.items ++ cond t ([] ∷ []) []) (sym e) ∙ last in
    elim c.if-is_dots.branch [
      | then-is_dots+in_ok-push w ↦
          ap (λ kept. map now kept.items) w.kept-is ∙ ap (map now) w.in_ok-push.ensures.items
          ∙ map_push now c.keep-2.new.kept.items _
          ∙ from true (sym c.is_dots.ensures ∙ w.if-is_dots.true)
      | else-is_dots w ↦
          ap (λ kept. map now kept.items) w.kept-is
          ∙ sym (append-nil (map now c.keep-2.new.kept.items))
          ∙ from false (sym c.is_dots.ensures ∙ w.if-is_dots.false)
    ]
