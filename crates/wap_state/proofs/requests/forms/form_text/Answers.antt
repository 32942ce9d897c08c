use Rattle.std.proofs.Common.{ap, ◌∙◌, ◌++◌, arith}
use Rattle.wap_state.proofs.RequestsLemmas.Joining.{form-next}
use Rattle.wap_state.proofs.requests.forms.form_text.Goals as goal
use Rattle.wap_state.proofs.requests.forms.form_text.Goals.{then-place-gt0+in_ok-push}
use Rattle.wap_state.proofs.requests.forms.form_text.Goals.{else-place-gt0}

pub loop-place-preserved : goal.loop-place-preserved
loop-place-preserved c =
    form-next c.args.posts.now c.loop-place.place c.index-posts-place.result c.loop-place.form
    c.if-place-gt0.form c.add.new.self
    c.loop-place-test.true c.index-posts-place.is c.loop-place.invariant
    (λ behind. elim c.if-place-gt0.branch [
      | then-place-gt0+in_ok-push w ↦ w.form-is ∙ w.in_ok-push.ensures.ok
      | else-place-gt0 w ↦ absurd (omega arith)
    ])
    (λ first. elim c.if-place-gt0.branch [
      | then-place-gt0+in_ok-push w ↦ absurd (omega arith)
      | else-place-gt0 w ↦ w.form-is
    ])
    (c.in_ok-add.ensures.ok
    ∙ ap (λ w. c.if-place-gt0.form ++ w) (c.as_str.ensures.characters ∙ c.in_ok-field_text.ensures))
