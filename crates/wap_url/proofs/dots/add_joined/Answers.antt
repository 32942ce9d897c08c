use Rattle.std.proofs.Common.{◌++◌, [], ap, ◌∙◌, arith, get_or, List, ℕ, Bor}
use Rattle.std.specs.Str.{chars}
use Rattle.wap_url.proofs.JoinLaws.{joined_first, joined_next}
use Rattle.wap_url.proofs.dots.add_joined.Goals as goal
use Rattle.wap_url.proofs.dots.add_joined.Goals.{then-i-gt0+in_ok-push, else-i-gt0}

pub loop-i-preserved : goal.loop-i-preserved
loop-i-preserved c =
    let f : Bor (List ℕ) → List ℕ = λ s. chars s.now in
    let d : Bor (List ℕ) = record { ref_ptr = (0, 0); now = [] } in
    elim c.if-i-gt0.branch [
      | then-i-gt0+in_ok-push w ↦
          c.in_ok-add.ensures.ok
          ∙ ap (λ out. out ++ chars (get_or c.args.segments.now c.loop-i.i d).now)
          (w.out-is ∙ w.in_ok-push.ensures.ok)
          ∙ joined_next f c.args.segments.now c.loop-i.i d c.args.out.now c.loop-i.out
          c.loop-i-test.true w.if-i-gt0.true c.loop-i.invariant
      | else-i-gt0 w ↦
          c.in_ok-add.ensures.ok
          ∙ ap (λ out. out ++ chars (get_or c.args.segments.now c.loop-i.i d).now) w.out-is
          ∙ joined_first f c.args.segments.now c.loop-i.i d c.args.out.now c.loop-i.out
          c.loop-i-test.true (omega (arith, w.if-i-gt0.false)) c.loop-i.invariant
    ]
