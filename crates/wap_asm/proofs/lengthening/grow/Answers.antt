use Rattle.std.proofs.Common.{◌≡◌, inl, inr, sym, ◌∙◌, ap, subst, arith, sum, slice_get, Some}
use Rattle.std.proofs.lemmas.Bool.{true≢false, cases_lt}
use Rattle.wap_asm.specs.inside.Passes.{AreStarts, IsEnough}
use Rattle.wap_asm.proofs.PassLaws.{targets_within}
use Rattle.wap_asm.proofs.OnTheWay.{sum_longer, settled_enough}
use Rattle.wap_asm.proofs.lengthening.grow.Goals as goal
use Rattle.wap_asm.proofs.lengthening.grow.Goals.{then-lengthen, else-lengthen}

pub loop-i-preserved : goal.loop-i-preserved
loop-i-preserved c =
    let had = c.loop-i.invariant in
    elim c.if-lengthen.branch [
      | then-lengthen w ↦
          let more =
          sum_longer c.loop-i.sizes c.lengthen.new.sizes c.loop-i.i
          (c.lengthen.ensures.longer w.if-lengthen.true) in
          record {
            so_far = c.lengthen.ensures.so_far;
            less = omega (arith, more, had.less);
            more = λ e. omega (arith, more, had.less);
            same = λ e. absurd (true≢false (sym w.changed-is ∙ e));
            done = λ e. absurd (true≢false (sym w.changed-is ∙ e));
          }
      | else-lengthen w ↦
          let kept = c.lengthen.ensures.same w.if-lengthen.false in
          record {
            so_far = c.lengthen.ensures.so_far;
            less = omega (arith, ap sum kept, had.less);
            more = λ e. omega (arith, ap sum kept, had.more (sym w.changed-is ∙ e));
            same = λ e. kept ∙ had.same (sym w.changed-is ∙ e);
            done = λ e k h site found.
                elim (cases_lt k c.loop-i.i) [
                  | inl before ↦
                      subst (λ s. IsEnough c.args.starts.now s k site) (sym kept)
                      (had.done (sym w.changed-is ∙ e) k before site found)
                  | inr not_before ↦
                      let here : c.loop-i.i ≡ k = omega (arith, h, not_before) in
                      let to =
                      targets_within c.args.forms.now c.args.sites.now c.args.starts.now
                      c.requires.sites (omega (
                        arith,
                        c.requires.starts.count,
                        c.requires.so_far.count,
                      )) k site found in
                      subst (λ i. IsEnough c.args.starts.now c.lengthen.new.sizes i site) here
                      (c.lengthen.ensures.enough w.if-lengthen.false site
                      (subst (λ i. slice_get c.args.sites.now i ≡ Some site) (sym here) found)
                      (omega (arith, to, c.requires.starts.count, c.requires.so_far.count)))
                ];
          }
    ]

pub returns-clause-settled : goal.returns-clause-settled
returns-clause-settled c = λ e.
    let last = c.loop-i.invariant in
    settled_enough c.args.forms.now c.args.sites.now c.args.starts.now c.loop-i.sizes
    c.requires.placeable c.requires.sites last.so_far
    (subst (λ s. AreStarts s c.args.starts.now) (sym (last.same e)) c.requires.starts)
    (λ k h site found. last.done e k (omega (arith, h)) site found)
