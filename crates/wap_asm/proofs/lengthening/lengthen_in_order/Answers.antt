use Rattle.std.proofs.Common.{◌+◌, ◌∙◌, length, sum, arith}
use Rattle.std.proofs.lemmas.List.{length-set}
use Rattle.wap_asm.specs.Placing.{wide}
use Rattle.wap_asm.proofs.OnTheWay.{next_few, known_next, known_before, sum_longer, so_far_wide}
use Rattle.wap_asm.proofs.OnTheWay.{less_left}
use Rattle.wap_asm.proofs.lengthening.lengthen_in_order.Goals as goal

pub overflow_add-starts : goal.overflow_add-starts
overflow_add-starts c =
    let had = c.loop-i.invariant in
    omega (
      arith,
      next_few c.args.forms.now c.loop-i.sizes c.loop-i.i _ had.so_far c.requires.few
          (omega arith) (had.each c.loop-i.i (omega arith)),
    )

pub lengthen_at-requires-clause-known : goal.lengthen_at-requires-clause-known
lengthen_at-requires-clause-known c =
    let had = c.loop-i.invariant in
    known_next c.args.forms.now c.loop-i.sizes c.loop-i.starts c.loop-i.i had.so_far had.long
    (omega arith) had.each

pub loop-i-smaller-in-Some : goal.loop-i-smaller-in-Some
loop-i-smaller-in-Some c =
    let sizes = c.loop-i.sizes in
    let longer = c.lengthen_at.new.sizes in
    less_left (wide c.args.forms.now) (sum sizes) (sum longer) (length c.args.forms.now) c.loop-i.i
    c.in-Some.jump (sum_longer sizes longer c.in-Some.jump c.in-Some.ensures.longer.grown)
    (so_far_wide c.args.forms.now longer c.lengthen_at.ensures.so_far)

pub loop-i-preserved-in-Some : goal.loop-i-preserved-in-Some
loop-i-preserved-in-Some c =
    let had = c.loop-i.invariant in
    let sizes = c.loop-i.sizes in
    let longer = c.lengthen_at.new.sizes in
    let is = c.in-Some.ensures.longer in
    record {
      so_far = c.lengthen_at.ensures.so_far;
      more = omega (arith, had.more, sum_longer sizes longer c.in-Some.jump is.grown);
      long = length-set c.loop-i.starts (c.loop-i.i + 1) _ ∙ had.long;
      within = omega (arith, is.within, had.within);
      each = λ k h. known_before sizes longer c.loop-i.starts c.loop-i.i c.in-Some.jump _ k
          is.grown (omega (arith, is.within)) had.each h;
    }
