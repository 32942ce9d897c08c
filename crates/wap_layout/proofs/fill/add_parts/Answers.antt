use Rattle.std.proofs.Common.{arith}
use Rattle.std.proofs.lemmas.Str.{IsUtf8-from_ascii}
use Rattle.wap_layout.proofs.Plain.{parts-step, ascii_after, ascii_short}
use Rattle.wap_layout.proofs.fill.add_parts.Goals as goal

pub loop-rest-preserved : goal.loop-rest-preserved
loop-rest-preserved c =
    let ascii = c.loop-rest.invariant.1 in
    let left =
    ascii_after c.args.width c.loop-rest.rest.now c.split_at.result.1.now c.split_at.ensures.back
    ascii in (
      IsUtf8-from_ascii c.split_at.result.1.now left,
      left,
      λ more. parts-step c.args.width c.loop-rest.lines c.add.new.self c.loop-rest.rest.now
          c.split_at.result.0.now c.split_at.result.1.now more _ c.requires.width
          (omega (arith, c.loop-rest-test.true)) ascii c.split_at.ensures.front
          c.split_at.ensures.back
          c.in_ok-add.ensures.ok
          (c.loop-rest.invariant.2 more),
    )

pub returns-clause-short : goal.returns-clause-short
returns-clause-short c =
    ascii_short c.args.width c.loop-rest.rest.now c.loop-rest.invariant.1
    (omega (arith, c.loop-rest-test.false))
