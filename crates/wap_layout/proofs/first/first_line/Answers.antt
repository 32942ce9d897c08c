use Rattle.std.proofs.Common.{◌∙◌, arith}
use Rattle.wap_layout.proofs.Plain.{from_start}
use Rattle.wap_layout.proofs.Begun.{begun-more, last_line, line_before, slice_end, slice_of}
use Rattle.wap_layout.proofs.first.first_line.Goals as goal

pub returns-then-width-line-2 : goal.returns-then-width-line-2
returns-then-width-line-2 c =
    line_before c.args.width c.args.text.now c.loop-word.line.now c.loop-word.rest.now
    c.in-Some.word.now c.in-Some.after.now c.requires c.loop-word.invariant.1 c.in-Some.ensures
    (omega arith)

pub range-line-requires-clause-end_boundary : goal.range-line-requires-clause-end_boundary
range-line-requires-clause-end_boundary c =
    slice_end c.args.width c.args.text.now c.loop-word.line.now c.loop-word.rest.now
    c.in-Some.word.now c.in-Some.after.now c.loop-word.invariant.1 c.in-Some.ensures

pub loop-word-preserved : goal.loop-word-preserved
loop-word-preserved c =
    let b = c.loop-word.invariant.1 in
    let next =
    c.range-line.ensures.value ∙ from_start _ c.args.text.now
    ∙ slice_of c.args.width c.args.text.now c.loop-word.line.now c.loop-word.rest.now
    c.in-Some.word.now c.in-Some.after.now b c.in-Some.ensures in (
      c.range-line.utf8,
      begun-more c.args.width c.args.text.now c.loop-word.line.now c.loop-word.rest.now
          c.in-Some.word.now c.in-Some.after.now c.range-line.result.now b c.in-Some.ensures
          (omega arith) next,
    )

pub returns : goal.returns
returns c =
    last_line c.args.width c.args.text.now c.loop-word.line.now c.loop-word.rest.now
    c.is_empty.result c.loop-word.invariant.1 c.is_empty.ensures
