use Rattle.std.proofs.Common.{arith}
use Rattle.wap_libs.proofs.TextsLemmas.Parting.{IsParted-split, whole_is_element, reaches_start}
use Rattle.wap_libs.proofs.TextsLemmas.Parting.{reaches_more, reaches_last, reaches_place}
use Rattle.wap_libs.proofs.TextsLemmas.Ends.{ends_cut}
use Rattle.wap_libs.proofs.texts.elements.from_element.Goals as goal

pub loop-at-init : goal.loop-at-init
loop-at-init c =
    (c.utf8.text, reaches_start c.args.separator c.args.text.now c.args.place c.utf8.text)

pub loop-at-preserved : goal.loop-at-preserved
loop-at-preserved c =
    let step =
    IsParted-split c.args.separator c.loop-at.rest.now _ c.in-Some.behind.now
    c.loop-at.invariant.0 c.in-Some.ensures.cases in (
      step.is_end.utf8,
      reaches_more c.args.separator c.args.text.now c.args.place c.loop-at.at
          c.loop-at.rest.now _ c.in-Some.behind.now c.loop-at.invariant.1 (omega arith) step,
    )

pub returns-in-None : goal.returns-in-None
returns-in-None c =
    let is = c.loop-at.invariant.1 in
    let rest = c.loop-at.rest.now in
    record {
      place =
          reaches_last c.args.separator c.args.text.now c.args.place c.loop-at.at rest is
          (whole_is_element c.args.separator rest c.loop-at.invariant.0 c.in-None.ensures.cases);
      rest = is.parts;
      utf8 = c.loop-at.invariant.0;
      shorter = is.is_end.shorter;
      end = is.is_end.end;
      cut = ends_cut c.args.text.now rest is.is_end;
    }

pub returns : goal.returns
returns c =
    let is = c.loop-at.invariant.1 in
    let rest = c.loop-at.rest.now in
    record {
      place =
          reaches_place c.args.separator c.args.text.now c.args.place c.loop-at.at rest is
          (omega arith);
      rest = is.parts;
      utf8 = c.loop-at.invariant.0;
      shorter = is.is_end.shorter;
      end = is.is_end.end;
      cut = ends_cut c.args.text.now rest is.is_end;
    }
