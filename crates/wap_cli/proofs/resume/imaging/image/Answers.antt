use Rattle.std.proofs.Common.{rules, refl, ◌≡◌}
use Rattle.wap_cli.specs.declared.status.Status.TheVariants.{Done}
use Rattle.wap_cli.specs.browse.Beginning.{begun_with}
use Rattle.wap_cli.specs.browse.Outside.{Outside}
use Rattle.wap_cli.proofs.ResumeLemmas.Images.{context_there, images_undone, images_done}
use Rattle.wap_cli.proofs.resume.imaging.image.Goals as goal

pub returns-in_default : goal.returns-in_default
returns-in_default g c =
    let played = c.browse_session-status in
    let old : Outside = record {
      pages = g.P.Pages.seen c.args.pages.now;
      source = g.I.Source.seen c.args.keys.now;
      sink = g.O.Sink.seen c.args.out.now;
    } in
    let new : Outside = record {
      pages = g.P.Pages.seen played.new.pages;
      source = g.I.Source.seen played.new.keys;
      sink = g.O.Sink.seen c.args.out.now;
    } in
    images_undone (begun_with c.args.begun) old new played.new.out played.result.0
    (search rules) (rw c.new-dropped.ensures at played.ensures.browses) refl

pub returns : goal.returns
returns g c =
    let played = c.browse_session-status in
    let old : Outside = record {
      pages = g.P.Pages.seen c.args.pages.now;
      source = g.I.Source.seen c.args.keys.now;
      sink = g.O.Sink.seen c.args.out.now;
    } in
    let new : Outside = record {
      pages = g.P.Pages.seen played.new.pages;
      source = g.I.Source.seen played.new.keys;
      sink = g.O.Sink.seen c.save_context.new.out;
    } in
    let done : played.result.0 ≡ Done = search rules in
    let rests = rw c.new-dropped.ensures at (played.ensures.rests done) in
    images_done (begun_with c.args.begun) old new played.new.out played.result.1
    c.in-Some.context.now played.result.0 c.save_context.result done
    (rw c.new-dropped.ensures at played.ensures.browses) rests
    (context_there played.result.1 c.in-Some.context.now rests.waiting rests.ready
    c.in-Some.ensures)
    c.save_context.ensures.image c.save_context.ensures.whole
