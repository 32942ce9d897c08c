-- The URL is opened as a key before the first, and then the keys are read and played.
use Rattle.std.proofs.Common.{ap}
use Rattle.wap_base.specs.declared.key.Key.TheVariants.{Open}
use Rattle.wap_session.specs.Feeding.{State}
use Rattle.wap_cli.specs.browse.Beginning.{begun_with}
use Rattle.wap_cli.specs.browse.Plays.{opened}
use Rattle.wap_cli.specs.browse.Outside.{Outside}
use Rattle.wap_cli.specs.browse.Standing.{Moved, moved_of}
use Rattle.wap_cli.specs.browse.inside.Played.{Moment}
use Rattle.wap_cli.proofs.BrowseLemmas.Going.{opens_first, browsed_after}
use Rattle.wap_cli.proofs.BrowseLemmas.Exits.{first_stops, stop_undone}
use Rattle.wap_cli.proofs.browse.browsing.browse_session.Goals as goal

-- a new session isn't over
pub play-requires : goal.play-requires
play-requires g c =
    ap (λ (state : State). state.is_over) (c.new-session.ensures c.args.begun.url)

-- the first key was played
pub returns-clause-browses : goal.returns-clause-browses
returns-clause-browses g c =
    let from : Moved = record {
      pages = g.P.Pages.seen c.args.pages.now;
      sink = g.O.Sink.seen c.args.out.now;
    } in
    let begun = begun_with c.args.begun in
    let new : Moment = record {
      pages = g.P.Pages.seen c.play.new.pages;
      state = c.play.new.session;
      sink = g.O.Sink.seen c.play.new.out;
    } in
    c.play_keys-status.ensures.browses (opened begun) from
    (browsed_after (opened begun) _ (Open begun.url) from from c.new-session.result new
    (opens_first begun from c.new-session.result (c.new-session.ensures begun.url))
    c.in_default.ensures)

pub returns-clause-rests : goal.returns-clause-rests
returns-clause-rests g c done =
    let from : Moved = record {
      pages = g.P.Pages.seen c.args.pages.now;
      sink = g.O.Sink.seen c.args.out.now;
    } in
    let begun = begun_with c.args.begun in
    let new : Moment = record {
      pages = g.P.Pages.seen c.play.new.pages;
      state = c.play.new.session;
      sink = g.O.Sink.seen c.play.new.out;
    } in
    c.play_keys-status.ensures.rests (opened begun) from
    (browsed_after (opened begun) _ (Open begun.url) from from c.new-session.result new
    (opens_first begun from c.new-session.result (c.new-session.ensures begun.url))
    c.in_default.ensures)
    done

-- it stopped the session
pub returns-in-Err-clause-browses : goal.returns-in-Err-clause-browses
returns-in-Err-clause-browses g c =
    let old : Outside = record {
      pages = g.P.Pages.seen c.args.pages.now;
      source = g.I.Source.seen c.args.keys.now;
      sink = g.O.Sink.seen c.args.out.now;
    } in
    let begun = begun_with c.args.begun in
    let new : Moment = record {
      pages = g.P.Pages.seen c.play.new.pages;
      state = c.play.new.session;
      sink = g.O.Sink.seen c.play.new.out;
    } in
    first_stops (opened begun) old (moved_of old) c.new-session.result (Open begun.url) new
    c.in-Err.status
    (opens_first begun (moved_of old) c.new-session.result (c.new-session.ensures begun.url))
    c.in-Err.ensures

pub returns-in-Err-clause-rests : goal.returns-in-Err-clause-rests
returns-in-Err-clause-rests g c done =
    absurd (stop_undone c.in-Err.status (Open c.args.begun.url) _ _ c.in-Err.ensures done)
