use Rattle.std.proofs.Common.{ap, ◌∙◌}
use Rattle.wap_world.specs.site.Pages.{Pages}
use Rattle.wap_world.specs.Sessions.{shown_by}
use Rattle.wap_world.specs.scripting.UnitSites.{unit_pages}
use Rattle.wap_world.proofs.SiteLemmas.Asking.{Stays-then}
use Rattle.wap_session.specs.Feeding.{State}
use Rattle.wap_cli.specs.browse.Beginning.{begun_with}
use Rattle.wap_world.specs.site.Asking.{in_memory}
use Rattle.wap_cli.specs.Networks.{network_of}
use Rattle.wap_cli.specs.resume.Saving.{opened_at}
use Rattle.wap_cli.proofs.PreparedLemmas.Fitting.{still}
use Rattle.wap_cli.proofs.ReplayLemmas.Transcripts.{played_alone}
use Rattle.wap_cli.proofs.replay.playing.play.Goals as goal

-- a new session isn't over
pub unreachable-requires-in-Err-Ended : goal.unreachable-requires-in-Err-Ended
unreachable-requires-in-Err-Ended c =
    c.in-Err-Ended.ensures.plays.goes_on
    (ap (λ (state : State). state.is_over)
    (c.new-session.ensures (begun_with c.args.begun.now).url))
    c.in-Err-Ended.field-0-is

-- the pages are the same after each call
pub returns : goal.returns
returns c =
    let begun = begun_with c.args.begun.now in
    let feed = c.in-Ok.ensures in
    let play = c.in-Ok-play.ensures in
    let pages = c.pages-shared.result in
    let one = c.feed.new.pages in
    let two = c.play.new.pages in
    let both = played_alone pages (in_memory one) (in_memory two) begun c.in_ok-first.first
    c.args.keys.now c.new-session.result c.feed.new.self c.play.new.self c.in-Ok.lines
    c.in-Ok-play.lines (still pages one feed.plays.stays)
    (still pages two (Stays-then (in_memory pages) (in_memory one) (in_memory two)
    feed.plays.stays play.plays.stays))
    (c.new-session.ensures begun.url) c.in_ok-first.ensures feed.plays.leads feed.shown
    play.plays.leads in record {
      lines = both.0
          ∙ ap (λ (pages : Pages).
          shown_by (opened_at begun (network_of (unit_pages pages)) c.args.keys.now))
          c.pages-shared.ensures;
      ends = c.in_dialog.ensures.waits ∙ both.1
          ∙ ap (λ (pages : Pages).
          (opened_at begun (network_of (unit_pages pages)) c.args.keys.now).is_open)
          c.pages-shared.ensures;
    }
