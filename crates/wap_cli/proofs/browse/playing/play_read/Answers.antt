-- A key that fits nothing, and its line, which was written or not: lemmas of Unpushed.
use Rattle.std.proofs.Common.{rules, ◌∷◌, [], List, ℕ, Ok, refl, sym, subst}
use Rattle.wap_session.specs.Feeding.{Plays}
use Rattle.wap_cli.specs.browse.inside.Played.{Moment, Stops}
use Rattle.wap_cli.proofs.BrowseLemmas.Unpushed.{goes_on, stops_there}
use Rattle.wap_cli.proofs.browse.playing.play_read.Goals as goal

pub returns-in-Ok : goal.returns-in-Ok
returns-in-Ok g c =
    let pages = g.P.Pages.seen c.args.pages.now in
    let old : Moment = record {
      pages = pages;
      state = c.args.session.now;
      sink = g.O.Sink.seen c.args.out.now;
    } in
    let new : Moment = record {
      pages = pages;
      state = c.try_ignore.new.self;
      sink = g.O.Sink.seen c.write_all.new.out;
    } in
    goes_on c.args.key old new c.args.ignored.now
    (subst (λ (lines : List (List ℕ)). Plays (c.args.key ∷ []) pages pages old.state new.state
    (Ok lines)) (sym c.requires.ignored) (c.if-not-try_ignore.ensures.plays refl pages))
    (search rules) (search rules)

pub returns : goal.returns
returns g c =
    let pages = g.P.Pages.seen c.args.pages.now in
    let old : Moment = record {
      pages = pages;
      state = c.args.session.now;
      sink = g.O.Sink.seen c.args.out.now;
    } in
    let new : Moment = record {
      pages = pages;
      state = c.try_ignore.new.self;
      sink = g.O.Sink.seen c.write_all.new.out;
    } in
    Stops.at_sink
    (stops_there c.args.key old new c.args.ignored.now
    (subst (λ (lines : List (List ℕ)). Plays (c.args.key ∷ []) pages pages old.state new.state
    (Ok lines)) (sym c.requires.ignored) (c.if-not-try_ignore.ensures.plays refl pages))
    (search rules) (search rules) (search rules))
