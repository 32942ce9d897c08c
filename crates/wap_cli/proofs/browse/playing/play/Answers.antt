-- A key whose lines were written, or not: lemmas of Unpushed.
use Rattle.std.proofs.Common.{rules, refl, ap, Err}
use Rattle.wap_cli.specs.browse.inside.Played.{Moment, Stops}
use Rattle.wap_cli.proofs.BrowseLemmas.Unpushed.{goes_on, stops_there}
use Rattle.wap_cli.proofs.browse.playing.play.Goals as goal

pub returns-in-Ok-write_all : goal.returns-in-Ok-write_all
returns-in-Ok-write_all g c =
    let old : Moment = record {
      pages = g.P.Pages.seen c.args.pages.now;
      state = c.args.session.now;
      sink = g.O.Sink.seen c.args.out.now;
    } in
    let new : Moment = record {
      pages = g.P.Pages.seen c.feed.new.pages;
      state = c.feed.new.self;
      sink = g.O.Sink.seen c.write_all.new.out;
    } in
    goes_on c.args.key.now old new c.in-Ok.lines c.in-Ok.ensures.plays (search rules)
    (search rules)

pub returns-in-Err-Store : goal.returns-in-Err-Store
returns-in-Err-Store g c = Stops.at_store (record {
  rose = c.in-Err-Store.ensures.plays.failed (ap Err c.in-Err-Store.field-0-is);
  missed = c.in-Err-Store.ensures.missed (ap Err c.in-Err-Store.field-0-is);
  unwritten = refl;
  stays = c.in-Err-Store.ensures.plays.stays;
})

pub returns-in-Err-NoMemory : goal.returns-in-Err-NoMemory
returns-in-Err-NoMemory g c =
    Stops.for_memory (record { unwritten = refl; stays = c.in-Err-NoMemory.ensures.plays.stays })

pub returns : goal.returns
returns g c =
    let old : Moment = record {
      pages = g.P.Pages.seen c.args.pages.now;
      state = c.args.session.now;
      sink = g.O.Sink.seen c.args.out.now;
    } in
    let new : Moment = record {
      pages = g.P.Pages.seen c.feed.new.pages;
      state = c.feed.new.self;
      sink = g.O.Sink.seen c.write_all.new.out;
    } in
    Stops.at_sink
    (stops_there c.args.key.now old new c.in-Ok.lines c.in-Ok.ensures.plays (search rules)
    (search rules) (search rules))
