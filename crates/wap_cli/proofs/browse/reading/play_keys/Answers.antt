-- Each key is read and then played: what both come to is a lemma of Going, where the session goes
-- on, and of Exits, where it comes to its end.
use Rattle.std.proofs.Common.{Bool, Ok, sym, ap, subst, ◌∙◌}
use Rattle.wap_keys.specs.KeyReaders.{Answers, CountsFaults}
use Rattle.wap_keys.specs.declared.ending.Next.{Next}
use Rattle.wap_keys.proofs.FaultLaws.{lost_steady}
use Rattle.wap_cli.specs.declared.status.Status.{Status}
use Rattle.wap_cli.specs.browse.Outside.{Outside}
use Rattle.wap_cli.specs.browse.Endings.{ended}
use Rattle.wap_cli.specs.browse.Headline.{BrowsesSeen}
use Rattle.wap_cli.specs.browse.Standing.{outside_of}
use Rattle.wap_cli.specs.browse.inside.Played.{Moment}
use Rattle.wap_cli.proofs.BrowseLemmas.Going.{goes_first, goes_more}
use Rattle.wap_cli.proofs.BrowseLemmas.Exits.{ended_browses, ended_rests, reader_runs_out}
use Rattle.wap_cli.proofs.BrowseLemmas.Exits.{read_stops, stop_undone, none_read}
use Rattle.wap_cli.proofs.browse.reading.play_keys.Goals as goal

pub loop-key-init : goal.loop-key-init
loop-key-init g c =
    let start : Outside = record {
      pages = g.P.Pages.seen c.args.pages.now;
      source = g.I.Source.seen c.args.keys.now;
      sink = g.O.Sink.seen c.args.out.now;
    } in
    goes_first start c.new-reader.result c.args.session.now c.requires
    (c.new-reader.ensures.read start.source)

pub loop-key-preserved : goal.loop-key-preserved
loop-key-preserved g c =
    let start : Outside = record {
      pages = g.P.Pages.seen c.args.pages.now;
      source = g.I.Source.seen c.args.keys.now;
      sink = g.O.Sink.seen c.args.out.now;
    } in
    let now : Outside = record {
      pages = g.P.Pages.seen c.loop-key.pages;
      source = g.I.Source.seen c.loop-key.keys;
      sink = g.O.Sink.seen c.loop-key.out;
    } in
    let new : Moment = record {
      pages = g.P.Pages.seen c.play_read.new.pages;
      state = c.play_read.new.session;
      sink = g.O.Sink.seen c.play_read.new.out;
    } in
    let source = g.I.Source.seen c.next.new.source in
    goes_more start now c.loop-key.reader c.next.new.self c.args.session.now c.loop-key.session
    c.in-Ok-Key.key source new c.loop-key.invariant
    (subst (Answers now.source source c.loop-key.reader c.next.new.self)
    c.in-Ok-Key.field-0-is c.in-Ok-Key.ensures.answers)
    c.in_default-play_read.ensures

-- a key stopped it
pub returns-in-Err-play_read-clause-browses : goal.returns-in-Err-play_read-clause-browses
returns-in-Err-play_read-clause-browses g c play from began =
    let old = outside_of from (g.I.Source.seen c.args.keys.now) in
    let now : Outside = record {
      pages = g.P.Pages.seen c.loop-key.pages;
      source = g.I.Source.seen c.loop-key.keys;
      sink = g.O.Sink.seen c.loop-key.out;
    } in
    let new : Moment = record {
      pages = g.P.Pages.seen c.play_read.new.pages;
      state = c.play_read.new.session;
      sink = g.O.Sink.seen c.play_read.new.out;
    } in
    let source = g.I.Source.seen c.next.new.source in
    read_stops play old now c.loop-key.reader c.next.new.self c.loop-key.session c.in-Ok-Key.key
    source new c.in-Err-play_read.status (c.loop-key.invariant.reaches play from began)
    (subst (Answers now.source source c.loop-key.reader c.next.new.self)
    c.in-Ok-Key.field-0-is c.in-Ok-Key.ensures.answers)
    c.in-Err-play_read.ensures

pub returns-in-Err-play_read-clause-rests : goal.returns-in-Err-play_read-clause-rests
returns-in-Err-play_read-clause-rests g c play from began done =
    absurd
    (stop_undone c.in-Err-play_read.status c.in-Ok-Key.key _ _ c.in-Err-play_read.ensures done)

-- the keys came to their end
pub returns-in-Ok-Ended-clause-browses : goal.returns-in-Ok-Ended-clause-browses
returns-in-Ok-Ended-clause-browses g c play from began =
    let old = outside_of from (g.I.Source.seen c.args.keys.now) in
    let now : Outside = record {
      pages = g.P.Pages.seen c.loop-key.pages;
      source = g.I.Source.seen c.loop-key.keys;
      sink = g.O.Sink.seen c.loop-key.out;
    } in
    let source = g.I.Source.seen c.next.new.source in
    let last : Outside = record now { source = source } in
    subst (λ (status : Status). BrowsesSeen play old last status)
    (sym (c.status_of.ensures
    ∙ ap (λ (is_open : Bool). ended is_open c.in-Ok-Ended.ending) c.in_dialog.ensures.waits))
    (ended_browses play old now c.loop-key.reader c.next.new.self c.loop-key.session source
    c.in-Ok-Ended.ending (c.loop-key.invariant.reaches play from began)
    (subst (Answers now.source source c.loop-key.reader c.next.new.self)
    c.in-Ok-Ended.field-0-is c.in-Ok-Ended.ensures.answers)
    (subst (λ (next : Next). CountsFaults now.source.faults source.faults (Ok next))
    c.in-Ok-Ended.field-0-is
    (subst (CountsFaults now.source.faults source.faults) c.in-Ok-Ended.is
    c.next.ensures.faults)))

pub returns-in-Ok-Ended-clause-rests : goal.returns-in-Ok-Ended-clause-rests
returns-in-Ok-Ended-clause-rests g c play from began done =
    let old = outside_of from (g.I.Source.seen c.args.keys.now) in
    let now : Outside = record {
      pages = g.P.Pages.seen c.loop-key.pages;
      source = g.I.Source.seen c.loop-key.keys;
      sink = g.O.Sink.seen c.loop-key.out;
    } in
    let source = g.I.Source.seen c.next.new.source in
    ended_rests play old now c.loop-key.reader c.next.new.self c.loop-key.session source
    c.in-Ok-Ended.ending (c.loop-key.invariant.reaches play from began)
    (subst (Answers now.source source c.loop-key.reader c.next.new.self)
    c.in-Ok-Ended.field-0-is c.in-Ok-Ended.ensures.answers)
    (sym (c.status_of.ensures
    ∙ ap (λ (is_open : Bool). ended is_open c.in-Ok-Ended.ending) c.in_dialog.ensures.waits)
    ∙ done)

-- memory ran out as the next was read
pub returns-in-Err-clause-browses : goal.returns-in-Err-clause-browses
returns-in-Err-clause-browses g c play from began =
    let old = outside_of from (g.I.Source.seen c.args.keys.now) in
    let now : Outside = record {
      pages = g.P.Pages.seen c.loop-key.pages;
      source = g.I.Source.seen c.loop-key.keys;
      sink = g.O.Sink.seen c.loop-key.out;
    } in
    let source = g.I.Source.seen c.next.new.source in
    reader_runs_out play old now c.loop-key.reader c.loop-key.session source
    (c.loop-key.invariant.reaches play from began) c.in-Err.ensures.gives_up
    (lost_steady c.next.result _ now.source.faults source.faults c.in-Err.is
    c.next.ensures.faults)

pub returns-in-Err-clause-rests : goal.returns-in-Err-clause-rests
returns-in-Err-clause-rests g c play from began done = absurd cc

-- memory ran out before the first was read
pub returns-in_default-clause-browses : goal.returns-in_default-clause-browses
returns-in_default-clause-browses g c play from began =
    let start : Outside = record {
      pages = g.P.Pages.seen c.args.pages.now;
      source = g.I.Source.seen c.args.keys.now;
      sink = g.O.Sink.seen c.args.out.now;
    } in
    let old = outside_of from start.source in
    let goes =
    goes_first start c.new-reader.result c.args.session.now c.requires
    (c.new-reader.ensures.read start.source) in
    none_read play old start c.new-reader.result c.args.session.now
    (goes.reaches play from began)
