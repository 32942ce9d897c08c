use Rattle.std.proofs.Common.{List, Vec, Ok, subst}
use Rattle.std.specs.declared.alloc.Global.{Global}
use Rattle.wap_base.specs.declared.key.Key.{Key}
use Rattle.wap_keys.specs.declared.ending.Ending.{Ending}
use Rattle.wap_keys.specs.lists.Read.{ReadsLists}
use Rattle.wap_cli.specs.browse.Beginning.{begun_with}
use Rattle.wap_cli.specs.Devices.{Devices}
use Rattle.wap_cli.proofs.ReplayLemmas.Ending.{wants, stops_at, stops_past, stops_short, worked}
use Rattle.wap_cli.proofs.replay.replaying.replay.Goals as goal

-- the lists in what was read
abbrev lists_in : Vec (List Key) Global → List (List Key)
lists_in lists = lists.items

pub returns-in-Err : goal.returns-in-Err
returns-in-Err g c =
    wants lists_in (begun_with c.args.begun) (g.I.Source.seen c.args.keys.now)
    (g.I.Source.seen c.read_lists.new.source) (g.S.Store.seen c.args.store.now)
    (g.O.Sink.seen c.args.out.now) c.in-Err.field-0 c.in-Err.ensures

pub returns-in-End : goal.returns-in-End
returns-in-End g c =
    let old : Devices = record {
      store = g.S.Store.seen c.args.store.now;
      source = g.I.Source.seen c.args.keys.now;
      sink = g.O.Sink.seen c.args.out.now;
    } in
    let new : Devices = record {
      store = g.S.Store.seen c.replay_lists.new.store;
      source = g.I.Source.seen c.read_lists.new.source;
      sink = g.O.Sink.seen c.replay_lists.new.out;
    } in
    let read = c.in-Ok.read in
    worked lists_in (begun_with c.args.begun) read.0 old new c.replay_lists.result
    (subst (λ (e : Ending). ReadsLists lists_in old.source new.source (Ok (read.0, e)))
    c.in-End.is c.in-Ok.ensures)
    c.replay_lists.ensures

pub returns-in-BadKey : goal.returns-in-BadKey
returns-in-BadKey g c =
    let source = g.I.Source.seen c.args.keys.now in
    let last = g.I.Source.seen c.read_lists.new.source in
    let read = c.in-Ok.read in
    stops_at lists_in (begun_with c.args.begun) source last (g.S.Store.seen c.args.store.now)
    (g.O.Sink.seen c.args.out.now) read.0 c.in-BadKey.line c.in-BadKey.fault
    (subst (λ (e : Ending). ReadsLists lists_in source last (Ok (read.0, e))) c.in-BadKey.is
    c.in-Ok.ensures)

pub returns-in-TooManyKeys : goal.returns-in-TooManyKeys
returns-in-TooManyKeys g c =
    let source = g.I.Source.seen c.args.keys.now in
    let last = g.I.Source.seen c.read_lists.new.source in
    let read = c.in-Ok.read in
    stops_past lists_in (begun_with c.args.begun) source last (g.S.Store.seen c.args.store.now)
    (g.O.Sink.seen c.args.out.now) read.0
    (subst (λ (e : Ending). ReadsLists lists_in source last (Ok (read.0, e))) c.in-TooManyKeys.is
    c.in-Ok.ensures)

pub returns-in-ReadFault : goal.returns-in-ReadFault
returns-in-ReadFault g c =
    let source = g.I.Source.seen c.args.keys.now in
    let last = g.I.Source.seen c.read_lists.new.source in
    let read = c.in-Ok.read in
    stops_short lists_in (begun_with c.args.begun) source last (g.S.Store.seen c.args.store.now)
    (g.O.Sink.seen c.args.out.now) read.0
    (subst (λ (e : Ending). ReadsLists lists_in source last (Ok (read.0, e))) c.in-ReadFault.is
    c.in-Ok.ensures)
