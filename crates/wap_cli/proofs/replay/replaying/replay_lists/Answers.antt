use Rattle.std.proofs.Common.{ℕ, List, Vec, Ok, Err}
use Rattle.std.specs.declared.alloc.Global.{Global}
use Rattle.wap_devices.specs.declared.store.StoreErr.TheVariants.{Failed, NoMemory}
use Rattle.wap_cli.proofs.PrepareLemmas.Asking.{asks_over}
use Rattle.wap_cli.proofs.PrepareLemmas.Ending.{list_fails, list_no_memory, page_fails, no_memory}
use Rattle.wap_cli.proofs.PrepareLemmas.Ending.{ended}
use Rattle.wap_world.specs.scripting.UnitSites.{unit_pages}
use Rattle.wap_cli.specs.browse.Beginning.{begun_with}
use Rattle.wap_cli.specs.Networks.{network_of}
use Rattle.wap_cli.specs.replay.Texts.{replayed}
use Rattle.wap_cli.specs.replay.inside.Jobs.{TellsOf}
use Rattle.wap_cli.proofs.ReplayLemmas.Named.{tells_named}
use Rattle.wap_cli.proofs.replay.replaying.replay_lists.Goals as goal

pub returns-in-Ok-prepare_pages : goal.returns-in-Ok-prepare_pages
returns-in-Ok-prepare_pages g c =
    let store = g.S.Store.seen c.args.store.now in
    let listed = g.S.Store.seen c.list.new.self in
    let after = g.S.Store.seen c.prepare_pages.new.store in
    let names = c.in-Ok.names in
    let begun = begun_with c.args.begun in
    let pages = c.in-Ok-prepare_pages.pages in
    let asks = asks_over c.deref.result.now names.items listed after
    (Ok c.in-Ok-prepare_pages.pages) c.deref.ensures.value c.in-Ok-prepare_pages.ensures.asks in
    ended (TellsOf begun c.args.lists.items after.known)
    (λ (names : Vec (List ℕ) Global). names.items) store listed after
    (g.O.Sink.seen c.args.out.now) (g.O.Sink.seen c.play_all.new.out) names c.in-Ok.ensures
    (replayed (network_of (unit_pages pages)) begun c.args.lists.items)
    (tells_named c.pages_are_judged.ensures.found listed.known after.known names.items
    c.deref.result.now pages begun c.args.lists.items c.in-Ok.ensures.ascending
    c.in-Ok.ensures.names asks.known c.deref.ensures.value c.in-Ok-prepare_pages.ensures.pages)
    c.in-Ok-prepare_pages.pages asks c.play_all.result c.play_all.ensures

pub returns-in-Err-Failed-prepare_pages : goal.returns-in-Err-Failed-prepare_pages
returns-in-Err-Failed-prepare_pages g c =
    let listed = g.S.Store.seen c.list.new.self in
    let after = g.S.Store.seen c.prepare_pages.new.store in
    page_fails
    (TellsOf (begun_with c.args.begun) c.args.lists.items after.known)
    (λ (names : Vec (List ℕ) Global). names.items) (g.S.Store.seen c.args.store.now) listed after
    (g.O.Sink.seen c.args.out.now) (g.O.Sink.seen c.args.out.now) c.in-Ok.names c.in-Ok.ensures
    (asks_over c.deref.result.now c.in-Ok.names.items listed after (Err Failed)
    c.deref.ensures.value
    (rw c.in-Err-Failed-prepare_pages.field-0-is at c.in-Err-Failed-prepare_pages.ensures.asks))

pub returns : goal.returns
returns g c =
    let listed = g.S.Store.seen c.list.new.self in
    let after = g.S.Store.seen c.prepare_pages.new.store in
    no_memory
    (TellsOf (begun_with c.args.begun) c.args.lists.items after.known)
    (λ (names : Vec (List ℕ) Global). names.items) (g.S.Store.seen c.args.store.now) listed after
    (g.O.Sink.seen c.args.out.now) (g.O.Sink.seen c.args.out.now) c.in-Ok.names c.in-Ok.ensures
    (asks_over c.deref.result.now c.in-Ok.names.items listed after (Err NoMemory)
    c.deref.ensures.value
    (rw c.in-Err-NoMemory-prepare_pages.field-0-is
    at c.in-Err-NoMemory-prepare_pages.ensures.asks))

pub returns-in-Err-Failed : goal.returns-in-Err-Failed
returns-in-Err-Failed g c =
    let listed = g.S.Store.seen c.list.new.self in
    list_fails (TellsOf (begun_with c.args.begun) c.args.lists.items listed.known)
    (λ (names : Vec (List ℕ) Global). names.items) (g.S.Store.seen c.args.store.now) listed listed
    (g.O.Sink.seen c.args.out.now) (g.O.Sink.seen c.args.out.now)
    (rw c.in-Err-Failed.field-0-is at c.in-Err-Failed.ensures)

pub returns-in-Err-NoMemory : goal.returns-in-Err-NoMemory
returns-in-Err-NoMemory g c =
    let listed = g.S.Store.seen c.list.new.self in
    list_no_memory (TellsOf (begun_with c.args.begun) c.args.lists.items listed.known)
    (λ (names : Vec (List ℕ) Global). names.items) (g.S.Store.seen c.args.store.now) listed listed
    (g.O.Sink.seen c.args.out.now) (g.O.Sink.seen c.args.out.now)
    (rw c.in-Err-NoMemory.field-0-is at c.in-Err-NoMemory.ensures)
