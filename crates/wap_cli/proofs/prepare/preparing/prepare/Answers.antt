use Rattle.std.proofs.Common.{ℕ, List, Vec, Ok, Err, subst, ◌∙◌}
use Rattle.std.specs.declared.alloc.Global.{Global}
use Rattle.wap_cli.specs.prepare.Reports.{Entry, AreEntries, report}
use Rattle.wap_cli.specs.prepare.Preparing.{Reports}
use Rattle.wap_devices.specs.declared.store.StoreErr.TheVariants.{Failed, NoMemory}
use Rattle.wap_cli.specs.Writing.{PutsTo}
use Rattle.wap_cli.proofs.PrepareLemmas.Asking.{asks_over}
use Rattle.wap_cli.proofs.PrepareLemmas.Entries.{are_entries}
use Rattle.wap_cli.proofs.PrepareLemmas.Ending.{list_fails, list_no_memory, page_fails, no_memory}
use Rattle.wap_cli.proofs.PrepareLemmas.Ending.{ended}
use Rattle.wap_cli.proofs.prepare.preparing.prepare.Goals as goal

pub returns-in-Ok-judge_all : goal.returns-in-Ok-judge_all
returns-in-Ok-judge_all g c =
    let listed = g.S.Store.seen c.list.new.self in
    let after = g.S.Store.seen c.judge_all.new.store in
    let names = c.in-Ok.names in
    let entries : List Entry = c.in-Ok-judge_all.entries.items in
    let sink = g.O.Sink.seen c.args.out.now in
    let sink_after = g.O.Sink.seen c.write_report.new.out in
    let store = g.S.Store.seen c.args.store.now in
    let asks = asks_over c.deref.result.now names.items listed after
    (Ok c.in-Ok-judge_all.entries) c.deref.ensures.value c.in-Ok-judge_all.ensures.asks in
    let right : AreEntries after.known entries =
    are_entries (λ (names : Vec (List ℕ) Global). names.items) store listed names entries
    after.known c.in-Ok.ensures asks.known
    (c.in-Ok-judge_all.ensures.names ∙ c.deref.ensures.value) c.in-Ok-judge_all.ensures.right in
    ended (λ Wrote. Reports Wrote after.known) (λ (names : Vec (List ℕ) Global). names.items)
    store listed after sink sink_after names c.in-Ok.ensures (report entries)
    (λ Wrote wrote. record { entries = entries; right = right; wrote = wrote })
    c.in-Ok-judge_all.entries asks c.write_report.result
    (subst (λ (l : List Entry). PutsTo (report l) sink sink_after c.write_report.result)
    c.deref-in-Ok-judge_all.ensures.value c.write_report.ensures)

pub returns-in-Err-Failed-judge_all : goal.returns-in-Err-Failed-judge_all
returns-in-Err-Failed-judge_all g c =
    let listed = g.S.Store.seen c.list.new.self in
    let after = g.S.Store.seen c.judge_all.new.store in
    page_fails (λ Wrote. Reports Wrote after.known)
    (λ (names : Vec (List ℕ) Global). names.items) (g.S.Store.seen c.args.store.now) listed after
    (g.O.Sink.seen c.args.out.now) (g.O.Sink.seen c.args.out.now) c.in-Ok.names
    c.in-Ok.ensures
    (asks_over c.deref.result.now c.in-Ok.names.items listed after (Err Failed)
    c.deref.ensures.value
    (rw c.in-Err-Failed-judge_all.field-0-is at c.in-Err-Failed-judge_all.ensures.asks))

pub returns : goal.returns
returns g c =
    let listed = g.S.Store.seen c.list.new.self in
    let after = g.S.Store.seen c.judge_all.new.store in
    no_memory (λ Wrote. Reports Wrote after.known)
    (λ (names : Vec (List ℕ) Global). names.items) (g.S.Store.seen c.args.store.now) listed after
    (g.O.Sink.seen c.args.out.now) (g.O.Sink.seen c.args.out.now) c.in-Ok.names
    c.in-Ok.ensures
    (asks_over c.deref.result.now c.in-Ok.names.items listed after (Err NoMemory)
    c.deref.ensures.value
    (rw c.in-Err-NoMemory-judge_all.field-0-is at c.in-Err-NoMemory-judge_all.ensures.asks))

pub returns-in-Err-Failed : goal.returns-in-Err-Failed
returns-in-Err-Failed g c =
    let listed = g.S.Store.seen c.list.new.self in
    list_fails (λ Wrote. Reports Wrote listed.known) (λ (names : Vec (List ℕ) Global). names.items)
    (g.S.Store.seen c.args.store.now) listed listed (g.O.Sink.seen c.args.out.now)
    (g.O.Sink.seen c.args.out.now) (rw c.in-Err-Failed.field-0-is at c.in-Err-Failed.ensures)

pub returns-in-Err-NoMemory : goal.returns-in-Err-NoMemory
returns-in-Err-NoMemory g c =
    let listed = g.S.Store.seen c.list.new.self in
    list_no_memory (λ Wrote. Reports Wrote listed.known)
    (λ (names : Vec (List ℕ) Global). names.items) (g.S.Store.seen c.args.store.now) listed listed
    (g.O.Sink.seen c.args.out.now) (g.O.Sink.seen c.args.out.now)
    (rw c.in-Err-NoMemory.field-0-is at c.in-Err-NoMemory.ensures)
