use Rattle.std.proofs.Common.{rules, refl}
use Rattle.wap_cli.proofs.ResumeLemmas.Over.{lost_over, missing_over, refused_over, context_over}
use Rattle.wap_cli.proofs.ResumeLemmas.Over.{fault_over, wants_over}
use Rattle.wap_cli.proofs.resume.resuming.go_on.Goals as goal

pub returns-in-Err : goal.returns-in-Err
returns-in-Err g c =
    lost_over g.S.Store.seen c.args.saved c.args.store c.args.store c.args.cache
    (g.I.Source.seen c.args.keys.now) (g.O.Sink.seen c.args.out.now) refl

pub returns-in-Err-new : goal.returns-in-Err-new
returns-in-Err-new g c =
    lost_over g.S.Store.seen c.args.saved c.args.store c.in-Err-new.store c.args.cache
    (g.I.Source.seen c.args.keys.now) (g.O.Sink.seen c.args.out.now) c.in-Err-new.ensures.back

pub returns-in-Ok-Context : goal.returns-in-Ok-Context
returns-in-Ok-Context g c =
    let pages = c.in-Ok-new.pages in
    let played = c.play_keys-status in
    context_over g.S.Store.seen c.args.saved pages c.args.store c.args.cache
    (g.I.Source.seen c.args.keys.now) (g.O.Sink.seen c.args.out.now) c.in-Ok-new.ensures.store
    c.in-Ok-new.ensures.kept c.in-Ok-new.ensures.capacity c.in-Ok-Context.context
    c.revive.new.pages played.new.pages c.into_store.result c.of-session.result
    (g.I.Source.seen played.new.keys) (g.O.Sink.seen played.new.out) played.result
    c.into_store.ensures
    (rw c.in-Ok-Context.field-0-is at c.in-Ok-Context.ensures)
    c.of-session.ensures
    played.ensures.browses

pub returns-in-Ok-Missing : goal.returns-in-Ok-Missing
returns-in-Ok-Missing g c =
    let pages = c.in-Ok-new.pages in
    missing_over g.S.Store.seen c.args.saved pages c.args.store c.args.cache
    (g.I.Source.seen c.args.keys.now) (g.O.Sink.seen c.args.out.now) c.in-Ok-new.ensures.store
    c.in-Ok-new.ensures.kept c.in-Ok-new.ensures.capacity c.revive.new.pages
    c.into_store-in-Ok-Missing.result c.into_store-in-Ok-Missing.ensures
    (rw c.in-Ok-Missing.field-0-is at c.in-Ok-Missing.ensures)

pub returns-in-Ok-Refused : goal.returns-in-Ok-Refused
returns-in-Ok-Refused g c =
    let pages = c.in-Ok-new.pages in
    refused_over g.S.Store.seen c.args.saved pages c.args.store c.args.cache
    (g.I.Source.seen c.args.keys.now) (g.O.Sink.seen c.args.out.now) c.in-Ok-new.ensures.store
    c.in-Ok-new.ensures.kept c.in-Ok-new.ensures.capacity c.revive.new.pages
    c.into_store-store.result
    c.refuse_deck-status.new.store c.in-Some.name c.refuse_deck-status.result
    c.into_store-store.ensures
    (rw c.in-Ok-Refused.field-0-is at c.in-Ok-Refused.ensures)
    (search rules) c.refuse_deck-status.ensures

pub returns-in-Err-Store : goal.returns-in-Err-Store
returns-in-Err-Store g c =
    let pages = c.in-Ok-new.pages in
    fault_over g.S.Store.seen c.args.saved pages c.args.store c.args.cache
    (g.I.Source.seen c.args.keys.now) (g.O.Sink.seen c.args.out.now) c.in-Ok-new.ensures.store
    c.in-Ok-new.ensures.kept c.in-Ok-new.ensures.capacity c.revive.new.pages
    c.into_store-in-Err-Store.result c.into_store-in-Err-Store.ensures
    (rw c.in-Err-Store.field-0-is at c.in-Err-Store.ensures)

pub returns : goal.returns
returns g c =
    let pages = c.in-Ok-new.pages in
    wants_over g.S.Store.seen c.args.saved pages c.args.store c.args.cache
    (g.I.Source.seen c.args.keys.now) (g.O.Sink.seen c.args.out.now) c.in-Ok-new.ensures.store
    c.in-Ok-new.ensures.kept c.in-Ok-new.ensures.capacity c.revive.new.pages
    c.into_store-in-Err-NoMemory.result c.into_store-in-Err-NoMemory.ensures
    (rw c.in-Err-NoMemory.field-0-is at c.in-Err-NoMemory.ensures)
