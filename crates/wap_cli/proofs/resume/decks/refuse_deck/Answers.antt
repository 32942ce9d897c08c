use Rattle.wap_cli.proofs.ResumeLemmas.Fetching.{refuses_found, refuses_missing, refuses_fault}
use Rattle.wap_cli.proofs.ResumeLemmas.Fetching.{refuses_lost}
use Rattle.wap_cli.proofs.resume.decks.refuse_deck.Goals as goal

pub returns-in-Ok-Found : goal.returns-in-Ok-Found
returns-in-Ok-Found g c =
    refuses_found c.args.name.now (g.S.Store.seen c.args.store.now)
    (g.S.Store.seen c.fetch.new.self) c.in-Ok-Found.bytes c.as_slice.result.now
    c.judge_deck.result c.as_slice.ensures (rw c.in-Ok-Found.field-0-is at c.in-Ok-Found.ensures)
    c.judge_deck.ensures

pub returns-in-Ok-Missing : goal.returns-in-Ok-Missing
returns-in-Ok-Missing g c =
    refuses_missing c.args.name.now (g.S.Store.seen c.args.store.now)
    (g.S.Store.seen c.fetch.new.self) (rw c.in-Ok-Missing.field-0-is at c.in-Ok-Missing.ensures)

pub returns-in-Err-Failed : goal.returns-in-Err-Failed
returns-in-Err-Failed g c =
    refuses_fault c.args.name.now (g.S.Store.seen c.args.store.now)
    (g.S.Store.seen c.fetch.new.self)
    (rw c.in-Err-Failed.field-0-is at c.in-Err-Failed.ensures)

pub returns-in-Err-NoMemory : goal.returns-in-Err-NoMemory
returns-in-Err-NoMemory g c =
    refuses_lost c.args.name.now (g.S.Store.seen c.args.store.now) (g.S.Store.seen c.fetch.new.self)
    (rw c.in-Err-NoMemory.field-0-is at c.in-Err-NoMemory.ensures)
