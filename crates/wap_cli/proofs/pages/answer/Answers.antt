use Rattle.wap_cli.proofs.Serving.{serves_page, serves_fault, serves_no_memory}
use Rattle.wap_cli.proofs.pages.answer.Goals as goal

pub returns-in-Ok : goal.returns-in-Ok
returns-in-Ok g c =
    serves_page c.args.command c.args.name.now (g.S.Store.seen c.args.store.now)
    (g.S.Store.seen c.fetch.new.self) (g.O.Sink.seen c.args.out.now)
    (g.O.Sink.seen c.answer_page.new.out) c.in-Ok.page c.answer_page.result c.in-Ok.ensures
    c.answer_page.ensures

pub returns-in-Err-Failed : goal.returns-in-Err-Failed
returns-in-Err-Failed g c =
    serves_fault c.args.command c.args.name.now (g.S.Store.seen c.args.store.now)
    (g.S.Store.seen c.fetch.new.self) (g.O.Sink.seen c.args.out.now)
    (g.O.Sink.seen c.args.out.now) (rw c.in-Err-Failed.field-0-is at c.in-Err-Failed.ensures)

pub returns-in-Err-NoMemory : goal.returns-in-Err-NoMemory
returns-in-Err-NoMemory g c =
    serves_no_memory c.args.command c.args.name.now (g.S.Store.seen c.args.store.now)
    (g.S.Store.seen c.fetch.new.self) (g.O.Sink.seen c.args.out.now)
    (g.O.Sink.seen c.args.out.now) (rw c.in-Err-NoMemory.field-0-is at c.in-Err-NoMemory.ensures)
