use Rattle.wap_world.specs.Steps.{then_task}
use Rattle.wap_world.specs.Tasks.{act}
use Rattle.wap_context.specs.Sites.{site_of}
use Rattle.wap_context.proofs.Pursuing.{acts}
use Rattle.wap_context.proofs.context.Context.act.Goals as goal

pub returns : goal.returns
returns g c =
    acts (λ pages keys world. act (site_of pages) keys world (then_task c.args.task))
    (g.P.Pages.seen c.args.pages.now) (g.P.Pages.seen c.follow.new.pages) c.args.self.now
    c.follow.new.self c.new-lines.result c.follow.result c.new-lines.ensures c.follow.ensures
