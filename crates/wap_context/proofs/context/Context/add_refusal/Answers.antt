use Rattle.wap_world.specs.Lines.{refusal_line}
use Rattle.wap_world.specs.Screens.{show}
use Rattle.wap_context.proofs.Plays.{on_ok, plays_behind}
use Rattle.wap_context.proofs.context.Context.add_refusal.Goals as goal

pub returns : goal.returns
returns c =
    on_ok c.add_show.result
    (plays_behind (refusal_line c.args.refusal) show c.args.self.now c.add_show.new.self
    c.args.lines.now c.add_refusal.new.lines c.add_show.new.lines c.in_ok-add_refusal.ensures.ok)
    c.add_show.ensures.plays
