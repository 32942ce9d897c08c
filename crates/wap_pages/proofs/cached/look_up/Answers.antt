use Rattle.wap_pages.proofs.Looking.{looks_up}
use Rattle.wap_pages.proofs.cached.look_up.Goals as goal

pub returns : goal.returns
returns c = λ known sound.
    looks_up known c.args.name.now c.args.fresh c.args.kept.now c.recall.new.kept c.recall.result
    c.if-fresh.false c.recall.ensures.found c.recall.ensures.first sound
