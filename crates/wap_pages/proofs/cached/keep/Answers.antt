use Rattle.wap_pages.proofs.Looking.{keeps}
use Rattle.wap_pages.proofs.cached.keep.Goals as goal

pub returns : goal.returns
returns c = λ known sound right.
    keeps known c.args.name.now c.in_ok-name.name c.args.page.now c.in_ok-page.page
    c.args.kept.now c.put.new.self
    c.in_ok-name.ensures c.in_ok-page.ensures c.in_ok-put.ensures.entries sound right
