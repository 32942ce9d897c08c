use Rattle.std.proofs.Common.{arith}
use Rattle.std.specs.Str.{chars}
use Rattle.wap_layout.proofs.Placing.{begun-cut, begun-word}
use Rattle.wap_layout.proofs.fill.begin_word.Goals as goal

pub returns-clause-added : goal.returns-clause-added
returns-clause-added c = λ more.
    begun-cut c.args.frame.width c.args.lines.now (chars c.args.word.now) more _
    (omega (arith, c.requires.needed, c.if-needed-eq0.false)) (c.in_ok-line.ensures more)

pub returns-then-needed-frame-clause-added : goal.returns-then-needed-frame-clause-added
returns-then-needed-frame-clause-added c = λ more.
    begun-word c.args.frame.width c.args.lines.now (chars c.args.word.now) c.in_ok-begun.begun more
    (omega (arith, c.requires.needed, c.if-needed-eq0.false))
    (omega (arith, c.requires.needed, c.if-needed-frame.true)) c.in_ok-begun.ensures
