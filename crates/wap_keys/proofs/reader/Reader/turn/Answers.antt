-- A line is taken, or more is read.
use Rattle.std.proofs.Common.{refl, sym, ap, subst, ◌∙◌}
use Rattle.std.specs.Prelude.{IfOk, OnErr}
use Rattle.wap_keys.specs.KeyReaders.{Reading}
use Rattle.wap_keys.specs.inside.Taking.{TakesLine, IsOpen, Turns, Loses, turn_of}
use Rattle.wap_keys.proofs.ReaderLaws.{gives_up_by}
use Rattle.wap_keys.proofs.ReaderSteps.{line_turns}
use Rattle.wap_base.proofs.Choices.{on_err}
use Rattle.wap_keys.proofs.reader.Reader.turn.Goals as goal

pub returns-in_err-said-clause-lost : goal.returns-in_err-said-clause-lost
returns-in_err-said-clause-lost g c =
    let now = g.I.Source.seen c.args.source.now in
    on_err c.from_residual.result (Loses g.T.Says.meaning now now c.args.self.now) (record {
      gives_up = gives_up_by g.T.Says.meaning now c.args.self.now;
      steady = refl;
    })

pub returns-in-Line-clause-turns : goal.returns-in-Line-clause-turns
returns-in-Line-clause-turns g c =
    let now = g.I.Source.seen c.args.source.now in
    subst (Turns g.T.Says.meaning now now c.args.self.now c.take_line.new.self)
    (sym (c.turn_of.ensures ∙ ap (λ (r : Reading). turn_of r.number c.in-Line.said) c.self.view_is))
    (line_turns g.T.Says.meaning now c.args.self.now c.take_line.new.self c.requires c.in-Line.said
    (subst (TakesLine g.T.Says.meaning c.args.self.now c.take_line.new.self) c.in-Line.is
    c.in_ok-said.ensures))

pub read_on-requires : goal.read_on-requires
read_on-requires g c =
    let (unended, short, is) =
    subst (TakesLine g.T.Says.meaning c.args.self.now c.take_line.new.self) c.in-Begun.is
    c.in_ok-said.ensures in
    subst IsOpen (sym is) (record { goes_on = c.requires; unended = unended; short = short })

pub returns-in-Begun-clause-turns : goal.returns-in-Begun-clause-turns
returns-in-Begun-clause-turns g c =
    let (unended, short, is) =
    subst (TakesLine g.T.Says.meaning c.args.self.now c.take_line.new.self) c.in-Begun.is
    c.in_ok-said.ensures in
    subst (λ (r : Reading). IfOk c.read_on.result (Turns g.T.Says.meaning
    (g.I.Source.seen c.args.source.now) (g.I.Source.seen c.read_on.new.source) r
    c.read_on.new.self)) is c.read_on.ensures.turns

pub returns-in-Begun-clause-lost : goal.returns-in-Begun-clause-lost
returns-in-Begun-clause-lost g c =
    let (unended, short, is) =
    subst (TakesLine g.T.Says.meaning c.args.self.now c.take_line.new.self) c.in-Begun.is
    c.in_ok-said.ensures in
    subst (λ (r : Reading). OnErr c.read_on.result (Loses g.T.Says.meaning
    (g.I.Source.seen c.args.source.now) (g.I.Source.seen c.read_on.new.source) r))
    is c.read_on.ensures.lost
