-- More is read after a line that is begun: what it comes to is a lemma of ReaderSteps.
use Rattle.std.proofs.Common.{[], ap, subst, ◌∙◌}
use Rattle.wap_keys.specs.KeyReaders.{Reading}
use Rattle.wap_keys.specs.inside.Taking.{ReadsMore, Loses}
use Rattle.wap_keys.proofs.ReaderLaws.{lost}
use Rattle.wap_keys.proofs.ReaderSteps.{piece_goes, past_steps, fault_steps, end_turns}
use Rattle.wap_keys.proofs.ReaderSteps.{end_gives_up}
use Rattle.wap_base.proofs.Choices.{on_err}
use Rattle.wap_keys.proofs.reader.Reader.read_on.Goals as goal

pub returns-in_err-read_more-clause-lost : goal.returns-in_err-read_more-clause-lost
returns-in_err-read_more-clause-lost g c =
    let now = g.I.Source.seen c.args.source.now in
    let last = g.I.Source.seen c.read_more.new.source in
    on_err c.from_residual.result (Loses g.T.Says.meaning now last c.args.self.now) (record {
      gives_up =
          lost g.T.Says.meaning now last c.args.self.now c.requires c.in_err-read_more.ensures.lost;
      steady = c.in_err-read_more.ensures.lost.steady;
    })

pub returns-in-Piece-clause-turns : goal.returns-in-Piece-clause-turns
returns-in-Piece-clause-turns g c =
    piece_goes c.requires c.read_more.new.self
    (subst (ReadsMore (g.I.Source.seen c.args.source.now) (g.I.Source.seen c.read_more.new.source)
    c.args.self.now c.read_more.new.self) c.in-Piece.is c.in_ok-read_more.ensures.more)

pub returns-in-Past-clause-turns : goal.returns-in-Past-clause-turns
returns-in-Past-clause-turns g c =
    past_steps c.requires c.read_more.new.self
    (subst (ReadsMore (g.I.Source.seen c.args.source.now) (g.I.Source.seen c.read_more.new.source)
    c.args.self.now c.read_more.new.self) c.in-Past.is c.in_ok-read_more.ensures.more)

pub returns-in-Failed-clause-turns : goal.returns-in-Failed-clause-turns
returns-in-Failed-clause-turns g c =
    fault_steps c.requires c.read_more.new.self
    (subst (ReadsMore (g.I.Source.seen c.args.source.now) (g.I.Source.seen c.read_more.new.source)
    c.args.self.now c.read_more.new.self) c.in-Failed.is c.in_ok-read_more.ensures.more)

pub returns-in_ok-finish-in-AtEnd-clause-turns : goal.returns-in_ok-finish-in-AtEnd-clause-turns
returns-in_ok-finish-in-AtEnd-clause-turns g c =
    let reads = subst (ReadsMore (g.I.Source.seen c.args.source.now)
    (g.I.Source.seen c.read_more.new.source) c.args.self.now c.read_more.new.self)
    c.in-AtEnd.is c.in_ok-read_more.ensures.more in
    end_turns c.requires c.read_more.new.self reads g.met.T.Says.empty c.finish.new.self
    (c.in_ok-finish-in-AtEnd.ensures.rest
    ∙ ap (λ (r : Reading). record r { unread = [] }) reads.reader)
    c.in_ok-finish-in-AtEnd.field-0 c.in_ok-finish-in-AtEnd.ensures.said
    c.in_ok-finish-in-AtEnd.ensures.known

pub returns-in_err-finish-in-AtEnd-clause-lost : goal.returns-in_err-finish-in-AtEnd-clause-lost
returns-in_err-finish-in-AtEnd-clause-lost g c =
    let now = g.I.Source.seen c.args.source.now in
    let last = g.I.Source.seen c.read_more.new.source in
    let reads = subst (ReadsMore now last c.args.self.now c.read_more.new.self)
    c.in-AtEnd.is c.in_ok-read_more.ensures.more in
    on_err c.from_residual-in_err-finish-in-AtEnd.result
    (Loses g.T.Says.meaning now last c.args.self.now) (record {
      gives_up = end_gives_up c.requires c.read_more.new.self reads;
      steady = reads.steady;
    })
