-- What was read of key lines.
use Rattle.std.proofs.lemmas.Result.{IfOk-weaker}
use Rattle.wap_keys.proofs.WholeLaws.{known_of, before_of}
use Rattle.wap_keys.proofs.reading.read_keys.Goals as goal

pub returns-clause-known : goal.returns-clause-known
returns-clause-known g c =
    IfOk-weaker c.read_all.result _ _ (λ read (taken, so). known_of _ _ taken _ _ so)
    c.read_all.ensures.read

pub returns-clause-before : goal.returns-clause-before
returns-clause-before g c =
    IfOk-weaker c.read_all.result _ _ (λ read (taken, so). before_of _ _ taken _ _ so)
    c.read_all.ensures.read

pub returns-clause-first : goal.returns-clause-first
returns-clause-first g c =
    IfOk-weaker c.read_all.result _ _ (λ read (taken, so). so.given.of_all) c.read_all.ensures.read
