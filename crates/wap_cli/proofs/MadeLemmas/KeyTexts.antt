-- Texts that the keys have.
use Rattle.std.proofs.lemmas.Grind.{replicate_next}
use Rattle.wap_base.proofs.Plain.{chars-plain}

pub ruleset words = (chars-plain, replicate_next)
