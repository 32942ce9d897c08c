-- How often a source failed, by what a call of a reader answers.
use Rattle.std.proofs.Common.{◌≡◌, ℕ, ◌≤◌, Result, Ok, Err, subst, arith}
use Rattle.wap_base.specs.declared.fault.NoMemory.{NoMemory}
use Rattle.wap_keys.specs.declared.ending.Ending.{Ending}
use Rattle.wap_keys.specs.declared.ending.Ending.TheVariants.{ReadFault}
use Rattle.wap_keys.specs.declared.ending.Next.{Next}
use Rattle.wap_keys.specs.declared.ending.Next.TheVariants as next
use Rattle.wap_keys.specs.KeyReaders.{CountsFaults}

-- it didn't where memory ran out
pub lost_steady : (result : Result Next NoMemory) (lost : NoMemory) (before after : ℕ)
    → result ≡ Err lost → CountsFaults before after result → after ≡ before
lost_steady result lost before after is counts = subst (CountsFaults before after) is counts

-- and the count never falls
pub ended_counts : (ending : Ending) (before after : ℕ)
    → CountsFaults before after (Ok (next.Ended ending)) → before ≤ after
ended_counts ReadFault before after counts = omega (arith, counts)
ended_counts _ before after counts = omega (arith, counts)
