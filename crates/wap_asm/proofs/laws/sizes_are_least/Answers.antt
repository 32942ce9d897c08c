use Rattle.wap_asm.proofs.Settling.{settled_fixed, never_less, settled_least}
use Rattle.wap_asm.proofs.PlacedLaws.{no_longer}
use Rattle.wap_asm.proofs.laws.sizes_are_least.Goals as goal

pub returns : goal.returns
returns c =
    record { stay = settled_fixed; rise = never_less; least = settled_least; short = no_longer }
