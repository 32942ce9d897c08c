use Rattle.std.proofs.Common.{◌≡◌, ◌∷◌, replicate}
use Rattle.wap_base.specs.declared.key.Key.TheVariants.{Open}
use Rattle.wap_cli.specs.made.Making.{first_url, onward}
use Rattle.wap_cli.proofs.made.keys.keys_of.Given as goal

-- the key that goes on stands so often
abbrev pub invariant-loop : goal.invariant-loop
invariant-loop l = l.keys.items ≡ Open first_url ∷ replicate l.counter onward
