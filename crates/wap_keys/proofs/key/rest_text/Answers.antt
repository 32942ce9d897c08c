use Rattle.std.proofs.Common.{ℕ, List, Bor, Option, ap, refl}
use Rattle.std.specs.Option.{option_map}
use Rattle.wap_keys.proofs.key.rest_text.Goals as goal

pub returns-in-Err : goal.returns-in-Err
returns-in-Err c = (
  refl,
  (
    c.in-Some.bytes.now,
    ap (λ (rest : Option (Bor (List ℕ))). option_map (λ rest. rest.now) rest) c.in-Some.is,
    c.in-Err.ensures.cases.0,
  ),
)
