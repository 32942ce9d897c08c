-- What an `Option` was made of.
use Rattle.std.proofs.Common.{◌≡◌, Option, Some, None, refl}
use Rattle.wap_base.specs.Options.{◌>>=◌}

-- where a chain gives something, so did its first link
pub bound : {A B : Type 0} (o : Option A) (f : A → Option B) (b : B) → (o >>= f) ≡ Some b
    → (a : A) × (o ≡ Some a) × (f a ≡ Some b)
bound None f b e = cc
bound (Some a) f b e = (a, refl, e)
