-- What holds of something that may be known.
use Rattle.std.proofs.Common.{◌≡◌, Option, Some, None, refl, subst}
use Rattle.std.specs.Option.{IfSome}

-- it holds where it does of what is known
pub if_some : {A : Type 0} (o : Option A) (P : A → Type 0)
    → ((x : A) → o ≡ Some x → P x) → IfSome o P
if_some None P fact = tt
if_some (Some x) P fact = fact x refl

-- and of what is known
pub some_fact : {A : Type 0} (o : Option A) (P : A → Type 0) (x : A)
    → o ≡ Some x → IfSome o P → P x
some_fact o P x is fact = let Q : Option _ → Type 0 = λ o. IfSome o P in subst Q is fact
