-- What a call that may run out of memory has to do with a reading that never does. This project's
-- own.
use Rattle.std.specs.Prelude.{◌≡◌, ◌≢◌, Result, Ok, Err}

-- a reading goes on where it gave a value, and keeps its first fault
infixl 10 ◌>>=◌
abbrev pub ◌>>=◌ : {A B E : Type 0} → Result A E → (A → Result B E) → Result B E
(Ok x) >>= next = next x
(Err fault) >>= next = Err fault

-- what a call answered, seen by view, is what the reading gives, unless the answer is this fault,
-- out of memory
abbrev pub Meets : {X Y E : Type 0} → E → (X → Y) → Result X E → Result Y E → Type 0
Meets want view (Ok x) reading = reading ≡ Ok (view x)
Meets want view (Err fault) reading = fault ≢ want → reading ≡ Err fault
