-- Items that are read from the left and gathered into what they give, without a list of them.
-- This project's own.
use Rattle.std.specs.Prelude.{ℕ, zero, suc, Bool, true, false, List, [], ◌∷◌, Option, Some, None}
use Rattle.std.specs.Prelude.{Ok}
use Rattle.wap_base.specs.Outcome.{◌>>=◌}
use Rattle.wap_wbxml.specs.reading.ByteReading.{Reading, Next, told}

-- what was read, made into something else; the state stays
abbrev pub read_as : {A B S : Type 0} → (A → B) → Reading (A × S) → Reading (B × S)
read_as make read = told (λ x. (make x.0, x.1)) read

-- what items give, one by one after those before them
abbrev pub gathered : {A B : Type 0} → (B → A → B) → B → List A → B
gathered add known [] = known
gathered add known (item ∷ items) = gathered add (add known item) items

-- whether there is a next item, and what it gives after those before it
abbrev pub with_next : {A B : Type 0} → (B → A → B) → B → Option A → Bool × B
with_next add known None = (false, known)
with_next add known (Some item) = (true, add known item)

-- more items after one; after none the reading is done
abbrev pub gone_on : {B S : Type 0} → (B → S → List ℕ → Reading (B × S))
    → ((Bool × B) × S) × List ℕ → Reading (B × S)
gone_on more (((false, known), state), rest) = Ok ((known, state), rest)
gone_on more (((true, known), state), rest) = more known state rest

-- what items give that are read one after the other, but no more than so many; spent says what
-- stands after these
abbrev pub gather_at : {A B S : Type 0} → (B → A → B) → Next A S
    → (S → List ℕ → Reading (List A × S)) → ℕ → B → S → List ℕ → Reading (B × S)
gather_at add next spent zero known state bytes = read_as (gathered add known) (spent state bytes)
gather_at add next spent (suc left) known state bytes =
    read_as (with_next add known) (next state bytes) >>= gone_on (gather_at add next spent left)
