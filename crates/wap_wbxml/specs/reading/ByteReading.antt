-- Reading bytes from the left: what they begin with, and what follows it. This project's own.
use Rattle.std.specs.Prelude.{ℕ, zero, suc, List, [], ◌∷◌, length, Option, Some, None, Result, Ok}
use Rattle.wap_base.specs.Outcome.{◌>>=◌}
use Rattle.wap_wbxml.specs.declared.fault.DocFault.{DocFault}

-- a value and the bytes after it, or the first fault
abbrev pub Reading : Type 0 → Type 0
Reading A = Result (A × List ℕ) DocFault

-- what was read, made into something else
abbrev pub told : {A B : Type 0} → (A → B) → Reading A → Reading B
told make read = read >>= λ x. Ok (make x.0, x.1)

-- the next item of a list and the state after it, or none
abbrev pub Next : Type 0 → Type 0 → Type 0
Next A S = S → List ℕ → Reading (Option A × S)

-- an item that there is, and the state after it
abbrev pub some : {A S : Type 0} → A × S → Option A × S
some x = (Some x.0, x.1)

-- one item, and those that more reads after it; or none
abbrev pub chained : {A S : Type 0} → (S → List ℕ → Reading (List A × S)) → (Option A × S) × List ℕ
    → Reading (List A × S)
chained more ((None, state), rest) = Ok (([], state), rest)
chained more ((Some item, state), rest) =
    told (λ others. (item ∷ others.0, others.1)) (more state rest)

-- items one after the other, as long as there is a next one, but no more than so many; spent says
-- what stands after these
abbrev pub run_at : {A S : Type 0} → Next A S → (S → List ℕ → Reading (List A × S)) → ℕ → S → List ℕ
    → Reading (List A × S)
run_at next spent zero state bytes = spent state bytes
run_at next spent (suc left) state bytes = next state bytes >>= chained (run_at next spent left)

-- items one after the other, as many as there can be in the bytes
unfoldable pub all_by : {A S : Type 0} → Next A S → (S → List ℕ → Reading (List A × S)) → S → List ℕ
    → Reading (List A × S)
all_by next spent state bytes = run_at next spent (length bytes) state bytes
