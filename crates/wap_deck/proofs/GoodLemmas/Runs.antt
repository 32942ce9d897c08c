-- Readers that take bytes, and runs of them.
use Rattle.std.proofs.Common.{◌≡◌, ℕ, zero, suc, ◌<◌, ◌≤◌, List, [], ◌∷◌, length, Option}
use Rattle.std.proofs.Common.{Some, None, refl, sym, ap, subst, ◌∙◌, arith}
use Rattle.wap_deck.specs.good.Readers.{Reader, ◌>>=◌, rest_of, after, run_step, run_at, all_of}
use Rattle.wap_deck.specs.good.Readers.{closed}
use Rattle.wap_tokens.specs.declared.markup.codes.TheConstants.{END}

-- what holds of a value, where there is one
abbrev pub Each : {A : Type 0} → (A → Type 0) → Option A → Type 0
Each P (Some x) = P x
Each P None = Unit {0}

pub each_bind : {A B : Type 0} (P : A → Type 0) (Q : B → Type 0) (read : Option A)
    (next : A → Option B) → Each P read → ((x : A) → P x → Each Q (next x)) → Each Q (read >>= next)
each_bind P Q (Some x) next first more = more x first
each_bind P Q None next first more = tt

-- fewer bytes are left
abbrev pub Fewer : {A : Type 0} → ℕ → A × List ℕ → Type 0
Fewer n x = length x.1 < n

-- each value takes a byte or more
pub record Takes {A : Type 0} (next : Reader A) : Type 0 where
  pub each : (bytes : List ℕ) → Each (Fewer (length bytes)) (next bytes)

module _ {A : Type 0} (next : Reader A) (takes : Takes next) where
  pub fewer : (bytes : List ℕ) (a : A) (rest : List ℕ) → next bytes ≡ Some (a, rest)
      → length rest < length bytes
  fewer bytes a rest e =
      let P : Option (A × List ℕ) → Type 0 = Each (Fewer (length bytes)) in
      subst P e (takes.each bytes)

  same_step : (f g : ℕ) (bytes : List ℕ) (o : Option (A × List ℕ)) → next bytes ≡ o
      → ((rest : List ℕ) → length rest < length bytes → run_at next f rest ≡ run_at next g rest)
      → run_step (run_at next f) bytes o ≡ run_step (run_at next g) bytes o
  same_step f g bytes None e more = refl
  same_step f g bytes (Some read) e more =
      ap (λ (r : List A × List ℕ). (read.0 ∷ r.0, r.1)) (more read.1 (fewer bytes read.0 read.1 e))

  none_left : (g : ℕ) (bytes : List ℕ) (o : Option (A × List ℕ)) → next bytes ≡ o → length bytes ≤ 0
      → ([], bytes) ≡ run_step (run_at next g) bytes o
  none_left g bytes None e none = refl
  none_left g bytes (Some read) e none =
      let less = fewer bytes read.0 read.1 e in
      absurd (omega arith)

  -- turns that suffice are as good as any more
  pub enough : (f g : ℕ) (bytes : List ℕ) → length bytes ≤ f → length bytes ≤ g
      → run_at next f bytes ≡ run_at next g bytes
  enough zero zero bytes hf hg = refl
  enough zero (suc g) bytes hf hg = none_left g bytes (next bytes) refl hf
  enough (suc f) zero bytes hf hg = sym (none_left f bytes (next bytes) refl hg)
  enough (suc f) (suc g) bytes hf hg =
      same_step f g bytes (next bytes) refl
      (λ rest less. enough f g rest (omega arith) (omega arith))

  run_on : (n : ℕ) (bytes : List ℕ) (a : A) (rest : List ℕ) → next bytes ≡ Some (a, rest)
      → length bytes ≡ n → run_at next n bytes ≡ (a ∷ (all_of next rest).0, (all_of next rest).1)
  unfolding all_of
  run_on zero bytes a rest e len = let less = fewer bytes a rest e in absurd (omega arith)
  run_on (suc n) bytes a rest e len =
      let less = fewer bytes a rest e in
      ap (run_step (run_at next n) bytes) e ∙ ap (λ (r : List A × List ℕ). (a ∷ r.0, r.1))
      (enough n (length rest) rest (omega arith) (omega arith))

  pub all_on : (bytes : List ℕ) (a : A) (rest : List ℕ) → next bytes ≡ Some (a, rest)
      → all_of next bytes ≡ (a ∷ (all_of next rest).0, (all_of next rest).1)
  unfolding all_of
  all_on bytes a rest e = run_on (length bytes) bytes a rest e refl

  step_left : (n : ℕ) (bytes : List ℕ) (o : Option (A × List ℕ)) → next bytes ≡ o
      → ((rest : List ℕ) → length (run_at next n rest).1 ≤ length rest)
      → length (run_step (run_at next n) bytes o).1 ≤ length bytes
  step_left n bytes None e more = omega arith
  step_left n bytes (Some read) e more =
      let less = fewer bytes read.0 read.1 e in
      let behind = more read.1 in
      omega arith

  run_left : (n : ℕ) (bytes : List ℕ) → length (run_at next n bytes).1 ≤ length bytes
  run_left zero bytes = omega arith
  run_left (suc n) bytes = step_left n bytes (next bytes) refl (run_left n)

  pub all_left : (bytes : List ℕ) → length (all_of next bytes).1 ≤ length bytes
  unfolding all_of
  all_left bytes = run_left (length bytes) bytes

stops : {A : Type 0} (next : Reader A) (n : ℕ) (bytes : List ℕ) → next bytes ≡ None
    → run_at next n bytes ≡ ([], bytes)
stops next zero bytes e = refl
stops next (suc n) bytes e = ap (run_step (run_at next n) bytes) e

pub all_end : {A : Type 0} (next : Reader A) (bytes : List ℕ) → next bytes ≡ None
    → all_of next bytes ≡ ([], bytes)
unfolding all_of
all_end next bytes e = stops next (length bytes) bytes e

-- ---- a loop over a run, which knows what will follow the last

pub turn : {A : Type 0} (next : Reader A) → Takes next
    → (bytes : List ℕ) (a : A) (rest end : List ℕ) → next bytes ≡ Some (a, rest)
    → (all_of next bytes).1 ≡ end → (all_of next rest).1 ≡ end
turn {A = A} next takes bytes a rest end e so_far =
    sym (ap (λ (r : List A × List ℕ). r.1) (all_on next takes bytes a rest e)) ∙ so_far

-- ---- what follows alone

pub rest_some : {A : Type 0} (o : Option (A × List ℕ)) (rest : List ℕ) → rest_of o ≡ Some rest
    → (a : A) × (o ≡ Some (a, rest))
rest_some {A = A} (Some x) rest e =
    (x.0, ap (λ (r : List ℕ). Some (x.0, r)) (let same : x.1 ≡ rest = cc in same))
rest_some None rest e = absurd cc

pub closed_rest : {A : Type 0} (next : Reader A) (bytes : List ℕ)
    → rest_of (closed next bytes) ≡ after END (all_of next bytes).1
unfolding closed
closed_rest next bytes = told (after END (all_of next bytes).1) (all_of next bytes).0
  where
    told : {X : Type 0} (o : Option (List ℕ)) (x : X) → rest_of (o >>= λ rest. Some (x, rest)) ≡ o
    told (Some rest) x = refl
    told None x = refl

-- there are no more values than bytes
module _ {A : Type 0} (next : Reader A) (takes : Takes next) where
  count_step : (n : ℕ) (bytes : List ℕ) (o : Option (A × List ℕ)) → next bytes ≡ o
      → ((rest : List ℕ) → length (run_at next n rest).0 ≤ length rest)
      → length (run_step (run_at next n) bytes o).0 ≤ length bytes
  count_step n bytes None e more = omega arith
  count_step n bytes (Some read) e more =
      let less = fewer next takes bytes read.0 read.1 e in
      let few = more read.1 in
      omega arith

  run_count : (n : ℕ) (bytes : List ℕ) → length (run_at next n bytes).0 ≤ length bytes
  run_count zero bytes = omega arith
  run_count (suc n) bytes = count_step n bytes (next bytes) refl (run_count n)

  pub all_few : (bytes : List ℕ) → length (all_of next bytes).0 ≤ length bytes
  unfolding all_of
  all_few bytes = run_count (length bytes) bytes
