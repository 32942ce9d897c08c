-- Pieces that are right, put together in order, are right.
use Rattle.std.proofs.Common.{◌≡◌, ℕ, zero, suc, ◌+◌, ◌-◌, ◌<◌, ◌≤◌, List, [], ◌∷◌, ◌++◌}
use Rattle.std.proofs.Common.{Result, Ok, Err, IfOk, IsOk, Vec, length, get_or, take, drop}
use Rattle.std.proofs.Common.{slice_range, slice_index_or, sym, ◌∙◌, ap, subst, arith}
use Rattle.std.specs.List.{AllZip, flat_map}
use Rattle.std.proofs.Math.Nat.{div-add-mod}
use Rattle.std.proofs.lemmas.Bool.{false≢true}
use Rattle.std.proofs.lemmas.List.{take_more, take_all, length-drop, get_or-drop}
use Rattle.std.proofs.lemmas.List.{take-append-drop, take-take, drop-take, flat_map_more}
use Rattle.std.specs.declared.alloc.Global.{Global}
use Rattle.wap_base.specs.declared.fault.NoMemory.{NoMemory}
use Rattle.wap_folder.specs.Pieces.{piece_start, piece_items}

-- answers that are right for two lists of jobs are right for both in a row
AllZip-append : {A B : Type 0} (R : A → B → Type 0) (xs ys : List A) (us vs : List B)
    → AllZip R xs us → AllZip R ys vs → AllZip R (xs ++ ys) (us ++ vs)
AllZip-append R [] ys [] vs h k = k
AllZip-append R [] ys (u ∷ us) vs h k = absurd h
AllZip-append R (x ∷ xs) ys [] vs h k = absurd h
AllZip-append R (x ∷ xs) ys (u ∷ us) vs h k = (h.0, AllZip-append R xs ys us vs h.1 k)

-- a job more of a piece
pub piece_more : {J A : Type 0} (R : J → A → Type 0) (jobs : List J) (from i : ℕ) (job : J)
    (answers : List A) (answer : A) → from ≤ i → i < length jobs → job ≡ get_or jobs i job
    → AllZip R (slice_range jobs from i) answers → R job answer
    → AllZip R (slice_range jobs from (i + 1)) (answers ++ answer ∷ [])
piece_more R jobs from i job answers answer order within is right now =
    let part = drop from jobs in
    let more : take (i - from + 1) part ≡ take (i - from) part ++ get_or part (i - from) job ∷ [] =
    take_more part (i - from) job (omega (arith, length-drop from jobs)) in
    let there : get_or part (i - from) job ≡ job =
    get_or-drop from jobs (i - from) job
    ∙ ap (λ k. get_or jobs k job) (let e : from + (i - from) ≡ i = omega arith in e) ∙ sym is in
    let whole : slice_range jobs from (i + 1) ≡ slice_range jobs from i ++ job ∷ [] =
    ap (λ k. take k part) (let e : i + 1 - from ≡ i - from + 1 = omega arith in e)
    ∙ more
    ∙ ap (λ x. take (i - from) part ++ x ∷ []) there in
    subst (λ l. AllZip R l (answers ++ answer ∷ [])) (sym whole)
    (AllZip-append R (slice_range jobs from i) (job ∷ []) answers (answer ∷ []) right (now, tt))

-- where pieces begin: no piece begins before the one before it, the first with the first job, and
-- the last ends with the last job
start_rises : (len count k : ℕ) → piece_start len count k ≤ piece_start len count (k + 1)
start_rises len count k = omega arith

start_first : (len count : ℕ) → piece_start len count 0 ≡ 0
start_first len count = omega arith

start_last : (len count : ℕ) → 0 < count → piece_start len count count ≡ len
start_last len count some = omega (arith, div-add-mod len count)

-- a piece that was worked on, by its answers
piece_of : {J A : Type 0} (R : J → A → Type 0) (part : List J)
    (piece : Result (Vec A Global) NoMemory) → IsOk piece
    → IfOk piece (λ answers. AllZip R part answers.items) → AllZip R part (piece_items piece)
piece_of R part (Ok answers) ok right = right
piece_of R part (Err fault) ok right = absurd (false≢true ok)

-- the jobs up to one, and those from there to another
split_at : {J : Type 0} (jobs : List J) (a b : ℕ) → a ≤ b
    → take b jobs ≡ take a jobs ++ slice_range jobs a b
split_at jobs a b h =
    sym (take-append-drop a (take b jobs))
    ∙ ap (λ l. l ++ drop a (take b jobs)) (take-take a b jobs h)
    ∙ ap (λ l. take a jobs ++ l)
    (ap (λ n. drop a (take n jobs)) (let e : b ≡ a + (b - a) = omega arith in e)
    ∙ drop-take a (b - a) jobs)

module _ {J A : Type 0} (R : J → A → Type 0) (jobs : List J) (count : ℕ)
    (pieces : List (Result (Vec A Global) NoMemory)) (d : Result (Vec A Global) NoMemory)
    (long : length pieces ≡ count)
    (ok : (k : ℕ) → k < count → IsOk (slice_index_or pieces k d))
    (right : (k : ℕ) → k < count → IfOk (slice_index_or pieces k d) (λ answers. AllZip R
    (slice_range jobs (piece_start (length jobs) count k) (piece_start (length jobs) count (k + 1)))
    answers.items)) where
  -- the answers of the first pieces are right
  so_far : (m : ℕ) → m ≤ count
      → AllZip R (take (piece_start (length jobs) count m) jobs)
      (flat_map piece_items (take m pieces))
  so_far zero h =
      subst (λ n. AllZip R (take n jobs) []) (sym (start_first (length jobs) count)) tt
  so_far (suc m) h =
      let here : m < count = omega arith in
      let a = piece_start (length jobs) count m in
      let b = piece_start (length jobs) count (m + 1) in
      let next = slice_index_or pieces m d in
      let before = so_far m (omega arith) in
      let now = piece_of R (slice_range jobs a b) next (ok m here) (right m here) in
      let both = AllZip-append R (take a jobs) (slice_range jobs a b)
      (flat_map piece_items (take m pieces)) (piece_items next) before now in
      let left : take a jobs ++ slice_range jobs a b
      ≡ take (piece_start (length jobs) count (suc m)) jobs =
      sym (split_at jobs a b (start_rises (length jobs) count m))
      ∙ ap (λ k. take (piece_start (length jobs) count k) jobs)
      (let e : m + 1 ≡ suc m = omega arith in e) in
      let side : flat_map piece_items (take m pieces) ++ piece_items next
      ≡ flat_map piece_items (take (suc m) pieces) =
      flat_map_more piece_items [] (take m pieces) next
      ∙ ap (flat_map piece_items) (sym (take_more pieces m d (omega (arith, long))))
      ∙ ap (λ k. flat_map piece_items (take k pieces))
      (let e : m + 1 ≡ suc m = omega arith in e) in
      subst (λ l. AllZip R l (flat_map piece_items (take (suc m) pieces))) left
      (subst (λ l. AllZip R (take a jobs ++ slice_range jobs a b) l) side both)

  -- and so are those of all
  all_right : 0 < count → AllZip R jobs (flat_map piece_items pieces)
  all_right some =
      subst (λ l. AllZip R l (flat_map piece_items pieces))
      (ap (λ n. take n jobs) (start_last (length jobs) count some)
      ∙ take_all (length jobs) jobs (omega arith))
      (subst
      (λ l. AllZip R (take (piece_start (length jobs) count count) jobs) (flat_map piece_items l))
      (take_all count pieces (omega (arith, long))) (so_far count (omega arith)))

-- right pieces, put together, are right, also where there is none
pub pieces_right : {J A : Type 0} (R : J → A → Type 0) (jobs : List J) (count : ℕ)
    (pieces : List (Result (Vec A Global) NoMemory)) → (count ≡ 0 → length jobs ≡ 0)
    → length pieces ≡ count
    → ((k : ℕ) (d : Result (Vec A Global) NoMemory) → k < count → IsOk (slice_index_or pieces k d))
    → ((k : ℕ) (d : Result (Vec A Global) NoMemory) → k < count
    → IfOk (slice_index_or pieces k d) (λ answers. AllZip R
    (slice_range jobs (piece_start (length jobs) count k) (piece_start (length jobs) count (k + 1)))
    answers.items))
    → AllZip R jobs (flat_map piece_items pieces)
pieces_right R [] count [] none long ok right = tt
pieces_right R (job ∷ jobs) count [] none long ok right =
    let e = none (sym long) in absurd (omega (arith, e))
pieces_right R jobs count (piece ∷ pieces) none long ok right =
    all_right R jobs count (piece ∷ pieces) piece long (λ k h. ok k piece h)
    (λ k h. right k piece h) (omega (arith, long))

-- what two facts of a result say together
pub if_ok_both : {T E : Type 0} (P Q S : T → Type 0) (r : Result T E) → IfOk r P → IfOk r Q
    → ((x : T) → P x → Q x → S x) → IfOk r S
if_ok_both P Q S (Ok x) p q then = then x p q
if_ok_both P Q S (Err e) p q then = tt
