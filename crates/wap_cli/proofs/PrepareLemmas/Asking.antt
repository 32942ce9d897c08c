-- A store that was asked for some pages is asked for more.
use Rattle.std.proofs.Common.{◌≡◌, ℕ, ◌+◌, ◌≤◌, Result, Ok, Err, refl, sym, ap, ◌∙◌, subst, arith}
use Rattle.std.specs.Prelude.{List, [], ◌∷◌, ◌++◌, length, All, IsErr, IsErrAnd, IsErrOf, ◌<◌}
use Rattle.std.proofs.lemmas.List.Elements.{All-push, All-weaker}
use Rattle.wap_devices.specs.Stores.{StoreSeen, Known, Grew, Fetches}
use Rattle.wap_devices.specs.declared.store.StoreErr.{StoreErr}
use Rattle.wap_devices.specs.declared.store.StoreErr.TheVariants.{Failed, NoMemory}
use Rattle.wap_devices.proofs.Telling.{grew_nothing, grew_then}
use Rattle.wap_cli.specs.Answers.{page_of}
use Rattle.wap_cli.specs.prepare.Fetching.{AsksForAll, Job, IsAnswered}
use Rattle.wap_cli.proofs.ResumeLemmas.Fetching.{page_later}

-- so many were asked for, and none failed
pub record Asked (count : ℕ) (before after : StoreSeen) : Type 0 where
  pub fetches : after.fetches ≡ before.fetches + count
  pub listings : after.listings ≡ before.listings
  pub known : Grew before.known after.known
  pub faults : after.faults ≡ before.faults

pub none_asked : (store : StoreSeen) → Asked 0 store store
none_asked store = record {
  fetches = omega arith;
  listings = refl;
  known = grew_nothing store.known store.known refl;
  faults = refl;
}

-- a fault is the same beside any other value
err_over : {A B : Type 0} (fault other : StoreErr) → IsErrOf {T = A} (Err fault) other
    → IsErrOf {T = B} (Err fault) other
err_over fault other is = let same : fault ≡ other = cc in ap Err same

module _ (i : ℕ) (a b c : StoreSeen) (asked : Asked i a b) where
  more_fetches : (more : ℕ) → c.fetches ≡ b.fetches + more
      → c.fetches ≡ a.fetches + (i + more)
  more_fetches more is =
      let first = asked.fetches in omega (arith, is, first)

  -- and then more
  pub asked_more : {A : Type 0} (more : ℕ) (job : A) → AsksForAll {A = A} more b c (Ok job)
      → Asked (i + more) a c
  asked_more more job asks = record {
    fetches = more_fetches more asks.whole;
    listings = asks.listings ∙ asked.listings;
    known = grew_then a.known b.known c.known asked.known asks.known;
    faults = asks.steady ∙ asked.faults;
  }

  -- one of the next failed
  pub more_fail : {A B : Type 0} (more count : ℕ) → i + more ≤ count → (fault : StoreErr)
      → AsksForAll {A = A} more b c (Err fault)
      → AsksForAll {A = B} count a c (Err fault)
  more_fail more count within fault asks =
      let some = asked.fetches in
      let more = asks.more in
      let few = asks.few in
      let counts = asks.counts in
      let same = asked.faults in
      record {
        whole = tt;
        more = omega (arith, some, more);
        few = omega (arith, some, few, within);
        listings = asks.listings ∙ asked.listings;
        known = grew_then a.known b.known c.known asked.known asks.known;
        counts = omega (arith, counts, same);
        failed = λ is.
            subst (λ (faults : ℕ). faults < c.faults) same
            (asks.failed (err_over fault Failed is));
        steady = tt;
      }

-- memory ran out after some
pub then_memory : {A : Type 0} (i count : ℕ) (a b : StoreSeen) → Asked i a b → i ≤ count
    → AsksForAll {A = A} count a b (Err NoMemory)
then_memory i count a b asked within =
    let same = asked.faults in
    let some = asked.fetches in
    record {
      whole = tt;
      more = omega (arith, some);
      few = omega (arith, some, within);
      listings = asked.listings;
      known = asked.known;
      counts = omega (arith, same);
      failed = λ is. absurd cc;
      steady = tt;
    }

-- the same, where the fault came from that of memory
pub memory_over : (A : Type 0) (count : ℕ) (a b : StoreSeen) (result : Result A StoreErr)
    → AsksForAll {A = A} count a b (Err NoMemory) → IsErr result
    → IsErrAnd result (λ fault. fault ≡ NoMemory) → AsksForAll {A = A} count a b result
memory_over A count a b (Ok jobs) asks failed is = absurd cc
memory_over A count a b (Err fault) asks failed is =
    subst (λ (f : StoreErr). AsksForAll {A = A} count a b (Err f)) (sym is) asks

-- the same, by the names that were asked for
pub asks_over : {A : Type 0} (names others : List (List ℕ)) (a b : StoreSeen)
    (result : Result A StoreErr) → names ≡ others → AsksForAll {A = A} (length names) a b result
    → AsksForAll {A = A} (length others) a b result
asks_over names others a b result same asks =
    subst (λ (l : List (List ℕ)). AsksForAll (length l) a b result) same asks

-- what was answered earlier is so of what is known later, and of one job more
pub answered_more : (before after : Known) (jobs all : List Job) (job : Job) → Grew before after
    → All (IsAnswered before) jobs → IsAnswered after job → all ≡ jobs ++ job ∷ []
    → All (IsAnswered after) all
answered_more before after jobs all job grew so_far next together =
    subst (All (IsAnswered after)) (sym together)
    (All-push (IsAnswered after) jobs job
    (All-weaker (IsAnswered before) (IsAnswered after)
    (λ one answered. page_later before after grew one.0 (page_of one.1) answered) jobs so_far) next)

-- one page was asked for, and the store failed, or memory ran out
pub failed_one : {A : Type 0} (name : List ℕ) (a b : StoreSeen) (fault : StoreErr)
    → Fetches name a b (Err fault) → AsksForAll {A = A} 1 a b (Err fault)
failed_one name a b fault fetches = let one = fetches.fetches in record {
  whole = tt;
  more = omega (arith, one);
  few = omega (arith, one);
  listings = fetches.listings;
  known = grew_nothing a.known b.known fetches.asked.untold;
  counts = fetches.asked.counts;
  failed = λ is. fetches.asked.failed (err_over fault Failed is);
  steady = tt;
}
