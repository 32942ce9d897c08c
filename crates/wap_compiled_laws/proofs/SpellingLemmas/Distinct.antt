-- The texts of a pool have no more bytes than those among which each of them stands.
use Rattle.std.proofs.Common.{◌≡◌, ◌+◌, ◌≤◌, Bool, true, false, ◌||◌, cond, List, [], ◌∷◌, ◌++◌}
use Rattle.std.proofs.Common.{refl, sym, ap, subst, ◌∙◌, arith, ◌⊎◌, inl, inr}
use Rattle.std.specs.List.{AllByRecursion, sum_by}
use Rattle.std.proofs.lemmas.List.Sums.{sum_by-cons, sum_by-append}
use Rattle.wap_grammar.specs.declared.program.expression.Literal.{Literal}
use Rattle.wap_meaning.specs.coding.Constants.{same_literal, is_in, with_literal, pooled}
use Rattle.wap_meaning.proofs.NeedsLemmas.Once.{same_is}
use Rattle.wap_compiled_laws.proofs.BodiesLemmas.Pooled.{in_more, in_end}
use Rattle.wap_compiled_laws.proofs.SourceSizes.Sizes.{text_size}

-- some literals without the first that is this one
without : Literal → List Literal → List Literal
without l [] = []
without l (x ∷ xs) = cond (same_literal l x) xs (x ∷ without l xs)

-- they have as many bytes fewer
without_size : (l : Literal) (xs : List Literal) → is_in l xs ≡ true
    → text_size l + sum_by text_size (without l xs) ≡ sum_by text_size xs
unfolding without
without_size l [] there = absurd (cc there)
without_size l (x ∷ xs) there = by (same_literal l x) refl there (without_size l xs)
  where
    by : (b : Bool) → same_literal l x ≡ b → (b || is_in l xs) ≡ true
        → (is_in l xs ≡ true
        → text_size l + sum_by text_size (without l xs) ≡ sum_by text_size xs)
        → text_size l + sum_by text_size (cond b xs (x ∷ without l xs)) ≡ sum_by text_size (x ∷ xs)
    by true is there further =
        omega (arith, sum_by-cons text_size x xs, ap text_size (same_is l x is))
    by false is there further =
        omega (
          arith,
          sum_by-cons text_size x xs,
          sum_by-cons text_size x (without l xs),
          further there,
        )

-- another literal stays
stays : (l k : Literal) (xs : List Literal) → same_literal l k ≡ false → is_in k xs ≡ true
    → is_in k (without l xs) ≡ true
unfolding without
stays l k [] other there = there
stays l k (x ∷ xs) other there =
    by (same_literal l x) (same_literal k x) refl refl there (stays l k xs other)
  where
    by : (a b : Bool) → same_literal l x ≡ a → same_literal k x ≡ b → (b || is_in k xs) ≡ true
        → (is_in k xs ≡ true → is_in k (without l xs) ≡ true)
        → is_in k (cond a xs (x ∷ without l xs)) ≡ true
    by true true first second there further =
        let same = subst (λ (z : Literal). same_literal z x ≡ true) (same_is l x first) first in
        let differ = subst (λ (z : Literal). same_literal x z ≡ false) (same_is k x second)
        (subst (λ (z : Literal). same_literal z k ≡ false) (same_is l x first) other) in
        absurd (cc (sym differ ∙ same))
    by true false first second there further = there
    by false true first second there further = ap (λ (b : Bool). b || is_in k (without l xs)) second
    by false false first second there further =
        ap (λ (b : Bool). b || is_in k (without l xs)) second ∙ further there

module _ (some : List Literal) where
  -- each of them is in the pool or left
  abbrev Kept : List Literal → List Literal → Type 0
  Kept pool left = (k : Literal) → is_in k some ≡ true
      → (is_in k pool ≡ true) ⊎ (is_in k left ≡ true)

  -- a literal is one of them, or has no text
  abbrev pub Known : Literal → Type 0
  Known l = (is_in l some ≡ true) ⊎ (text_size l ≡ 0)

  -- a pool, and what is left of them
  record Paid (pool : List Literal) : Type 0 where
    left : List Literal
    kept : Kept pool left
    size : sum_by text_size pool + sum_by text_size left ≤ sum_by text_size some

  -- one more in the pool
  one_size : (pool : List Literal) (l : Literal)
      → sum_by text_size (pool ++ l ∷ []) ≡ sum_by text_size pool + text_size l
  one_size pool l =
      omega (arith, sum_by-append text_size pool (l ∷ []), sum_by-cons text_size l [])

  -- one that is not in the pool yet
  taken : {pool : List Literal} (l : Literal) → Paid pool → is_in l pool ≡ false
      → is_in l some ≡ true → Paid (pool ++ l ∷ [])
  taken {pool} l paid new there = record {
    left = without l paid.left;
    kept = λ k among. by k (same_literal l k) refl (paid.kept k among);
    size = omega (
      arith,
      one_size pool l,
      without_size l paid.left (still (paid.kept l there)),
      paid.size,
    );
  }
    where
      still : (is_in l pool ≡ true) ⊎ (is_in l paid.left ≡ true) → is_in l paid.left ≡ true
      still (inl known) = absurd (cc (sym known ∙ new))
      still (inr left) = left

      by : (k : Literal) (b : Bool) → same_literal l k ≡ b
          → (is_in k pool ≡ true) ⊎ (is_in k paid.left ≡ true)
          → (is_in k (pool ++ l ∷ []) ≡ true) ⊎ (is_in k (without l paid.left) ≡ true)
      by k true is kept =
          let e : l ≡ k = same_is l k is in
          inl (in_end k l pool (subst (λ (z : Literal). same_literal z l ≡ true) e
          (subst (λ (z : Literal). same_literal l z ≡ true) (sym e) is)))
      by k false is (inl known) = inl (in_more k pool (l ∷ []) known)
      by k false is (inr left) = inr (stays l k paid.left is left)

  -- one without a text
  empty_taken : {pool : List Literal} (l : Literal) → Paid pool → text_size l ≡ 0
      → Paid (pool ++ l ∷ [])
  empty_taken {pool} l paid none = record {
    left = paid.left;
    kept = λ k among. by k (paid.kept k among);
    size = omega (arith, one_size pool l, none, paid.size);
  }
    where
      by : (k : Literal) → (is_in k pool ≡ true) ⊎ (is_in k paid.left ≡ true)
          → (is_in k (pool ++ l ∷ []) ≡ true) ⊎ (is_in k paid.left ≡ true)
      by k (inl known) = inl (in_more k pool (l ∷ []) known)
      by k (inr left) = inr left

  -- any
  next_paid : {pool : List Literal} (l : Literal) → Paid pool → Known l → Paid (with_literal pool l)
  next_paid {pool} l paid known = by (is_in l pool) refl known
    where
      by : (b : Bool) → is_in l pool ≡ b → Known l → Paid (cond b pool (pool ++ l ∷ []))
      by true is known = paid
      by false is (inl there) = taken l paid is there
      by false is (inr none) = empty_taken l paid none

  all_paid : (ls pool : List Literal) → AllByRecursion Known ls → Paid pool → Paid (pooled pool ls)
  all_paid [] pool known paid = paid
  all_paid (l ∷ ls) pool known paid =
      all_paid ls (with_literal pool l) known.1 (next_paid l paid known.0)

  -- the pool of such literals
  pub pool_size : (ls : List Literal) → AllByRecursion Known ls
      → sum_by text_size (pooled [] ls) ≤ sum_by text_size some
  pool_size ls known =
      let paid = all_paid ls [] known (record {
        left = some;
        kept = λ k among. inr among;
        size = omega arith;
      }) in
      omega (arith, paid.size)
