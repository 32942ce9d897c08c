-- The constants of a unit are the literals that its program needs, and no two of them are one.
use Rattle.std.proofs.Common.{◌≡◌, ◌⊎◌, inl, inr, Bool, true, false, ◌||◌, cond, List, [], ◌∷◌}
use Rattle.std.proofs.Common.{◌++◌, get_or, AllPairs, Contains, refl, sym, ap, subst, ◌∙◌, arith}
use Rattle.std.specs.Cmp.{signed_Decides}
use Rattle.std.specs.Cmp.Lexicographic.{bytes_decides}
use Rattle.std.proofs.lemmas.List.Elements.{Contains-append_left, Contains-append_right}
use Rattle.std.proofs.lemmas.List.Elements.{Contains-append_cases, Contains-push}
use Rattle.std.proofs.lemmas.List.Elements.{Contains-push_cases, Contains-get_or}
use Rattle.std.proofs.lemmas.List.Quantifiers.{all_pairs_push}
use Rattle.wap_grammar.specs.declared.program.program.Program.{Program}
use Rattle.wap_grammar.specs.declared.program.expression.Literal.{Literal}
use Rattle.wap_grammar.specs.declared.program.expression.Literal.TheVariants as literal
use Rattle.wap_meaning.specs.coding.Constants.{same_literal, is_in, with_literal, pooled}
use Rattle.wap_meaning.specs.compiled.Pool.{literals_needed, pool}

-- literals that are one constant are the same
pub same_is : (l x : Literal) → same_literal l x ≡ true → l ≡ x
same_is (literal.Int a) (literal.Int b) same = ap literal.Int ((signed_Decides a b).0 same)
same_is (literal.Str s) (literal.Str t) same = ap literal.Str ((bytes_decides s t).0 same)
same_is _ _ same = absurd (cc same)

unlike : false ≡ true → ⊥
unlike e = absurd cc

nowhere : (k : Literal) → Contains [] k → ⊥
nowhere k (i, within, is) = omega (arith, within)

-- ---- one literal among others

found : (l : Literal) (xs : List Literal) → is_in l xs ≡ true → Contains xs l
found l [] there = absurd (unlike there)
found l (x ∷ xs) there = by (same_literal l x) refl there (found l xs)
  where
    by : (b : Bool) → same_literal l x ≡ b → (b || is_in l xs) ≡ true
        → (is_in l xs ≡ true → Contains xs l) → Contains (x ∷ xs) l
    by true is there further =
        Contains-append_left (x ∷ []) xs l
        (subst (λ (k : Literal). Contains (x ∷ []) k) (sym (same_is l x is)) (Contains-push [] x))
    by false is there further = Contains-append_right (x ∷ []) xs l (further there)

-- what isn't found is unlike each of them
apart : (l : Literal) (xs : List Literal) → is_in l xs ≡ false → (k : Literal) → Contains xs k
    → same_literal k l ≡ false
apart l [] none k there = absurd (nowhere k there)
apart l (x ∷ xs) none k there =
    by (same_literal l x) refl none (apart l xs) (Contains-append_cases (x ∷ []) xs k there)
  where
    turned : (b : Bool) → same_literal k l ≡ b → x ≡ k → same_literal l x ≡ false
        → same_literal k l ≡ false
    turned false is same differs = is
    turned true is same differs =
        let one = same_is k l is in
        let there = subst (λ (z : Literal). same_literal z l ≡ true) one is in
        let here = subst (λ (z : Literal). same_literal l z ≡ false) (same ∙ one) differs in
        absurd (unlike (sym here ∙ there))

    the_one : Contains [] k ⊎ (x ≡ k) → x ≡ k
    the_one (inl none) = absurd (nowhere k none)
    the_one (inr is) = is

    by : (b : Bool) → same_literal l x ≡ b → (b || is_in l xs) ≡ false
        → (is_in l xs ≡ false → (k : Literal) → Contains xs k → same_literal k l ≡ false)
        → Contains (x ∷ []) k ⊎ Contains xs k → same_literal k l ≡ false
    by true is none further where_it = absurd (unlike (sym none))
    by false is none further (inl first) =
        turned (same_literal k l) refl (the_one (Contains-push_cases [] x k first)) is
    by false is none further (inr later) = further none k later

-- ---- one literal more

kept : (xs : List Literal) (l k : Literal) → Contains xs k → Contains (with_literal xs l) k
kept xs l k there = by (is_in l xs)
  where
    by : (b : Bool) → Contains (cond b xs (xs ++ l ∷ [])) k
    by true = there
    by false = Contains-append_left xs (l ∷ []) k there

added : (xs : List Literal) (l : Literal) → Contains (with_literal xs l) l
added xs l = by (is_in l xs) refl
  where
    by : (b : Bool) → is_in l xs ≡ b → Contains (cond b xs (xs ++ l ∷ [])) l
    by true is = found l xs is
    by false is = Contains-push xs l

only : (xs : List Literal) (l k : Literal) → Contains (with_literal xs l) k
    → Contains xs k ⊎ (l ≡ k)
only xs l k there = by (is_in l xs) there
  where
    by : (b : Bool) → Contains (cond b xs (xs ++ l ∷ [])) k → Contains xs k ⊎ (l ≡ k)
    by true there = inl there
    by false there = Contains-push_cases xs l k there

-- two literals aren't one constant
abbrev Differ : Literal → Literal → Type 0
Differ one other = same_literal one other ≡ false

still_once : (xs : List Literal) (l : Literal) → AllPairs Differ xs
    → AllPairs Differ (with_literal xs l)
still_once xs l once = by (is_in l xs) refl
  where
    by : (b : Bool) → is_in l xs ≡ b → AllPairs Differ (cond b xs (xs ++ l ∷ []))
    by true is = once
    by false is =
        all_pairs_push Differ xs l once
        (λ i d within. apart l xs is (get_or xs i d) (Contains-get_or xs i d within))

-- ---- many

all_kept : (ls xs : List Literal) (k : Literal) → Contains xs k → Contains (pooled xs ls) k
all_kept [] xs k there = there
all_kept (l ∷ ls) xs k there = all_kept ls (with_literal xs l) k (kept xs l k there)

all_added : (ls xs : List Literal) (k : Literal) → Contains ls k → Contains (pooled xs ls) k
all_added [] xs k there = absurd (nowhere k there)
all_added (l ∷ ls) xs k there =
    by (Contains-append_cases (l ∷ []) ls k there) (all_added ls (with_literal xs l) k)
  where
    one : Contains [] k ⊎ (l ≡ k) → Contains (pooled (with_literal xs l) ls) k
    one (inl none) = absurd (nowhere k none)
    one (inr is) =
        all_kept ls (with_literal xs l) k
        (subst (λ (z : Literal). Contains (with_literal xs l) z) is (added xs l))

    by : Contains (l ∷ []) k ⊎ Contains ls k
        → (Contains ls k → Contains (pooled (with_literal xs l) ls) k)
        → Contains (pooled (with_literal xs l) ls) k
    by (inl first) further = one (Contains-push_cases [] l k first)
    by (inr later) further = further later

all_only : (ls xs : List Literal) (k : Literal) → Contains (pooled xs ls) k
    → Contains xs k ⊎ Contains ls k
all_only [] xs k there = inl there
all_only (l ∷ ls) xs k there = by (all_only ls (with_literal xs l) k there)
  where
    one : Contains xs k ⊎ (l ≡ k) → Contains xs k ⊎ Contains (l ∷ ls) k
    one (inl known) = inl known
    one (inr is) = inr (Contains-append_left (l ∷ []) ls k
        (subst (λ (z : Literal). Contains (l ∷ []) z) is (Contains-push [] l)))

    by : Contains (with_literal xs l) k ⊎ Contains ls k → Contains xs k ⊎ Contains (l ∷ ls) k
    by (inl known) = one (only xs l k known)
    by (inr later) = inr (Contains-append_right (l ∷ []) ls k later)

all_once : (ls xs : List Literal) → AllPairs Differ xs → AllPairs Differ (pooled xs ls)
all_once [] xs once = once
all_once (l ∷ ls) xs once = all_once ls (with_literal xs l) (still_once xs l once)

-- ---- those of a program

pub pool_needed : (p : Program) (l : Literal) → Contains (pool p) l → Contains (literals_needed p) l
unfolding pool
pool_needed p l there = by (all_only (literals_needed p) [] l there)
  where
    by : Contains [] l ⊎ Contains (literals_needed p) l → Contains (literals_needed p) l
    by (inl none) = absurd (nowhere l none)
    by (inr needed) = needed

pub needed_pooled : (p : Program) (l : Literal) → Contains (literals_needed p) l
    → Contains (pool p) l
unfolding pool
needed_pooled p l needed = all_added (literals_needed p) [] l needed

pub pool_once : (p : Program) → AllPairs Differ (pool p)
unfolding pool
pool_once p = all_once (literals_needed p) [] (λ i j d less within. absurd (omega (arith, within)))
