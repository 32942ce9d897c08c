-- How often texts stand in lists.
use Rattle.std.proofs.Common.{◌≡◌, ℕ, ◌+◌, ◌≤◌, Bool, true, false, List, [], ◌∷◌, ◌++◌}
use Rattle.std.proofs.Common.{refl, ap, ◌∙◌, arith}
use Rattle.std.specs.Prelude.{if◌then◌else◌}
use Rattle.std.specs.Cmp.Lexicographic.{nat_list_eq_equiv}
use Rattle.std.specs.List.{list_any, AllByRecursion, IsDistinct}
use Rattle.wap_base.specs.Texts.{is_same_text, AreDistinct}
use Rattle.wap_mend.specs.inside.Names.{times, taken, once_if}

-- a text stands as often in two lists as in both of them together
pub times-append : (text : List ℕ) (some more : List (List ℕ))
    → times text (some ++ more) ≡ times text some + times text more
times-append text [] more = grind (arith)
times-append text (other ∷ some) more =
    ap (λ n. (if is_same_text text other then 1 else 0) + n) (times-append text some more)
    ∙ grind (arith)

-- a text that stands no more is none of these
none_same : (text : List ℕ) (others : List (List ℕ)) → times text others ≤ 0
    → AllByRecursion (λ other. is_same_text text other ≡ false) others
none_same text [] none = tt
none_same text (other ∷ others) none =
    here (is_same_text text other) (times text others) none (none_same text others)
  where
    here : {Rest : Type 0} (same : Bool) (left : ℕ) → (if same then 1 else 0) + left ≤ 0
        → (left ≤ 0 → Rest) → (same ≡ false) × Rest
    here true left some rest = absurd (grind (arith, some))
    here false left few rest = (refl, rest (grind (arith, few)))

-- one that stands itself stands no more among the others
none_left : (same : Bool) (left : ℕ) → same ≡ true → (if same then 1 else 0) + left ≤ 1 → left ≤ 0
none_left true left is few = grind (arith, few)
none_left false left is few = absurd (cc is)

-- what stands once at most stands once at most among the others
one_more : (same : Bool) (left : ℕ) → (if same then 1 else 0) + left ≤ 1 → left ≤ 1
one_more true left few = grind (arith, few)
one_more false left few = grind (arith, few)

-- texts of which each stands once at most are distinct
pub distinct_once : (texts : List (List ℕ)) → ((text : List ℕ) → times text texts ≤ 1)
    → AreDistinct texts
unfolding IsDistinct
distinct_once [] once = tt
distinct_once (text ∷ texts) once = (
  none_same text texts
      (none_left (is_same_text text text) (times text texts) (nat_list_eq_equiv.refl text)
      (once text)),
  distinct_once texts
      (λ other. one_more (is_same_text other text) (times other texts) (once other)),
)

-- ---- taken

-- it is once at most
once_most : (b : Bool) → once_if b ≤ 1
once_most true = grind (arith)
once_most false = grind (arith)

-- a text is taken once at most
pub taken_once : (text : List ℕ) (texts : List (List ℕ)) → taken text texts ≤ 1
taken_once text texts = once_most (list_any (is_same_text text) texts)
