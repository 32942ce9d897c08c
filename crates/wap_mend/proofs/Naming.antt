-- Names that are taken.
use Rattle.std.proofs.Common.{◌≡◌, ℕ, ◌+◌, ◌≤◌, Bool, true, false, List, [], ◌∷◌, ◌++◌, cond}
use Rattle.std.proofs.Common.{refl, ap, ◌∙◌, arith}
use Rattle.std.specs.List.{list_any}
use Rattle.std.specs.Cmp.Lexicographic.{nat_list_eq_equiv}
use Rattle.std.proofs.lemmas.Bool.{or_left, or_right}
use Rattle.std.proofs.lemmas.List.Folds.{list_any-append}
use Rattle.std.proofs.lemmas.Map.Steps.{list_any_congr}
use Rattle.indexmap.specs.IndexSet.{insert_key}
use Rattle.wap_base.specs.Texts.{is_same_text}
use Rattle.wap_mend.specs.inside.Names.{once_if, Takes}

-- what is taken stays so when a text more is
stays : (texts : List (List ℕ)) (more text : List ℕ) → list_any (is_same_text text) texts ≡ true
    → list_any (is_same_text text) (insert_key is_same_text texts more) ≡ true
stays texts more text is = by_test (list_any (is_same_text more) texts) where
  by_test : (test : Bool)
      → list_any (is_same_text text) (cond test texts (texts ++ more ∷ [])) ≡ true
  by_test true = is
  by_test false =
      list_any-append (is_same_text text) texts (more ∷ [])
      ∙ or_left (list_any (is_same_text text) texts)
      (list_any (is_same_text text) (more ∷ [])) is

-- a text that is taken is so then
is_then : (texts : List (List ℕ)) (more text : List ℕ) → is_same_text text more ≡ true
    → list_any (is_same_text text) (insert_key is_same_text texts more) ≡ true
is_then texts more text same = by_test (list_any (is_same_text more) texts) refl where
  by_test : (test : Bool) → list_any (is_same_text more) texts ≡ test
      → list_any (is_same_text text) (cond test texts (texts ++ more ∷ [])) ≡ true
  by_test true is = list_any_congr nat_list_eq_equiv text more texts same ∙ is
  by_test false is =
      list_any-append (is_same_text text) texts (more ∷ [])
      ∙ or_right (list_any (is_same_text text) texts)
      (list_any (is_same_text text) (more ∷ []))
      (or_left (is_same_text text more) false same)

-- a text that was free and is taken counts once, and what was taken still is
counted : (here before after : Bool) → (here ≡ true → before ≡ false) → (here ≡ true → after ≡ true)
    → (before ≡ true → after ≡ true)
    → (cond here 1 0 + 0) + once_if before ≤ 0 + once_if after
counted true true after free is kept = absurd (cc (free refl))
counted true false true free is kept = omega arith
counted true false false free is kept = absurd (cc (is refl))
counted false true true free is kept = omega arith
counted false true false free is kept = absurd (cc (kept refl))
counted false false true free is kept = omega arith
counted false false false free is kept = omega arith

-- a free text that is taken
pub one_taken : (before after : List (List ℕ)) (text : List ℕ)
    → list_any (is_same_text text) before ≡ false → after ≡ insert_key is_same_text before text
    → Takes before after [] (text ∷ [])
one_taken before after text free is other =
    counted (is_same_text other text) (list_any (is_same_text other) before)
    (list_any (is_same_text other) after)
    (λ same. list_any_congr nat_list_eq_equiv other text before same ∙ free)
    (λ same. ap (list_any (is_same_text other)) is ∙ is_then before text other same)
    (λ had. ap (list_any (is_same_text other)) is ∙ stays before text other had)

-- a free text that is taken behind another
pub both_taken : (before between after : List (List ℕ)) (first text : List ℕ)
    → list_any (is_same_text text) before ≡ false
    → between ≡ insert_key is_same_text before first
    → after ≡ insert_key is_same_text between text → Takes before after [] (text ∷ [])
both_taken before between after first text free one two other =
    counted (is_same_text other text) (list_any (is_same_text other) before)
    (list_any (is_same_text other) after)
    (λ same. list_any_congr nat_list_eq_equiv other text before same ∙ free)
    (λ same. ap (list_any (is_same_text other)) two ∙ is_then between text other same)
    (λ had. ap (list_any (is_same_text other)) two ∙ stays between text other
    (ap (list_any (is_same_text other)) one ∙ stays before first other had))
