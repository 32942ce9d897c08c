-- Comments and marks reach as far as they do.
use Rattle.std.proofs.Common.{◌≡◌, ℕ, suc, ◌+◌, ◌<◌, ◌≤◌, Bool, true, false, cond, eqb}
use Rattle.std.proofs.Common.{leb, List, [], ◌∷◌, ◌++◌, length, take, inl, inr, refl}
use Rattle.std.proofs.Common.{sym, ap, subst, ◌∙◌, arith, length-take}
use Rattle.std.specs.Prelude.{◌&&◌, nat_eq}
use Rattle.std.specs.List.{list_all, list_any, prefix_len, starts_with}
use Rattle.std.proofs.lemmas.Bool.{and_parts, cond-true, cond-false, eqb-true, or_left}
use Rattle.std.proofs.lemmas.Bool.{or_right, or_cases, leb-true, both_ways}
use Rattle.std.proofs.lemmas.List.{take_at}
use Rattle.std.proofs.lemmas.List.Sums.{prefix_len-le-length}
use Rattle.std.specs.Cmp.Lexicographic.{pointwise, bytes_decides}
use Rattle.wap_base.specs.Texts.{is_empty}
use Rattle.wap_base.specs.Texts.{is_same_text}
use Rattle.wap_lex.specs.Characters.{is_in}
use Rattle.wap_lex.specs.declared.class.Class.TheVariants.{InLine}
use Rattle.wap_lex.specs.Comments.{ends_block, IsComment, line, block}
use Rattle.wap_lex.specs.Marks.{marks, is_mark}
use Rattle.wap_lex.specs.Calculation.{more_by, block_len, comment_len, first_len, mark_len}
use Rattle.wap_lex.proofs.Runs.{run_all, run_over}
use Rattle.wap_lex.proofs.WordReach.{Reaches, test_within}
use Rattle.wap_lex.proofs.NumberReach.{more_some, more_from, more_within, kept_len}

-- ---- blocks

block_first : (star : Bool) (c : ℕ) (rest : List ℕ) (b : Bool) → (star && eqb c 47) ≡ b
    → 0 < block_len star (c ∷ rest)
    → (0 < block_len (eqb c 42) rest
    → ends_block (eqb c 42) (take (block_len (eqb c 42) rest) rest) ≡ true)
    → ends_block star (take (block_len star (c ∷ rest)) (c ∷ rest)) ≡ true
block_first star c rest true e some inner =
    let len = cond-true (star && eqb c 47) 1 (more_by 1 (block_len (eqb c 42) rest)) e in
    ap (λ (n : ℕ). ends_block star (take n (c ∷ rest))) len
    ∙ cond-true (star && eqb c 47) true (ends_block (eqb c 42) []) e
block_first star c rest false e some inner =
    let kept = cond-false (star && eqb c 47) 1 (more_by 1 (block_len (eqb c 42) rest)) e in
    let from = more_from 1 (block_len (eqb c 42) rest) (subst (λ (n : ℕ). 0 < n) kept some) in
    let n = block_len (eqb c 42) rest in
    let len : block_len star (c ∷ rest) ≡ suc n = omega (arith, kept, from.1) in
    ap (λ (k : ℕ). ends_block star (take k (c ∷ rest))) len
    ∙ cond-false (star && eqb c 47) (is_empty (take n rest))
    (ends_block (eqb c 42) (take n rest)) e
    ∙ inner from.0

block_takes : (star : Bool) (bytes : List ℕ) → 0 < block_len star bytes
    → ends_block star (take (block_len star bytes) bytes) ≡ true
block_takes star [] some = absurd (omega arith)
block_takes star (c ∷ rest) some =
    block_first star c rest (star && eqb c 47) refl some (block_takes (eqb c 42) rest)

nothing_is : (text : List ℕ) → is_empty text ≡ true → length text ≡ 0
nothing_is [] e = refl
nothing_is (c ∷ text) e = absurd cc

block_again_first : (star : Bool) (c : ℕ) (text rest : List ℕ) (b : Bool) → (star && eqb c 47) ≡ b
    → ends_block star (c ∷ text) ≡ true
    → (ends_block (eqb c 42) text ≡ true
    → (block_len (eqb c 42) (text ++ rest) ≡ length text) × (0 < length text))
    → block_len star (c ∷ (text ++ rest)) ≡ suc (length text)
block_again_first star c text rest true e fits inner =
    let over =
    nothing_is text
    (sym (cond-true (star && eqb c 47) (is_empty text) (ends_block (eqb c 42) text) e) ∙ fits) in
    cond-true (star && eqb c 47) 1 (more_by 1 (block_len (eqb c 42) (text ++ rest))) e
    ∙ omega (arith, over)
block_again_first star c text rest false e fits inner =
    let left =
    inner
    (sym (cond-false (star && eqb c 47) (is_empty text) (ends_block (eqb c 42) text) e) ∙ fits) in
    let n = block_len (eqb c 42) (text ++ rest) in
    cond-false (star && eqb c 47) 1 (more_by 1 n) e ∙ more_some 1 n (omega (arith, left.0, left.1))
    ∙ omega (arith, left.0)

pub block_again : (star : Bool) (text rest : List ℕ) → ends_block star text ≡ true
    → (block_len star (text ++ rest) ≡ length text) × (0 < length text)
block_again star [] rest fits = absurd cc
block_again star (c ∷ text) rest fits = (
  block_again_first star c text rest (star && eqb c 47) refl fits
      (block_again (eqb c 42) text rest),
  omega arith,
)

-- ---- comments

slash_takes : (b : ℕ) (rest : List ℕ) (s : Bool) → eqb b 47 ≡ s → 0 < comment_len (47 ∷ b ∷ rest)
    → IsComment (take (comment_len (47 ∷ b ∷ rest)) (47 ∷ b ∷ rest))
slash_takes b rest true e some =
    let run = prefix_len (is_in InLine) rest in
    let len : comment_len (47 ∷ b ∷ rest) ≡ suc (suc run) =
    cond-true (eqb b 47) (2 + run) (cond (eqb b 42) (more_by 2 (block_len false rest)) 0) e
    ∙ omega arith in
    subst (λ (n : ℕ). IsComment (take n (47 ∷ b ∷ rest))) (sym len)
    (subst (λ (d : ℕ). IsComment (47 ∷ d ∷ take run rest)) (sym (eqb-true b 47 e))
    (line (take run rest) (run_all (is_in InLine) rest)))
slash_takes b rest false e some =
    let kept =
    cond-false (eqb b 47) (2 + prefix_len (is_in InLine) rest)
    (cond (eqb b 42) (more_by 2 (block_len false rest)) 0) e in
    let star =
    kept_len (eqb b 42) (more_by 2 (block_len false rest)) (subst (λ (n : ℕ). 0 < n) kept some) in
    let n = block_len false rest in
    let from =
    more_from 2 n (subst (λ (k : ℕ). 0 < k) star.1 (subst (λ (k : ℕ). 0 < k) kept some)) in
    let len : comment_len (47 ∷ b ∷ rest) ≡ suc (suc n) = omega (arith, kept, star.1, from.1) in
    subst (λ (k : ℕ). IsComment (take k (47 ∷ b ∷ rest))) (sym len)
    (subst (λ (d : ℕ). IsComment (47 ∷ d ∷ take n rest)) (sym (eqb-true b 42 star.0))
    (block (take n rest) (block_takes false rest from.0)))

comment_takes : (bytes : List ℕ) → 0 < comment_len bytes
    → IsComment (take (comment_len bytes) bytes)
comment_takes [] some = absurd (omega arith)
comment_takes (a ∷ []) some = absurd (omega arith)
comment_takes (a ∷ b ∷ rest) some =
    let first =
    kept_len (eqb a 47) (cond (eqb b 47) (2 + prefix_len (is_in InLine) rest)
    (cond (eqb b 42) (more_by 2 (block_len false rest)) 0)) some in
    let is = eqb-true a 47 first.0 in
    subst (λ (c : ℕ). IsComment (take (comment_len (c ∷ b ∷ rest)) (c ∷ b ∷ rest))) (sym is)
    (slash_takes b rest (eqb b 47) refl (subst (λ (c : ℕ). 0 < comment_len (c ∷ b ∷ rest)) is some))

comment_most : (text more : List ℕ) → IsComment text → length text ≤ comment_len (text ++ more)
comment_most text more (line inside all) = omega (arith, run_over (is_in InLine) inside more all)
comment_most text more (block inside ends) =
    let found = block_again false inside more ends in
    omega (
      arith,
      more_some 2 (block_len false (inside ++ more)) (omega (arith, found.0, found.1)),
      found.0,
    )

comment_some : (text : List ℕ) → IsComment text → 0 < length text
comment_some text (line inside all) = omega arith
comment_some text (block inside ends) = omega arith

block_within : (star : Bool) (bytes : List ℕ) → block_len star bytes ≤ length bytes
block_within star [] = omega arith
block_within star (c ∷ rest) =
    let n = block_len (eqb c 42) rest in
    test_within (star && eqb c 47) 1 (more_by 1 n) (suc (length rest)) (omega arith)
    (more_within 1 n (suc (length rest)) (omega (arith, block_within (eqb c 42) rest)))

comment_within : (bytes : List ℕ) → comment_len bytes ≤ length bytes
comment_within [] = omega arith
comment_within (a ∷ []) = omega arith
comment_within (a ∷ b ∷ rest) =
    let run = prefix_len (is_in InLine) rest in
    let n = block_len false rest in
    let limit : ℕ = suc (suc (length rest)) in
    test_within (eqb a 47) (cond (eqb b 47) (2 + run) (cond (eqb b 42) (more_by 2 n) 0)) 0 limit
    (test_within (eqb b 47) (2 + run) (cond (eqb b 42) (more_by 2 n) 0) limit
    (omega (arith, prefix_len-le-length (is_in InLine) rest))
    (test_within (eqb b 42) (more_by 2 n) 0 limit
    (more_within 2 n limit (omega (arith, block_within false rest))) (omega arith)))
    (omega arith)

pub comments : Reaches comment_len IsComment
comments = record {
  takes = comment_takes;
  most = comment_most;
  some = comment_some;
  within = comment_within;
}

-- ---- marks

-- no text is longer than those before it
abbrev are_no_longer : ℕ → List (List ℕ) → Bool
are_no_longer n = list_all (λ other. leb (length other) n)

abbrev is_descending : List (List ℕ) → Bool
is_descending [] = true
is_descending (mark ∷ others) = are_no_longer (length mark) others && is_descending others

-- what holds of all texts holds of each
pub any_all : (p : List ℕ → Bool) (text : List ℕ) (texts : List (List ℕ))
    → list_any (is_same_text text) texts ≡ true → list_all p texts ≡ true → p text ≡ true
any_all p text [] one all = absurd cc
any_all p text (first ∷ texts) one all =
    let parts = and_parts (p first) (list_all p texts) all in
    elim (or_cases (is_same_text text first) (list_any (is_same_text text) texts) one) [
      | inl same ↦ ap p ((bytes_decides text first).0 same) ∙ parts.0
      | inr others ↦ any_all p text texts others parts.1
    ]

first_takes : (marks : List (List ℕ)) (bytes : List ℕ) → 0 < first_len marks bytes
    → list_any (is_same_text (take (first_len marks bytes) bytes)) marks ≡ true
first_takes [] bytes some = absurd (omega arith)
first_takes (mark ∷ others) bytes some =
    one_takes mark others bytes (starts_with nat_eq bytes mark) refl some
    (first_takes others bytes) where
      one_takes : (mark : List ℕ) (others : List (List ℕ)) (bytes : List ℕ) (b : Bool)
          → starts_with nat_eq bytes mark ≡ b → 0 < first_len (mark ∷ others) bytes
          → (0 < first_len others bytes
          → list_any (is_same_text (take (first_len others bytes) bytes)) others ≡ true)
          → list_any (is_same_text (take (first_len (mark ∷ others) bytes) bytes)) (mark ∷ others)
          ≡ true
      one_takes mark others bytes true e some inner =
          let len =
          cond-true (starts_with nat_eq bytes mark) (length mark) (first_len others bytes) e in
          let same = (bytes_decides mark (take (length mark) bytes)).0 e in
          ap (λ (n : ℕ). list_any (is_same_text (take n bytes)) (mark ∷ others)) len
          ∙ ap (λ (l : List ℕ). list_any (is_same_text l) (mark ∷ others)) (sym same)
          ∙ or_left (is_same_text mark mark) (list_any (is_same_text mark) others)
          ((bytes_decides mark mark).1 refl)
      one_takes mark others bytes false e some inner =
          let len =
          cond-false (starts_with nat_eq bytes mark) (length mark) (first_len others bytes) e in
          let n = first_len others bytes in
          ap (λ (n : ℕ). list_any (is_same_text (take n bytes)) (mark ∷ others)) len
          ∙ or_right (is_same_text (take n bytes) mark)
          (list_any (is_same_text (take n bytes)) others)
          (inner (subst (λ (k : ℕ). 0 < k) len some))

first_most : (marks : List (List ℕ)) (text more : List ℕ) → is_descending marks ≡ true
    → list_any (is_same_text text) marks ≡ true → length text ≤ first_len marks (text ++ more)
first_most [] text more down one = absurd cc
first_most (mark ∷ others) text more down one =
    by_front (starts_with nat_eq (text ++ more) mark) refl parts
    (first_most others text more parts.1) where
      parts : (are_no_longer (length mark) others ≡ true) × (is_descending others ≡ true)
      parts = and_parts (are_no_longer (length mark) others) (is_descending others) down

      by_front : (b : Bool) → starts_with nat_eq (text ++ more) mark ≡ b
          → (are_no_longer (length mark) others ≡ true) × (is_descending others ≡ true)
          → (list_any (is_same_text text) others ≡ true
          → length text ≤ first_len others (text ++ more))
          → length text ≤ first_len (mark ∷ others) (text ++ more)
      by_front true e down' inner =
          let len =
          cond-true (starts_with nat_eq (text ++ more) mark) (length mark)
          (first_len others (text ++ more)) e in
          elim (or_cases (is_same_text text mark) (list_any (is_same_text text) others) one) [
            | inl same ↦ omega (arith, len, ap length ((bytes_decides text mark).0 same))
            | inr later ↦ omega (
              arith,
              len,
              leb-true (length text) (length mark)
                  (any_all (λ other. leb (length other) (length mark)) text others later down'.0),
            )
          ]
      by_front false e down' inner =
          let len =
          cond-false (starts_with nat_eq (text ++ more) mark) (length mark)
          (first_len others (text ++ more)) e in
          elim (or_cases (is_same_text text mark) (list_any (is_same_text text) others) one) [
            | inl same ↦ absurd (both_ways (starts_with nat_eq (text ++ more) mark) e
                (ap (λ (m : List ℕ). starts_with nat_eq (text ++ more) m)
                (sym ((bytes_decides text mark).0 same))
                ∙ ap (pointwise nat_eq text) (take_at text more (length text) refl)
                ∙ (bytes_decides text text).1 refl))
            | inr later ↦ omega (arith, len, inner later)
          ]

first_within : (marks : List (List ℕ)) (bytes : List ℕ) → first_len marks bytes ≤ length bytes
first_within [] bytes = omega arith
first_within (mark ∷ others) bytes =
    one_within mark others bytes (starts_with nat_eq bytes mark) refl
    (first_within others bytes) where
      one_within : (mark : List ℕ) (others : List (List ℕ)) (bytes : List ℕ) (b : Bool)
          → starts_with nat_eq bytes mark ≡ b → first_len others bytes ≤ length bytes
          → first_len (mark ∷ others) bytes ≤ length bytes
      one_within mark others bytes true e inner =
          let len =
          cond-true (starts_with nat_eq bytes mark) (length mark) (first_len others bytes) e in
          omega (
            arith,
            len,
            ap length ((bytes_decides mark (take (length mark) bytes)).0 e),
            length-take (length mark) bytes,
          )
      one_within mark others bytes false e inner = omega (
        arith,
        cond-false (starts_with nat_eq bytes mark) (length mark) (first_len others bytes) e,
        inner,
      )

marks_descend : is_descending marks ≡ true
unfolding marks
marks_descend = refl

mark_some : (text : List ℕ) → is_mark text ≡ true → 0 < length text
unfolding marks
mark_some [] fits = absurd cc
mark_some (c ∷ text) fits = omega arith

pub all_marks : Reaches mark_len (λ text. is_mark text ≡ true)
all_marks = record {
  takes = first_takes marks;
  most = λ text more fits. first_most marks text more marks_descend fits;
  some = mark_some;
  within = first_within marks;
}
