-- Expressions and statements of some levels, whose parts below them are read where a guard lets
-- them begin: the readings part at the first such part.
use Rattle.std.proofs.Common.{◌≡◌, ℕ, zero, suc, ◌+◌, ◌≤◌, cond, List, length, refl, ap, inl}
use Rattle.std.proofs.Common.{inr, ◌∙◌, arith}
use Rattle.wap_grammar.specs.declared.lexeme.Lexeme.{Lexeme}
use Rattle.wap_grammar.specs.reading.TokenReading.{Reading, nested}
use Rattle.wap_grammar.specs.reading.Expressions.{Reader, part_at, expression_at}
use Rattle.wap_grammar.specs.reading.Statements.{Statements, statement_by, statement_at}
use Rattle.wap_grammar.proofs.Guards.{Guard, nowhere, anywhere, allows, Walks, never, sooner}
use Rattle.wap_grammar.proofs.Guards.{past_of, all_goes}
use Rattle.wap_grammar.proofs.Places.{parts_part, parts_statement}

-- with so many levels, where what is below them is read by these
unfoldable pub expression_over : List ℕ → Reader → ℕ → Reader
expression_over src deep zero level c = deep level c
expression_over src deep (suc levels) level c =
    part_at src (expression_over src deep levels) level c

unfoldable pub statement_over : List ℕ → Reader → Statements → ℕ → Statements
statement_over src deep below zero c = below c
statement_over src deep below (suc levels) c =
    statement_by src (expression_over src deep levels) (statement_over src deep below levels) c

-- what is read where a guard lets it begin, and is too deep elsewhere
abbrev pub guarded : {A : Type 0} → List ℕ → Guard → (List Lexeme → Reading A) → List Lexeme →
    Reading A
guarded src g read c = cond (allows g c) (read c) (nested src c)

-- with so many levels more where the guard allows it
abbrev pub deep_expression : List ℕ → ℕ → Guard → Reader
deep_expression src more g level = guarded src g (expression_at src more level)

-- below the levels are so many more where the guard allows it
abbrev pub guarded_expression : List ℕ → ℕ → Guard → ℕ → Reader
guarded_expression src more g levels = expression_over src (deep_expression src more g) levels

abbrev pub guarded_statement : List ℕ → ℕ → Guard → ℕ → Statements
guarded_statement src more g levels =
    statement_over src (deep_expression src more g) (guarded src g (statement_at src more)) levels

-- ---- the guards that let all begin, and nothing

module _ (src : List ℕ) (more : ℕ) where
  none_deeper : (levels : ℕ) → guarded_expression src more nowhere levels ≡ expression_at src levels
  unfolding expression_at expression_over
  none_deeper zero = refl
  none_deeper (suc levels) = ap (part_at src) (none_deeper levels)

  all_deeper : (levels : ℕ) →
      guarded_expression src more anywhere levels ≡ expression_at src (levels + more)
  unfolding expression_at expression_over
  all_deeper zero = let none : more ≡ 0 + more = omega arith in ap (expression_at src) none
  all_deeper (suc levels) =
      let next : suc (levels + more) ≡ suc levels + more = omega arith in
      ap (part_at src) (all_deeper levels) ∙ ap (expression_at src) next

  pub none_below : (levels : ℕ) → guarded_statement src more nowhere levels ≡ statement_at src
      levels
  unfolding statement_at statement_over
  none_below zero = refl
  none_below (suc levels) = ap (λ inner. statement_by src inner
      (guarded_statement src more nowhere levels)) (none_deeper levels)
      ∙ ap (statement_by src (expression_at src levels)) (none_below levels)

  pub all_below : (levels : ℕ) →
      guarded_statement src more anywhere levels ≡ statement_at src (levels + more)
  unfolding statement_at statement_over
  all_below zero = let none : more ≡ 0 + more = omega arith in ap (statement_at src) none
  all_below (suc levels) =
      let next : suc (levels + more) ≡ suc levels + more = omega arith in
      ap (λ inner. statement_by src inner (guarded_statement src more anywhere levels))
      (all_deeper levels)
      ∙ ap (statement_by src (expression_at src (levels + more))) (all_below levels)
      ∙ ap (statement_at src) next

module _ (src : List ℕ) (whole : List Lexeme) (limit : ℕ) where
  abbrev Parts : {A : Type 0} → ℕ → (Guard → List Lexeme → Reading A) → Type 0
  Parts most r = Walks src whole limit most r

  -- ---- with as many tokens before them as there are levels

  too_deep : (A : Type 0) (most : ℕ) → limit + most ≤ suc (length whole) →
      Parts {A = A} most (λ g. nested src)
  too_deep A most fits = record {
    forks = λ c is few. inl ((λ g. refl), past_of src whole limit c is (omega (arith, fits, few)));
  }

  far_expression : (levels level most : ℕ) → limit + most ≤ suc (length whole) →
      Parts most (λ g. expression_at src levels level)
  unfolding expression_at
  far_expression zero level most fits = too_deep _ most fits
  far_expression (suc levels) level most fits =
      sooner (parts_part src whole limit (λ g. expression_at src levels) most
      (λ level. far_expression levels level most fits) level)

  far_statement : (levels most : ℕ) → limit + most ≤ suc (length whole) →
      Parts most (λ g. statement_at src levels)
  unfolding statement_at
  far_statement zero most fits = too_deep _ most fits
  far_statement (suc levels) zero fits = never
  far_statement (suc levels) (suc most) fits =
      parts_statement src whole limit (λ g. statement_at src levels) most
      (far_statement levels most (omega (arith, fits))) (λ g. expression_at src levels)
      (λ level. far_expression levels level (suc most) fits)

  -- the readings part at a part that only some of them read
  fork_here : {A : Type 0} {most : ℕ} {read : List Lexeme → Reading A} →
      limit + most ≤ suc (length whole) → Parts most (λ g. read) →
      Parts most (λ g. guarded src g read)
  fork_here {read = read} fits far = record {
    forks = λ c is few. inr (record {
      at = c;
      is = is;
      few = omega arith;
      many = omega (arith, fits, few);
      refused = λ g so. ap (λ b. cond b (read c) (nested src c)) so;
      passed = λ g so. ap (λ b. cond b (read c) (nested src c)) so;
      goes = all_goes src whole limit (length c) (λ g. read c) (far.forks c is few);
    });
  }

  -- ---- all depths

  module _ (more : ℕ) where
    splits_expression : (levels level most : ℕ) → limit + most ≤ levels + suc (length whole) →
        Parts most (λ g. guarded_expression src more g levels level)
    unfolding expression_over
    splits_expression zero level most fits =
        let few : limit + most ≤ suc (length whole) = omega (arith, fits) in
        fork_here few (far_expression more level most few)
    splits_expression (suc levels) level zero fits = never
    splits_expression (suc levels) level (suc most) fits =
        parts_part src whole limit (λ g. guarded_expression src more g levels) most
        (λ level. splits_expression levels level most (omega (arith, fits))) level

    pub splits_statement : (levels most : ℕ) → limit + most ≤ levels + length whole →
        Parts most (λ g. guarded_statement src more g levels)
    unfolding statement_over
    splits_statement zero most fits =
        let few : limit + most ≤ suc (length whole) = omega (arith, fits) in
        fork_here few (far_statement more most few)
    splits_statement (suc levels) zero fits = never
    splits_statement (suc levels) (suc most) fits =
        parts_statement src whole limit (λ g. guarded_statement src more g levels) most
        (splits_statement levels most (omega (arith, fits)))
        (λ g. guarded_expression src more g levels)
        (λ level. splits_expression levels level (suc most) (omega (arith, fits)))
