-- Expressions by the levels that are left for them.
use Rattle.std.proofs.Common.{◌≡◌, ◌≢◌, ℕ, zero, suc, ◌-◌, ◌<◌, Bool, true}
use Rattle.std.proofs.Common.{false, cond, List, refl, ap, ◌∙◌, arith}
use Rattle.std.specs.Prelude.{nat_eq}
use Rattle.std.proofs.lemmas.Bool.{ne_eqb, eq-eqb}
use Rattle.wap_grammar.specs.declared.lexeme.Lexeme.{Lexeme}
use Rattle.wap_grammar.specs.declared.precedence.TheConstants.{UNARY, CONDITIONAL, ASSIGNMENT}
use Rattle.wap_grammar.specs.reading.Expressions.{Reader, conditional_at, assignment_at, chain_at}
use Rattle.wap_grammar.specs.reading.Expressions.{looser_at, part_at, expression_at}

pub deeper : (src : List ℕ) (levels level : ℕ) (lexemes : List Lexeme) → 0 < levels →
    expression_at src levels level lexemes
    ≡ part_at src (expression_at src (levels - 1)) level lexemes
unfolding expression_at
deeper src zero level lexemes some = absurd (omega arith)
deeper src (suc levels) level lexemes some =
    let less : levels ≡ suc levels - 1 = omega arith in
    ap (λ (n : ℕ). part_at src (expression_at src n) level lexemes) less

pub looser : (src : List ℕ) (inner : Reader) (level : ℕ) (lexemes : List Lexeme) → 0 < level →
    part_at src inner level lexemes
    ≡ looser_at src inner level (part_at src inner (level - 1)) lexemes
unfolding part_at
looser src inner zero lexemes some = absurd (omega arith)
looser src inner (suc level) lexemes some =
    let less : level ≡ suc level - 1 = omega arith in
    ap (λ (n : ℕ). looser_at src inner (suc level) (part_at src inner n) lexemes) less

-- ---- by the level of precedence

module _ (src : List ℕ) (inner : Reader) (level : ℕ) (lexemes : List Lexeme) where
  at_conditional : level ≡ CONDITIONAL → part_at src inner level lexemes
      ≡ conditional_at src inner (part_at src inner (level - 1)) lexemes
  at_conditional is =
      let some : 0 < level = omega arith in
      let same : nat_eq level CONDITIONAL ≡ true = eq-eqb level CONDITIONAL is in
      looser src inner level lexemes some
      ∙ ap (λ (b : Bool). cond b (conditional_at src inner (part_at src inner (level - 1)) lexemes)
      (cond (nat_eq level ASSIGNMENT)
      (assignment_at src inner (part_at src inner (level - 1)) lexemes)
      (chain_at level (part_at src inner (level - 1)) lexemes))) same

  otherwise : level ≢ UNARY → level ≢ CONDITIONAL → part_at src inner level lexemes
      ≡ cond (nat_eq level ASSIGNMENT)
      (assignment_at src inner (part_at src inner (level - 1)) lexemes)
      (chain_at level (part_at src inner (level - 1)) lexemes)
  otherwise tight other =
      let some : 0 < level = omega arith in
      let apart : nat_eq level CONDITIONAL ≡ false = ne_eqb level CONDITIONAL other in
      looser src inner level lexemes some
      ∙ ap (λ (b : Bool). cond b (conditional_at src inner (part_at src inner (level - 1)) lexemes)
      (cond (nat_eq level ASSIGNMENT)
      (assignment_at src inner (part_at src inner (level - 1)) lexemes)
      (chain_at level (part_at src inner (level - 1)) lexemes))) apart

  at_assignment : level ≢ UNARY → level ≢ CONDITIONAL → level ≡ ASSIGNMENT →
      part_at src inner level lexemes
      ≡ assignment_at src inner (part_at src inner (level - 1)) lexemes
  at_assignment tight other is =
      let same : nat_eq level ASSIGNMENT ≡ true = eq-eqb level ASSIGNMENT is in
      otherwise tight other
      ∙ ap (λ (b : Bool). cond b (assignment_at src inner (part_at src inner (level - 1)) lexemes)
      (chain_at level (part_at src inner (level - 1)) lexemes)) same

  pub at_chain : level ≢ UNARY → level ≢ CONDITIONAL → level ≢ ASSIGNMENT →
      part_at src inner level lexemes
      ≡ chain_at level (part_at src inner (level - 1)) lexemes
  at_chain tight other another =
      let apart : nat_eq level ASSIGNMENT ≡ false = ne_eqb level ASSIGNMENT another in
      otherwise tight other
      ∙ ap (λ (b : Bool). cond b (assignment_at src inner (part_at src inner (level - 1)) lexemes)
      (chain_at level (part_at src inner (level - 1)) lexemes)) apart

-- ---- the levels of `?:` and of assignments

pub at_choice : (src : List ℕ) (inner : Reader) (lexemes : List Lexeme) →
    part_at src inner CONDITIONAL lexemes
    ≡ conditional_at src inner (part_at src inner (CONDITIONAL - 1)) lexemes
at_choice src inner lexemes = at_conditional src inner CONDITIONAL lexemes refl

pub at_value : (src : List ℕ) (inner : Reader) (lexemes : List Lexeme) →
    part_at src inner ASSIGNMENT lexemes
    ≡ assignment_at src inner (part_at src inner CONDITIONAL) lexemes
at_value src inner lexemes =
    at_assignment src inner ASSIGNMENT lexemes (λ e. absurd (omega (arith, e)))
    (λ e. absurd (omega (arith, e))) refl
