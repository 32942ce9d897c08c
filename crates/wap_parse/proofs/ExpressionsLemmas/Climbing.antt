-- The levels of precedence that have no operator after an expression leave it as it is, so reading
-- goes on at the level of the operator that stands there.
use Rattle.std.proofs.Common.{◌≡◌, ◌≢◌, ℕ, zero, suc, ◌-◌, ◌<◌, ◌≤◌, nat_lt, nat_le, Bool}
use Rattle.std.proofs.Common.{true, false, ◌&&◌, cond, List, Some, None, Ok, Err, refl}
use Rattle.std.proofs.Common.{sym, ap, subst, ◌∙◌, inl, inr, ◌⊎◌, arith}
use Rattle.std.specs.Prelude.{nat_eq}
use Rattle.std.proofs.lemmas.Bool.{lt-ltb, ltb-true, le-ltb, ltb-false}
use Rattle.std.proofs.lemmas.Bool.{le-leb, leb-true, ne_eqb, eqb-true}
use Rattle.wap_base.specs.Outcome.{◌>>=◌}
use Rattle.wap_base.proofs.Choices.{chosen}
use Rattle.wap_value.specs.declared.operator.BinOp.{BinOp}
use Rattle.wap_grammar.specs.declared.program.expression.Expr.{Expr}
use Rattle.wap_grammar.specs.declared.lexeme.Lexeme.{Lexeme}
use Rattle.wap_grammar.specs.declared.precedence.TheConstants.{CONDITIONAL, ASSIGNMENT}
use Rattle.wap_grammar.specs.declared.word.Word.{Word}
use Rattle.wap_grammar.specs.declared.word.Word.TheVariants as word
use Rattle.wap_grammar.specs.Lexemes.{word_of, precedence, operator_of}
use Rattle.wap_grammar.specs.reading.TokenReading.{Reading, told, items_at}
use Rattle.wap_grammar.specs.reading.Expressions.{Reader, chained, unary_at, operand_by}
use Rattle.wap_grammar.specs.reading.Expressions.{next_operand, chain_at, part_at}
use Rattle.wap_grammar.proofs.Items.{items_none}
use Rattle.wap_parse.specs.expressions.inside.Climbing.{looser_of, grown_at, climbed_at}
use Rattle.wap_parse.proofs.ExpressionsLemmas.Levels.{at_chain}

-- ---- one reading after the other

ended : {A : Type 0} (r : Reading A) → r ≡ (r >>= λ x. Ok x)
ended (Ok x) = refl
ended (Err e) = refl

grouped : {A B C : Type 0} (r : Reading A) (f : A × List Lexeme → Reading B)
    (g : B × List Lexeme → Reading C) → ((r >>= f) >>= g) ≡ (r >>= λ x. f x >>= g)
grouped (Ok x) f g = refl
grouped (Err e) f g = refl

each_same : {A B : Type 0} (r : Reading A) (f g : A × List Lexeme → Reading B) →
    ((x : A × List Lexeme) → f x ≡ g x) → (r >>= f) ≡ (r >>= g)
each_same (Ok x) f g same = same x
each_same (Err e) f g same = refl

-- ---- operators of a level, or none

-- no operator of these levels stands first
abbrev NoneOf : ℕ → ℕ → List Lexeme → Type 0
NoneOf from level c = (p : ℕ) → from < p → p ≤ level → operator_of p (word_of c) ≡ None

both_hold : (p q : Bool) → p ≡ true → q ≡ true → (p && q) ≡ true
both_hold p q one two = rw (one, two) refl

none_of : (from level : ℕ) (w : Word) → looser_of from level w ≡ None → (p : ℕ) → from < p →
    p ≤ level → operator_of p w ≡ None
none_of from level (word.Operator o) none p low high = by_test (nat_eq (precedence o) p) refl where
  some_none : (n : ℕ) → Some n ≡ None → ⊥
  some_none n e = absurd cc

  by_test : (test : Bool) → nat_eq (precedence o) p ≡ test → cond test (Some o) None ≡ None
  by_test false so = refl
  by_test true so =
      let is = eqb-true (precedence o) p so in
      let here : (nat_lt from (precedence o) && nat_le (precedence o) level) ≡ true =
      both_hold (nat_lt from (precedence o)) (nat_le (precedence o) level)
      (lt-ltb from (precedence o) (omega (arith, is, low)))
      (le-leb (precedence o) level (omega (arith, is, high))) in
      absurd (some_none (precedence o) (sym (ap (λ (b : Bool). cond b (Some (precedence o)) None)
      here) ∙ none))
none_of from level w none p low high = refl

-- what is known of the operator that is found
pub record IsLooser (from level found : ℕ) (w : Word) : Type 0 where
  pub op : BinOp
  pub is : w ≡ word.Operator op
  pub at : precedence op ≡ found
  pub low : from < found
  pub high : found ≤ level

parts_hold : (p q : Bool) → (p && q) ≡ true → (p ≡ true) × (q ≡ true)
parts_hold true q e = (refl, e)
parts_hold false q e = absurd cc

pub looser_is : (from level found : ℕ) (w : Word) → looser_of from level w ≡ Some found →
    IsLooser from level found w
looser_is from level found (word.Operator o) e =
    elim (chosen (nat_lt from (precedence o) && nat_le (precedence o) level)
    (Some (precedence o)) None (Some found) e) [
      | inl so ↦ (
          let same : precedence o ≡ found = some_same (precedence o) found so.1 in
          let both = parts_hold (nat_lt from (precedence o)) (nat_le (precedence o) level) so.0 in
          record {
            op = o;
            is = refl;
            at = same;
            low = omega (arith, same, ltb-true from (precedence o) both.0);
            high = omega (arith, same, leb-true (precedence o) level both.1);
          })
      | inr so ↦ absurd (none_some found so.1)
    ] where
      some_same : (m n : ℕ) → Some m ≡ Some n → m ≡ n
      some_same m n e = cc

      none_some : (n : ℕ) → None ≡ Some n → ⊥
      none_some n e = absurd cc
looser_is from level found w e = absurd cc

-- an operator of one level is of no other
other_level : (found : ℕ) (o : BinOp) (w : Word) → w ≡ word.Operator o → precedence o ≡ found →
    (p : ℕ) → (p ≡ found → ⊥) → operator_of p w ≡ None
other_level found o w is at p other =
    ap (operator_of p) is ∙ ap (λ (b : Bool). cond b (Some o) None)
    (ne_eqb (precedence o) p (λ e. other (sym e ∙ at)))

-- ---- levels without an operator, and the level of one

less_or_not : (a b : ℕ) → (a < b) ⊎ (b ≤ a)
less_or_not a b = by_test (nat_lt a b) refl where
  by_test : (test : Bool) → nat_lt a b ≡ test → (a < b) ⊎ (b ≤ a)
  by_test true so = inl (ltb-true a b so)
  by_test false so = inr (ltb-false a b so)

module _ (read : Reader) where
  stays : (level : ℕ) (x : Expr × List Lexeme) → operator_of (suc level) (word_of x.1) ≡ None →
      grown_at read level x ≡ Ok x
  unfolding next_operand
  stays level x none = ap (told (chained x.0))
      (items_none (next_operand (suc level) (read level)) x.1
      (ap (operand_by (read level) x.1) none))

  same_level : (from level : ℕ) (x : Expr × List Lexeme) → level ≤ from →
      climbed_at read from level x ≡ Ok x
  unfolding climbed_at
  same_level from zero x less = refl
  same_level from (suc level) x less = rw (le-ltb from (suc level) less) refl

  next_level : (from level : ℕ) (x : Expr × List Lexeme) → from < suc level →
      climbed_at read from (suc level) x ≡ (climbed_at read from level x >>= grown_at read level)
  unfolding climbed_at
  next_level from level x less = rw (lt-ltb from (suc level) less) refl

  skip : (from level : ℕ) (x : Expr × List Lexeme) → NoneOf from level x.1 →
      climbed_at read from level x ≡ Ok x
  skip from zero x none = same_level from zero x (omega arith)
  skip from (suc level) x none = elim (less_or_not from (suc level)) [
    | inl less ↦ next_level from level x less
        ∙ ap (λ (r : Reading Expr). r >>= grown_at read level)
        (skip from level x (λ p low high. none p low (omega (arith, high))))
        ∙ stays level x (none (suc level) less (omega arith))
    | inr more ↦ same_level from (suc level) x more
  ]

  -- reading goes on from the operator that stands first
  abbrev from_here : ℕ → ℕ → Expr × List Lexeme → Reading Expr
  from_here found level x =
      items_at (next_operand (suc found) (read found)) x.1 >>= λ y.
      climbed_at read (suc found) level (chained x.0 y.0, y.1)

  jump : (from level found : ℕ) (x : Expr × List Lexeme) (o : BinOp) →
      word_of x.1 ≡ word.Operator o → precedence o ≡ suc found → from < suc found →
      suc found ≤ level → climbed_at read from level x ≡ from_here found level x
  jump from zero found x o is at low high = absurd (omega (arith, high))
  jump from (suc level) found x o is at low high = elim (less_or_not found level) [
    | inl less ↦ next_level from level x (omega (arith, low, high))
        ∙ ap (λ (r : Reading Expr). r >>= grown_at read level)
        (jump from level found x o is at low (omega (arith, less)))
        ∙ grouped (items_at (next_operand (suc found) (read found)) x.1)
        (λ y. climbed_at read (suc found) level (chained x.0 y.0, y.1)) (grown_at read level)
        ∙ each_same (items_at (next_operand (suc found) (read found)) x.1)
        (λ y. climbed_at read (suc found) level (chained x.0 y.0, y.1) >>= grown_at read level)
        (λ y. climbed_at read (suc found) (suc level) (chained x.0 y.0, y.1))
        (λ y. sym (next_level (suc found) level (chained x.0 y.0, y.1) (omega (arith, less))))
    | inr more ↦ (
        let same : level ≡ found = omega (arith, more, high) in
        subst (λ (n : ℕ). climbed_at read from (suc n) x ≡ from_here found (suc n) x) (sym same)
        (next_level from found x low
        ∙ ap (λ (r : Reading Expr). r >>= grown_at read found)
        (skip from found x (λ p lower higher. other_level (suc found) o (word_of x.1) is at p
        (λ e. absurd (omega (arith, e, higher)))))
        ∙ each_same (items_at (next_operand (suc found) (read found)) x.1)
        (λ y. Ok (chained x.0 y.0, y.1))
        (λ y. climbed_at read (suc found) (suc found) (chained x.0 y.0, y.1))
        (λ y. sym (same_level (suc found) (suc found) (chained x.0 y.0, y.1) (omega arith)))))
  ]

  -- ---- as a loop goes on

  pub no_looser : (from level : ℕ) (x : Expr × List Lexeme) →
      looser_of from level (word_of x.1) ≡ None → climbed_at read from level x ≡ Ok x
  no_looser from level x none = skip from level x (none_of from level (word_of x.1) none)

  pub next_looser : (from level found : ℕ) (x : Expr × List Lexeme) →
      looser_of from level (word_of x.1) ≡ Some found →
      climbed_at read from level x
      ≡ (items_at (next_operand found (read (found - 1))) x.1 >>= λ y.
      climbed_at read found level (chained x.0 y.0, y.1))
  next_looser from level zero x e =
      absurd (omega (arith, (looser_is from level zero (word_of x.1) e).low))
  next_looser from level (suc found) x e =
      let is = looser_is from level (suc found) (word_of x.1) e in
      let less : found ≡ suc found - 1 = omega arith in
      jump from level found x is.op is.is is.at is.low is.high
      ∙ ap (λ (n : ℕ). items_at (next_operand (suc found) (read n)) x.1 >>= λ y.
      climbed_at read (suc found) level (chained x.0 y.0, y.1)) less

-- ---- levels of precedence by climbing

module _ (src : List ℕ) (inner : Reader) (lexemes : List Lexeme) where
  low_chain : (level : ℕ) → suc level < CONDITIONAL → part_at src inner (suc level) lexemes
      ≡ (part_at src inner level lexemes >>= grown_at (part_at src inner) level)
  unfolding part_at chain_at
  low_chain level low =
      let no_conditional : nat_eq (suc level) CONDITIONAL ≡ false = ne_eqb (suc level) CONDITIONAL
      (λ e. absurd (omega (arith, e, low))) in
      let no_assignment : nat_eq (suc level) ASSIGNMENT ≡ false = ne_eqb (suc level) ASSIGNMENT
      (λ e. absurd (omega (arith, e, low))) in
      rw (no_conditional, no_assignment) refl

  pub at_operators : (level : ℕ) → level < CONDITIONAL → part_at src inner level lexemes
      ≡ (unary_at src inner lexemes >>= climbed_at (part_at src inner) 0 level)
  unfolding part_at climbed_at
  at_operators zero low = ended (unary_at src inner lexemes)
  at_operators (suc level) low =
      low_chain level low
      ∙ ap (λ (r : Reading Expr). r >>= grown_at (part_at src inner) level)
      (at_operators level (omega (arith, low)))
      ∙ grouped (unary_at src inner lexemes) (climbed_at (part_at src inner) 0 level)
      (grown_at (part_at src inner) level)
      ∙ each_same (unary_at src inner lexemes)
      (λ x. climbed_at (part_at src inner) 0 level x >>= grown_at (part_at src inner) level)
      (climbed_at (part_at src inner) 0 (suc level))
      (λ x. sym (next_level (part_at src inner) 0 level x (omega arith)))

  -- the comma's level
  pub at_loosest : (level : ℕ) → 0 < level → level ≢ CONDITIONAL → level ≢ ASSIGNMENT →
      part_at src inner level lexemes
      ≡ (part_at src inner (level - 1) lexemes >>= climbed_at (part_at src inner) (level - 1) level)
  unfolding chain_at
  at_loosest zero some other another = absurd (omega arith)
  at_loosest (suc level) some other another =
      let less : level ≡ suc level - 1 = omega arith in
      let read = part_at src inner in
      at_chain src inner (suc level) lexemes (λ e. absurd (omega (arith, e))) other another
      ∙ subst (λ (n : ℕ). chain_at (suc level) (read n) lexemes
      ≡ (read n lexemes >>= climbed_at read n (suc level))) less
      (each_same (read level lexemes) (grown_at read level) (climbed_at read level (suc level))
      (λ x. sym (next_level read level level x (omega arith)
      ∙ ap (λ (r : Reading Expr). r >>= grown_at read level)
      (same_level read level level x (omega arith)))))
