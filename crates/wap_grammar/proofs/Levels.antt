-- Expressions of each level of precedence, and of each depth, are read as they are spelled.
use Rattle.std.proofs.Common.{◌≡◌, ℕ, zero, suc, ◌<◌, ◌≤◌, Bool, true, false, cond, List}
use Rattle.std.proofs.Common.{[], ◌∷◌, Option, Some, None, Ok, refl, sym, ap}
use Rattle.std.proofs.Common.{subst, ◌∙◌, inl, inr, ◌⊎◌, eq-eqb, arith}
use Rattle.std.specs.Prelude.{nat_eq}
use Rattle.std.proofs.lemmas.Bool.{eqb-true, ne_eqb, cases_Bool}
use Rattle.wap_base.specs.Outcome.{◌>>=◌}
use Rattle.wap_base.proofs.Choices.{chosen, bind_ok, some_same}
use Rattle.wap_value.specs.declared.operator.BinOp.{BinOp}
use Rattle.wap_value.specs.declared.operator.BinOp.TheVariants as op
use Rattle.wap_grammar.specs.declared.program.program.Span.{Span}
use Rattle.wap_grammar.specs.declared.program.expression.Expr.{Expr}
use Rattle.wap_grammar.specs.declared.program.expression.Expr.TheVariants as expr
use Rattle.wap_grammar.specs.declared.lexeme.Lexeme.{Lexeme}
use Rattle.wap_grammar.specs.declared.precedence.TheConstants.{CONDITIONAL, ASSIGNMENT}
use Rattle.wap_grammar.specs.declared.word.Word.{Word}
use Rattle.wap_grammar.specs.declared.word.Word.TheVariants as word
use Rattle.wap_grammar.specs.declared.word.Sign.TheVariants as signs
use Rattle.wap_grammar.specs.Lexemes.{precedence, assignment_of, operator_of, is_sign, is_name}
use Rattle.wap_grammar.specs.Values.{id_of, literal_of}
use Rattle.wap_grammar.specs.Spellings.{Spelling, token, name, sign, Several}
use Rattle.wap_grammar.specs.Spellings as several
use Rattle.wap_grammar.specs.Expressions.{Expressions, IsOperand, operand, IsLooser, tighter, chain}
use Rattle.wap_grammar.specs.Expressions.{conditional, assignment, IsPart, IsExpression}
use Rattle.wap_grammar.specs.reading.TokenReading.{Reading, word_of, span_of, after, nested}
use Rattle.wap_grammar.specs.reading.TokenReading.{told, closed, id_at, items_at}
use Rattle.wap_grammar.specs.reading.Expressions.{Reader, chained, operand_by, next_operand}
use Rattle.wap_grammar.specs.reading.Expressions.{chain_at, callee_after, callee_at, variable_at}
use Rattle.wap_grammar.specs.reading.Expressions.{named_at, primary_at, unary_at, branches_at}
use Rattle.wap_grammar.specs.reading.Expressions.{conditional_at, assignment_by, assignment_at}
use Rattle.wap_grammar.specs.reading.Expressions.{looser_at, part_at, expression_at}
use Rattle.wap_grammar.proofs.Firsts.{value_same, told_ok, sign_first, name_first}
use Rattle.wap_grammar.proofs.Firsts.{assignment_is, operator_is, operator_at, closed_ok}
use Rattle.wap_grammar.proofs.Firsts.{closed_at, Ends, looseness, ends_tighter, ends_branch}
use Rattle.wap_grammar.proofs.Firsts.{no_sign, no_operator, starts}
use Rattle.wap_grammar.proofs.Items.{Reads, ReadsItems, reads_items, first_inside, items_none}
use Rattle.wap_grammar.proofs.Items.{Shorter, Takes, Within}
use Rattle.wap_grammar.proofs.Operands.{AllRead, AllStart, reads_unary, unary_starts}

-- no operator of two operands is of the level of `?:` or of assignments
no_conditional : (o : BinOp) → nat_eq (precedence o) CONDITIONAL ≡ false
no_conditional op.Mul = refl
no_conditional o = refl

no_assignment : (o : BinOp) → nat_eq (precedence o) ASSIGNMENT ≡ false
no_assignment op.Mul = refl
no_assignment o = refl

module _ (src : List ℕ) (Inner : Expressions) (inner : Reader) (deep : AllRead Inner inner)
    (begin : AllStart Inner) where
  -- ---- chains

  module _ (level : ℕ) (IsTighter : Spelling Expr) (read : List Lexeme →
      Reading Expr) (reads : Reads IsTighter (Ends level) read) where
    operand_ok : (a : List Lexeme) (x : Option (BinOp × Expr)) (b : List Lexeme)
        (o : Option BinOp) → operator_of (suc level) (word_of a) ≡ o
        → operand_by read a o ≡ Ok (x, b) → (p : BinOp × Expr) → x ≡ Some p →
        IsOperand (suc level) IsTighter a p b
    operand_ok [] x b (Some o) so is p some = absurd cc
    operand_ok (t ∷ c) x b (Some o) so is p some =
        let found = told_ok (λ operand. Some (o, operand)) (read c) x b is in
        let word = operator_is (suc level) t.word o so in
        let same : (o, found.0) ≡ p = some_same (o, found.0) p (found.2 ∙ some) in
        subst (λ (q : BinOp × Expr). IsOperand (suc level) IsTighter (t ∷ c) q b) same
        (subst (λ (w : Word). IsOperand (suc level) IsTighter (token w t.span ∷ c) (o, found.0) b)
        (sym word.0)
        (operand o t.span c b found.0 word.1 (reads.takes c found.0 b found.1)))
    operand_ok a x b None so is p some =
        let none = (value_same (None, a) (x, b) is).0 ∙ some in absurd cc

    operand_stop : (a : List Lexeme) (x : Option (BinOp × Expr)) (b : List Lexeme)
        (o : Option BinOp) → operand_by read a o ≡ Ok (x, b) → x ≡ None → a ≡ b
    operand_stop a x b (Some o) is none =
        let found = told_ok (λ operand. Some (o, operand)) (read (after a)) x b is in
        let some = found.2 ∙ none in absurd cc
    operand_stop a x b None is none = (value_same (None, a) (x, b) is).1

    operand_again : (a : List Lexeme) (p : BinOp × Expr) (b : List Lexeme) →
        IsOperand (suc level) IsTighter a p b → Ends level b →
        next_operand (suc level) read a ≡ Ok (Some p, b)
    unfolding next_operand
    operand_again a p b (operand o span c b' e is one) ends =
        ap (operand_by read (token (word.Operator o) span ∷ c)) (operator_at (suc level) o is)
        ∙ ap (told (λ operand. Some (o, operand))) (reads.again c e b one ends)

    operand_goes_on : (a : List Lexeme) (p : BinOp × Expr) (b : List Lexeme) →
        IsOperand (suc level) IsTighter a p b → Ends level a
    operand_goes_on a p b (operand o span c b' e is one) = omega (arith, is)

    operand_shorter : Shorter (IsOperand (suc level) IsTighter)
    operand_shorter a p b (operand o span c b' e is one) = omega (arith, reads.within c e b one)

    reads_next : ReadsItems (IsOperand (suc level) IsTighter) (Ends level) (Ends (suc level))
        (next_operand (suc level) read)
    unfolding next_operand
    reads_next = record {
      item = λ a p b is. operand_ok a (Some p) b (operator_of (suc level)
          (word_of a)) refl is p refl;
      stop = λ a b is. operand_stop a None b (operator_of (suc level) (word_of a)) is refl;
      again = operand_again;
      stops = λ b ends. ap (operand_by read b) (no_operator (suc level) (word_of b) ends);
      looser = λ b ends. ends_tighter level b ends;
      goes_on = operand_goes_on;
      shorter = operand_shorter;
    }

    reads_pairs : Reads (Several (IsOperand (suc level) IsTighter)) (Ends (suc level)) (items_at
        (next_operand (suc level) read))
    reads_pairs = reads_items reads_next

    abbrev Here : Spelling Expr
    Here = IsLooser src Inner (suc level) IsTighter

    pairs_ok : (a c b : List Lexeme) (e : Expr) (pairs : List (BinOp × Expr)) → IsTighter a e c →
        Several (IsOperand (suc level) IsTighter) c pairs b → Here a (chained e pairs) b
    pairs_ok a c b e [] one others = tighter a b e (subst (IsTighter a e)
        (no_pairs c b others) one) where
          no_pairs : (c b : List Lexeme) → Several (IsOperand (suc level) IsTighter) c [] b → c ≡ b
          no_pairs c b (several.none c') = refl
    pairs_ok a c b e (pair ∷ pairs) one others = chain a c b e pair pairs one others

    chain_ok : Takes Here (chain_at (suc level) read)
    unfolding chain_at
    chain_ok a e b is =
        let first = bind_ok (read a) _ (e, b) is in
        let rest = told_ok (chained first.0.0) _ e b first.2 in
        subst (λ (f : Expr). Here a f b) rest.2
        (pairs_ok a first.0.1 b first.0.0 rest.0 (reads.takes a first.0.0 first.0.1 first.1)
        (reads_pairs.takes first.0.1 rest.0 b rest.1))

    chain_again : (a c b : List Lexeme) (e : Expr) (pairs : List (BinOp × Expr)) → IsTighter a e c →
        Several (IsOperand (suc level) IsTighter) c pairs b → Ends (suc level) b
        → chain_at (suc level) read a ≡ Ok (chained e pairs, b)
    unfolding chain_at
    chain_again a c b e pairs one others ends =
        ap (λ (r : Reading Expr). r >>= λ first. told (chained first.0) (items_at (next_operand
        (suc level) read) first.1))
        (reads.again a e c one (first_inside reads_next c pairs b others ends))
        ∙ ap (told (chained e)) (reads_pairs.again c pairs b others ends)

    -- ---- `?:`

    conditional_ok : suc level ≡ CONDITIONAL → (a : List Lexeme) (e : Expr) (b : List Lexeme) →
        conditional_at src inner read a ≡ Ok (e, b) → Here a e b
    unfolding conditional_at branches_at
    conditional_ok at_level a e b is =
        let first = bind_ok (read a) _ (e, b) is in
        let whole = reads.takes a first.0.0 first.0.1 first.1 in
        elim (chosen (is_sign signs.Question (word_of first.0.1)) _ _ (Ok (e, b)) first.2) [
          | inl so ↦ (
              let left = bind_ok (inner ASSIGNMENT (after first.0.1)) _ (e, b) so.1 in
              let mid = bind_ok (closed src signs.Colon left.0) _ (e, b) left.2 in
              let right = told_ok (expr.Cond first.0.0 mid.0.0) _ e b mid.2 in
              let end = closed_ok src signs.Colon left.0 mid.0.0 mid.0.1 mid.1 in
              let start : Inner ASSIGNMENT (after first.0.1) left.0.0 (sign signs.Colon
              (span_of left.0.1) ∷ mid.0.1) =
              subst (Inner ASSIGNMENT (after first.0.1) left.0.0) end.1 ((deep ASSIGNMENT).takes
              (after first.0.1) left.0.0 left.0.1 left.1) in
              subst (λ (f : Expr). Here a f b) right.2
              (conditional (span_of first.0.1) (span_of left.0.1) a
              (after first.0.1) mid.0.1 b first.0.0 mid.0.0 right.0 at_level
              (subst (IsTighter a first.0.0) (sign_first signs.Question first.0.1 so.0) whole)
              (subst (λ (f : Expr). Inner ASSIGNMENT (after first.0.1) f (sign signs.Colon
              (span_of left.0.1) ∷ mid.0.1)) end.0 start)
              ((deep ASSIGNMENT).takes mid.0.1 right.0 b right.1)))
          | inr so ↦ (
              let same = value_same first.0 (e, b) so.1 in
              tighter a b e (subst (λ (f : Expr). IsTighter a f b) same.0 (subst
              (IsTighter a first.0.0) same.1 whole)))
        ]

    -- ---- assignments

    assignment_ok : suc level ≡ ASSIGNMENT → (a : List Lexeme) (e : Expr) (b : List Lexeme)
        (named : Bool) (o : Option (Option BinOp)) → is_name (word_of a) ≡ named
        → assignment_of (word_of (after a)) ≡ o → assignment_by src inner read a named o ≡ Ok
        (e, b) → Here a e b
    assignment_ok at_level [] e b true (Some o) is so e' = absurd cc
    assignment_ok at_level (v ∷ []) e b true (Some o) is so e' = absurd cc
    assignment_ok at_level (v ∷ t ∷ c) e b true (Some o) is so e' =
        let found = told_ok (expr.Assign (id_of src v.span) o) (inner ASSIGNMENT c) e b e' in
        let whole : v ∷ t ∷ c ≡ name v.span ∷ token (word.Assign o) t.span ∷ c =
        name_first (v ∷ t ∷ c) is ∙ ap (λ (w : Word). name v.span ∷ token w t.span ∷ c)
        (assignment_is t.word o so) in
        rw (whole, sym found.2) (assignment v.span t.span c b o found.0 at_level
        ((deep ASSIGNMENT).takes c found.0 b found.1))
    assignment_ok at_level a e b true None is so e' = tighter a b e (reads.takes a e b e')
    assignment_ok at_level a e b false o is so e' = tighter a b e (reads.takes a e b e')

    looser_ok : Takes Here (looser_at src inner (suc level) read)
    unfolding assignment_at
    looser_ok a e b is = elim (chosen (nat_eq (suc level) CONDITIONAL) _ _ (Ok (e, b)) is) [
      | inl so ↦ conditional_ok (eqb-true (suc level) CONDITIONAL so.0) a e b so.1
      | inr other ↦ (elim (chosen (nat_eq (suc level) ASSIGNMENT) _ _ (Ok (e, b)) other.1) [
        | inl so ↦ assignment_ok (eqb-true (suc level) ASSIGNMENT so.0) a e b (is_name
            (word_of a)) (assignment_of (word_of (after a))) refl refl so.1
        | inr so ↦ chain_ok a e b so.1
      ])
    ]

    looser_within : Within Here
    looser_within a e b (tighter a' b' e' one) = reads.within a e b one
    looser_within a e b (chain a' c b' e' pair pairs one others) = omega
        (arith, reads.within a e' c one, reads_pairs.within c (pair ∷ pairs) b others)
    looser_within a e b (conditional s t a' c d b' x y z at_level one two three) =
        omega (
          arith,
          reads.within a x (sign signs.Question s ∷ c) one,
          (deep ASSIGNMENT).within c y
              (sign signs.Colon t ∷ d) two,
          (deep ASSIGNMENT).within d z b three,
        )
    looser_within a e b (assignment v s c b' o e' at_level one) = omega (
      arith,
      (deep ASSIGNMENT).within c e' b one,
    )

    looser_starts : ((a : List Lexeme) (e : Expr) (b : List Lexeme) → IsTighter a e b →
        starts (word_of a) ≡ true)
        → (a : List Lexeme) (e : Expr) (b : List Lexeme) → Here a e b → starts (word_of a) ≡ true
    looser_starts first a e b (tighter a' b' e' one) = first a e b one
    looser_starts first a e b (chain a' c b' e' pair pairs one others) = first a e' c one
    looser_starts first a e b (conditional s t a' c d b' x y z at_level one two three) = first a x
        (sign signs.Question s ∷ c) one
    looser_starts first a e b (assignment v s c b' o e' at_level one) = refl

    chain_level : (c : List Lexeme) (pair : BinOp × Expr) (pairs : List (BinOp × Expr))
        (b : List Lexeme) → Several (IsOperand (suc level) IsTighter) c (pair ∷ pairs) b
        → (nat_eq (suc level) CONDITIONAL ≡ false) × (nat_eq (suc level) ASSIGNMENT ≡ false)
    chain_level c pair pairs b (several.more c' d b' pair' pairs' one others) = of_operand c pair d
        one where
          of_operand : (c : List Lexeme) (p : BinOp × Expr) (d : List Lexeme) →
              IsOperand (suc level) IsTighter c p d
              → (nat_eq (suc level) CONDITIONAL ≡ false) × (nat_eq (suc level) ASSIGNMENT ≡ false)
          of_operand c p d (operand o span c' d' e is one) = (
            subst (λ (n : ℕ). nat_eq n CONDITIONAL ≡ false) is (no_conditional o),
            subst (λ
                (n : ℕ). nat_eq n ASSIGNMENT ≡ false) is (no_assignment o),
          )

    conditional_again : (s t : Span) (a c d b : List Lexeme) (x y z : Expr) →
        suc level ≡ CONDITIONAL → IsTighter a x (sign signs.Question s ∷ c)
        → Inner ASSIGNMENT c y (sign signs.Colon t ∷ d) → Inner ASSIGNMENT d z b →
        Ends (suc level) b → conditional_at src inner read a ≡ Ok (expr.Cond x y z, b)
    unfolding conditional_at branches_at
    conditional_again s t a c d b x y z at_level one two three ends =
        ap (λ (r : Reading Expr). r >>= λ first. cond (is_sign signs.Question (word_of first.1))
        (branches_at src inner first.0 (after first.1)) (Ok first))
        (reads.again a x (sign signs.Question s ∷ c) one (omega (arith, at_level)))
        ∙ ap (λ (r : Reading Expr). r >>= λ left. closed src signs.Colon left >>= λ left. told
        (expr.Cond x left.0) (inner ASSIGNMENT left.1))
        ((deep ASSIGNMENT).again c y (sign signs.Colon t ∷ d) two (omega arith))
        ∙ ap (λ (r : Reading Expr). r >>= λ left. told (expr.Cond x left.0)
        (inner ASSIGNMENT left.1)) (closed_at src signs.Colon y t d refl)
        ∙ ap (told (expr.Cond x y)) ((deep ASSIGNMENT).again d z b three (ends_branch (word_of b)
        (subst (λ (n : ℕ). n < looseness (word_of b)) at_level ends)))

    assignment_again : (v s : Span) (c b : List Lexeme) (o : Option BinOp) (e : Expr) →
        suc level ≡ ASSIGNMENT → Inner ASSIGNMENT c e b → Ends (suc level) b
        → looser_at src inner (suc level) read (name v ∷ token (word.Assign o) s ∷ c) ≡ Ok
        (expr.Assign (id_of src v) o e, b)
    unfolding assignment_at
    assignment_again v s c b o e at_level one ends =
        subst (λ (n : ℕ). looser_at src inner n read (name v ∷ token (word.Assign o) s ∷ c) ≡ Ok
        (expr.Assign (id_of src v) o e, b)) (sym at_level)
        (ap (told (expr.Assign (id_of src v) o)) ((deep ASSIGNMENT).again c e b one (subst (λ
        (n : ℕ). n < looseness (word_of b)) at_level ends)))

    abbrev Alone : Type 0
    Alone = (o : Option BinOp) (v s : Span) (x : List Lexeme) → level ≡ 11 →
        read (name v ∷ token (word.Assign o) s ∷ x) ≡ Ok (
          expr.Var (id_of src v),
          token
              (word.Assign o) s ∷ x,
        )

    unassigned : Alone → level ≡ 11 → (a : List Lexeme) (e : Expr) (b : List Lexeme) →
        read a ≡ Ok (e, b) → Ends (suc level) b → (named : Bool) (o : Option (Option BinOp)) →
        is_name (word_of a) ≡ named
        → assignment_of (word_of (after a)) ≡ o → assignment_by src inner read a named o ≡ Ok (e, b)
    unassigned alone at_level [] e b is ends true (Some o) is_named so = absurd cc
    unassigned alone at_level (v ∷ []) e b is ends true (Some o) is_named so = absurd cc
    unassigned alone at_level (v ∷ t ∷ c) e b is ends true (Some o) is_named so =
        let whole : v ∷ t ∷ c ≡ name v.span ∷ token (word.Assign o) t.span ∷ c =
        name_first (v ∷ t ∷ c) is_named ∙ ap (λ (w : Word). name v.span ∷ token w t.span ∷ c)
        (assignment_is t.word o so) in
        let same = value_same (expr.Var (id_of src v.span), token (word.Assign o) t.span ∷ c) (e, b)
        (sym (alone o v.span t.span c at_level) ∙ ap read (sym whole) ∙ is) in
        absurd (omega (arith, at_level, subst (Ends (suc level)) (sym same.1) ends))
    unassigned alone at_level a e b is ends true None is_named so = is
    unassigned alone at_level a e b is ends false o is_named so = is

    tighter_again : Alone → (a : List Lexeme) (e : Expr) (b : List Lexeme) → IsTighter a e b →
        Ends (suc level) b
        → (nat_eq (suc level) CONDITIONAL ≡ true) ⊎ (nat_eq (suc level) CONDITIONAL ≡ false)
        → (nat_eq (suc level) ASSIGNMENT ≡ true) ⊎ (nat_eq (suc level) ASSIGNMENT ≡ false)
        → looser_at src inner (suc level) read a ≡ Ok (e, b)
    unfolding conditional_at assignment_at
    tighter_again alone a e b one ends (inl so) assigned =
        let at_level = eqb-true (suc level) CONDITIONAL so in
        rw so
        (ap (λ (r : Reading Expr). r >>= λ first. cond (is_sign signs.Question (word_of first.1))
        (branches_at src inner first.0 (after first.1)) (Ok first)) (reads.again a e b one
        (ends_tighter level b ends))
        ∙ rw (no_sign signs.Question (suc level) b (omega (arith, at_level)) ends) refl)
    tighter_again alone a e b one ends (inr other) (inl so) =
        let at_level = eqb-true (suc level) ASSIGNMENT so in
        rw (other, so)
        (unassigned alone (omega (arith, at_level)) a e b (reads.again a e b one
        (ends_tighter level b ends)) ends (is_name (word_of a)) (assignment_of (word_of
        (after a))) refl refl)
    tighter_again alone a e b one ends (inr other) (inr so) =
        rw (other, so) (chain_again a b b e [] one (several.none b) ends)

    -- a variable and an assignment's mark after it is no expression of a tighter level
    looser_again : Alone → (a : List Lexeme) (e : Expr) (b : List Lexeme) → Here a e b →
        Ends (suc level) b → looser_at src inner (suc level) read a ≡ Ok (e, b)
    looser_again alone a e b (tighter a' b' e' one) ends =
        tighter_again alone a e b one ends (cases_Bool (nat_eq (suc level) CONDITIONAL)) (cases_Bool
        (nat_eq (suc level) ASSIGNMENT))
    looser_again alone a e b (chain a' c b' e' pair pairs one others) ends =
        let kind = chain_level c pair pairs b others in
        rw (kind.0, kind.1) (chain_again a c b e' (pair ∷ pairs) one others ends)
    looser_again alone a e b (conditional s t a' c d b' x y z at_level one two three) ends =
        rw (eq-eqb (suc level) CONDITIONAL at_level)
        (conditional_again s t a c d b x y z at_level one two three ends)
    looser_again alone a e b (assignment v s c b' o e' at_level one) ends =
        assignment_again v s c b o e' at_level one ends

    pub reads_looser : Alone → Reads Here (Ends (suc level)) (looser_at src inner (suc level) read)
    reads_looser alone = record {
      takes = looser_ok;
      again = looser_again alone;
      within =
          looser_within;
    }

  -- ---- all levels of precedence

  alone_below : (level : ℕ) → level ≤ 10 → (o : Option BinOp) (v s : Span) (x : List Lexeme) →
      part_at src inner level (name v ∷ token (word.Assign o) s ∷ x) ≡ Ok (
        expr.Var
            (id_of src v),
        token (word.Assign o) s ∷ x,
      )
  unfolding part_at unary_at primary_at named_at callee_at callee_after id_at variable_at literal_of
      chain_at next_operand
  alone_below zero few o v s x = refl
  alone_below (suc level) few o v s x =
      let not_conditional : nat_eq (suc level) CONDITIONAL ≡ false = ne_eqb (suc level) CONDITIONAL
      (λ e. absurd (omega (arith, e, few))) in
      let not_assignment : nat_eq (suc level) ASSIGNMENT ≡ false = ne_eqb (suc level) ASSIGNMENT
      (λ e. absurd (omega (arith, e, few))) in
      let rest = token (word.Assign o) s ∷ x in
      rw (not_conditional, not_assignment)
      (ap (λ (r : Reading Expr). r >>= λ first. told (chained first.0) (items_at (next_operand
      (suc level) (part_at src inner level)) first.1)) (alone_below level (omega
      (arith, few)) o v s x)
      ∙ ap (told (chained (expr.Var (id_of src v)))) (items_none (next_operand (suc level)
      (part_at src inner level)) rest refl))

  alone_at : (level : ℕ) (o : Option BinOp) (v s : Span) (x : List Lexeme) → level ≡ 11 →
      part_at src inner level (name v ∷ token (word.Assign o) s ∷ x) ≡ Ok (
        expr.Var
            (id_of src v),
        token (word.Assign o) s ∷ x,
      )
  unfolding part_at conditional_at
  alone_at level o v s x at_level =
      subst (λ (n : ℕ). part_at src inner n (name v ∷ token (word.Assign o) s ∷ x) ≡ Ok (
        expr.Var
            (id_of src v),
        token (word.Assign o) s ∷ x,
      )) (sym at_level)
      (ap (λ (r : Reading Expr). r >>= λ first. cond (is_sign signs.Question (word_of first.1))
      (branches_at src inner first.0 (after first.1)) (Ok first)) (alone_below 10
      (omega arith) o v s x))

  pub reads_part : (level : ℕ) → Reads (IsPart src Inner level) (Ends level)
      (part_at src inner level)
  unfolding IsPart part_at
  reads_part zero = reads_unary src Inner inner deep begin
  reads_part (suc level) = reads_looser level (IsPart src Inner level) (part_at src inner level)
      (reads_part level) (alone_at level)

  pub part_starts : (level : ℕ) (a : List Lexeme) (e : Expr) (b : List Lexeme) →
      IsPart src Inner level a e b → starts (word_of a) ≡ true
  unfolding IsPart
  part_starts zero a e b is = unary_starts src Inner inner deep begin a e b is
  part_starts (suc level) a e b is = looser_starts level (IsPart src Inner level)
      (part_at src inner level) (reads_part level) (part_starts level) a e b is

-- ---- all depths

nested_ok : (src : List ℕ) (a b : List Lexeme) (e : Expr) →
    ◌≡◌ {A = Reading Expr} (nested src a) (Ok (e, b)) → ⊥
nested_ok src a b e is = absurd cc

mutual
  unfolding IsExpression expression_at

  pub reads_expression : (src : List ℕ) (levels : ℕ) → AllRead (IsExpression src levels)
      (expression_at src levels)
  reads_expression src zero level = record {
    takes = λ a e b is. absurd (nested_ok src a b e is);
    again = λ a e b is ends. absurd is;
    within = λ a e b is. absurd is;
  }
  reads_expression src (suc levels) level =
      reads_part src (IsExpression src levels) (expression_at src levels)
      (reads_expression src levels) (expression_starts src levels) level

  pub expression_starts : (src : List ℕ) (levels : ℕ) → AllStart (IsExpression src levels)
  expression_starts src zero level a e b is = absurd is
  expression_starts src (suc levels) level a e b is =
      part_starts src (IsExpression src levels) (expression_at src levels)
      (reads_expression src levels) (expression_starts src levels) level a e b is
