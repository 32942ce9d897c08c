-- Arguments are read as they are spelled.
use Rattle.std.proofs.Common.{◌≡◌, ℕ, ◌≤◌, true, false, List, [], ◌∷◌, length, Option, Some, None}
use Rattle.std.proofs.Common.{Ok, refl, sym, ap, subst, ◌∙◌, inl, inr, eq-eqb, arith}
use Rattle.std.specs.Prelude.{nat_eq}
use Rattle.std.proofs.lemmas.Grind.{common_steps}
use Rattle.std.proofs.lemmas.Bool.{eqb-true, and_parts}
use Rattle.wap_base.proofs.Choices.{chosen}
use Rattle.wap_value.specs.declared.value.Value.{Value}
use Rattle.wap_value.specs.declared.operator.BinOp.{BinOp}
use Rattle.wap_value.specs.declared.operator.UnOp.{UnOp}
use Rattle.wap_value.specs.Unary.{unary_of}
use Rattle.wap_grammar.specs.declared.program.program.Span.{Span}
use Rattle.wap_grammar.specs.declared.program.expression.Literal.{Literal}
use Rattle.wap_grammar.specs.declared.lexeme.Lexeme.{Lexeme}
use Rattle.wap_grammar.specs.declared.word.Word.{Word}
use Rattle.wap_grammar.specs.declared.word.Word.TheVariants as word
use Rattle.wap_grammar.specs.declared.word.Sign.TheVariants as signs
use Rattle.wap_grammar.specs.Lexemes.{word_of, is_sign, sign_of}
use Rattle.wap_grammar.specs.Values.{literal_of}
use Rattle.wap_grammar.specs.Spellings.{Spelling, token, AreListed, listed}
use Rattle.wap_grammar.specs.reading.TokenReading.{span_of, after}
use Rattle.wap_grammar.specs.reading.Statements.{listed_at}
use Rattle.wap_grammar.proofs.Firsts.{value_same, told_ok, Ends}
use Rattle.wap_grammar.proofs.Items.{Reads, Implies}
use Rattle.wap_grammar.proofs.CommaLists.{reads_listed}
use Rattle.wap_grammar.proofs.Productions.{Anything, Given, given, Behind, behind, Before, before}
use Rattle.wap_grammar.proofs.Productions.{Either, is_a, mapped, reads_given, reads_either}
use Rattle.wap_grammar.proofs.Productions.{reads_before}
use Rattle.wap_parse.specs.invocation.Calls.{value_of, IsArgument, literal, signed}
use Rattle.wap_parse.specs.invocation.Calls.{AreArguments, none, some}
use Rattle.wap_parse.specs.invocation.Calculation.{literal_by, literal_at, is_integer, is_next}
use Rattle.wap_parse.specs.invocation.Calculation.{signed_at}
use Rattle.wap_parse.specs.invocation.Calculation.{sign_in, argument_by, argument_at, arguments_at}

-- ---- words

-- only one word is an integer
integer_is : (w : Word) → is_integer w ≡ true → w ≡ word.Int
integer_is word.Int e = refl
integer_is (word.Sign s) e = absurd cc
integer_is w e = absurd cc

-- only an operator is a sign
sign_is : (w : Word) (op : UnOp) → sign_in w ≡ Some op →
    (o : BinOp) × (w ≡ word.Operator o) × (sign_of o ≡ Some op)
sign_is (word.Operator o) op e = (o, refl, e)
sign_is (word.Sign s) op e = absurd cc
sign_is w op e = absurd cc

-- the first token, where it is an operator
operator_first : (a : List Lexeme) (o : BinOp) → word_of a ≡ word.Operator o →
    a ≡ token (word.Operator o) (span_of a) ∷ after a
operator_first [] o e = absurd cc
operator_first (l ∷ x) o e = ap (λ (w : Word). token w l.span ∷ x) e

-- the same of an integer
integer_first : (a : List Lexeme) → word_of a ≡ word.Int →
    a ≡ token word.Int (span_of a) ∷ after a
integer_first [] e = absurd cc
integer_first (l ∷ x) e = ap (λ (w : Word). token w l.span ∷ x) e

-- the same of a literal
literal_first : (src : List ℕ) (a : List Lexeme) (l : Literal) →
    literal_of src (span_of a) (word_of a) ≡ Some l → a ≡ token (word_of a) (span_of a) ∷ after a
unfolding literal_of
literal_first src [] l e = absurd cc
literal_first src (first ∷ x) l e = refl

-- a literal has no sign in it, and is no parenthesis
literal_unsigned : (src : List ℕ) (span : Span) (w : Word) (l : Literal) →
    literal_of src span w ≡ Some l → (sign_in w ≡ None) × (is_sign signs.Close w ≡ false)
unfolding literal_of
literal_unsigned src span word.Int l e = (refl, refl)
literal_unsigned src span (word.Sign s) l e = absurd cc
literal_unsigned src span w l e = (grind (arith, common_steps), grind (arith, common_steps))

module _ (src : List ℕ) where
  -- ---- one argument

  -- a literal that is read was found first, and what is left stands after it
  found_ok : (a : List Lexeme) (o : Option Literal) (l : Literal) (b : List Lexeme) →
      literal_by src a o ≡ Ok (l, b) → (o ≡ Some l) × (after a ≡ b)
  found_ok a (Some m) l b e =
      let same = value_same (m, after a) (l, b) e in (ap (λ (k : Literal). Some k) same.0, same.1)
  found_ok a None l b e = absurd cc

  -- the same, where it is looked for
  literal_ok : (a : List Lexeme) (l : Literal) (b : List Lexeme) → literal_at src a ≡ Ok (l, b) →
      (literal_of src (span_of a) (word_of a) ≡ Some l) × (after a ≡ b)
  unfolding literal_at
  literal_ok a l b e = found_ok a (literal_of src (span_of a) (word_of a)) l b e

  -- an integer that is read after a sign is spelled with it
  signed_ok : (o : BinOp) (op : UnOp) (place : Span) (a : List Lexeme) (v : Value)
      (b : List Lexeme) → sign_of o ≡ Some op → signed_at src op place a ≡ Ok (v, b) →
      IsArgument src (token (word.Operator o) place ∷ a) v b
  unfolding signed_at
  signed_ok o op place a v b is e = elim (chosen (is_next place a) _ _ (Ok (v, b)) e) [
    | inl so ↦ (
        let next = and_parts (is_integer (word_of a)) (nat_eq place.to (span_of a).from)
        so.0 in
        let integer = integer_is (word_of a) next.0 in
        let found = told_ok (λ l. unary_of op (value_of l)) (literal_at src a) v b so.1 in
        let read = literal_ok a found.0 b found.1 in
        let whole : a ≡ token word.Int (span_of a) ∷ b =
        integer_first a integer
        ∙ ap (λ (x : List Lexeme). token word.Int (span_of a) ∷ x) read.1 in
        rw (whole, sym found.2) (signed o op place (span_of a) b found.0 is
        (eqb-true place.to (span_of a).from next.1)
        (subst (λ (w : Word). literal_of src (span_of a) w ≡ Some found.0) integer read.0)))
    | inr so ↦ absurd cc
  ]

  -- an argument that is read is spelled, by the sign that was found
  by_sign : (a : List Lexeme) (v : Value) (b : List Lexeme) (o : Option UnOp) →
      sign_in (word_of a) ≡ o → argument_by src a o ≡ Ok (v, b) → IsArgument src a v b
  by_sign a v b (Some op) is e =
      let operator = sign_is (word_of a) op is in
      rw (operator_first a operator.0 operator.1)
      (signed_ok operator.0 op (span_of a) (after a) v b operator.2 e)
  by_sign a v b None is e =
      let found = told_ok value_of (literal_at src a) v b e in
      let read = literal_ok a found.0 b found.1 in
      let whole : a ≡ token (word_of a) (span_of a) ∷ b =
      literal_first src a found.0 read.0
      ∙ ap (λ (x : List Lexeme). token (word_of a) (span_of a) ∷ x) read.1 in
      rw (whole, sym found.2) (literal (word_of a) (span_of a) b found.0 read.0)

  -- an argument that is read is spelled
  argument_ok : (a : List Lexeme) (v : Value) (b : List Lexeme) → argument_at src a ≡ Ok (v, b) →
      IsArgument src a v b
  unfolding argument_at
  argument_ok a v b e = by_sign a v b (sign_in (word_of a)) refl e

  -- one that is spelled is read
  argument_again : (a : List Lexeme) (v : Value) (b : List Lexeme) → IsArgument src a v b →
      Ends 12 b → argument_at src a ≡ Ok (v, b)
  unfolding argument_at literal_at signed_at
  argument_again a v b (literal w span x l is) ends =
      rw ((literal_unsigned src span w l is).0, is) refl
  argument_again a v b (signed o op place span x l is at found) ends =
      rw (is, eq-eqb place.to span.from at, found) refl

  -- it leaves no more tokens than there were
  argument_within : (a : List Lexeme) (v : Value) (b : List Lexeme) → IsArgument src a v b →
      length b ≤ length a
  argument_within a v b (literal w span x l is) = omega arith
  argument_within a v b (signed o op place span x l is at found) = omega arith

  -- it begins with no parenthesis that closes
  argument_first : (a : List Lexeme) (v : Value) (b : List Lexeme) → IsArgument src a v b →
      is_sign signs.Close (word_of a) ≡ false
  argument_first a v b (literal w span x l is) = (literal_unsigned src span w l is).1
  argument_first a v b (signed o op place span x l is at found) = refl

  -- ---- arguments

  -- arguments with commas between them are read as they are spelled
  reads_arguments : Reads (AreListed (IsArgument src)) (Ends 13) (listed_at (argument_at src))
  reads_arguments = reads_listed (record {
    takes = argument_ok;
    again = argument_again;
    within = argument_within;
  })

  -- they begin with no parenthesis that closes
  listed_first : (a : List Lexeme) (vs : List Value) (b : List Lexeme) →
      AreListed (IsArgument src) a vs b → is_sign signs.Close (word_of a) ≡ false
  listed_first a vs b (listed a' c b' v others one rest) = argument_first a v c one

  -- the arguments, and the parenthesis after them
  abbrev Closed : Spelling (List Value)
  Closed = Before signs.Close (AreListed (IsArgument src))

  -- arguments are read as they are spelled, also where there are none
  pub reads_closed : Reads (AreArguments src) Anything (arguments_at src)
  unfolding arguments_at
  reads_closed = mapped (reads_either (is_sign signs.Close) (is_a signs.Close refl)
      (reads_given []) (reads_before src signs.Close refl reads_arguments (λ span b. omega arith))
      (record { bars = λ a vs b is over. begins a vs b is })) from to where
        begins : (a : List Lexeme) (vs : List Value) (b : List Lexeme) → Closed a vs b →
            is_sign signs.Close (word_of a) ≡ false
        begins a vs b (before right a' b' vs' are) = listed_first a vs _ are

        from : Implies (Either (Behind (word.Sign signs.Close) (Given [])) Closed)
            (AreArguments src)
        from a vs b (inl (behind right x b' vs' (given x'))) = none right x
        from a vs b (inr (before right a' b' vs' are)) = some right a b vs are

        to : Implies (AreArguments src) (Either (Behind (word.Sign signs.Close) (Given [])) Closed)
        to a vs b (none right x) = inl (behind right x b vs (given x))
        to a vs b (some right a' b' vs' are) = inr (before right a b vs are)
