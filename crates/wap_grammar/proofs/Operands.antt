-- Operands, calls and what stands one level deeper in them are read as they are spelled.
use Rattle.std.proofs.Common.{◌≡◌, ℕ, Bool, true, false, cond, List, [], ◌∷◌, Option, Some, None}
use Rattle.std.proofs.Common.{Ok, refl, sym, ap, subst, ◌∙◌, inl, inr, ◌⊎◌, arith}
use Rattle.wap_base.specs.Outcome.{◌>>=◌}
use Rattle.wap_base.proofs.Choices.{chosen, bind_ok}
use Rattle.wap_value.specs.declared.operator.BinOp.TheVariants as op
use Rattle.wap_value.specs.declared.operator.UnOp.{UnOp}
use Rattle.wap_grammar.specs.declared.program.program.Span.{Span}
use Rattle.wap_grammar.specs.declared.program.expression.Literal.{Literal}
use Rattle.wap_grammar.specs.declared.program.expression.Expr.{Expr}
use Rattle.wap_grammar.specs.declared.program.expression.Expr.TheVariants as expr
use Rattle.wap_grammar.specs.declared.callee.Callee.{Callee}
use Rattle.wap_grammar.specs.declared.lexeme.Lexeme.{Lexeme}
use Rattle.wap_grammar.specs.declared.precedence.TheConstants.{UNARY, ASSIGNMENT, COMMA}
use Rattle.wap_grammar.specs.declared.word.Word.{Word}
use Rattle.wap_grammar.specs.declared.word.Word.TheVariants as word
use Rattle.wap_grammar.specs.declared.word.Sign.TheVariants as signs
use Rattle.wap_grammar.specs.Lexemes.{unary_of, step_of, is_sign, is_comma}
use Rattle.wap_grammar.specs.Values.{id_of, literal_of, called}
use Rattle.wap_grammar.specs.Spellings.{Spelling, token, name, sign, Several}
use Rattle.wap_grammar.specs.Expressions.{Expressions, IsCallee, local, external, library}
use Rattle.wap_grammar.specs.Expressions.{IsArgument, argument, AreArguments, none, some}
use Rattle.wap_grammar.specs.Expressions.{IsUnary, literal, variable, postfix, prefix, call}
use Rattle.wap_grammar.specs.Expressions.{parentheses, unary}
use Rattle.wap_grammar.specs.reading.TokenReading.{Reading, word_of, span_of, after, told}
use Rattle.wap_grammar.specs.reading.TokenReading.{closed, id_at}
use Rattle.wap_grammar.specs.reading.Expressions.{Reader, callee_after, callee_at, stepped}
use Rattle.wap_grammar.specs.reading.Expressions.{variable_at, next_argument, arguments_at}
use Rattle.wap_grammar.specs.reading.Expressions.{named_at, primary_by, primary_at, prefixed}
use Rattle.wap_grammar.specs.reading.Expressions.{step_by, unary_by, unary_at}
use Rattle.wap_grammar.proofs.Firsts.{value_same, told_ok, sign_first, step_is, closed_ok}
use Rattle.wap_grammar.proofs.Firsts.{closed_at, id_ok, literal_plain, Ends, no_sign, no_step}
use Rattle.wap_grammar.proofs.Firsts.{no_comma, starts, starts_unary_of, starts_literal, no_start}
use Rattle.wap_grammar.proofs.Items.{Reads, ReadsItems, reads_items, first_inside}
use Rattle.wap_grammar.proofs.Items.{Again, Implies, Takes, Within}
use Rattle.wap_grammar.proofs.Callees.{reads_callee}
use Rattle.wap_grammar.proofs.Productions.{Anything, Given, given, Turn, turn, Behind, behind}
use Rattle.wap_grammar.proofs.Productions.{Before, before, Either, is_a, a_comma, mapped}
use Rattle.wap_grammar.proofs.Productions.{mapped_items, reads_given, reads_turn, reads_either}
use Rattle.wap_grammar.proofs.Productions.{reads_before, reads_next}

-- readers of what stands one level deeper read it as it is spelled
abbrev pub AllRead : Expressions → Reader → Type 0
AllRead Inner inner = (level : ℕ) → Reads (Inner level) (Ends level) (inner level)

-- and begin with what an expression begins with
abbrev pub AllStart : Expressions → Type 0
AllStart Inner = (level : ℕ) (a : List Lexeme) (e : Expr) (b : List Lexeme) → Inner level a e b →
    starts (word_of a) ≡ true

module _ (src : List ℕ) (Inner : Expressions) (inner : Reader) (deep : AllRead Inner inner)
    (begin : AllStart Inner) where
  -- ---- arguments

  reads_more : ReadsItems (IsArgument Inner) (Ends ASSIGNMENT) (Ends COMMA) (next_argument inner)
  unfolding next_argument
  reads_more = mapped_items (reads_next is_comma a_comma (deep ASSIGNMENT) (λ span a. omega arith)
      (λ b over. omega (arith, over)) (λ b over. no_comma (word_of b) over)) from to where
        from : Implies (Behind (word.Operator op.Comma) (Inner ASSIGNMENT)) (IsArgument Inner)
        from a e b (behind s c b' e' is) = argument s c b e is

        to : Implies (IsArgument Inner) (Behind (word.Operator op.Comma) (Inner ASSIGNMENT))
        to a e b (argument s c b' e' is) = behind s c b e is

  -- after the first argument come others, and the parenthesis
  abbrev Others : Expr → Spelling (List Expr)
  Others e = Turn (Several (IsArgument Inner)) (λ es. Before signs.Close (Given (e ∷ es)))

  reads_arguments : Reads (AreArguments Inner) Anything (arguments_at src inner)
  unfolding arguments_at
  reads_arguments = mapped (reads_either (is_sign signs.Close) (is_a signs.Close refl)
      (reads_given []) (reads_turn (deep ASSIGNMENT) (λ e. reads_turn (reads_items reads_more)
      (λ es. reads_before src signs.Close refl (reads_given {E = Anything} (e ∷ es)) (λ span b. tt))
      (λ es a xs b. ended e es a xs b)) fits) (record {
        bars = λ a xs b is over. inside a xs b is;
      }))
      from to where
        ended : (e : Expr) (es : List Expr) (a : List Lexeme) (xs : List Expr) (b : List Lexeme) →
            Before signs.Close (Given (e ∷ es)) a xs b → Anything b → Ends COMMA a
        ended e es a xs b (before s a' b' xs' (given a2)) over = omega arith

        fits : (e : Expr) (a : List Lexeme) (xs : List Expr) (b : List Lexeme) →
            Others e a xs b → Anything b → Ends ASSIGNMENT a
        fits e a xs b (turn a' c b' es xs' are (before s c' b2 xs2 (given c2))) over =
            first_inside reads_more a es (sign signs.Close s ∷ b) are (omega arith)

        inside : (a : List Lexeme) (xs : List Expr) (b : List Lexeme) →
            Turn (Inner ASSIGNMENT) Others a xs b → is_sign signs.Close (word_of a) ≡ false
        inside a xs b (turn a' c b' e xs' one others) =
            no_start signs.Close a refl (begin ASSIGNMENT a e c one)

        begun : (a c b d : List Lexeme) (e : Expr) (es : List Expr) → Inner ASSIGNMENT a e c →
            Several (IsArgument Inner) c es d → (xs : List Expr) →
            Before signs.Close (Given (e ∷ es)) d xs b → AreArguments Inner a xs b
        begun a c b d e es one are xs (before s d' b' xs' (given d2)) = some s a c b e es one are

        from : Implies (Either (Behind (word.Sign signs.Close) (Given [])) (Turn (Inner ASSIGNMENT)
            Others)) (AreArguments Inner)
        from a xs b (inl (behind s x b' xs' (given x'))) = none s x
        from a xs b (inr (turn a' c b' e xs' one (turn c' d b2 es xs2 are end))) =
            begun a c b d e es one are xs end

        to : Implies (AreArguments Inner) (Either (Behind (word.Sign signs.Close) (Given [])) (Turn
            (Inner ASSIGNMENT) Others))
        to a xs b (none s x) = inl (behind s x b xs (given x))
        to a xs b (some s a' c b' e es one are) = inr (turn a c b e xs one
            (turn c _ b es xs are (before s _ b xs (given _))))

  -- ---- operands

  variable_ok : (a : List Lexeme) (e : Expr) (b : List Lexeme) (v : Span) (c : List Lexeme) →
      a ≡ name v ∷ c → (s : Option Bool) → step_of (word_of c) ≡ s
      → stepped (id_of src v) c s ≡ Ok (e, b) → IsUnary src Inner a e b
  variable_ok a e b v [] whole (Some up) is so = absurd cc
  variable_ok a e b v (l ∷ c) whole (Some up) is so =
      let same = value_same (expr.Step (id_of src v) up false, c) (e, b) so in
      let tokens : a ≡ name v ∷ token (word.Step up) l.span ∷ c =
      whole ∙ ap (λ (w : Word). name v ∷ token w l.span ∷ c) (step_is l.word up is) in
      rw (tokens, sym same.0, sym same.1) (postfix v l.span c up)
  variable_ok a e b v c whole None is so =
      let same = value_same (expr.Var (id_of src v), c) (e, b) so in
      rw (whole, sym same.0, sym same.1) (variable v c)

  no_call : (a : List Lexeme) (f : Callee) (c : List Lexeme) → IsCallee src a f c →
      (e : Expr) (b : List Lexeme) → variable_at src f c ≡ Ok (e, b)
      → IsUnary src Inner a e b
  unfolding variable_at
  no_call a f c (local v x) e b so = variable_ok a e b v c refl (step_of (word_of c)) refl so
  no_call a f c _ e b so = absurd cc

  named_by : (a : List Lexeme) (f : Callee) (c : List Lexeme) → IsCallee src a f c →
      (e : Expr) (b : List Lexeme)
      → ((is_sign signs.Open (word_of c) ≡ true) × (told (called f) (arguments_at src inner
      (after c)) ≡ Ok (e, b)))
      ⊎ ((is_sign signs.Open (word_of c) ≡ false) × (variable_at src f c ≡ Ok (e, b)))
      → IsUnary src Inner a e b
  named_by a f c is e b (inl so) =
      let found = told_ok (called f) (arguments_at src inner (after c)) e b so.1 in
      subst (λ (x : Expr). IsUnary src Inner a x b) found.2
      (call (span_of c) a (after c) b f found.0 (subst (IsCallee src a f)
      (sign_first signs.Open c so.0) is)
      (reads_arguments.takes (after c) found.0 b found.1))
  named_by a f c is e b (inr so) = no_call a f c is e b so.1

  named_ok : Takes (IsUnary src Inner) (named_at src inner)
  unfolding named_at
  named_ok a e b is =
      let found = bind_ok (callee_at src a) _ (e, b) is in
      named_by a found.0.0 found.0.1 ((reads_callee src).takes a found.0.0 found.0.1 found.1) e b
      (chosen (is_sign signs.Open (word_of found.0.1)) _ _ (Ok (e, b)) found.2)

  parentheses_ok : (a : List Lexeme) (e : Expr) (b : List Lexeme) →
      is_sign signs.Open (word_of a) ≡ true → (inner COMMA
      (after a) >>= closed src signs.Close) ≡ Ok (e, b) → IsUnary src Inner a e b
  parentheses_ok a e b so is =
      let found = bind_ok (inner COMMA (after a)) (closed src signs.Close) (e, b) is in
      let end = closed_ok src signs.Close found.0 e b found.2 in
      rw (sign_first signs.Open a so, sym end.0)
      (parentheses (span_of a) (span_of found.0.1) (after a) b found.0.0
      (subst (Inner COMMA (after a) found.0.0) end.1 ((deep COMMA).takes
      (after a) found.0.0 found.0.1 found.1)))

  literal_ok : (a : List Lexeme) (e : Expr) (b : List Lexeme) (o : Option Literal) →
      literal_of src (span_of a) (word_of a) ≡ o → primary_by src inner a o ≡ Ok (e, b) →
      IsUnary src Inner a e b
  unfolding literal_of
  literal_ok [] e b (Some l) so is = absurd cc
  literal_ok (t ∷ x) e b (Some l) so is =
      let same = value_same (expr.Lit l, x) (e, b) is in
      rw (sym same.0, sym same.1) (literal t.word t.span x l so)
  literal_ok a e b None so is = elim (chosen (is_sign signs.Open (word_of a)) _ _ (Ok (e, b)) is) [
    | inl open_ ↦ parentheses_ok a e b open_.0 open_.1
    | inr other ↦ named_ok a e b other.1
  ]

  step_ok : (a : List Lexeme) (e : Expr) (b : List Lexeme) (o : Option Bool) →
      step_of (word_of a) ≡ o → step_by src inner a o ≡ Ok (e, b) → IsUnary src Inner a e b
  unfolding primary_at
  step_ok [] e b (Some up) so is = absurd cc
  step_ok (t ∷ x) e b (Some up) so is =
      let found = told_ok (prefixed up) (id_at src x) e b is in
      let id = id_ok src x found.0 b found.1 in
      let whole : t ∷ x ≡ token (word.Step up) t.span ∷ name (span_of x) ∷ b =
      ap (λ (w : Word). token w t.span ∷ x) (step_is t.word up so) ∙ ap (λ (c : List Lexeme). token
      (word.Step up) t.span ∷ c) id.0 in
      rw (whole, sym (ap (prefixed up) (sym id.1) ∙ found.2)) (prefix t.span (span_of x) b up)
  step_ok a e b None so is = literal_ok a e b (literal_of src (span_of a) (word_of a)) refl is

  unary_ok : (a : List Lexeme) (e : Expr) (b : List Lexeme) (o : Option UnOp) →
      unary_of (word_of a) ≡ o → unary_by src inner a o ≡ Ok (e, b) → IsUnary src Inner a e b
  unary_ok [] e b (Some o) so is = absurd cc
  unary_ok (t ∷ x) e b (Some o) so is =
      let found = told_ok (expr.Unary o) (inner UNARY x) e b is in
      rw (sym found.2) (unary t.word t.span x b o found.0 so ((deep UNARY).takes x found.0 b
      found.1))
  unary_ok a e b None so is = step_ok a e b (step_of (word_of a)) refl is

  -- what begins with a name is read as it is named
  callee_named : (a : List Lexeme) (f : Callee) (b : List Lexeme) → IsCallee src a f b →
      unary_at src inner a ≡ named_at src inner a
  unfolding unary_at primary_at literal_of
  callee_named a f b (local v x) = refl
  callee_named a f b (external unit h v x) = refl
  callee_named a f b (library l d v x) = refl

  literal_again : (w : Word) (span : Span) (x : List Lexeme) (l : Literal) →
      literal_of src span w ≡ Some l → unary_at src inner (token w span ∷ x) ≡ Ok (expr.Lit l, x)
  unfolding unary_at primary_at
  literal_again w span x l is =
      let plain = literal_plain src span w l is in
      ap (unary_by src inner (token w span ∷ x)) plain.0
      ∙ ap (step_by src inner (token w span ∷ x)) plain.1
      ∙ ap (primary_by src inner (token w span ∷ x)) is

  unary_again : Again (IsUnary src Inner) (Ends 0) (unary_at src inner)
  unfolding unary_at primary_at named_at callee_at callee_after id_at variable_at literal_of
  unary_again a e b (literal w span x l is) ends = literal_again w span x l is
  unary_again a e b (variable v x) ends =
      rw (
        no_sign signs.Hash 0 x (omega arith) ends,
        no_sign signs.Dot 0 x
            (omega arith) ends,
        no_sign signs.Open 0 x (omega arith) ends,
        no_step
            (word_of x) ends,
      ) refl
  unary_again a e b (postfix v s x up) ends = refl
  unary_again a e b (prefix s v x up) ends = refl
  unary_again a e b (call s a' c b' f es is arguments) ends =
      callee_named a f (sign signs.Open s ∷ c) is
      ∙ ap (λ (r : Reading Callee). r >>= λ name. cond (is_sign signs.Open (word_of name.1)) (told
      (called name.0) (arguments_at src inner (after name.1))) (variable_at src name.0 name.1))
      ((reads_callee src).again a f (sign signs.Open s ∷ c) is (refl, refl))
      ∙ ap (told (called f)) (reads_arguments.again c es b arguments tt)
  unary_again a e b (parentheses s t x b' e' one) ends =
      ap (λ (r : Reading Expr). r >>= closed src signs.Close) ((deep COMMA).again x e
      (sign signs.Close t ∷ b) one (omega arith)) ∙ closed_at src signs.Close e t b refl
  unary_again a e b (unary w span x b' o e' is one) ends =
      ap (unary_by src inner (token w span ∷ x)) is ∙ ap (told (expr.Unary o))
      ((deep UNARY).again x e' b one ends)

  unary_within : Within (IsUnary src Inner)
  unary_within a e b (literal w span x l is) = omega arith
  unary_within a e b (variable v x) = omega arith
  unary_within a e b (postfix v s x up) = omega arith
  unary_within a e b (prefix s v x up) = omega arith
  unary_within a e b (call s a' c b' f es is arguments) = omega (
    arith,
    (reads_callee src).within a f (sign signs.Open s ∷ c) is,
    reads_arguments.within c es b arguments,
  )
  unary_within a e b (parentheses s t x b' e' one) = omega (
    arith,
    (deep COMMA).within x e
        (sign signs.Close t ∷ b) one,
  )
  unary_within a e b (unary w span x b' o e' is one) = omega (arith, (deep UNARY).within x e' b one)

  pub reads_unary : Reads (IsUnary src Inner) (Ends 0) (unary_at src inner)
  unfolding unary_at
  reads_unary = record {
    takes = λ a e b is. unary_ok a e b (unary_of (word_of a)) refl is;
    again = unary_again;
    within = unary_within;
  }

  callee_starts : (a : List Lexeme) (f : Callee) (b : List Lexeme) → IsCallee src a f b →
      starts (word_of a) ≡ true
  callee_starts a f b (local v x) = refl
  callee_starts a f b (external unit h v x) = refl
  callee_starts a f b (library l d v x) = refl

  pub unary_starts : (a : List Lexeme) (e : Expr) (b : List Lexeme) → IsUnary src Inner a e b →
      starts (word_of a) ≡ true
  unary_starts a e b (literal w span x l is) = starts_literal src span w l is
  unary_starts a e b (call s a' c b' f es is arguments) = callee_starts a f
      (sign signs.Open s ∷ c) is
  unary_starts a e b (unary w span x b' o e' is one) = starts_unary_of w o is
  unary_starts a e b _ = refl
