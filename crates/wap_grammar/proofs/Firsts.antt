-- What stands first where a reading goes on, and what a token's word settles.
use Rattle.std.proofs.Common.{◌≡◌, ℕ, suc, ◌<◌, ◌≤◌, Bool, true, false, List, [], ◌∷◌, Option, Some}
use Rattle.std.proofs.Common.{None, Ok, Err, refl, sym, ap, subst, ◌∙◌, inl, inr, eq-eqb, arith}
use Rattle.std.proofs.lemmas.Grind.{common_steps}
use Rattle.std.proofs.lemmas.Bool.{cases_Bool}
use Rattle.wap_base.proofs.Choices.{bind_ok, ok_same}
use Rattle.wap_value.specs.declared.operator.BinOp.{BinOp}
use Rattle.wap_value.specs.declared.operator.BinOp.TheVariants as op
use Rattle.wap_value.specs.declared.operator.UnOp.{UnOp}
use Rattle.wap_grammar.specs.declared.program.program.Span.{Span}
use Rattle.wap_grammar.specs.declared.program.program.Id.{Id}
use Rattle.wap_grammar.specs.declared.program.expression.Literal.{Literal}
use Rattle.wap_grammar.specs.declared.lexeme.Lexeme.{Lexeme}
use Rattle.wap_grammar.specs.declared.word.Word.{Word}
use Rattle.wap_grammar.specs.declared.word.Word.TheVariants as word
use Rattle.wap_grammar.specs.declared.word.Sign.{Sign}
use Rattle.wap_grammar.specs.declared.word.Sign.TheVariants as signs
use Rattle.wap_grammar.specs.contracts.word.Sign as type
use Rattle.wap_grammar.specs.Lexemes.{precedence, sign_of, unary_of, step_of, assignment_of}
use Rattle.wap_grammar.specs.Lexemes.{operator_of, is_same_sign, is_sign, is_name, is_comma}
use Rattle.wap_grammar.specs.Values.{id_of, literal_of}
use Rattle.wap_grammar.specs.Spellings.{token, name, sign}
use Rattle.wap_grammar.specs.reading.TokenReading.{Reading, word_of, span_of, after}
use Rattle.wap_grammar.specs.reading.TokenReading.{told, expect_at, closed, id_at}
use denote.Enum.Bare.{same_true}

-- ---- the parts of an answer

pub value_same : {A : Type 0} (x y : A × List Lexeme) → ◌≡◌ {A = Reading A} (Ok x) (Ok y) →
    (x.0 ≡ y.0) × (x.1 ≡ y.1)
value_same x y e = let same = ok_same x y e in (ap (λ p. p.0) same, ap (λ p. p.1) same)

pub told_ok : {A B : Type 0} (make : A → B) (r : Reading A) (y : B) (b : List Lexeme) →
    told make r ≡ Ok (y, b)
    → (x : A) × (r ≡ Ok (x, b)) × (make x ≡ y)
told_ok make (Ok x) y b e = let same = value_same (make x.0, x.1) (y, b) e in (
  x.0,
  ap (λ c. Ok
      (x.0, c)) same.1,
  same.0,
)
told_ok make (Err f) y b e = absurd cc

-- ---- words

pub sign_is : (s : Sign) (w : Word) → is_sign s w ≡ true → w ≡ word.Sign s
sign_is s (word.Sign other) e = ap word.Sign (sym (same_true type.the_type tt s other e))
sign_is s word.End e = absurd cc
sign_is s w e = absurd cc

pub name_is : (w : Word) → is_name w ≡ true → w ≡ word.Name
name_is word.Name e = refl
name_is (word.Sign other) e = absurd cc
name_is w e = absurd cc

pub step_is : (w : Word) (up : Bool) → step_of w ≡ Some up → w ≡ word.Step up
step_is (word.Step b) up e = ap word.Step cc
step_is (word.Sign other) up e = absurd cc
step_is w up e = absurd cc

pub assignment_is : (w : Word) (o : Option BinOp) → assignment_of w ≡ Some o → w ≡ word.Assign o
assignment_is (word.Assign p) o e = ap word.Assign cc
assignment_is (word.Sign other) o e = absurd cc
assignment_is w o e = absurd cc

pub operator_is : (level : ℕ) (w : Word) (o : BinOp) → operator_of level w ≡ Some o →
    (w ≡ word.Operator o) × (precedence o ≡ level)
operator_is level (word.Operator p) o e =
    (grind (arith, common_steps), grind (arith, common_steps))
operator_is level (word.Sign other) o e = absurd cc
operator_is level w o e = absurd cc

pub operator_at : (level : ℕ) (o : BinOp) → precedence o ≡ level →
    operator_of level (word.Operator o) ≡ Some o
operator_at level o e = rw (eq-eqb (precedence o) level e) refl

pub comma_is : (w : Word) → is_comma w ≡ true → w ≡ word.Operator op.Comma
comma_is (word.Operator op.Comma) e = refl
comma_is (word.Operator o) e = absurd cc
comma_is w e = absurd cc

-- the words that may be unary operators are no others
pub literal_plain : (src : List ℕ) (span : Span) (w : Word) (l : Literal) →
    literal_of src span w ≡ Some l → (unary_of w ≡ None) × (step_of w ≡ None)
unfolding literal_of
literal_plain src span word.Int l e = (refl, refl)
literal_plain src span (word.Sign s) l e = (refl, refl)
literal_plain src span w l e = (grind (arith, common_steps), grind (arith, common_steps))

-- ---- first tokens

pub sign_first : (s : Sign) (a : List Lexeme) → is_sign s (word_of a) ≡ true →
    a ≡ sign s (span_of a) ∷ after a
sign_first s [] e = absurd cc
sign_first s (l ∷ x) e = ap (λ (w : Word). token w l.span ∷ x) (sign_is s l.word e)

pub name_first : (a : List Lexeme) → is_name (word_of a) ≡ true → a ≡ name (span_of a) ∷ after a
name_first [] e = absurd cc
name_first (l ∷ x) e = ap (λ (w : Word). token w l.span ∷ x) (name_is l.word e)

pub expect_ok : (src : List ℕ) (s : Sign) (a b : List Lexeme) → expect_at src s a ≡ Ok b →
    a ≡ sign s (span_of a) ∷ b
unfolding expect_at
expect_ok src s a b e = grind (arith, common_steps, sign_first s a)

pub closed_ok : {A : Type 0} (src : List ℕ) (s : Sign) (x : A × List Lexeme) (y : A)
    (b : List Lexeme) → closed src s x ≡ Ok (y, b)
    → (x.0 ≡ y) × (x.1 ≡ sign s (span_of x.1) ∷ b)
closed_ok src s x y b e =
    let found = bind_ok (expect_at src s x.1) (λ rest. Ok (x.0, rest)) (y, b) e in
    let same = value_same (x.0, found.0) (y, b) found.2 in (
      same.0,
      expect_ok src s x.1 found.0 found.1 ∙ ap (λ (z : List Lexeme). sign s
          (span_of x.1) ∷ z) same.1,
    )

pub closed_at : {A : Type 0} (src : List ℕ) (s : Sign) (x : A) (span : Span) (b : List Lexeme) →
    is_same_sign s s ≡ true → closed src s (x, sign s span ∷ b) ≡ Ok (x, b)
unfolding expect_at
closed_at src s x span b same = rw same refl

pub id_ok : (src : List ℕ) (a : List Lexeme) (id : Id) (b : List Lexeme) →
    id_at src a ≡ Ok (id, b) → (a ≡ name (span_of a) ∷ b) × (id ≡ id_of src (span_of a))
unfolding id_at
id_ok src a id b e =
    (grind (arith, common_steps, name_first a), grind (arith, common_steps, name_first a))

-- ---- what may follow an expression

abbrev pub looseness_of : Sign → ℕ
looseness_of signs.Open = 0
looseness_of signs.Dot = 0
looseness_of signs.Hash = 0
looseness_of signs.Question = 11
looseness_of _ = 14

-- the tightest level of precedence at which a token goes on with what stands before it
abbrev pub looseness : Word → ℕ
looseness (word.Operator o) = precedence o
looseness (word.Step up) = 0
looseness (word.Assign o) = 11
looseness (word.Sign s) = looseness_of s
looseness _ = 14

-- what follows doesn't go on with an expression of the level
abbrev pub Ends : ℕ → List Lexeme → Type 0
Ends level a = level < looseness (word_of a)

pub ends_tighter : (level : ℕ) (a : List Lexeme) → Ends (suc level) a → Ends level a
ends_tighter level a ends = omega (arith, ends)

pub no_sign : (s : Sign) (level : ℕ) (a : List Lexeme) → looseness_of s ≤ level → Ends level a →
    is_sign s (word_of a) ≡ false
no_sign s level a tight ends = elim (cases_Bool (is_sign s (word_of a))) [
  | inl so ↦ absurd (omega (
    arith,
    tight,
    subst (λ (w : Word). level < looseness w) (sign_is s
        (word_of a) so) ends,
  ))
  | inr not_so ↦ not_so
]

pub no_step : (w : Word) → 0 < looseness w → step_of w ≡ None
no_step (word.Step up) loose = absurd (omega (arith, loose))
no_step (word.Sign s) loose = refl
no_step w loose = refl

pub no_operator : (level : ℕ) (w : Word) → level < looseness w → operator_of level w ≡ None
no_operator level (word.Operator o) loose = grind (arith, common_steps)
no_operator level (word.Sign s) loose = refl
no_operator level w loose = refl

pub no_comma : (w : Word) → 13 < looseness w → is_comma w ≡ false
no_comma (word.Operator op.Comma) loose = absurd (omega (arith, loose))
no_comma (word.Operator o) loose = refl
no_comma w loose = refl

-- ---- what an expression may begin with

abbrev pub starts_unary : Option UnOp → Bool
starts_unary (Some o) = true
starts_unary None = false

abbrev pub starts : Word → Bool
starts word.Name = true
starts word.Int = true
starts word.Float = true
starts word.Str = true
starts word.True = true
starts word.False = true
starts word.Invalid = true
starts (word.Unary o) = true
starts (word.Operator o) = starts_unary (sign_of o)
starts (word.Step up) = true
starts (word.Sign s) = is_same_sign signs.Open s
starts _ = false

pub starts_unary_of : (w : Word) (o : UnOp) → unary_of w ≡ Some o → starts w ≡ true
starts_unary_of (word.Unary p) o e = refl
starts_unary_of (word.Operator p) o e = ap starts_unary e
starts_unary_of (word.Sign s) o e = absurd cc
starts_unary_of w o e = absurd cc

pub starts_literal : (src : List ℕ) (span : Span) (w : Word) (l : Literal) →
    literal_of src span w ≡ Some l → starts w ≡ true
unfolding literal_of
starts_literal src span word.Int l e = refl
starts_literal src span (word.Sign s) l e = absurd cc
starts_literal src span w l e = grind (arith, common_steps)

-- a sign that begins no expression
pub no_start : (s : Sign) (a : List Lexeme) → is_same_sign signs.Open s ≡ false →
    starts (word_of a) ≡ true → is_sign s (word_of a) ≡ false
no_start s a not_open begins = elim (cases_Bool (is_sign s (word_of a))) [
  | inl so ↦ (let same : starts (word.Sign s) ≡ true = subst (λ (w : Word). starts w ≡ true)
      (sign_is s (word_of a) so) begins in absurd cc)
  | inr not_so ↦ not_so
]

-- no level of precedence stands between those of `?:` and of commas, of which assignments are none
-- of what follows
loose_operator : (o : BinOp) → 11 < precedence o → 12 < precedence o
loose_operator op.Mul loose = absurd (omega (arith, loose))
loose_operator o loose = omega (arith, loose)

loose_sign : (s : Sign) → 11 < looseness_of s → 12 < looseness_of s
loose_sign signs.Question loose = absurd (omega (arith, loose))
loose_sign s loose = omega (arith, loose)

pub ends_branch : (w : Word) → 11 < looseness w → 12 < looseness w
ends_branch (word.Operator o) loose = loose_operator o loose
ends_branch (word.Sign s) loose = loose_sign s loose
ends_branch w loose = omega (arith, loose)
