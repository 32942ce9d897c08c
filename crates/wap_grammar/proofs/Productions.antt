-- Spellings that are made of others, and readings made in the same way: these read them as they are
-- spelled.
use Rattle.std.proofs.Common.{◌≡◌, ℕ, Bool, true, false, cond, List, [], ◌∷◌}
use Rattle.std.proofs.Common.{Some, None, Ok, refl, sym, ap, subst, ◌∙◌, inl, inr, ◌⊎◌, arith}
use Rattle.wap_base.specs.Outcome.{◌>>=◌}
use Rattle.wap_base.proofs.Choices.{chosen, bind_ok, some_same}
use Rattle.wap_value.specs.declared.operator.BinOp.TheVariants as op
use Rattle.wap_grammar.specs.declared.program.program.Span.{Span}
use Rattle.wap_grammar.specs.declared.lexeme.Lexeme.{Lexeme}
use Rattle.wap_grammar.specs.declared.word.Word.{Word}
use Rattle.wap_grammar.specs.declared.word.Word.TheVariants as word
use Rattle.wap_grammar.specs.declared.word.Sign.{Sign}
use Rattle.wap_grammar.specs.Lexemes.{word_of, is_same_sign, is_sign, is_comma, is_name}
use Rattle.wap_grammar.specs.Values.{id_of}
use Rattle.wap_grammar.specs.Spellings.{Spelling, token, sign}
use Rattle.wap_grammar.specs.Programs.{IsParameter, parameter}
use Rattle.wap_grammar.specs.reading.TokenReading.{Reading, span_of, after, syntax, told}
use Rattle.wap_grammar.specs.reading.TokenReading.{expect_at, closed, id_at, Next}
use Rattle.wap_grammar.proofs.Firsts.{value_same, told_ok, sign_is, comma_is, expect_ok, closed_ok}
use Rattle.wap_grammar.proofs.Firsts.{closed_at, name_is}
use Rattle.wap_grammar.proofs.Items.{Reads, ReadsItems, Again, Implies, Shorter, Takes, Within}

-- whatever follows
abbrev pub Anything : List Lexeme → Type 0
Anything a = Unit {0}

-- ---- spellings made of others

-- a value, of no tokens
pub data Given {A : Type 0} (x : A) : List Lexeme → A → List Lexeme → Type 0 where
  given : (a : List Lexeme) → Given x a x a

-- what is made of what is spelled
pub data Made {A B : Type 0} (make : A → B) (Is : Spelling A) : List Lexeme → B → List Lexeme →
    Type 0 where
  made : (a b : List Lexeme) (x : A) → Is a x b → Made make Is a (make x) b

-- one after the other
pub data Turn {A B : Type 0} (Is : Spelling A) (Js : A → Spelling B) : List Lexeme → B →
    List Lexeme → Type 0 where
  turn : (a c b : List Lexeme) (x : A) (y : B) → Is a x c → Js x c y b → Turn Is Js a y b

-- after a token
pub data Behind {A : Type 0} (w : Word) (Is : Spelling A) : List Lexeme → A → List Lexeme →
    Type 0 where
  behind : (span : Span) (a b : List Lexeme) (x : A) → Is a x b →
      Behind w Is (token w span ∷ a) x b

-- before a sign
pub data Before {A : Type 0} (s : Sign) (Is : Spelling A) : List Lexeme → A → List Lexeme →
    Type 0 where
  before : (span : Span) (a b : List Lexeme) (x : A) → Is a x (sign s span ∷ b) → Before s Is a x b

-- the one or the other
abbrev pub Either : {A : Type 0} → Spelling A → Spelling A → Spelling A
Either Is Js a x b = Is a x b ⊎ Js a x b

-- ---- what doesn't begin so

-- nothing that is spelled so begins with a token that the test holds of, where that may follow
pub record Bars {A : Type 0} (t : Word → Bool) (E : List Lexeme → Type 0) (Is : Spelling A) :
    Type 0 where
  pub bars : (a : List Lexeme) (x : A) (b : List Lexeme) → Is a x b → E b → t (word_of a) ≡ false

pub bars_behind : {A : Type 0} {t : Word → Bool} {E : List Lexeme → Type 0} {w : Word}
    {Is : Spelling A} → t w ≡ false → Bars t E (Behind w Is)
bars_behind {A = A} {t = t} {E = E} {w = w} {Is = Is} other = record { bars = bars } where
  bars : (a : List Lexeme) (x : A) (b : List Lexeme) → Behind w Is a x b → E b →
      t (word_of a) ≡ false
  bars a x b (behind s c b' x' is) over = other

pub bars_either : {A : Type 0} {t : Word → Bool} {E : List Lexeme → Type 0} {Is Js : Spelling A} →
    Bars t E Is → Bars t E Js → Bars t E (Either Is Js)
bars_either {A = A} {t = t} {E = E} {Is = Is} {Js = Js} one two = record { bars = bars } where
  bars : (a : List Lexeme) (x : A) (b : List Lexeme) → Either Is Js a x b → E b →
      t (word_of a) ≡ false
  bars a x b (inl is) over = one.bars a x b is over
  bars a x b (inr is) over = two.bars a x b is over

-- a value of no tokens begins as what follows
pub bars_given : {A : Type 0} {t : Word → Bool} {E : List Lexeme → Type 0} {x : A} →
    ((b : List Lexeme) → E b → t (word_of b) ≡ false) → Bars t E (Given x)
bars_given {A = A} {t = t} {E = E} {x = x} ends = record { bars = bars } where
  bars : (a : List Lexeme) (y : A) (b : List Lexeme) → Given x a y b → E b →
      t (word_of a) ≡ false
  bars a y b (given a') over = ends a over

-- ---- tokens that a test tells from all others

-- the test holds of this word, and of no other
pub record Tests (t : Word → Bool) (w : Word) : Type 0 where
  pub holds : t w ≡ true
  pub none : t word.End ≡ false
  pub only : (v : Word) → t v ≡ true → v ≡ w

pub is_a : (s : Sign) → is_same_sign s s ≡ true → Tests (is_sign s) (word.Sign s)
is_a s same = record { holds = same; none = refl; only = sign_is s }

pub a_comma : Tests is_comma (word.Operator op.Comma)
a_comma = record { holds = refl; none = refl; only = comma_is }

-- the token that the test holds of
pub first_of : (t : Word → Bool) (w : Word) → Tests t w → (a : List Lexeme) →
    t (word_of a) ≡ true → a ≡ token w (span_of a) ∷ after a
first_of t w tests [] e = let none : false ≡ true = sym tests.none ∙ e in absurd cc
first_of t w tests (l ∷ x) e = ap (λ (v : Word). token v l.span ∷ x) (tests.only l.word e)

-- ---- what a sign ends

pub closing_ok : {A : Type 0} (src : List ℕ) (s : Sign) (r : Reading A) (x : A) (b : List Lexeme) →
    (r >>= closed src s) ≡ Ok (x, b)
    → (span : Span) × (r ≡ Ok (x, sign s span ∷ b))
closing_ok src s r x b e =
    let found = bind_ok r (closed src s) (x, b) e in
    let end = closed_ok src s found.0 x b found.2 in (
      span_of found.0.1,
      found.1 ∙ ap (λ y. Ok (y, found.0.1)) end.0 ∙ ap (λ (c : List Lexeme). Ok
          (x, c)) end.1,
    )

pub closing_again : {A : Type 0} (src : List ℕ) (s : Sign) (r : Reading A) (x : A) (span : Span)
    (b : List Lexeme) → is_same_sign s s ≡ true
    → r ≡ Ok (x, sign s span ∷ b) → (r >>= closed src s) ≡ Ok (x, b)
closing_again {A = A} src s r x span b same e = ap (λ (q : Reading A). q >>= closed src s) e
    ∙ closed_at src s x span b same

-- ---- readings

-- a spelling with the same tokens and values is read as well
pub mapped : {A : Type 0} {Is Js : Spelling A} {E : List Lexeme → Type 0}
    {r : List Lexeme → Reading A} → Reads Is E r →
    Implies Is Js → Implies Js Is → Reads Js E r
mapped one from to = record {
  takes = λ a x b e. from a x b (one.takes a x b e);
  again = λ a x b is over. one.again a x b (to a x b is) over;
  within = λ a x b is. one.within a x b (to a x b is);
}

-- a value alone
pub reads_given : {A : Type 0} {E : List Lexeme → Type 0} (x : A) →
    Reads (Given x) E (λ a. Ok (x, a))
reads_given {A = A} {E = E} x = record { takes = takes; again = again; within = within } where
  takes : (a : List Lexeme) (y : A) (b : List Lexeme) →
      ◌≡◌ {A = Reading A} (Ok (x, a)) (Ok (y, b)) → Given x a y b
  takes a y b e =
      let same = value_same (x, a) (y, b) e in
      rw (sym same.0, sym same.1) (given a)

  again : (a : List Lexeme) (y : A) (b : List Lexeme) → Given x a y b → E b →
      ◌≡◌ {A = Reading A} (Ok (x, a)) (Ok (y, b))
  again a y b (given a') over = refl

  within : Within (Given x)
  within a y b (given a') = omega arith

-- what is made of what is read
module _ {A B : Type 0} (make : A → B) {Is : Spelling A} {E : List Lexeme → Type 0}
    {r : List Lexeme → Reading A} (one : Reads Is E r) where
  made_takes : Takes (Made make Is) (λ a. told make (r a))
  made_takes a y b e =
      let found = told_ok make (r a) y b e in
      subst (λ z. Made make Is a z b) found.2 (made a b found.0 (one.takes a found.0 b found.1))

  made_again : Again (Made make Is) E (λ a. told make (r a))
  made_again a y b (made a' b' x is) over = ap (told make) (one.again a x b is over)

  made_within : Within (Made make Is)
  made_within a y b (made a' b' x is) = one.within a x b is

  pub reads_made : Reads (Made make Is) E (λ a. told make (r a))
  reads_made = record { takes = made_takes; again = made_again; within = made_within }

-- one reading after the other; what may follow the first begins what may come second
module _ {A B : Type 0} {Is : Spelling A} {Js : A → Spelling B} {E F : List Lexeme → Type 0}
    {r : List Lexeme → Reading A} {f : A → List Lexeme → Reading B} (one : Reads Is E r)
    (two : (x : A) → Reads (Js x) F (f x))
    (fits : (x : A) (a : List Lexeme) (y : B) (b : List Lexeme) → Js x a y b → F b → E a) where
  turn_takes : Takes (Turn Is Js) (λ a. r a >>= λ x. f x.0 x.1)
  turn_takes a y b e =
      let first = bind_ok (r a) (λ x. f x.0 x.1) (y, b) e in
      turn a first.0.1 b first.0.0 y (one.takes a first.0.0 first.0.1 first.1)
      ((two first.0.0).takes first.0.1 y b first.2)

  turn_again : Again (Turn Is Js) F (λ a. r a >>= λ x. f x.0 x.1)
  turn_again a y b (turn a' c b' x y' is js) over =
      ap (λ q. q >>= λ x. f x.0 x.1) (one.again a x c is (fits x c y b js over))
      ∙ (two x).again c y b js over

  turn_within : Within (Turn Is Js)
  turn_within a y b (turn a' c b' x y' is js) =
      omega (arith, one.within a x c is, (two x).within c y b js)

  pub reads_turn : Reads (Turn Is Js) F (λ a. r a >>= λ x. f x.0 x.1)
  reads_turn = record { takes = turn_takes; again = turn_again; within = turn_within }

-- where the first may be followed by anything
pub reads_then : {A B : Type 0} {Is : Spelling A} {Js : A → Spelling B} {F : List Lexeme → Type 0}
    {r : List Lexeme → Reading A} {f : A → List Lexeme → Reading B} → Reads Is Anything r →
    ((x : A) → Reads (Js x) F (f x)) → Reads (Turn Is Js) F (λ a. r a >>= λ x. f x.0 x.1)
reads_then one two = reads_turn one two (λ x a y b is over. tt)

-- by the first token: after it, or what doesn't begin with it
module _ {A : Type 0} (t : Word → Bool) {w : Word} (tests : Tests t w) {Is Js : Spelling A}
    {E : List Lexeme → Type 0} {r q : List Lexeme → Reading A} (one : Reads Is E r)
    (two : Reads Js E q)
    (other : Bars t E Js) where
  either_takes : Takes (Either (Behind w Is) Js) (λ a. cond (t (word_of a)) (r (after a)) (q a))
  either_takes a x b e =
      elim (chosen (t (word_of a)) (r (after a)) (q a) (Ok (x, b)) e) [
        | inl so ↦ inl (subst (λ c. Behind w Is c x b) (sym (first_of t w tests a so.0))
            (behind (span_of a) (after a) b x (one.takes (after a) x b so.1)))
        | inr so ↦ inr (two.takes a x b so.1)
      ]

  either_again : Again (Either (Behind w Is) Js) E (λ a. cond (t (word_of a)) (r (after a)) (q a))
  either_again a x b (inl (behind s c b' x' is)) over = rw tests.holds (one.again c x b is over)
  either_again a x b (inr is) over = rw (other.bars a x b is over) (two.again a x b is over)

  either_within : Within (Either (Behind w Is) Js)
  either_within a x b (inl (behind s c b' x' is)) = omega (arith, one.within c x b is)
  either_within a x b (inr is) = two.within a x b is

  pub reads_either : Reads (Either (Behind w Is) Js) E
      (λ a. cond (t (word_of a)) (r (after a)) (q a))
  reads_either = record { takes = either_takes; again = either_again; within = either_within }

-- after a sign, and before one
module _ {A : Type 0} (src : List ℕ) (s : Sign) (same : is_same_sign s s ≡ true) {Is : Spelling A}
    {E : List Lexeme → Type 0} {r : List Lexeme → Reading A} (one : Reads Is E r) where
  behind_takes : Takes (Behind (word.Sign s) Is) (λ a. expect_at src s a >>= r)
  behind_takes a x b e =
      let rest = bind_ok (expect_at src s a) r (x, b) e in
      subst (λ c. Behind (word.Sign s) Is c x b) (sym (expect_ok src s a rest.0 rest.1))
      (behind (span_of a) rest.0 b x (one.takes rest.0 x b rest.2))

  behind_again : Again (Behind (word.Sign s) Is) E (λ a. expect_at src s a >>= r)
  unfolding expect_at
  behind_again a x b (behind span c b' x' is) over = rw same (one.again c x b is over)

  behind_within : Within (Behind (word.Sign s) Is)
  behind_within a x b (behind span c b' x' is) = omega (arith, one.within c x b is)

  pub reads_behind : Reads (Behind (word.Sign s) Is) E (λ a. expect_at src s a >>= r)
  reads_behind = record { takes = behind_takes; again = behind_again; within = behind_within }

  module _ (fits : (span : Span) (b : List Lexeme) → E (sign s span ∷ b)) where
    before_takes : Takes (Before s Is) (λ a. r a >>= closed src s)
    before_takes a x b e =
        let end = closing_ok src s (r a) x b e in
        before end.0 a b x (one.takes a x (sign s end.0 ∷ b) end.1)

    before_again : (a : List Lexeme) (x : A) (b : List Lexeme) → Before s Is a x b →
        (r a >>= closed src s) ≡ Ok (x, b)
    before_again a x b (before span a' b' x' is) =
        closing_again src s (r a) x span b same
        (one.again a x (sign s span ∷ b) is (fits span b))

    before_within : Shorter (Before s Is)
    before_within a x b (before span a' b' x' is) =
        omega (arith, one.within a x (sign s span ∷ b) is)

    pub reads_before : {F : List Lexeme → Type 0} →
        Reads (Before s Is) F (λ a. r a >>= closed src s)
    reads_before = record {
      takes = before_takes;
      again = λ a x b is over. before_again a x b is;
      within = λ a x b is. omega (arith, before_within a x b is);
    }

-- ---- one token

-- a token that is a word, for what its place says
pub data Lone {A : Type 0} (w : Word) (f : Span → A) : List Lexeme → A → List Lexeme →
    Type 0 where
  lone : (span : Span) (a : List Lexeme) → Lone w f (token w span ∷ a) (f span) a

pub reads_lone : {A : Type 0} {E : List Lexeme → Type 0} (src : List ℕ) (t : Word → Bool) {w : Word}
    (f : Span → A) → Tests t w →
    Reads (Lone w f) E (λ a. cond (t (word_of a)) (Ok (f (span_of a), after a)) (syntax src a))
reads_lone {A = A} {E = E} src t {w = w} f tests =
    record { takes = takes; again = again; within = within } where
      read : List Lexeme → Reading A
      read a = cond (t (word_of a)) (Ok (f (span_of a), after a)) (syntax src a)

      takes : Takes (Lone w f) read
      takes a x b e = elim (chosen (t (word_of a)) _ _ (Ok (x, b)) e) [
        | inl so ↦ (
            let same = value_same (f (span_of a), after a) (x, b) so.1 in
            rw (first_of t w tests a so.0, sym same.0, sym same.1) (lone (span_of a) (after a)))
        | inr so ↦ absurd cc
      ]

      again : Again (Lone w f) E read
      again a x b (lone s c) over = rw tests.holds refl

      within : Within (Lone w f)
      within a x b (lone s c) = omega arith

-- a name
pub reads_name : {E : List Lexeme → Type 0} (src : List ℕ) → Reads (IsParameter src) E (id_at src)
unfolding id_at
reads_name src = mapped (reads_lone src is_name (id_of src) (record {
  holds = refl;
  none = refl;
  only = name_is;
})) from to where
  from : Implies (Lone word.Name (id_of src)) (IsParameter src)
  from a v b (lone s c) = parameter s c

  to : Implies (IsParameter src) (Lone word.Name (id_of src))
  to a v b (parameter s c) = lone s c

-- ---- items

-- the next item of some is read so, but where a test holds there is none
module _ {A : Type 0} {Is : Spelling A} {Inside Ends : List Lexeme → Type 0} {next : Next A}
    (stop : List Lexeme → Bool) (r : List Lexeme → Reading A)
    (by_test : (a : List Lexeme) → next a ≡ cond (stop a) (Ok (None, a)) (told Some (r a)))
    (item : (a : List Lexeme) (x : A) (b : List Lexeme) → stop a ≡ false → r a ≡ Ok (x, b) →
    Is a x b) (again : Again Is Inside r)
    (goes : (a : List Lexeme) (x : A) (b : List Lexeme) → Is a x b → (stop a ≡ false) × Inside a)
    (ends : (b : List Lexeme) → Ends b → (stop b ≡ true) × Inside b) (shorter : Shorter Is) where
  each_item : (a : List Lexeme) (x : A) (b : List Lexeme) → next a ≡ Ok (Some x, b) → Is a x b
  each_item a x b e = elim (chosen (stop a) _ _ (Ok (Some x, b)) (sym (by_test a) ∙ e)) [
    | inl so ↦ (let same = (value_same (None, a) (Some x, b) so.1).0 in absurd cc)
    | inr so ↦ (
        let found = told_ok Some (r a) (Some x) b so.1 in
        item a x b so.0 (found.1 ∙ ap (λ y. Ok (y, b)) (some_same found.0 x found.2)))
  ]

  each_stop : (a b : List Lexeme) → next a ≡ Ok (None, b) → a ≡ b
  each_stop a b e = elim (chosen (stop a) _ _ (Ok (None, b)) (sym (by_test a) ∙ e)) [
    | inl so ↦ (value_same (None, a) (None, b) so.1).1
    | inr so ↦ (let found = told_ok Some (r a) None b so.1 in absurd cc)
  ]

  pub reads_each : ReadsItems Is Inside Ends next
  reads_each = record {
    item = each_item;
    stop = each_stop;
    again = λ a x b is over. by_test a ∙ rw (goes a x b is).0 (ap (told Some) (again a x b is
        over));
    stops = λ b over. by_test b ∙ rw (ends b over).0 refl;
    looser = λ b over. (ends b over).1;
    goes_on = λ a x b is. (goes a x b is).1;
    shorter = shorter;
  }

-- the other of true and false
abbrev pub opposite : Bool → Bool
opposite b = cond b false true

pub otherwise : {A : Type 0} (b : Bool) (x y : A) → cond b x y ≡ cond (opposite b) y x
otherwise true x y = refl
otherwise false x y = refl

pub held : (b : Bool) → opposite b ≡ false → b ≡ true
held true e = refl
held false e = absurd cc

-- each after a token of this kind
pub reads_next : {A : Type 0} (t : Word → Bool) {w : Word} → Tests t w → {Is : Spelling A}
    {Inside Ends : List Lexeme → Type 0} {r : List Lexeme → Reading A} → Reads Is Inside r →
    ((span : Span) (a : List Lexeme) → Inside (token w span ∷ a)) →
    ((b : List Lexeme) → Ends b → Inside b) → ((b : List Lexeme) → Ends b → t (word_of b) ≡ false) →
    ReadsItems (Behind w Is) Inside Ends
    (λ a. cond (t (word_of a)) (told Some (r (after a))) (Ok (None, a)))
reads_next {A = A} t {w = w} tests {Is = Is} {Inside = Inside} {r = r} one begins looser ends =
    reads_each (λ a. opposite (t (word_of a))) (λ a. r (after a))
    (λ a. otherwise (t (word_of a)) (told Some (r (after a))) (Ok (None, a))) item again goes
    (λ b over. (rw (ends b over) refl, looser b over)) shorter where
      item : (a : List Lexeme) (x : A) (b : List Lexeme) → opposite (t (word_of a)) ≡ false →
          r (after a) ≡ Ok (x, b) → Behind w Is a x b
      item a x b so e =
          subst (λ c. Behind w Is c x b) (sym (first_of t w tests a (held (t (word_of a)) so)))
          (behind (span_of a) (after a) b x (one.takes (after a) x b e))

      again : Again (Behind w Is) Inside (λ a. r (after a))
      again a x b (behind s c b' x' is) over = one.again c x b is over

      goes : (a : List Lexeme) (x : A) (b : List Lexeme) → Behind w Is a x b →
          (opposite (t (word_of a)) ≡ false) × Inside a
      goes a x b (behind s c b' x' is) = (rw tests.holds refl, begins s c)

      shorter : Shorter (Behind w Is)
      shorter a x b (behind s c b' x' is) = omega (arith, one.within c x b is)

-- items with the same tokens and values are read as well
pub mapped_items : {A : Type 0} {Is Js : Spelling A} {Inside Ends : List Lexeme → Type 0}
    {next : Next A} → ReadsItems Is Inside Ends next →
    Implies Is Js → Implies Js Is → ReadsItems Js Inside Ends next
mapped_items all from to = record {
  item = λ a x b e. from a x b (all.item a x b e);
  stop = all.stop;
  again = λ a x b is over. all.again a x b (to a x b is) over;
  stops = all.stops;
  looser = all.looser;
  goes_on = λ a x b is. all.goes_on a x b (to a x b is);
  shorter = λ a x b is. all.shorter a x b (to a x b is);
}
