-- Readings that let parts stand too deep at no place, at some or at any. All of them give the same,
-- or they come to a first such part: there those stop that don't let it stand, and all others give
-- the same.
use Rattle.std.proofs.Common.{◌≡◌, ℕ, zero, suc, ◌+◌, ◌<◌, ◌≤◌, nat_lt, Bool, true, false, cond}
use Rattle.std.proofs.Common.{List, [], ◌∷◌, ◌++◌, length, Option, Some, None, Ok, Err, refl, sym}
use Rattle.std.proofs.Common.{ap, subst, ◌∙◌, inl, inr, ◌⊎◌, append_assoc, length-append, arith}
use Rattle.std.proofs.lemmas.Bool.{lt-ltb, ltb-true}
use Rattle.wap_base.specs.Outcome.{◌>>=◌}
use Rattle.wap_grammar.specs.declared.fault.ParseFault.{ParseFault}
use Rattle.wap_grammar.specs.declared.fault.ParseFault.TheVariants as fault
use Rattle.wap_grammar.specs.declared.lexeme.Lexeme.{Lexeme}
use Rattle.wap_grammar.specs.declared.word.Word.{Word}
use Rattle.wap_grammar.specs.declared.word.Word.TheVariants as word
use Rattle.wap_grammar.specs.declared.word.Sign.{Sign}
use Rattle.wap_grammar.specs.Lexemes.{word_of, is_sign, is_name}
use Rattle.wap_grammar.specs.Values.{id_of}
use Rattle.wap_grammar.specs.Refusal.{place_of, IsPast}
use Rattle.wap_grammar.specs.reading.TokenReading.{Reading, span_of, after, syntax, nested, told}
use Rattle.wap_grammar.specs.reading.TokenReading.{expect_at}
use Rattle.wap_grammar.specs.reading.TokenReading.{closed, id_at, Next, one_more, run_at, items_at}

-- where parts may begin that stand too deep: nowhere, where fewer tokens than so many are left, or
-- anywhere
pub data Guard : Type 0 where
  nowhere : Guard
  late : ℕ → Guard
  anywhere : Guard

abbrev pub allows : Guard → List Lexeme → Bool
allows nowhere c = false
allows (late most) c = nat_lt (length c) most
allows anywhere c = true

-- where one may begin, it may begin at later places
pub later : (g : Guard) (c d : List Lexeme) → length d ≤ length c → allows g c ≡ true →
    allows g d ≡ true
later nowhere c d less so = absurd cc
later (late most) c d less so = lt-ltb (length d) most (omega
    (arith, less, ltb-true (length c) most so))
later anywhere c d less so = refl

module _ (src : List ℕ) (whole : List Lexeme) (limit : ℕ) where
  -- tokens that the whole ends with
  pub record IsRest (c : List Lexeme) : Type 0 where
    pub before : List Lexeme
    pub is : whole ≡ before ++ c

  -- a reading left tokens that the whole ends with, no more than so many; or it came to a place
  -- with as many tokens before it as there are levels; it never runs out of memory
  abbrev pub Goes : {A : Type 0} → ℕ → Reading A → Type 0
  Goes most (Ok x) = IsRest x.1 × (length x.1 ≤ most)
  Goes most (Err (fault.Nested at)) = IsPast src limit whole at
  Goes most (Err (fault.Syntax at)) = Unit {0}
  Goes most (Err fault.NoMemory) = ⊥

  -- as many tokens stand before a place as there are levels
  pub past_of : (c : List Lexeme) → IsRest c → limit + length c ≤ length whole →
      IsPast src limit whole (place_of src c)
  past_of c is many = record {
    before = is.before;
    rest = c;
    whole = is.is;
    many = omega (arith, many, ap length is.is, length-append is.before c);
    place = refl;
  }

  goes_less : {A : Type 0} (few most : ℕ) (r : Reading A) → few ≤ most → Goes few r → Goes most r
  goes_less few most (Ok x) less one = (one.0, omega (arith, less, one.1))
  goes_less few most (Err (fault.Nested at)) less one = one
  goes_less few most (Err (fault.Syntax at)) less one = tt
  goes_less few most (Err fault.NoMemory) less one = one

  goes_fault : (A B : Type 0) (most : ℕ) (e : ParseFault) → Goes {A = A} most (Err e) →
      Goes {A = B} most (Err e)
  goes_fault A B most (fault.Nested at) one = one
  goes_fault A B most (fault.Syntax at) one = tt
  goes_fault A B most fault.NoMemory one = one

  -- the readings part at the first part that is too deep
  pub record Fork {A : Type 0} (most : ℕ) (r : Guard → Reading A) : Type 0 where
    pub at : List Lexeme
    pub is : IsRest at
    pub few : length at ≤ most
    pub many : limit + length at ≤ length whole
    pub refused : (g : Guard) → allows g at ≡ false → r g ≡ nested src at
    pub passed : (g : Guard) → allows g at ≡ true → r g ≡ r anywhere
    pub goes : Goes (length at) (r anywhere)

  -- the readings are the same, or part
  abbrev pub Forks : {A : Type 0} → ℕ → (Guard → Reading A) → Type 0
  Forks most r = (((g : Guard) → r g ≡ r anywhere) × Goes most (r anywhere)) ⊎ Fork most r

  pub all_goes : {A : Type 0} (most : ℕ) (r : Guard → Reading A) → Forks most r →
      Goes most (r anywhere)
  all_goes most r (inl same) = same.1
  all_goes most r (inr fork) = goes_less (length fork.at) most (r anywhere) fork.few fork.goes

  -- readings that come to no more tokens than those at a place give the same, where each may go on
  -- from there
  all_agree : {A : Type 0} (c : List Lexeme) (most : ℕ) (r : Guard → Reading A) → most ≤ length c →
      Forks most r → (g : Guard) → allows g c ≡ true → r g ≡ r anywhere
  all_agree c most r less (inl same) g so = same.0 g
  all_agree c most r less (inr fork) g so =
      fork.passed g (later g c fork.at (omega (arith, less, fork.few)) so)

  forks_same : {A : Type 0} (most : ℕ) (r s : Guard → Reading A) →
      ((g : Guard) → s g ≡ r g) → Forks most r → Forks most s
  forks_same most r s is (inl same) = inl (
    (λ g. is g ∙ same.0 g ∙ sym (is anywhere)),
    subst (Goes most) (sym (is anywhere)) same.1,
  )
  forks_same most r s is (inr fork) = inr (record {
    at = fork.at;
    is = fork.is;
    few = fork.few;
    many = fork.many;
    refused = λ g so. is g ∙ fork.refused g so;
    passed = λ g so. is g ∙ fork.passed g so ∙ sym (is anywhere);
    goes = subst (Goes (length fork.at)) (sym (is anywhere)) fork.goes;
  })

  forks_less : {A : Type 0} (few most : ℕ) (r : Guard → Reading A) → few ≤ most →
      Forks few r → Forks most r
  forks_less few most r less (inl same) = inl (same.0, goes_less few most (r anywhere) less same.1)
  forks_less few most r less (inr fork) = inr (record {
    at = fork.at;
    is = fork.is;
    few = omega (arith, less, fork.few);
    many = fork.many;
    refused = fork.refused;
    passed = fork.passed;
    goes = fork.goes;
  })

  -- ---- one reading after the other

  abbrev Onward : {A B : Type 0} → ℕ → (Guard → A × List Lexeme → Reading B) → Type 0
  Onward {A = A} most f = (x : A × List Lexeme) → IsRest x.1 → length x.1 ≤ most →
      Forks (length x.1) (λ g. f g x)

  value_forks : {A B : Type 0} (most : ℕ) (q : Reading A) (f : Guard → A × List Lexeme →
      Reading B) → Goes most q → Onward most f → Forks most (λ g. q >>= f g)
  value_forks most (Ok x) f one next =
      forks_less (length x.1) most (λ g. f g x) one.1 (next x one.0 one.1)
  value_forks {A = A} {B = B} most (Err e) f one next =
      inl ((λ g. refl), goes_fault A B most e one)

  value_agree : {A B : Type 0} (c : List Lexeme) (q : Reading A) (f : Guard → A × List Lexeme →
      Reading B) → Goes (length c) q → Onward (length c) f → (g : Guard) → allows g c ≡ true →
      (q >>= f g) ≡ (q >>= f anywhere)
  value_agree c (Ok x) f one next g so =
      all_agree c (length x.1) (λ h. f h x) one.1 (next x one.0 one.1) g so
  value_agree c (Err e) f one next g so = refl

  value_goes : {A B : Type 0} (most : ℕ) (q : Reading A) (f : Guard → A × List Lexeme →
      Reading B) → Goes most q → Onward most f → Goes most (q >>= f anywhere)
  value_goes most (Ok x) f one next =
      goes_less (length x.1) most (f anywhere x) one.1
      (all_goes (length x.1) (λ h. f h x) (next x one.0 one.1))
  value_goes {A = A} {B = B} most (Err e) f one next = goes_fault A B most e one

  forks_then : {A B : Type 0} (most : ℕ) (r : Guard → Reading A) (f : Guard →
      A × List Lexeme → Reading B) → Forks most r → Onward most f →
      Forks most (λ g. r g >>= f g)
  forks_then most r f (inl same) next =
      forks_same most (λ g. r anywhere >>= f g) (λ g. r g >>= f g)
      (λ g. ap (λ q. q >>= f g) (same.0 g)) (value_forks most (r anywhere) f same.1 next)
  forks_then most r f (inr fork) next =
      let onward : Onward (length fork.at) f =
      λ x is less. next x is (omega (arith, less, fork.few)) in
      inr (record {
        at = fork.at;
        is = fork.is;
        few = fork.few;
        many = fork.many;
        refused = λ g so. ap (λ q. q >>= f g) (fork.refused g so);
        passed = λ g so. ap (λ q. q >>= f g) (fork.passed g so)
            ∙ value_agree fork.at (r anywhere) f fork.goes onward g so;
        goes = value_goes (length fork.at) (r anywhere) f fork.goes onward;
      })

  -- ---- the tokens after the first

  rest_after : (c : List Lexeme) → IsRest c → IsRest (after c)
  rest_after [] is = is
  rest_after (l ∷ x) is = record {
    before = is.before ++ l ∷ [];
    is = is.is ∙ sym (append_assoc is.before (l ∷ []) x);
  }

  after_less : (c : List Lexeme) → length (after c) ≤ length c
  after_less [] = omega arith
  after_less (l ∷ x) = omega arith

-- from each place with fewer tokens left than so many the readings are the same, or part
pub record Walks {A : Type 0} (src : List ℕ) (whole : List Lexeme) (limit most : ℕ)
    (r : Guard → List Lexeme → Reading A) : Type 0 where
  pub forks : (c : List Lexeme) → IsRest src whole limit c → length c < most →
      Forks src whole limit (length c) (λ g. r g c)

-- ---- how readings are made of others

module _ {src : List ℕ} {whole : List Lexeme} {limit : ℕ} where
  -- where there are fewer tokens
  pub sooner : {A : Type 0} {most : ℕ} {r : Guard → List Lexeme → Reading A} →
      Walks src whole limit (suc most) r → Walks src whole limit most r
  sooner one = record { forks = λ c is few. one.forks c is (omega (arith, few)) }

  -- nothing is read where no number of tokens is few enough
  pub never : {A : Type 0} {r : Guard → List Lexeme → Reading A} → Walks src whole limit zero r
  never = record { forks = λ c is few. absurd (omega (arith, few)) }

  -- a value
  pub gives : {A : Type 0} {most : ℕ} (x : A) → Walks src whole limit most (λ g c. Ok (x, c))
  gives x = record { forks = λ c is few. inl ((λ g. refl), (is, omega arith)) }

  -- a fault
  pub stops : {A : Type 0} {most : ℕ} → Walks {A = A} src whole limit most (λ g c. syntax src c)
  stops = record { forks = λ c is few. inl ((λ g. refl), tt) }

  -- by what stands first
  pub by_first : {A B : Type 0} {most : ℕ} (f : List Lexeme → B)
      {r : B → Guard → List Lexeme → Reading A} →
      ((b : B) → Walks src whole limit most (r b)) → Walks src whole limit most (λ g c. r (f c) g c)
  by_first f all = record { forks = λ c is few. (all (f c)).forks c is few }

  -- by a test
  pub choose : {A : Type 0} {most : ℕ} (t : List Lexeme → Bool)
      {r s : Guard → List Lexeme → Reading A} → Walks src whole limit most r →
      Walks src whole limit most s → Walks src whole limit most (λ g c. cond (t c) (r g c) (s g c))
  choose {most = most} t {r = r} {s = s} one two =
      record { forks = λ c is few. by_test c is few (t c) } where
        by_test : (c : List Lexeme) → IsRest src whole limit c → length c < most → (b : Bool) →
            Forks src whole limit (length c) (λ g. cond b (r g c) (s g c))
        by_test c is few true = one.forks c is few
        by_test c is few false = two.forks c is few

  -- what stands after a first token
  pub behind : {A : Type 0} {most : ℕ} {r : Guard → List Lexeme → Reading A} →
      Walks src whole limit most r → (l : Lexeme) (x : List Lexeme) →
      IsRest src whole limit (l ∷ x) → length (l ∷ x) < suc most →
      Forks src whole limit (length (l ∷ x)) (λ g. r g x)
  behind {r = r} one l x is few = forks_less src whole limit (length x) (length (l ∷ x))
      (λ g. r g x) (omega arith)
      (one.forks x (rest_after src whole limit (l ∷ x) is) (omega (arith, few)))

  -- what stands after the first token, if there is any
  pub next : {A : Type 0} {most : ℕ} {r : Guard → List Lexeme → Reading A} →
      Walks src whole limit most r → Walks src whole limit most (λ g c. r g (after c))
  next {r = r} one = record {
    forks = λ c is few. forks_less src whole limit (length (after c))
        (length c) (λ g. r g (after c)) (after_less src whole limit c)
        (one.forks (after c) (rest_after src whole limit c is) (omega
        (arith, few, after_less src whole limit c)));
  }

  -- what stands after a first token of a kind, or what stands there
  pub takes : {A : Type 0} {most : ℕ} (t : Word → Bool) → t word.End ≡ false →
      {r s : Guard → List Lexeme → Reading A} → Walks src whole limit most r →
      Walks src whole limit (suc most) s →
      Walks src whole limit (suc most) (λ g c. cond (t (word_of c)) (r g (after c)) (s g c))
  takes {most = most} t none {r = r} {s = s} one two = record { forks = at } where
    by_test : (l : Lexeme) (x : List Lexeme) → IsRest src whole limit (l ∷ x) →
        length (l ∷ x) < suc most → (b : Bool) →
        Forks src whole limit (length (l ∷ x)) (λ g. cond b (r g x) (s g (l ∷ x)))
    by_test l x is few true = behind one l x is few
    by_test l x is few false = two.forks (l ∷ x) is few

    at : (c : List Lexeme) → IsRest src whole limit c → length c < suc most →
        Forks src whole limit (length c) (λ g. cond (t (word_of c)) (r g (after c)) (s g c))
    at [] is few = rw none (two.forks [] is few)
    at (l ∷ x) is few = by_test l x is few (t l.word)

  -- one reading after the other
  pub then : {A B : Type 0} {most : ℕ} {r : Guard → List Lexeme → Reading A}
      {f : Guard → A → List Lexeme → Reading B} → Walks src whole limit most r →
      ((x : A) → Walks src whole limit most (λ g c. f g x c)) →
      Walks src whole limit most (λ g c. r g c >>= λ x. f g x.0 x.1)
  then {r = r} {f = f} one two = record {
    forks = λ c is few. forks_then src whole limit (length c)
        (λ g. r g c) (λ g x. f g x.0 x.1) (one.forks c is few) (λ x left less. (two x.0).forks x.1
        left (omega (arith, few, less)));
  }

  -- what is made of what was read
  pub tells : {A B : Type 0} {most : ℕ} (make : A → B) {r : Guard → List Lexeme → Reading A} →
      Walks src whole limit most r → Walks src whole limit most (λ g c. told make (r g c))
  tells make one = then one (λ x. gives (make x))

  -- a sign, and what stands after it
  pub expects : {B : Type 0} {most : ℕ} (s : Sign) {f : Guard → List Lexeme → Reading B} →
      Walks src whole limit most f →
      Walks src whole limit (suc most) (λ g c. expect_at src s c >>= f g)
  unfolding expect_at
  expects {most = most} s {f = f} one = record { forks = at } where
    by_test : (l : Lexeme) (x : List Lexeme) → IsRest src whole limit (l ∷ x) →
        length (l ∷ x) < suc most → (b : Bool) → Forks src whole limit (length (l ∷ x))
        (λ g. cond b (Ok x) (syntax src (l ∷ x)) >>= f g)
    by_test l x is few true = behind one l x is few
    by_test l x is few false = inl ((λ g. refl), tt)

    at : (c : List Lexeme) → IsRest src whole limit c → length c < suc most →
        Forks src whole limit (length c) (λ g. expect_at src s c >>= f g)
    at [] is few = inl ((λ g. refl), tt)
    at (l ∷ x) is few = by_test l x is few (is_sign s l.word)

  -- the sign after it
  pub closes : {A : Type 0} {most : ℕ} (s : Sign) {r : Guard → List Lexeme → Reading A} →
      Walks src whole limit most r → Walks src whole limit most (λ g c. r g c >>= closed src s)
  closes s one = then one (λ x. sooner (expects s (gives x)))

  -- a name
  pub names : {most : ℕ} → Walks src whole limit most (λ g. id_at src)
  unfolding id_at
  names = by_first span_of (λ span. choose (λ c. is_name (word_of c))
      (next (gives (id_of src span))) stops)

  -- items, each of them read so
  module _ {A : Type 0} {most : ℕ} {item : Guard → Next A}
      (each : Walks src whole limit most item) where
    runs : (count : ℕ) → Walks src whole limit most (λ g. run_at (item g) count)
    runs zero = gives []
    runs (suc count) = then each (by_item (runs count)) where
      by_item : Walks src whole limit most (λ g. run_at (item g) count) → (x : Option A) →
          Walks src whole limit most (λ g c. one_more (run_at (item g) count) (x, c))
      by_item others None = gives []
      by_item others (Some i) = tells (λ items. i ∷ items) others

    pub many : Walks src whole limit most (λ g. items_at (item g))
    unfolding items_at
    many = by_first length runs
