-- What an accepted source says can be spelled, and so the unit of its program has a spelling.
use Rattle.std.proofs.Common.{◌≡◌, ℕ, ◌+◌, ◌^◌, ◌<◌, ◌≤◌, ◌⊎◌, inl, inr, Bool, true, false, ◌||◌}
use Rattle.std.proofs.Common.{cond, List, [], ◌∷◌, ◌++◌, length, Some, None, refl, sym, ap, subst}
use Rattle.std.proofs.Common.{arith}
use Rattle.std.specs.List.{AllByRecursion, flat_map, filter_map, sum_by}
use Rattle.std.specs.Str.{all_scalars}
use Rattle.std.specs.Cmp.Lexicographic.{bytes_decides}
use Rattle.std.proofs.lemmas.Grind.{flat_map-append}
use Rattle.std.proofs.lemmas.List.Sums.{sum_by-cons, sum_by-append}
use Rattle.wap_base.specs.Texts.{is_same_text}
use Rattle.wap_grammar.specs.declared.program.program.Use.{Use}
use Rattle.wap_grammar.specs.declared.program.program.Use.TheVariants.{Url, Access, Agent, Note}
use Rattle.wap_grammar.specs.declared.program.program.Function.{Function}
use Rattle.wap_grammar.specs.declared.program.program.Program.{Program}
use Rattle.wap_grammar.specs.declared.program.statement.Stmt.{Stmt}
use Rattle.wap_grammar.specs.declared.program.expression.Literal.{Literal}
use Rattle.wap_grammar.specs.declared.program.expression.Literal.TheVariants as literal
use Rattle.wap_grammar.specs.declared.lexeme.Lexeme.{Lexeme}
use Rattle.wap_grammar.specs.declared.precedence.TheConstants.{LEVEL_LIMIT}
use Rattle.wap_grammar.specs.Spellings.{Spelling, name, Several}
use Rattle.wap_grammar.specs.Spellings as spelled
use Rattle.wap_grammar.specs.Statements.{IsStatement}
use Rattle.wap_grammar.specs.Programs.{IsUse, IsFunction, IsProgramOf}
use Rattle.wap_grammar.specs.Programs as formed
use Rattle.wap_grammar.specs.Lexemes.{lexemes_of}
use Rattle.wap_unit.specs.Units.{IsUnit}
use Rattle.wap_unit.specs.Spelling.{spelling, HasSpelling}
use Rattle.wap_meaning.specs.Names.{Names, url_of, url_in, names_in}
use Rattle.wap_meaning.specs.coding.Constants.{is_in, same_literal, with_literal, pooled}
use Rattle.wap_meaning.specs.coding.Needs.{Need, Constant, Other, literals_of, stmt_needs}
use Rattle.wap_meaning.specs.needs.Drawn.{use_needs, function_needs}
use Rattle.wap_meaning.proofs.NeedsLemmas.Drawing.{Draws, several}
use Rattle.wap_meaning.proofs.NeedsLemmas.Statements.{draws_statement}
use Rattle.wap_meaning.proofs.NeedsLemmas.Programs.{draws_use, draws_function, passes_head}
use Rattle.wap_meaning.proofs.NeedsLemmas.Operators.{operators}
use Rattle.wap_meaning.specs.compiled.Pool.{text_if, use_literals, function_literals}
use Rattle.wap_meaning.specs.compiled.Pool.{literals_needed, pool}
use Rattle.wap_meaning.specs.compiled.Units.{pragmas_of, text_place, compiled}
use Rattle.wap_meaning.specs.compiled.Accepted.{IsAccepted}
use Rattle.wap_meaning.proofs.Each.{each_front, each_back, each_both, each_then}
use Rattle.wap_compiled_laws.proofs.SpellingLemmas.Written.{pragma_size}
use Rattle.wap_compiled_laws.proofs.SourceSizes.Sizes.{text_size, CanBeSaid}
use Rattle.wap_compiled_laws.proofs.SpellingLemmas.Units.{CanBeSpelled, is_spelled}
use Rattle.wap_compiled_laws.proofs.SourceSizes.Tokens.{weight, Sound, tokens_weigh, lexemes_sound}
use Rattle.wap_compiled_laws.proofs.SourceSizes.Weights.{need_size, IsSaid, drawn_said, sound_after}
use Rattle.wap_compiled_laws.proofs.SourceSizes.Weights.{use_bytes, uses_weigh}
use Rattle.wap_compiled_laws.proofs.SpellingLemmas.Distinct.{Known, pool_size}
use Rattle.wap_compiled_laws.proofs.BodiesLemmas.Pooled.{in_more}
use Rattle.std.proofs.lemmas.Grind.{common_steps}

-- ---- what the grammar says of a program

pub record Facts (src : List ℕ) (p : Program) (most : ℕ) : Type 0 where
  pub some : 0 < length p.functions
  pub uses : AllByRecursion IsSaid (flat_map use_needs p.uses)
  pub said : AllByRecursion IsSaid (flat_map function_needs p.functions)
  pub names : AllByRecursion (λ (f : Function). all_scalars f.name.name ≡ true) p.functions
  pub size : sum_by (use_bytes src) p.uses
      + sum_by need_size (flat_map function_needs p.functions) ≤ most

module _ (src : List ℕ) (Statement : Spelling Stmt)
    (statement : Draws src stmt_needs Statement) where
  -- what a function needs is drawn from its tokens
  abbrev draws : Draws src function_needs (IsFunction src Statement)
  draws = draws_function src Statement statement

  name_said : {x : List Lexeme} {f : Function} {v : List Lexeme} → AllByRecursion (Sound src) x
      → IsFunction src Statement x f v → all_scalars f.name.name ≡ true
  name_said {x} sound (formed.function f left opened closed x' y z u v' out ps ss head params
      body tail) = (sound_after src sound (passes_head src x out (name f ∷ _) head)).0.names refl

  names_said : {x : List Lexeme} {fs : List Function} {y : List Lexeme}
      → AllByRecursion (Sound src) x → Several (IsFunction src Statement) x fs y
      → AllByRecursion (λ (f : Function). all_scalars f.name.name ≡ true) fs
  names_said sound (spelled.none x') = tt
  names_said {x} sound (spelled.more x' y z' f others is rest) = (
    name_said sound is,
    names_said (sound_after src sound (draws x f y is)) rest,
  )

  facts : {x : List Lexeme} {p : Program} → AllByRecursion (Sound src) x
      → IsProgramOf src Statement x p → Facts src p (sum_by weight x)
  facts {x} sound (formed.program x' y us f fs uses functions) =
      let first = several src use_needs (IsUse src) (draws_use src) x us y uses in
      let after = sound_after src sound first in
      let second = several src function_needs (IsFunction src Statement) draws y (f ∷ fs) []
      functions in
      let said = drawn_said src after second in
      record {
        some = omega arith;
        uses = (drawn_said src sound first).0;
        said = said.0;
        names = names_said after functions;
        size = omega (arith, said.1, uses_weigh src x us y sound uses);
      }

-- ---- literals

-- what holds of literals holds of their pool
pooled_each : (P : Literal → Type 0) (ls constants : List Literal) → AllByRecursion P constants
    → AllByRecursion P ls → AllByRecursion P (pooled constants ls)
pooled_each P [] constants all more = all
pooled_each P (l ∷ ls) constants all more =
    pooled_each P ls (with_literal constants l) (by (is_in l constants)) more.1
  where
    by : (b : Bool) → AllByRecursion P (cond b constants (constants ++ l ∷ []))
    by true = all
    by false = each_both P constants (l ∷ []) all (more.0, tt)

-- the literals of pragmas
use_said : (u : Use) → AllByRecursion IsSaid (use_needs u)
    → AllByRecursion CanBeSaid (use_literals u)
use_said (Access (Some domain) None span) said = (said.0, tt)
use_said (Access None (Some path) span) said = (said.0, tt)
use_said (Access (Some domain) (Some path) span) said = (said.0, (said.1.0, tt))
use_said (Agent name content None) said = (said.0, (said.1.0, tt))
use_said (Agent name content (Some scheme)) said = (said.0, (said.1.0, (said.1.1.0, tt)))
use_said _ said = tt

uses_said : (us : List Use) → AllByRecursion IsSaid (flat_map use_needs us)
    → AllByRecursion CanBeSaid (flat_map use_literals us)
uses_said [] said = tt
uses_said (u ∷ us) said =
    each_both CanBeSaid (use_literals u) (flat_map use_literals us)
    (use_said u (each_front IsSaid (use_needs u) _ said))
    (uses_said us (each_back IsSaid (use_needs u) _ said))

-- the URLs of units
urls_said : (us : List Use) → AllByRecursion IsSaid (flat_map use_needs us)
    → AllByRecursion (λ (pair : List ℕ × List ℕ). all_scalars pair.1 ≡ true) (filter_map url_in us)
urls_said [] said = tt
urls_said (Url u url ∷ us) said = (said.0, urls_said us said.1)
urls_said (Access domain path span ∷ us) said =
    urls_said us (each_back IsSaid (use_needs (Access domain path span)) _ said)
urls_said (Agent name content scheme ∷ us) said =
    urls_said us (each_back IsSaid (use_needs (Agent name content scheme)) _ said)
urls_said (Note ∷ us) said = urls_said us said

url_said : (name : List ℕ) (urls : List (List ℕ × List ℕ))
    → AllByRecursion (λ (pair : List ℕ × List ℕ). all_scalars pair.1 ≡ true) urls
    → all_scalars (url_of name urls) ≡ true
url_said name [] said = refl
url_said name (pair ∷ urls) said = by (is_same_text name pair.0) (url_said name urls said.1)
  where
    by : (b : Bool) → all_scalars (url_of name urls) ≡ true
        → all_scalars (cond b pair.1 (url_of name urls)) ≡ true
    by true rest = said.0
    by false rest = rest

-- the literals of needs
needs_said : (names : Names)
    → AllByRecursion (λ (pair : List ℕ × List ℕ). all_scalars pair.1 ≡ true) names.urls
    → (ns : List Need) → AllByRecursion IsSaid ns
    → AllByRecursion CanBeSaid (flat_map (literals_of names) ns)
needs_said names urls [] said = tt
needs_said names urls (Constant l ∷ ns) said = (said.0, needs_said names urls ns said.1)
needs_said names urls (Other u f ∷ ns) said =
    (url_said u.name names.urls urls, (said.0, needs_said names urls ns said.1))
needs_said names urls (_ ∷ ns) said = needs_said names urls ns said.1

functions_said : (p : Program)
    → AllByRecursion (λ (pair : List ℕ × List ℕ). all_scalars pair.1 ≡ true)
    (filter_map url_in p.uses) → (fs : List Function)
    → AllByRecursion IsSaid (flat_map function_needs fs)
    → AllByRecursion CanBeSaid (flat_map (function_literals p) fs)
functions_said p urls [] said = tt
functions_said p urls (f ∷ fs) said =
    each_both CanBeSaid (function_literals p f) (flat_map (function_literals p) fs)
    (needs_said (names_in p f) urls (flat_map stmt_needs f.body)
    (each_front IsSaid (function_needs f) _ said))
    (functions_said p urls fs (each_back IsSaid (function_needs f) _ said))

-- ---- sizes

-- the texts of a pragma, its URL too
abbrev use_texts : Use → List Literal
use_texts (Url u url) = literal.Str url ∷ []
use_texts (Access domain path span) = text_if domain ++ text_if path
use_texts (Agent name content scheme) =
    literal.Str name ∷ literal.Str content ∷ text_if scheme
use_texts Note = []

-- the texts of a need, but for URLs
abbrev need_texts : Need → List Literal
need_texts (Constant l) = l ∷ []
need_texts (Other u f) = literal.Str f.name ∷ []
need_texts _ = []

-- a literal that is there is known
known_first : (l : Literal) (xs : List Literal) → Known (l ∷ xs) l
known_first (literal.Str t) xs =
    inl (ap (λ (b : Bool). b || is_in (literal.Str t) xs) ((bytes_decides t t).1 refl))
known_first _ xs = inr refl

-- what is known stays known
known_left : (l : Literal) (xs ys : List Literal) → Known xs l → Known (xs ++ ys) l
known_left l xs ys (inl there) = inl (in_more l xs ys there)
known_left l xs ys (inr none) = inr none

known_right : (l : Literal) (xs ys : List Literal) → Known ys l → Known (xs ++ ys) l
known_right l [] ys known = known
known_right l (x ∷ xs) ys known = by (known_right l xs ys known)
  where
    by : Known (xs ++ ys) l → Known (x ∷ (xs ++ ys)) l
    by (inl there) = inl (or_true (same_literal l x) there)
      where
        or_true : (b : Bool) → is_in l (xs ++ ys) ≡ true → (b || is_in l (xs ++ ys)) ≡ true
        or_true true there = refl
        or_true false there = there
    by (inr none) = inr none

-- literals know themselves
all_known : (xs : List Literal) → AllByRecursion (Known xs) xs
all_known [] = tt
all_known (x ∷ xs) =
    (known_first x xs, each_then (λ l. known_right l (x ∷ []) xs) xs (all_known xs))

-- lists in a row, each of which knows the other's literals
flat_known : {X : Type 0} (g h : X → List Literal) → ((x : X) → AllByRecursion (Known (g x)) (h x))
    → (xs : List X) → AllByRecursion (Known (flat_map g xs)) (flat_map h xs)
flat_known g h each [] = tt
flat_known g h each (x ∷ xs) =
    each_both (Known (g x ++ flat_map g xs)) (h x) (flat_map h xs)
    (each_then (λ l. known_left l (g x) (flat_map g xs)) (h x) (each x))
    (each_then (λ l. known_right l (g x) (flat_map g xs)) (flat_map h xs) (flat_known g h each xs))

use_known : (u : Use) → AllByRecursion (Known (use_texts u)) (use_literals u)
use_known (Url name url) = tt
use_known (Access domain path span) = all_known (text_if domain ++ text_if path)
use_known (Agent name content scheme) =
    all_known (literal.Str name ∷ literal.Str content ∷ text_if scheme)
use_known Note = tt

-- a URL is among the texts of pragmas, or there is none
url_known : (name : List ℕ) (us : List Use)
    → Known (flat_map use_texts us) (literal.Str (url_of name (filter_map url_in us)))
url_known name [] = inr refl
url_known name (Url u url ∷ us) = by (is_same_text name u.name) (url_known name us)
  where
    by : (b : Bool)
        → Known (flat_map use_texts us) (literal.Str (url_of name (filter_map url_in us)))
        → Known (literal.Str url ∷ flat_map use_texts us)
        (literal.Str (cond b url (url_of name (filter_map url_in us))))
    by true rest = known_first (literal.Str url) (flat_map use_texts us)
    by false rest =
        known_right (literal.Str (url_of name (filter_map url_in us))) (literal.Str url ∷ [])
        (flat_map use_texts us) rest
url_known name (Access domain path span ∷ us) =
    known_right (literal.Str (url_of name (filter_map url_in us)))
    (use_texts (Access domain path span)) (flat_map use_texts us) (url_known name us)
url_known name (Agent n content scheme ∷ us) =
    known_right (literal.Str (url_of name (filter_map url_in us)))
    (use_texts (Agent n content scheme)) (flat_map use_texts us) (url_known name us)
url_known name (Note ∷ us) = url_known name us

-- a literal is among some or among others
abbrev Either : List Literal → List Literal → Literal → Type 0
Either xs ys l = Known xs l ⊎ Known ys l

either_both : (l : Literal) (xs ys : List Literal) → Either xs ys l → Known (xs ++ ys) l
either_both l xs ys (inl known) = known_left l xs ys known
either_both l xs ys (inr known) = known_right l xs ys known

either_left : (xs ys zs : List Literal) (l : Literal) → Either xs ys l → Either xs (ys ++ zs) l
either_left xs ys zs l (inl known) = inl known
either_left xs ys zs l (inr known) = inr (known_left l ys zs known)

either_right : (xs ys zs : List Literal) (l : Literal) → Either xs zs l → Either xs (ys ++ zs) l
either_right xs ys zs l (inl known) = inl known
either_right xs ys zs l (inr known) = inr (known_right l ys zs known)

module _ (p : Program) where
  -- the texts of the program's pragmas
  abbrev texts : List Literal
  texts = flat_map use_texts p.uses

  -- the literals of a need are among them or its own
  need_known : (f : Function) (n : Need)
      → AllByRecursion (Either texts (need_texts n)) (literals_of (names_in p f) n)
  need_known f (Constant l) = (inr (known_first l []), tt)
  need_known f (Other u g) =
      (inl (url_known u.name p.uses), (inr (known_first (literal.Str g.name) []), tt))
  need_known f _ = tt

  needs_known : (f : Function) (ns : List Need)
      → AllByRecursion (Either texts (flat_map need_texts ns))
      (flat_map (literals_of (names_in p f)) ns)
  needs_known f [] = tt
  needs_known f (n ∷ ns) =
      let rest = flat_map need_texts ns in
      each_both (Either texts (need_texts n ++ rest)) (literals_of (names_in p f) n)
      (flat_map (literals_of (names_in p f)) ns) (each_then (either_left texts (need_texts n) rest)
      (literals_of (names_in p f) n) (need_known f n)) (each_then
      (either_right texts (need_texts n) rest) (flat_map (literals_of (names_in p f)) ns)
      (needs_known f ns))

  functions_known : (fs : List Function)
      → AllByRecursion (Either texts (flat_map need_texts (flat_map function_needs fs)))
      (flat_map (function_literals p) fs)
  functions_known [] = tt
  functions_known (f ∷ fs) =
      let first = flat_map need_texts (function_needs f) in
      let rest = flat_map need_texts (flat_map function_needs fs) in
      let whole = flat_map-append need_texts (function_needs f) (flat_map function_needs fs) in
      subst (λ (ys : List Literal). AllByRecursion (Either texts ys)
      (function_literals p f ++ flat_map (function_literals p) fs)) (sym whole)
      (each_both (Either texts (first ++ rest)) (function_literals p f)
      (flat_map (function_literals p) fs) (each_then (either_left texts first rest)
      (function_literals p f) (needs_known f (function_needs f)))
      (each_then (either_right texts first rest) (flat_map (function_literals p) fs)
      (functions_known fs)))

  -- the texts of its needs
  abbrev others : List Literal
  others = flat_map need_texts (flat_map function_needs p.functions)

  needed_known : AllByRecursion (Known (texts ++ others)) (literals_needed p)
  unfolding literals_needed
  needed_known =
      each_both (Known (texts ++ others)) (flat_map use_literals p.uses)
      (flat_map (function_literals p) p.functions)
      (each_then (λ l. known_left l texts others) (flat_map use_literals p.uses)
      (flat_known use_texts use_literals use_known p.uses)) (each_then
      (λ l known. either_both l texts others known) (flat_map (function_literals p) p.functions)
      (functions_known p.functions))

-- the texts of needs have their bytes
needs_size : (ns : List Need) → sum_by text_size (flat_map need_texts ns) ≡ sum_by need_size ns
needs_size [] = refl
needs_size (n ∷ ns) =
    omega (
      arith,
      sum_by-append text_size (need_texts n) (flat_map need_texts ns),
      needs_size ns,
      sum_by-cons need_size n ns,
      one n,
    )
  where
    one : (n : Need) → sum_by text_size (need_texts n) ≡ need_size n
    one (Constant l) = omega (arith, sum_by-cons text_size l [])
    one (Other u f) = omega (arith, sum_by-cons text_size (literal.Str f.name) [])
    one _ = refl

-- a pragma has no more bytes than its texts and what names them
use_size : (src : List ℕ) (number : List ℕ → ℕ) (u : Use)
    → sum_by text_size (use_texts u) + sum_by pragma_size (pragmas_of number u) ≤ use_bytes src u
use_size src number u = grind (arith, common_steps, sum_by-cons, text_size)

uses_size : (src : List ℕ) (number : List ℕ → ℕ) (us : List Use)
    → sum_by text_size (flat_map use_texts us)
    + sum_by pragma_size (flat_map (pragmas_of number) us)
    ≤ sum_by (use_bytes src) us
uses_size src number [] = omega arith
uses_size src number (u ∷ us) =
    omega (
      arith,
      use_size src number u,
      uses_size src number us,
      sum_by-append text_size (use_texts u) (flat_map use_texts us),
      sum_by-append pragma_size (pragmas_of number u) (flat_map (pragmas_of number) us),
      sum_by-cons (use_bytes src) u us,
    )

-- ---- accepted sources

module _ (source : List ℕ) (p : Program) (is : IsAccepted source p) where
  -- what its tokens say of it
  its_facts : Facts source p (sum_by weight (lexemes_of source is.spells.tokens))
  its_facts =
      facts source (IsStatement source LEVEL_LIMIT) (draws_statement source LEVEL_LIMIT)
      (lexemes_sound is.spells.are_tokens) is.spells.spells

  can_be_spelled : CanBeSpelled p
  unfolding pool literals_needed compiled
  can_be_spelled =
      let urls = urls_said p.uses its_facts.uses in
      record {
        some = its_facts.some;
        literals = pooled_each CanBeSaid (literals_needed p) [] tt
            (each_both CanBeSaid (flat_map use_literals p.uses)
            (flat_map (function_literals p) p.functions) (uses_said p.uses its_facts.uses)
            (functions_said p urls p.functions its_facts.said));
        names = its_facts.names;
        short = omega (
          arith,
          pool_size (texts p ++ others p) (literals_needed p) (needed_known p),
          sum_by-append text_size (texts p) (others p),
          needs_size (flat_map function_needs p.functions),
          uses_size source (text_place (pool p)) p.uses,
          its_facts.size,
          tokens_weigh source is.spells.are_tokens.lexed,
          is.short,
        );
      }

pub accepted_unit : {source : List ℕ} {p : Program} → IsAccepted source p
    → IsUnit (spelling (compiled p)) (compiled p) × (length (spelling (compiled p)) < 2 ^ 32)
accepted_unit {source} {p} is =
    is_spelled p is.scoped (operators source is.spells.tokens p (LEVEL_LIMIT, is.spells.spells))
    is.room (can_be_spelled source p is)

pub accepted_spelling : (source : List ℕ) (p : Program) → IsAccepted source p
    → HasSpelling (compiled p)
accepted_spelling source p is = (spelling (compiled p), (accepted_unit is).0)
