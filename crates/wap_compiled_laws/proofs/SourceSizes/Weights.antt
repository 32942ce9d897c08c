-- What a program needs has no more bytes than the tokens that it is drawn from.
use Rattle.std.proofs.Common.{◌≡◌, ℕ, ◌+◌, ◌-◌, ◌≤◌, true, nat_le, List, length, Option, Some, None}
use Rattle.std.proofs.Common.{encode_utf8_all, refl, sym, subst, arith, pos}
use Rattle.std.specs.List.{AllByRecursion, sum_by}
use Rattle.std.specs.Str.{all_scalars}
use Rattle.std.proofs.lemmas.Bool.{leb-true}
use Rattle.std.proofs.lemmas.List.Sums.{sum_by-cons}
use Rattle.std.proofs.lemmas.Option.{same_Some}
use Rattle.wap_grammar.specs.declared.program.program.Span.{Span}
use Rattle.wap_grammar.specs.declared.program.program.Use.{Use}
use Rattle.wap_grammar.specs.declared.program.program.Use.TheVariants.{Url, Access, Agent, Note}
use Rattle.wap_grammar.specs.declared.program.expression.Literal.{Literal}
use Rattle.wap_grammar.specs.declared.lexeme.Lexeme.{Lexeme}
use Rattle.wap_grammar.specs.declared.word.Word.{Word}
use Rattle.wap_grammar.specs.Spellings.{token, name, Several}
use Rattle.wap_grammar.specs.Spellings as spelled
use Rattle.wap_grammar.specs.Values.{text_of, integer_of, literal_of}
use Rattle.wap_grammar.specs.Programs.{IsAccess, IsProperty, IsUse}
use Rattle.wap_grammar.specs.Programs as formed
use Rattle.wap_meaning.specs.coding.Needs.{Need, Constant, Other}
use Rattle.wap_meaning.proofs.NeedsLemmas.Programs.{draws_use}
use Rattle.wap_meaning.specs.needs.Drawn.{StandsFor, Drawn, no_more, skip, here}
use Rattle.wap_compiled_laws.proofs.SourceSizes.Sizes.{text_size, CanBeSaid}
use Rattle.wap_compiled_laws.proofs.SourceSizes.Tokens.{weight, Sound}
use Rattle.std.proofs.lemmas.Grind.{common_steps}

-- ---- one need

-- how many bytes the text of a need has
abbrev pub need_size : Need → ℕ
need_size (Constant l) = text_size l
need_size (Other u f) = length (encode_utf8_all f.name)
need_size _ = 0

-- its literal or its name can be spelled
abbrev pub IsSaid : Need → Type 0
IsSaid (Constant l) = CanBeSaid l
IsSaid (Other u f) = all_scalars f.name ≡ true
IsSaid _ = Unit {0}

module _ (src : List ℕ) where
  -- a literal, by its token
  integer_said : (text : List ℕ) {l : Literal} {most : ℕ} → integer_of text ≡ Some l
      → CanBeSaid l × (text_size l ≤ most)
  integer_said text {l} {most} is =
      grind (arith, common_steps, nat_le, pos, text_size, same_Some, leb-true)

  literal_said : (w : Word) {span : Span} {l : Literal} → literal_of src span w ≡ Some l
      → Sound src (token w span) → CanBeSaid l × (text_size l ≤ span.to - span.from)
  unfolding literal_of
  literal_said w h1 h2 = grind (arith, common_steps, integer_said, text_size, same_Some)

  -- a need, by its token
  need_said : (t : Lexeme) (n : Need) → StandsFor src t n → Sound src t
      → IsSaid n × (need_size n ≤ weight t)
  need_said t (Constant l) is sound = literal_said t.word is sound
  need_said t (Other u f) is sound = (
    subst (λ (name : List ℕ). all_scalars name ≡ true) (sym is.1) (sound.names is.0),
    subst (λ (name : List ℕ). length (encode_utf8_all name) ≤ weight t) (sym is.1)
        (sound.name is.0),
  )
  need_said t _ is sound = (tt, omega arith)

  -- ---- what is drawn

  -- what is drawn from tokens can be spelled, in no more bytes than they have
  pub drawn_said : {x : List Lexeme} {ns : List Need} {y : List Lexeme}
      → AllByRecursion (Sound src) x → Drawn src x ns y
      → AllByRecursion IsSaid ns × (sum_by need_size ns + sum_by weight y ≤ sum_by weight x)
  drawn_said sound (no_more x') = (tt, omega arith)
  drawn_said sound (skip l x ns' y' rest) =
      let more = drawn_said sound.1 rest in
      (more.0, omega (arith, more.1, sum_by-cons weight l x))
  drawn_said sound (here l n x ns y' is rest) =
      let more = drawn_said sound.1 rest in
      let one = need_said l n is sound.0 in (
        (one.0, more.0),
        omega (arith, one.1, more.1, sum_by-cons weight l x, sum_by-cons need_size n ns),
      )

  -- tokens after those from which something is drawn
  pub sound_after : {x : List Lexeme} {ns : List Need} {y : List Lexeme}
      → AllByRecursion (Sound src) x → Drawn src x ns y → AllByRecursion (Sound src) y
  sound_after sound (no_more x') = sound
  sound_after sound (skip l x ns' y' rest) = sound_after sound.1 rest
  sound_after sound (here l n x ns y' is rest) = sound_after sound.1 rest

  -- ---- pragmas

  -- how many bytes a text has
  abbrev pub bytes_in : List ℕ → ℕ
  bytes_in t = length (encode_utf8_all t)

  -- how many bytes a text has that may be missing, and the pragma of it
  abbrev pub text_bytes_if : Option (List ℕ) → ℕ
  text_bytes_if None = 0
  text_bytes_if (Some t) = bytes_in t + 4

  -- a property, with a scheme or without
  abbrev pub property_bytes : List ℕ → List ℕ → Option (List ℕ) → ℕ
  property_bytes name content None = bytes_in name + bytes_in content + 7
  property_bytes name content (Some scheme) =
      bytes_in name + bytes_in content + bytes_in scheme + 10

  -- how many bytes the unit has of a pragma at most: its texts, and what names them
  abbrev pub use_bytes : Use → ℕ
  use_bytes (Url u url) = bytes_in url
  use_bytes (Access domain path span) = text_bytes_if domain + text_bytes_if path
  use_bytes (Agent name content scheme) = property_bytes name content scheme
  use_bytes Note = 0

  -- a string's token
  text_weighs : {t : Span} → Sound src (formed.text t) → bytes_in (text_of src t) + 2
      ≤ t.to - t.from
  text_weighs sound = sound.string refl

  access_weighs : {x : List Lexeme} {a : Option (List ℕ) × Option (List ℕ)} {y : List Lexeme}
      → AllByRecursion (Sound src) x → IsAccess src x a y
      → text_bytes_if a.0 + text_bytes_if a.1 + sum_by weight y ≤ sum_by weight x + 2
  access_weighs h0 h1 = grind (arith, common_steps, text_weighs, sum_by-cons, weight)

  property_weighs : {x : List Lexeme} {a : List ℕ × List ℕ × Option (List ℕ)} {y : List Lexeme}
      → AllByRecursion (Sound src) x → IsProperty src x a y
      → property_bytes a.0 a.1 a.2 + sum_by weight y ≤ sum_by weight x + 4
  property_weighs h0 h1 = grind (arith, common_steps, text_weighs, sum_by-cons, weight)

  -- a pragma
  use_weighs : {x : List Lexeme} {u : Use} {y : List Lexeme} → AllByRecursion (Sound src) x
      → IsUse src x u y → use_bytes u + sum_by weight y ≤ sum_by weight x
  use_weighs h0 h1 =
      grind (
        arith,
        common_steps,
        text_weighs,
        sum_by-cons,
        weight,
        access_weighs,
        drawn_said,
        draws_use,
        property_weighs,
      )

  -- pragmas
  pub uses_weigh : (x : List Lexeme) (us : List Use) (y : List Lexeme)
      → AllByRecursion (Sound src) x → Several (IsUse src) x us y
      → sum_by use_bytes us + sum_by weight y ≤ sum_by weight x
  uses_weigh x us y sound (spelled.none x') = omega arith
  uses_weigh x us z sound (spelled.more x' y z' u others is rest) =
      omega (
        arith,
        use_weighs sound is,
        uses_weigh y others z (sound_after sound (draws_use src x u y is)) rest,
        sum_by-cons use_bytes u others,
      )
