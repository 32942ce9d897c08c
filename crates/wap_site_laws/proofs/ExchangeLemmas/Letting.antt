-- Tests that let one of some names in: what is added to them keeps that.
use Rattle.std.specs.Prelude.{◌&&◌, ◌||◌}
use Rattle.std.proofs.Common.{◌++◌, ◌≡◌, ℕ, Bool, true, false, List, [], ◌∷◌, Option, refl, ap}
use Rattle.std.proofs.lemmas.Bool.{or_left, or_right}
use Rattle.wap_url.specs.declared.url.Url.{Url}
use Rattle.wap_world.specs.Steps.{AccessTest}
use Rattle.wap_site_laws.specs.exchange.Denial.{is_let_in}

module _ (among : List ℕ → Bool) where
  -- one of these names was entered by a test
  abbrev pub Entered : List AccessTest → Type 0
  Entered tests = is_let_in among tests ≡ true

  -- the first of two, or what follows from the second
  or_by : (a b c : Bool) → (a || b) ≡ true → (b ≡ true → c ≡ true) → (a || c) ≡ true
  or_by true b c is on = refl
  or_by false b c is on = on is

  -- tests that come first
  pub first : (one other : List AccessTest) → Entered one → Entered (one ++ other)
  first [] other is = absurd (cc)
  first (t ∷ one) other is =
      or_by (among t.page && t.allowed) (is_let_in among one) (is_let_in among (one ++ other)) is
      (λ later. first one other later)

  -- tests that come later
  pub second : (one other : List AccessTest) → Entered other → Entered (one ++ other)
  second [] other is = is
  second (t ∷ one) other is =
      or_right (among t.page && t.allowed) (is_let_in among (one ++ other)) (second one other is)

  -- a test that lets one of these names in
  pub entered_by : (name : List ℕ) (caller : Option Url) → among name ≡ true
      → Entered (record { page = name; caller = caller; allowed = true } ∷ [])
  entered_by name caller about =
      or_left (among name && true) false (ap (λ (b : Bool). b && true) about)
