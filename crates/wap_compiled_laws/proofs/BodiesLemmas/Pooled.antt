-- What is needed stands in the pool, under its number.
use Rattle.std.proofs.Common.{◌≡◌, ℕ, suc, Bool, true, false, ◌||◌, cond, List, [], ◌∷◌, ◌++◌}
use Rattle.std.proofs.Common.{ℤ, pos, negsuc, Some, refl, sym, ap, ◌∙◌, slice_get}
use Rattle.std.proofs.Common.{option_and_then, option_map}
use Rattle.std.specs.List.{AllByRecursion}
use Rattle.std.specs.Cmp.{signed_Decides}
use Rattle.std.specs.Cmp.Lexicographic.{bytes_decides}
use Rattle.std.proofs.lemmas.Option.{slice_get-map}
use Rattle.wap_value.specs.declared.value.Value.TheVariants.{Int}
use Rattle.wap_unit.specs.declared.unit.Unit.{Unit as CodeUnit}
use Rattle.wap_unit.specs.declared.unit.Constant.{Constant}
use Rattle.wap_unit.specs.Strings.{string_of, string_at}
use Rattle.wap_grammar.specs.declared.program.expression.Literal.{Literal}
use Rattle.wap_execution.specs.Frames.{constant_of, constant_at}
use Rattle.wap_meaning.specs.Expressions.{value_of}
use Rattle.wap_meaning.specs.coding.Constants.{same_literal, is_in, place_in, with_literal, pooled}
use Rattle.wap_meaning.specs.coding.Constants.{integer_constant, constant_for, HasPool}
use Rattle.wap_meaning.proofs.NeedsLemmas.Once.{same_is}
use Rattle.wap_grammar.specs.declared.program.expression.Literal.TheVariants as literal
use Rattle.std.proofs.Common.{arith}
use Rattle.std.proofs.lemmas.Grind.{common_steps}

-- ---- literals of a pool

-- literals that may be constants
abbrev pub IsPoolable : Literal → Type 0
IsPoolable (literal.Int z) = Unit {0}
IsPoolable (literal.Str text) = Unit {0}
IsPoolable _ = ⊥

-- a literal is one constant with itself
is_same : (l : Literal) → IsPoolable l → same_literal l l ≡ true
is_same (literal.Int a) able = (signed_Decides a a).1 refl
is_same (literal.Str s) able = (bytes_decides s s).1 refl
is_same _ able = absurd able

-- what is in the pool stands at its place
pub stands : (l : Literal) (pool : List Literal) → is_in l pool ≡ true
    → slice_get pool (place_in l pool) ≡ Some l
stands l [] there = absurd (cc there)
stands l (x ∷ pool) there = by (same_literal l x) refl there (stands l pool)
  where
    by : (same : Bool) → same_literal l x ≡ same → (same || is_in l pool) ≡ true
        → (is_in l pool ≡ true → slice_get pool (place_in l pool) ≡ Some l)
        → slice_get (x ∷ pool) (cond same 0 (suc (place_in l pool))) ≡ Some l
    by true same there further = ap Some (sym (same_is l x same))
    by false same there further = further there

-- what is in a pool is in a longer one
pub in_more : (l : Literal) (pool more : List Literal) → is_in l pool ≡ true
    → is_in l (pool ++ more) ≡ true
in_more l [] more there = absurd (cc there)
in_more l (x ∷ pool) more there = by (same_literal l x) there (in_more l pool more)
  where
    by : (same : Bool) → (same || is_in l pool) ≡ true
        → (is_in l pool ≡ true → is_in l (pool ++ more) ≡ true)
        → (same || is_in l (pool ++ more)) ≡ true
    by true there further = refl
    by false there further = further there

-- a literal that is added at the end is in the pool
pub in_end : (k l : Literal) (pool : List Literal) → same_literal k l ≡ true
    → is_in k (pool ++ l ∷ []) ≡ true
in_end k l [] same = ap (λ (b : Bool). b || false) same
in_end k l (x ∷ pool) same = by (same_literal k x) (in_end k l pool same)
  where
    by : (b : Bool) → is_in k (pool ++ l ∷ []) ≡ true → (b || is_in k (pool ++ l ∷ [])) ≡ true
    by true there = refl
    by false there = there

in_last : (l : Literal) → IsPoolable l → (pool : List Literal) → is_in l (pool ++ l ∷ []) ≡ true
in_last l able pool = in_end l l pool (is_same l able)

-- what is in a pool stays in it
kept : (l x : Literal) (pool : List Literal) → is_in l pool ≡ true
    → is_in l (with_literal pool x) ≡ true
kept l x pool there = grind (arith, common_steps, in_more)

-- what is added is in it
added : (l : Literal) → IsPoolable l → (pool : List Literal) → is_in l (with_literal pool l) ≡ true
added l able pool = grind (arith, common_steps, in_last)

-- what is in a pool stays in it, however many are added
pub kept_on : (l : Literal) (pool more : List Literal) → is_in l pool ≡ true
    → is_in l (pooled pool more) ≡ true
kept_on l pool [] there = there
kept_on l pool (x ∷ more) there = kept_on l (with_literal pool x) more (kept l x pool there)

-- a literal that may be a constant is among some
abbrev pub InPool : List Literal → Literal → Type 0
InPool constants l = IsPoolable l → is_in l constants ≡ true

-- all that are added are in the pool
pub all_in : (pool needed : List Literal) → AllByRecursion (InPool (pooled pool needed)) needed
all_in pool [] = tt
all_in pool (l ∷ needed) = (
  λ able. kept_on l (with_literal pool l) needed (added l able pool),
  all_in (with_literal pool l) needed,
)

-- ---- constants

-- the constant of an integer has its value
integer_is : (charset : ℕ) (z : ℤ) → constant_of charset (integer_constant z) ≡ Some (Int z)
integer_is charset z = grind (arith, common_steps, pos, negsuc)

-- the constant of a literal has its value
constant_is : (charset : ℕ) (l : Literal) → IsPoolable l
    → constant_of charset (constant_for l) ≡ Some (value_of l)
constant_is charset l h2 = grind (arith, common_steps, integer_is)

-- the constant of a text is this text
text_is : (charset : ℕ) (t : List ℕ) → string_of charset (constant_for (literal.Str t)) ≡ Some t
text_is charset [] = refl
text_is charset (c ∷ cs) = refl

module _ (u : CodeUnit) (pool : List Literal) (has : HasPool u pool) where
  -- a literal of the pool has its constant under its number
  constant_there : (l : Literal) → is_in l pool ≡ true
      → slice_get u.constants (place_in l pool) ≡ Some (constant_for l)
  constant_there l there =
      ap (λ (constants : List Constant). slice_get constants (place_in l pool)) has.constants
      ∙ slice_get-map constant_for pool (place_in l pool)
      ∙ ap (option_map constant_for) (stands l pool there)

  -- a literal of the pool is the constant with its number
  pub literal_at : (l : Literal) → IsPoolable l → is_in l pool ≡ true
      → constant_at u (place_in l pool) ≡ Some (value_of l)
  literal_at l able there =
      grind (arith, common_steps, option_and_then, constant_there, constant_is)

  -- and so is a text
  pub text_at : (t : List ℕ) → is_in (literal.Str t) pool ≡ true
      → string_at u (place_in (literal.Str t) pool) ≡ Some t
  text_at t there = grind (arith, common_steps, option_and_then, constant_there, text_is)
