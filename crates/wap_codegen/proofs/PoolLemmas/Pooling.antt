-- Constants that are added by one part of a source after the other.
use Rattle.std.proofs.Common.{◌≡◌, ℕ, ◌+◌, ◌<◌, ◌≤◌, List, [], ◌∷◌, ◌++◌, length, drop, get_or}
use Rattle.std.proofs.Common.{Option, Some, None, Result, Ok, Err, OnOk, refl, sym, ap, ap₂, ◌∙◌}
use Rattle.std.proofs.Common.{subst, drop_of_length-le}
use Rattle.std.specs.List.{flat_map}
use Rattle.std.proofs.lemmas.Grind.{flat_map-append}
use Rattle.std.proofs.lemmas.List.{at_drop_more}
use Rattle.wap_value.specs.declared.operator.BinOp.{BinOp}
use Rattle.wap_grammar.specs.declared.program.program.Id.{Id}
use Rattle.wap_grammar.specs.declared.program.expression.Literal.{Literal}
use Rattle.wap_grammar.specs.declared.program.expression.Literal.TheVariants as literal
use Rattle.wap_meaning.specs.Names.{Names, url_of}
use Rattle.wap_meaning.specs.coding.Constants.{Numbers, pooled, with_literal}
use Rattle.wap_meaning.specs.coding.Needs.{Need, Constant, Variable, Local, Other, Library}
use Rattle.wap_meaning.specs.coding.Needs.{literals_of, assign_needs, literal_needs}
use Rattle.wap_codegen.specs.pool.inside.Pools.{Pools}
use Rattle.wap_codegen.specs.pool.inside.Leaves.{Leaves}

-- some literals, and then others
pooled-append : (pool xs ys : List Literal)
    → pooled pool (xs ++ ys) ≡ pooled (pooled pool xs) ys
pooled-append pool [] ys = refl
pooled-append pool (x ∷ xs) ys = pooled-append (with_literal pool x) xs ys

-- nothing is needed
pub pools_none : (old new : Numbers) → new ≡ old → Pools [] old new
pools_none old new is = record {
  names = ap (λ (numbers : Numbers). numbers.names) is;
  pool = ap (λ (numbers : Numbers). numbers.pool) is;
}

-- some needs, and then others
pub pools_both : {xs ys : List Need} {old middle new : Numbers} → Pools xs old middle
    → Pools ys middle new → Pools (xs ++ ys) old new
pools_both {xs} {ys} {old} one two = record {
  names = two.names ∙ one.names;
  pool = two.pool
      ∙ ap₂ (λ (pool : List Literal) (names : Names).
      pooled pool (flat_map (literals_of names) ys)) one.pool one.names
      ∙ sym (pooled-append old.pool (flat_map (literals_of old.names) xs)
      (flat_map (literals_of old.names) ys))
      ∙ ap (λ (literals : List Literal). pooled old.pool literals)
      (sym (flat_map-append (literals_of old.names) xs ys));
}

-- the same needs
pub pools_same : {xs ys : List Need} {old new : Numbers} → xs ≡ ys → Pools xs old new
    → Pools ys old new
pools_same {old} {new} = subst (λ (needs : List Need). Pools needs old new)

-- one constant
pub pools_one : (l : Literal) (old new : Numbers) → new.names ≡ old.names
    → new.pool ≡ with_literal old.pool l → Pools (Constant l ∷ []) old new
pools_one l old new names pool = record { names = names; pool = pool }

-- the URL and the name of a function of another unit
pub pools_other : (unit f : Id) (old middle new : Numbers) → middle.names ≡ old.names
    → middle.pool ≡ with_literal old.pool (literal.Str (url_of unit.name old.names.urls))
    → new.names ≡ middle.names → new.pool ≡ with_literal middle.pool (literal.Str f.name)
    → Pools (Other unit f ∷ []) old new
pools_other unit f old middle new names pool more_names more_pool = record {
  names = more_names ∙ names;
  pool = more_pool
      ∙ ap (λ (pool : List Literal). with_literal pool (literal.Str f.name)) pool;
}

-- ---- needs without constants

-- a variable
pub pools_variable : (v : Id) (needs : List Need) (old new : Numbers) → Pools needs old new
    → Pools (Variable v ∷ needs) old new
pools_variable v needs old new is = record { names = is.names; pool = is.pool }

-- a function of the program
pub pools_local : (f : Id) (count : ℕ) (needs : List Need) (old new : Numbers)
    → Pools needs old new → Pools (Local f count ∷ needs) old new
pools_local f count needs old new is = record { names = is.names; pool = is.pool }

-- a function of a library
pub pools_library : (l f : Id) (count : ℕ) (needs : List Need) (old new : Numbers)
    → Pools needs old new → Pools (Library l f count ∷ needs) old new
pools_library l f count needs old new is = record { names = is.names; pool = is.pool }

-- the operator of an assignment
pub pools_assign : (v : Id) (o : Option BinOp) (needs : List Need) (old new : Numbers)
    → Pools needs old new → Pools (Variable v ∷ (assign_needs o ++ needs)) old new
pools_assign v None needs old new is = record { names = is.names; pool = is.pool }
pools_assign v (Some op) needs old new is = record { names = is.names; pool = is.pool }

-- ---- where the last call succeeds

-- one constant
pub after_one : {E : Type 0} (l : Literal) (old new : Numbers) (r : Result (Unit {0}) E)
    → OnOk r (new.names ≡ old.names) → OnOk r (new.pool ≡ with_literal old.pool l)
    → OnOk r (Pools (Constant l ∷ []) old new)
after_one l old new (Ok x) names pool = pools_one l old new names pool
after_one l old new (Err e) names pool = tt

-- a function of another unit
pub after_other : {E : Type 0} (unit f : Id) (old middle new : Numbers)
    (r : Result (Unit {0}) E) → middle.names ≡ old.names
    → middle.pool ≡ with_literal old.pool (literal.Str (url_of unit.name old.names.urls))
    → OnOk r (new.names ≡ middle.names)
    → OnOk r (new.pool ≡ with_literal middle.pool (literal.Str f.name))
    → OnOk r (Pools (Other unit f ∷ []) old new)
after_other unit f old middle new (Ok x) names pool more_names more_pool =
    pools_other unit f old middle new names pool more_names more_pool
after_other unit f old middle new (Err e) names pool more_names more_pool = tt

-- ---- literals

-- a text that isn't empty is a constant
pub text_need : (text : List ℕ) → (text ≡ [] → ⊥)
    → Constant (literal.Str text) ∷ [] ≡ literal_needs (literal.Str text)
text_need [] some = absurd (some refl)
text_need (c ∷ cs) some = refl

-- ---- loops

-- one item more
pub leaves_more : {X : Type 0} (f : X → List Need) (xs : List X) (i : ℕ) (x : X)
    (old here next : Numbers) → i < length xs → x ≡ get_or xs i x
    → Leaves f xs i old here → Pools (f x) here next → Leaves f xs (i + 1) old next
leaves_more f xs i x old here next within is leaves pools last more =
    leaves last (pools_same (ap (λ y. f y ++ flat_map f (drop (i + 1) xs)) is
    ∙ sym (at_drop_more (λ ys. flat_map f ys) xs i x within))
    (pools_both pools more))

-- no item more
pub leaves_none : {X : Type 0} (f : X → List Need) (xs : List X) (i : ℕ) (old here : Numbers)
    → length xs ≤ i → Leaves f xs i old here → Pools (flat_map f xs) old here
leaves_none f xs i old here past leaves =
    leaves here (pools_same (ap (λ ys. flat_map f ys) (sym (drop_of_length-le xs past)))
    (pools_none here here refl))
