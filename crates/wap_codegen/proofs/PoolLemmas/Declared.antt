-- Names that are collected by one part of a function after the other.
use Rattle.std.proofs.Common.{◌≡◌, ℕ, ◌+◌, ◌<◌, ◌≤◌, List, [], ◌∷◌, ◌++◌, length, map, drop, get_or}
use Rattle.std.proofs.Common.{Option, Some, None, refl, sym, ap, ◌∙◌, subst}
use Rattle.std.specs.List.{flat_map}
use Rattle.std.proofs.lemmas.List.{at_drop_more, at_drop_all}
use Rattle.std.proofs.lemmas.List.Elements.{filter_map-append}
use Rattle.wap_grammar.specs.declared.program.program.Id.{Id}
use Rattle.wap_grammar.specs.declared.program.program.Use.{Use}
use Rattle.wap_grammar.specs.declared.program.program.Function.{Function}
use Rattle.wap_grammar.specs.declared.program.expression.Expr.{Expr}
use Rattle.wap_scope.specs.Names.{Mention, Declares, Refers, Reference, declared, names_declared}
use Rattle.wap_scope.specs.Names.{references, refers, refers_if, declares}
use Rattle.wap_codegen.specs.pool.Names.{with_name, with_names}
use Rattle.wap_meaning.specs.Names.{url_in}
use Rattle.wap_codegen.specs.pool.inside.Declaring.{Declaring, LeavesNames, with_urls}

-- some names, and then others
pub with_names-append : (names xs ys : List (List ℕ))
    → with_names names (xs ++ ys) ≡ with_names (with_names names xs) ys
with_names-append names [] ys = refl
with_names-append names (x ∷ xs) ys = with_names-append (with_name names x) xs ys

-- what declares nothing
none_referred : (references : List Reference) → names_declared (map Refers references) ≡ []
none_referred [] = refl
none_referred (r ∷ references) = none_referred references

-- an expression declares nothing
pub none_in : (e : Expr) → names_declared (refers e) ≡ []
none_in e = none_referred (references e)

-- nor does one that may be missing
pub none_in_any : (e : Option Expr) → names_declared (refers_if e) ≡ []
none_in_any None = refl
none_in_any (Some e) = none_in e

-- nothing is declared
pub declaring_none : (ms : List Mention) (old new : List (List ℕ)) → names_declared ms ≡ []
    → new ≡ old → Declaring ms old new
declaring_none ms old new none is =
    record { names = is ∙ sym (ap (with_names old) none) }

-- the same is declared
pub declaring_same : {xs ys : List Mention} {old new : List (List ℕ)} → xs ≡ ys
    → Declaring xs old new → Declaring ys old new
declaring_same {old} {new} = subst (λ (ms : List Mention). Declaring ms old new)

-- some are declared, and then others
pub declaring_both : {xs ys : List Mention} {old middle new : List (List ℕ)}
    → Declaring xs old middle → Declaring ys middle new → Declaring (xs ++ ys) old new
declaring_both {xs} {ys} {old} one two = record {
  names = two.names ∙ ap (λ (names : List (List ℕ)). with_names names (names_declared ys)) one.names
      ∙ sym (with_names-append old (names_declared xs) (names_declared ys))
      ∙ sym (ap (with_names old) (filter_map-append declared xs ys));
}

-- the same, where the first declares nothing
pub declaring_after : (xs : List Mention) {ys : List Mention} {old new : List (List ℕ)}
    → names_declared xs ≡ [] → Declaring ys old new → Declaring (xs ++ ys) old new
declaring_after xs {old} none = declaring_both (declaring_none xs old old none refl)

-- ---- where the last call succeeds

-- ---- loops

-- one item more
pub leaves_more : {X : Type 0} (f : X → List Mention) (xs : List X) (i : ℕ) (x : X)
    (old here next : List (List ℕ)) → i < length xs → x ≡ get_or xs i x
    → LeavesNames f xs i old here → Declaring (f x) here next → LeavesNames f xs (i + 1) old next
leaves_more f xs i x old here next within is leaves more = record {
  rest = ap (λ (names : List (List ℕ)).
      with_names names (names_declared (flat_map f (drop (i + 1) xs)))) more.names
      ∙ sym (with_names-append here (names_declared (f x))
      (names_declared (flat_map f (drop (i + 1) xs))))
      ∙ sym (ap (with_names here)
      (filter_map-append declared (f x) (flat_map f (drop (i + 1) xs))))
      ∙ ap (λ y. with_names here (names_declared (f y ++ flat_map f (drop (i + 1) xs)))) is
      ∙ sym (at_drop_more (λ ys. with_names here (names_declared (flat_map f ys))) xs i x within)
      ∙ leaves.rest;
}

-- no item more
pub leaves_none : {X : Type 0} (f : X → List Mention) (xs : List X) (i : ℕ)
    (old here : List (List ℕ)) → length xs ≤ i → LeavesNames f xs i old here
    → Declaring (flat_map f xs) old here
leaves_none f xs i old here past leaves = record {
  names = sym (at_drop_all (λ ys. with_names here (names_declared (flat_map f ys))) xs i past)
      ∙ leaves.rest;
}

-- before the first item
pub leaves_all : {X : Type 0} (f : X → List Mention) (xs : List X) (old : List (List ℕ))
    → LeavesNames f xs 0 old old
leaves_all f xs old = record { rest = refl }

-- a declaration: its name, and an initialiser, which declares nothing
pub declares_name : (pair : Id × Option Expr) (old new : List (List ℕ))
    → new ≡ with_name old pair.0.name → Declaring (declares pair) old new
declares_name pair old new is = record {
  names = is ∙ sym (ap (λ (names : List (List ℕ)). with_names old (pair.0.name ∷ names))
      (none_in_any pair.1));
}

-- a parameter
pub declares_parameter : (v : Id) (old new : List (List ℕ)) → new ≡ with_name old v.name
    → Declaring (Declares v ∷ []) old new
declares_parameter v old new is = record { names = is }

-- parameters one by one
pub parameters_flat : (params : List Id)
    → flat_map (λ (v : Id). Declares v ∷ []) params ≡ map Declares params
parameters_flat [] = refl
parameters_flat (v ∷ params) = ap (λ (ms : List Mention). Declares v ∷ ms) (parameters_flat params)

-- one function more
pub functions_more : (fs : List Function) (i : ℕ) (f : Function) (here next : List (List ℕ))
    → i < length fs → f ≡ get_or fs i f → next ≡ with_name here f.name.name
    → with_names next (map (λ (g : Function). g.name.name) (drop (i + 1) fs))
    ≡ with_names here (map (λ (g : Function). g.name.name) (drop i fs))
functions_more fs i f here next within is one =
    let rest = map (λ (g : Function). g.name.name) (drop (i + 1) fs) in
    ap (λ (names : List (List ℕ)). with_names names rest) one
    ∙ ap (λ (g : Function). with_names (with_name here g.name.name) rest) is
    ∙ sym (at_drop_more (λ gs. with_names here (map (λ (g : Function). g.name.name) gs)) fs i f
    within)

-- one pragma more
pub urls_more : (us : List Use) (i : ℕ) (u : Use) (here next : List (List ℕ × List ℕ))
    → i < length us → u ≡ get_or us i u → next ≡ with_urls here (url_in u ∷ [])
    → with_urls next (map url_in (drop (i + 1) us)) ≡ with_urls here (map url_in (drop i us))
urls_more us i u here next within is one =
    let rest = map url_in (drop (i + 1) us) in
    ap (λ (urls : List (List ℕ × List ℕ)). with_urls urls rest) one
    ∙ by_one (url_in u) rest
    ∙ ap (λ (v : Use). with_urls here (url_in v ∷ rest)) is
    ∙ sym (at_drop_more (λ us. with_urls here (map url_in us)) us i u within) where
      by_one : (found : Option (List ℕ × List ℕ)) (rest : List (Option (List ℕ × List ℕ)))
          → with_urls (with_urls here (found ∷ [])) rest ≡ with_urls here (found ∷ rest)
      by_one None rest = refl
      by_one (Some pair) rest = refl
