-- The constants of a program are those that its parts need.
use Rattle.std.proofs.Common.{◌≡◌, List, [], ◌∷◌, ◌++◌, Option, Some, None, refl, ap, ap₂, ◌∙◌}
use Rattle.std.specs.List.{flat_map}
use Rattle.std.proofs.Common.{ℕ}
use Rattle.std.proofs.lemmas.Grind.{flat_map-append}
use Rattle.wap_grammar.specs.declared.program.program.Use.{Use}
use Rattle.wap_grammar.specs.declared.program.program.Use.TheVariants.{Access, Agent}
use Rattle.wap_grammar.specs.declared.program.program.Program.{Program}
use Rattle.wap_grammar.specs.declared.program.expression.Literal.{Literal}
use Rattle.wap_grammar.specs.declared.program.expression.Literal.TheVariants as literal
use Rattle.wap_meaning.specs.Names.{Names, names_in, url_of}
use Rattle.wap_meaning.specs.coding.Constants.{pooled}
use Rattle.wap_meaning.specs.coding.Needs.{Need, Other, literals_of}
use Rattle.wap_meaning.specs.compiled.Pool.{text_if, use_literals, function_literals}
use Rattle.wap_meaning.specs.compiled.Pool.{literals_needed, pool}
use Rattle.wap_codegen.specs.pool.Names.{names_of}
use Rattle.wap_meaning.specs.needs.Drawn.{text_needs, function_needs}
use Rattle.wap_codegen.specs.pool.inside.Pools.{kept_needs, pooled_needs}

-- what items need, one after the other
flat_flat : {X : Type 0} (names : Names) (f : X → List Need) (g : X → List Literal)
    → ((x : X) → flat_map (literals_of names) (f x) ≡ g x) → (xs : List X)
    → flat_map (literals_of names) (flat_map f xs) ≡ flat_map g xs
flat_flat names f g same [] = refl
flat_flat names f g same (x ∷ xs) =
    flat_map-append (literals_of names) (f x) (flat_map f xs)
    ∙ ap₂ (λ (a b : List Literal). a ++ b) (same x) (flat_flat names f g same xs)

of_text : (names : Names) (text : Option (List ℕ))
    → flat_map (literals_of names) (text_needs text) ≡ text_if text
of_text names None = refl
of_text names (Some text) = refl

of_use : (names : Names) (u : Use) → flat_map (literals_of names) (kept_needs u) ≡ use_literals u
of_use names (Access domain path span) =
    flat_map-append (literals_of names) (text_needs domain) (text_needs path)
    ∙ ap₂ (λ (a b : List Literal). a ++ b) (of_text names domain) (of_text names path)
of_use names (Agent name content None) = refl
of_use names (Agent name content (Some scheme)) = refl
of_use names _ = refl

-- a need's constants hang on the URLs of units alone
same_need : (one other : Names) → one.urls ≡ other.urls → (need : Need)
    → literals_of one need ≡ literals_of other need
same_need one other same (Other u f) =
    ap (λ (urls : List (List ℕ × List ℕ)).
    literal.Str (url_of u.name urls) ∷ literal.Str f.name ∷ []) same
same_need one other same _ = refl

same_needs : (one other : Names) → one.urls ≡ other.urls → (needs : List Need)
    → flat_map (literals_of one) needs ≡ flat_map (literals_of other) needs
same_needs one other same [] = refl
same_needs one other same (need ∷ needs) =
    ap₂ (λ (a b : List Literal). a ++ b) (same_need one other same need)
    (same_needs one other same needs)

-- those of a program
pub all_needed : (p : Program) → flat_map (literals_of (names_of p)) (pooled_needs p)
    ≡ literals_needed p
unfolding literals_needed
all_needed p =
    flat_map-append (literals_of (names_of p)) (flat_map kept_needs p.uses)
    (flat_map function_needs p.functions)
    ∙ ap₂ (λ (a b : List Literal). a ++ b)
    (flat_flat (names_of p) kept_needs use_literals (of_use (names_of p)) p.uses)
    (flat_flat (names_of p) function_needs (function_literals p)
    (λ f. same_needs (names_of p) (names_in p f) refl (function_needs f)) p.functions)

-- the constants of a unit
pub all_pooled : (p : Program) (names : Names) → names ≡ names_of p
    → pooled [] (flat_map (literals_of names) (pooled_needs p)) ≡ pool p
unfolding pool
all_pooled p names same =
    ap (λ (some : Names). pooled [] (flat_map (literals_of some) (pooled_needs p))) same
    ∙ ap (pooled []) (all_needed p)
