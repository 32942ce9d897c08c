-- Functions looked up by their names.
use Rattle.std.proofs.Common.{◌≡◌, ℕ, ◌+◌, ◌<◌, Bool, true, false, cond, List, []}
use Rattle.std.proofs.Common.{◌∷◌, ◌++◌, length, get_or, take, add-one, Option}
use Rattle.std.proofs.Common.{Some, None, refl, sym, ap, subst, ◌∙◌}
use Rattle.std.proofs.Math.Seq.{take-suc}
use Rattle.std.specs.Map.{lookup}
use Rattle.std.specs.Option.{is_some, option_map}
use Rattle.std.specs.Cmp.Lexicographic.{bytes_decides}
use Rattle.wap_base.specs.Texts.{is_same_text}
use Rattle.wap_grammar.specs.declared.program.program.Function.{Function}
use Rattle.wap_scope.specs.Names.{function_named}
use Rattle.wap_scope.specs.Scoped.{arity_of}
use Rattle.wap_scope.specs.inside.Globals.{ByName, Counts, with_count}

abbrev or_last : Option ℕ → Bool → ℕ → Option ℕ
or_last (Some count) last more = Some count
or_last None last more = cond last (Some more) None

first_found : (b : Bool) (count more : ℕ) (rest others : Option ℕ) (last : Bool) →
    others ≡ or_last rest last more →
    cond b (Some count) others ≡ or_last (cond b (Some count) rest) last more
first_found true count more rest others last is = refl
first_found false count more rest others last is = is

lookup_last : (test : List ℕ → Bool) (counts : ByName) (name : List ℕ) (count : ℕ) →
    lookup test (counts ++ (name, count) ∷ []) ≡ or_last (lookup test counts) (test name) count
lookup_last test [] name count = refl
lookup_last test (entry ∷ counts) name count =
    first_found (test entry.0) entry.1 count (lookup test counts)
    (lookup test (counts ++ (name, count) ∷ [])) (test name) (lookup_last test counts name count)

of_choice : (b : Bool) (f : Function) (rest : Option Function) →
    option_map (λ (g : Function). length g.params) (cond b (Some f) rest)
    ≡ cond b (Some (length f.params)) (option_map (λ (g : Function). length g.params) rest)
of_choice true f rest = refl
of_choice false f rest = refl

arity_first : (name : List ℕ) (f : Function) (functions : List Function) →
    arity_of (f ∷ functions) name
    ≡ cond (is_same_text name f.name.name) (Some (length f.params)) (arity_of functions name)
arity_first name f functions =
    of_choice (is_same_text name f.name.name) f (function_named name functions)

arity_last : (name : List ℕ) (functions : List Function) (f : Function) →
    arity_of (functions ++ f ∷ []) name
    ≡ or_last (arity_of functions name) (is_same_text name f.name.name) (length f.params)
arity_last name [] f = arity_first name f []
arity_last name (g ∷ functions) f =
    arity_first name g (functions ++ f ∷ [])
    ∙ first_found (is_same_text name g.name.name) (length g.params) (length f.params)
    (arity_of functions name) (arity_of (functions ++ f ∷ []) name)
    (is_same_text name f.name.name) (arity_last name functions f)
    ∙ ap (λ found. or_last found (is_same_text name f.name.name) (length f.params))
    (sym (arity_first name g functions))

-- a name that is there stays as it is with another function of it
kept : (found : Option ℕ) (same : Bool) (count : ℕ) → (same ≡ true → is_some found ≡ true) →
    found ≡ or_last found same count
kept (Some other) same count there = refl
kept None true count there = absurd (let is = there refl in cc)
kept None false count there = refl

with_one : (there : Bool) (counts : ByName) (f : Function) (name : List ℕ) →
    is_some (lookup (is_same_text f.name.name) counts) ≡ there →
    lookup (is_same_text name)
    (cond there counts (counts ++ (f.name.name, length f.params) ∷ []))
    ≡ or_last (lookup (is_same_text name) counts) (is_same_text name f.name.name) (length f.params)
with_one true counts f name is =
    kept (lookup (is_same_text name) counts) (is_same_text name f.name.name) (length f.params)
    (λ same. subst (λ one. is_some (lookup (is_same_text one) counts) ≡ true)
    (sym ((bytes_decides name f.name.name).0 same)) is)
with_one false counts f name is =
    lookup_last (is_same_text name) counts f.name.name (length f.params)

next_before : {X : Type 0} (items : List X) (n : ℕ) (item : X) → n < length items →
    item ≡ get_or items n item → take (n + 1) items ≡ take n items ++ item ∷ []
next_before items n item within is =
    rw add-one (take-suc items n item within) ∙ ap (λ last. take n items ++ last ∷ []) (sym is)

pub one_more : (functions : List Function) (n : ℕ) (f : Function) → n < length functions →
    f ≡ get_or functions n f → (counts next : ByName) → Counts (take n functions) counts →
    next ≡ with_count counts f.name.name (length f.params) → Counts (take (n + 1) functions) next
one_more functions n f within is counts next so_far more name =
    ap (lookup (is_same_text name)) more
    ∙ with_one (is_some (lookup (is_same_text f.name.name) counts)) counts f name refl
    ∙ ap (λ found. or_last found (is_same_text name f.name.name) (length f.params)) (so_far name)
    ∙ sym (arity_last name (take n functions) f)
    ∙ ap (λ all. arity_of all name) (sym (next_before functions n f within is))
