-- The unit of a program has the program's entrance and its external functions.
use Rattle.std.proofs.Common.{◌≡◌, ℕ, suc, ◌+◌, Bool, true, false, ◌&&◌, cond, List, [], ◌∷◌}
use Rattle.std.proofs.Common.{length, Option, Some, None, is_none, map, refl, ap, ◌∙◌}
use Rattle.std.proofs.Common.{subst, arith, slice_get, option_and_then}
use Rattle.std.specs.List.{AllByRecursion, flat_map, filter_map, enumerate_from, cons_option}
use Rattle.std.specs.Map.{lookup}
use Rattle.std.specs.Option.{option_map}
use Rattle.std.proofs.lemmas.Option.{slice_get-map}
use Rattle.wap_base.specs.Texts.{is_same_text}
use Rattle.wap_unit.specs.declared.unit.Unit.{Unit as CodeUnit}
use Rattle.wap_unit.specs.declared.unit.Code.{Code}
use Rattle.wap_unit.specs.Strings.{string_at}
use Rattle.wap_grammar.specs.declared.program.program.Use.{Use}
use Rattle.wap_grammar.specs.declared.program.program.Use.TheVariants.{Url, Access, Agent, Note}
use Rattle.wap_grammar.specs.declared.program.program.Function.{Function}
use Rattle.wap_grammar.specs.declared.program.program.Program.{Program}
use Rattle.wap_grammar.specs.declared.program.expression.Literal.{Literal}
use Rattle.wap_grammar.specs.declared.program.expression.Literal.TheVariants.{Str}
use Rattle.wap_meaning.specs.coding.Constants.{HasPool}
use Rattle.wap_compiled_laws.proofs.BodiesLemmas.Pooled.{InPool, text_at}
use Rattle.wap_meaning.specs.compiled.Pool.{use_literals, pool}
use Rattle.wap_meaning.specs.compiled.Units.{pragmas_of, text_place, is_short, entry_of}
use Rattle.wap_meaning.specs.compiled.Units.{compiled_function, compiled}
use Rattle.wap_compiled_laws.proofs.Functions.{in_uses}
use Rattle.wap_world.specs.Shelves.{Entrance}
use Rattle.wap_world.specs.Sites.{External}
use Rattle.wap_world.specs.scripting.Units.{domain_in, path_in, entrance_in, external_in}
use Rattle.wap_site_laws.specs.programs.Entrances.{domain_of, path_of, entrance, external_from}
use Rattle.wap_site_laws.specs.programs.Entrances.{external}

-- ---- who may call

module _ (u : CodeUnit) (constants : List Literal) (has : HasPool u constants) where
  -- the number of a text, whatever it is for
  abbrev number : List ℕ → ℕ
  number = text_place constants

  -- a text of a pragma stands under its number
  text_there : (t : List ℕ) → InPool constants (Str t) → string_at u (number t) ≡ Some t
  text_there t there = text_at u constants has t (there tt)

  -- the first access domain
  same_domain : (uses : List Use) → AllByRecursion (InPool constants) (flat_map use_literals uses)
      → option_and_then (string_at u) (domain_in (flat_map (pragmas_of number) uses))
      ≡ domain_of uses
  same_domain [] all = refl
  same_domain (Url name url ∷ uses) all = same_domain uses all
  same_domain (Access None None span ∷ uses) all = same_domain uses all
  same_domain (Access None (Some path) span ∷ uses) all = same_domain uses all.1
  same_domain (Access (Some domain) None span ∷ uses) all = text_there domain all.0
  same_domain (Access (Some domain) (Some path) span ∷ uses) all = text_there domain all.0
  same_domain (Agent name content None ∷ uses) all = same_domain uses all.1.1
  same_domain (Agent name content (Some scheme) ∷ uses) all = same_domain uses all.1.1.1
  same_domain (Note ∷ uses) all = same_domain uses all

  -- the first access path
  same_path : (uses : List Use) → AllByRecursion (InPool constants) (flat_map use_literals uses)
      → option_and_then (string_at u) (path_in (flat_map (pragmas_of number) uses))
      ≡ path_of uses
  same_path [] all = refl
  same_path (Url name url ∷ uses) all = same_path uses all
  same_path (Access None None span ∷ uses) all = same_path uses all
  same_path (Access None (Some path) span ∷ uses) all = text_there path all.0
  same_path (Access (Some domain) None span ∷ uses) all = same_path uses all.1
  same_path (Access (Some domain) (Some path) span ∷ uses) all = text_there path all.1.0
  same_path (Agent name content None ∷ uses) all = same_path uses all.1.1
  same_path (Agent name content (Some scheme) ∷ uses) all = same_path uses all.1.1.1
  same_path (Note ∷ uses) all = same_path uses all

-- an entrance by its domain and its path
entrance_by : Option (List ℕ) → Option (List ℕ) → Option Entrance
entrance_by domain path =
    cond (is_none domain && is_none path) None (Some (record { domain = domain; path = path }))

pub same_entrance : (p : Program) → entrance_in (compiled p) ≡ entrance p
unfolding compiled entrance_by
same_entrance p =
    let has : HasPool (compiled p) (pool p) = record { constants = refl; charset = refl } in
    let domain = same_domain (compiled p) (pool p) has p.uses (in_uses p) in
    let path = same_path (compiled p) (pool p) has p.uses (in_uses p) in
    ap (λ (d : Option (List ℕ)). entrance_by d
    (option_and_then (string_at (compiled p)) (path_in (compiled p).pragmas))) domain
    ∙ ap (entrance_by (domain_of p.uses)) path

-- ---- external functions

-- an entry by its name
abbrev by_name : ℕ × List ℕ → List ℕ × ℕ
by_name one = (one.1, one.0)

-- the function of an index, as an external one
abbrev as_external : List Code → ℕ → Option External
as_external functions index =
    option_map (λ (code : Code). record { index = index; arguments = code.args })
    (slice_get functions index)

module _ (p : Program) (name : List ℕ) (functions : List Code) where
  -- the functions from an index on are those of the program
  abbrev Stand : ℕ → List Function → Type 0
  Stand index fs = (k : ℕ)
      → slice_get functions (index + k) ≡ option_map (compiled_function p) (slice_get fs k)

  -- what is found among the entries
  abbrev found : List (ℕ × List ℕ) → Option External
  found entries =
      option_and_then (as_external functions)
      (lookup (λ other. is_same_text other name) (map by_name entries))

  same_from : (index : ℕ) (fs : List Function) → Stand index fs
      → found (filter_map entry_of (enumerate_from index fs)) ≡ external_from index fs name
  unfolding compiled_function
  same_from index [] stand = refl
  same_from index (f ∷ fs) stand =
      by f (f.external && is_short f.name.name) (is_same_text f.name.name name)
      (let e : index + 0 ≡ index = omega arith in
      subst (λ (n : ℕ). slice_get functions n ≡ Some (compiled_function p f)) e (stand 0))
      (same_from (index + 1) fs (λ k. let e : index + suc k ≡ index + 1 + k = omega arith in
      subst (λ (n : ℕ). slice_get functions n
      ≡ option_map (compiled_function p) (slice_get fs k)) e (stand (suc k))))
    where
      by : (f : Function) (out same : Bool)
          → slice_get functions index ≡ Some (compiled_function p f)
          → found (filter_map entry_of (enumerate_from (index + 1) fs))
          ≡ external_from (index + 1) fs name
          → option_and_then (as_external functions) (lookup (λ other. is_same_text other name)
          (map by_name (cons_option (cond out (Some (index, f.name.name)) None)
          (filter_map entry_of (enumerate_from (index + 1) fs)))))
          ≡ cond (out && is_same_text f.name.name name)
          (Some (record { index = index; arguments = length f.params }))
          (external_from (index + 1) fs name)
      by f true same here rest = chosen (is_same_text f.name.name name) here rest
        where
          chosen : (same : Bool) → slice_get functions index ≡ Some (compiled_function p f)
              → found (filter_map entry_of (enumerate_from (index + 1) fs))
              ≡ external_from (index + 1) fs name
              → option_and_then (as_external functions) (cond same (Some index)
              (lookup (λ other. is_same_text other name) (map by_name
              (filter_map entry_of (enumerate_from (index + 1) fs)))))
              ≡ cond same (Some (record { index = index; arguments = length f.params }))
              (external_from (index + 1) fs name)
          chosen true here rest =
              ap (option_map (λ (code : Code). record { index = index; arguments = code.args }))
              here
          chosen false here rest = rest
      by f false same here rest = rest

pub same_external : (p : Program) (name : List ℕ) → external_in (compiled p) name ≡ external p name
unfolding compiled
same_external p name =
    same_from p name (map (compiled_function p) p.functions) 0 p.functions
    (λ k.
    let e : k ≡ 0 + k = omega arith in
    subst (λ (n : ℕ). slice_get (map (compiled_function p) p.functions) n
    ≡ option_map (compiled_function p) (slice_get p.functions k)) e
    (slice_get-map (compiled_function p) p.functions k))
