-- In a program whose names are in order, no name is collected twice.
use Rattle.std.proofs.Common.{◌≡◌, ℕ, Bool, true, false, ◌||◌, cond, List, [], ◌∷◌, ◌++◌, map}
use Rattle.std.proofs.Common.{Option, Some, None, refl, sym, ap, ◌∙◌, subst, append_assoc}
use Rattle.std.proofs.Common.{append-nil, All}
use Rattle.std.specs.List.{filter_map}
use Rattle.std.proofs.lemmas.List.{map-append}
use Rattle.indexmap.specs.IndexMap.{insert_entry}
use Rattle.wap_base.specs.Texts.{is_same_text}
use Rattle.wap_grammar.specs.declared.program.program.Id.{Id}
use Rattle.wap_grammar.specs.declared.program.program.Use.{Use}
use Rattle.wap_grammar.specs.declared.program.program.Use.TheVariants.{Url}
use Rattle.wap_grammar.specs.declared.program.program.Function.{Function}
use Rattle.wap_grammar.specs.declared.program.program.Program.{Program}
use Rattle.wap_scope.specs.Names.{Declares, declared, names_declared, said, function_named, units}
use Rattle.wap_scope.specs.Scoped.{is_among, IsScoped}
use Rattle.wap_scope.proofs.InOrder.{in_order}
use Rattle.wap_scope.specs.Meanings.{function_names}
use Rattle.wap_scope.proofs.AcceptedLemmas.Places.{all_by_places}
use Rattle.wap_meaning.specs.Names.{url_in}
use Rattle.wap_codegen.specs.pool.Names.{with_name, with_names, AreOnce}
use Rattle.wap_codegen.specs.pool.inside.Declaring.{with_urls}

neither : (a b : Bool) → (a || b) ≡ false → (a ≡ false) × (b ≡ false)
neither true b so = absurd (cc so)
neither false b so = (refl, so)

-- what is the only item of one option is that of another
only : {X : Type 0} (a b : X) → Some a ≡ Some b → a ≡ b
only a b is = cc

-- a new name is added at the end
added : (names : List (List ℕ)) (name : List ℕ) → is_among name names ≡ false
    → with_name names name ≡ names ++ name ∷ []
added names name none = ap (λ b. cond b names (names ++ name ∷ [])) none

-- ---- names that items may have

module _ {X : Type 0} (name : X → Option (List ℕ)) where
  -- no name of these items stands before it, with these names before all
  abbrev pub NewAfter : List (List ℕ) → List X → Type 0
  NewAfter names xs = (before : List X) (here : X) (after : List X) (n : List ℕ)
      → xs ≡ before ++ here ∷ after → name here ≡ Some n
      → is_among n (names ++ filter_map name before) ≡ false

  -- an item without a name
  passed_by : (x : X) (before : List X) → name x ≡ None
      → filter_map name (x ∷ before) ≡ filter_map name before
  passed_by x before is = rw is refl

  -- an item with a name
  taken : (x : X) (before : List X) (n : List ℕ) → name x ≡ Some n
      → filter_map name (x ∷ before) ≡ n ∷ filter_map name before
  taken x before n is = rw is refl

  by_name : (names : List (List ℕ)) (x : X) (xs : List X) (found : Option (List ℕ))
      → name x ≡ found → NewAfter names (x ∷ xs)
      → ((some : List (List ℕ)) → NewAfter some xs
      → with_names some (filter_map name xs) ≡ some ++ filter_map name xs)
      → with_names names (filter_map name (x ∷ xs)) ≡ names ++ filter_map name (x ∷ xs)
  by_name names x xs None is new rest =
      ap (with_names names) (passed_by x xs is)
      ∙ rest names (λ before here after n split named.
      subst (λ (found : List (List ℕ)). is_among n (names ++ found) ≡ false)
      (passed_by x before is) (new (x ∷ before) here after n (ap (λ ys. x ∷ ys) split) named))
      ∙ sym (ap (λ (found : List (List ℕ)). names ++ found) (passed_by x xs is))
  by_name names x xs (Some n) is new rest =
      ap (with_names names) (taken x xs n is)
      ∙ ap (λ (some : List (List ℕ)). with_names some (filter_map name xs))
      (added names n (subst (λ (some : List (List ℕ)). is_among n some ≡ false)
      (append-nil names) (new [] x xs n refl is)))
      ∙ rest (names ++ n ∷ []) (λ before here after m split named.
      subst (λ (found : List (List ℕ)). is_among m found ≡ false)
      (ap (λ (found : List (List ℕ)). names ++ found) (taken x before n is)
      ∙ sym (append_assoc names (n ∷ []) (filter_map name before)))
      (new (x ∷ before) here after m (ap (λ ys. x ∷ ys) split) named))
      ∙ append_assoc names (n ∷ []) (filter_map name xs)
      ∙ sym (ap (λ (found : List (List ℕ)). names ++ found) (taken x xs n is))

  -- all are kept
  pub all_kept : (names : List (List ℕ)) (xs : List X) → NewAfter names xs
      → with_names names (filter_map name xs) ≡ names ++ filter_map name xs
  all_kept names [] new = sym (append-nil names)
  all_kept names (x ∷ xs) new =
      by_name names x xs (name x) refl new (λ some. all_kept some xs)

-- ---- names of functions

abbrev named : Function → Option (List ℕ)
named f = Some f.name.name

by_test : (name : List ℕ) (f : Function) (fs : List Function) (b : Bool)
    → is_same_text name f.name.name ≡ b → function_named name (f ∷ fs) ≡ None
    → (function_named name fs ≡ None → is_among name (filter_map named fs) ≡ false)
    → is_among name (filter_map named (f ∷ fs)) ≡ false
by_test name f fs true is none rest =
    let here : function_named name (f ∷ fs) ≡ Some f = rw is refl in absurd cc
by_test name f fs false is none rest =
    let others : function_named name fs ≡ None = rw is at none in rw is (rest others)

not_among : (name : List ℕ) (fs : List Function) → function_named name fs ≡ None
    → is_among name (filter_map named fs) ≡ false
not_among name [] none = refl
not_among name (f ∷ fs) none =
    by_test name f fs (is_same_text name f.name.name) refl none (not_among name fs)

as_names : (fs : List Function) → filter_map named fs ≡ map (λ (f : Function). f.name.name) fs
as_names [] = refl
as_names (f ∷ fs) = ap (λ (names : List (List ℕ)). f.name.name ∷ names) (as_names fs)

-- ---- names of units, with their URLs

insert_new : (urls : List (List ℕ × List ℕ)) (name url : List ℕ)
    → is_among name (map (λ (pair : List ℕ × List ℕ). pair.0) urls) ≡ false
    → insert_entry is_same_text urls name url ≡ urls ++ (name, url) ∷ []
insert_new [] name url new = refl
insert_new (pair ∷ urls) name url new =
    let both = neither (is_same_text name pair.0)
    (is_among name (map (λ (pair : List ℕ × List ℕ). pair.0) urls)) new in
    ap (λ b. cond b ((pair.0, url) ∷ urls) (pair ∷ insert_entry is_same_text urls name url)) both.0
    ∙ ap (λ (more : List (List ℕ × List ℕ)). pair ∷ more) (insert_new urls name url both.1)

-- the name of no unit stands before, with these before all
abbrev NewUrls : List (List ℕ × List ℕ) → List Use → Type 0
NewUrls urls us = (before : List Use) (u : Id) (url : List ℕ) (after : List Use)
    → us ≡ before ++ Url u url ∷ after
    → is_among u.name (map (λ (pair : List ℕ × List ℕ). pair.0) urls ++ units before) ≡ false

all_urls : (urls : List (List ℕ × List ℕ)) (us : List Use) → NewUrls urls us
    → with_urls urls (map url_in us) ≡ urls ++ filter_map url_in us
all_urls urls [] new = sym (append-nil urls)
all_urls urls (Url u url ∷ us) new =
    let names = map (λ (pair : List ℕ × List ℕ). pair.0) urls in
    ap (λ (more : List (List ℕ × List ℕ)). with_urls more (map url_in us))
    (insert_new urls u.name url (subst (λ (some : List (List ℕ)). is_among u.name some ≡ false)
    (append-nil names) (new [] u url us refl)))
    ∙ all_urls (urls ++ (u.name, url) ∷ []) us (λ before v other after split.
    subst (λ (some : List (List ℕ)). is_among v.name some ≡ false)
    (sym (append_assoc names (u.name ∷ []) (units before))
    ∙ sym (ap (λ (some : List (List ℕ)). some ++ units before)
    (map-append (λ (pair : List ℕ × List ℕ). pair.0) urls ((u.name, url) ∷ []))))
    (new (Url u url ∷ before) v other after (ap (λ (ys : List Use). Url u url ∷ ys) split)))
    ∙ append_assoc urls ((u.name, url) ∷ []) (filter_map url_in us)
all_urls urls (other ∷ us) new =
    all_urls urls us (λ before u url after split. new (other ∷ before) u url after
    (ap (λ (ys : List Use). other ∷ ys) split))

-- ---- a program

module _ (p : Program) (scoped : IsScoped p) where
  variables_new : (earlier : List Function) (f : Function) (later : List Function)
      → p.functions ≡ earlier ++ f ∷ later → NewAfter declared [] (said f)
  variables_new earlier f later functions before (Declares v) after n split is =
      subst (λ (name : List ℕ). is_among name (names_declared before) ≡ false)
      (only v.name n is)
      ((in_order p scoped).two_variables before v (record {
        earlier = earlier;
        function = f;
        later = later;
        functions = functions;
        after = after;
        whole = split;
      }))
  variables_new earlier f later functions before _ after n split is = absurd (cc is)

  -- each function's variables stand once
  pub variables_once : All (λ f. AreOnce (names_declared (said f))) p.functions
  variables_once =
      all_by_places (λ (f : Function). AreOnce (names_declared (said f))) p.functions
      (λ earlier f later functions.
      all_kept declared [] (said f) (variables_new earlier f later functions))

  functions_new : NewAfter named [] p.functions
  functions_new before here after n split is =
      subst (λ (name : List ℕ). is_among name (filter_map named before) ≡ false)
      (only here.name.name n is)
      (not_among here.name.name before
      ((in_order p scoped).two_functions before here (record { after = after; whole = split })))

  -- the names of functions stand once
  pub functions_once : AreOnce (function_names p)
  functions_once =
      ap (with_names []) (sym (as_names p.functions))
      ∙ all_kept named [] p.functions functions_new
      ∙ as_names p.functions

  -- so do those of units, each with its URL
  pub urls_once : with_urls [] (map url_in p.uses) ≡ filter_map url_in p.uses
  urls_once = all_urls [] p.uses (λ before u url after split.
      (in_order p scoped).two_units before u url (record { after = after; whole = split }))
