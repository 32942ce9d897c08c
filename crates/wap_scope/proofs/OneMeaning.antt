-- Each name of a scoped program means one thing.
use Rattle.std.proofs.Common.{◌≡◌, ℕ, suc, ◌<◌, ◌≤◌, Bool, true, false, ◌||◌, cond, nat_eq}
use Rattle.std.proofs.Common.{nat_le, List, [], ◌∷◌, ◌++◌, length, get_or, take, drop, map, Option}
use Rattle.std.proofs.Common.{Some, None, unwrap_or, refl, sym, ap, subst, ◌∙◌, append_assoc, arith}
use Rattle.std.specs.List.{filter_map, cons_option}
use Rattle.std.specs.Option.{is_some, option_map}
use Rattle.std.proofs.Math.Seq.{split_at, length-take-le}
use Rattle.std.proofs.Math.ListN.{get_or-append}
use Rattle.std.proofs.lemmas.List.{length-append, length-map}
use Rattle.std.proofs.lemmas.Bool.Decides.{nat_tests}
use Rattle.std.proofs.lemmas.List.Elements.{filter_map-append}
use Rattle.std.specs.Cmp.Lexicographic.{bytes_decides}
use Rattle.wap_base.specs.Texts.{is_same_text}
use Rattle.wap_unit.specs.Libraries.{lib_named}
use Rattle.wap_grammar.specs.declared.program.program.Id.{Id}
use Rattle.wap_grammar.specs.declared.program.program.Use.{Use}
use Rattle.wap_grammar.specs.declared.program.program.Use.TheVariants.{Url}
use Rattle.wap_grammar.specs.declared.program.program.Function.{Function}
use Rattle.wap_grammar.specs.declared.program.program.Program.{Program}
use Rattle.wap_scope.specs.declared.limits.TheConstants.{VARIABLE_LIMIT, FUNCTION_LIMIT}
use Rattle.wap_scope.specs.declared.limits.TheConstants.{ARGUMENT_LIMIT}
use Rattle.wap_scope.specs.Names.{Variable, Local, External, Library, Mention}
use Rattle.wap_scope.specs.Names.{Declares, Refers, said, declared}
use Rattle.wap_scope.specs.Names.{names_declared, function_named, unit_of, units}
use Rattle.wap_scope.specs.Scoped.{is_among, arity_of, is_taken, Says, HasFunction, HasUse}
use Rattle.wap_scope.proofs.InOrder.{InOrder}
use Rattle.wap_scope.specs.Meanings.{StandsOnce, function_names, parameter_counts, HaveMeanings}
use Rattle.wap_scope.proofs.Once.{NoneTwice, stands_once}
use Rattle.wap_scope.proofs.Programs.{named_before}

-- ---- lists of what has names

-- a name of a list is that of an item, which stands after the items of the names before it
record Comes {X : Type 0} (of : X → Option (List ℕ)) (items : List X) (before : List (List ℕ))
    (name : List ℕ) : Type 0 where
  earlier : List X
  item : X
  later : List X
  whole : items ≡ earlier ++ item ∷ later
  names : filter_map of earlier ≡ before
  named : of item ≡ Some name

abbrev head_or : List ℕ → List (List ℕ) → List ℕ
head_or other [] = other
head_or other (name ∷ names) = name

abbrev tail_of : List (List ℕ) → List (List ℕ)
tail_of [] = []
tail_of (name ∷ names) = names

module _ {X : Type 0} (of : X → Option (List ℕ)) where
  comes_after : (x : X) (items : List X) (before : List (List ℕ)) (name : List ℕ)
      (all : List (List ℕ)) → cons_option (of x) before ≡ all → Comes of items before name →
      Comes of (x ∷ items) all name
  comes_after x items before name all is comes = record {
    earlier = x ∷ comes.earlier;
    item = comes.item;
    later = comes.later;
    whole = ap (λ items. x ∷ items) comes.whole;
    names = ap (cons_option (of x)) comes.names ∙ is;
    named = comes.named;
  }

  comes_first : (x : X) (items : List X) (name other : List ℕ) → of x ≡ Some other →
      other ≡ name → Comes of (x ∷ items) [] name
  comes_first x items name other is same = record {
    earlier = [];
    item = x;
    later = items;
    whole = refl;
    names = refl;
    named = is ∙ ap Some same;
  }

  -- by what the first item is called
  by_first : (found : Option (List ℕ)) (x : X) (items : List X) (before : List (List ℕ))
      (name : List ℕ) (after : List (List ℕ)) → of x ≡ found →
      cons_option found (filter_map of items) ≡ before ++ name ∷ after →
      ((before : List (List ℕ)) → filter_map of items ≡ before ++ name ∷ after →
      Comes of items before name) → Comes of (x ∷ items) before name
  by_first None x items before name after is split inner =
      comes_after x items before name before (ap (λ found. cons_option found before) is)
      (inner before split)
  by_first (Some other) x items [] name after is split inner =
      comes_first x items name other is (ap (head_or []) split)
  by_first (Some other) x items (first ∷ before) name after is split inner =
      comes_after x items before name (first ∷ before)
      (ap (λ found. cons_option found before) is
      ∙ ap (λ one. one ∷ before) (ap (head_or []) split))
      (inner before (ap tail_of split))

  comes_from : (items : List X) (before : List (List ℕ)) (name : List ℕ)
      (after : List (List ℕ)) → filter_map of items ≡ before ++ name ∷ after →
      Comes of items before name
  comes_from [] [] name after split = absurd (cc split)
  comes_from [] (first ∷ before) name after split = absurd (cc split)
  comes_from (x ∷ items) before name after split =
      by_first (of x) x items before name after refl split
      (λ inner rest. comes_from items inner name after rest)

-- ---- variables

-- what declares a variable of this name
declares_it : (m : Mention) (name : List ℕ) → declared m ≡ Some name →
    (v : Id) × (m ≡ Declares v) × (v.name ≡ name)
declares_it (Declares v) name is = (v, refl, ap (λ found. unwrap_or found []) is)
declares_it _ name is = absurd (cc is)

-- what names a unit
names_it : (u : Use) (name : List ℕ) → unit_of u ≡ Some name →
    (id : Id) × (url : List ℕ) × (u ≡ Url id url) × (id.name ≡ name)
names_it (Url id url) name is = (id, url, refl, ap (λ found. unwrap_or found []) is)
names_it _ name is = absurd (cc is)

among_more : (name : List ℕ) (names more : List (List ℕ)) → is_among name names ≡ true →
    is_among name (names ++ more) ≡ true
among_more name [] more is = absurd (cc is)
among_more name (first ∷ names) more is =
    by (is_same_text name first) is (among_more name names more) where
      by : (same : Bool) → (same || is_among name names) ≡ true →
          (is_among name names ≡ true → is_among name (names ++ more) ≡ true) →
          (same || is_among name (names ++ more)) ≡ true
      by true is inner = refl
      by false is inner = inner is

prefix_once : (names more : List (List ℕ)) → NoneTwice (names ++ more) → NoneTwice names
prefix_once names more once before name after split =
    once before name (after ++ more)
    (ap (λ names. names ++ more) split ∙ append_assoc before (name ∷ after) more)

-- ---- functions by their names

as_names : (functions : List Function) →
    filter_map (λ (f : Function). Some f.name.name) functions
    ≡ map (λ (f : Function). f.name.name) functions
as_names [] = refl
as_names (f ∷ functions) = ap (λ names. f.name.name ∷ names) (as_names functions)

abbrev NamedPlace : List ℕ → List Function → ℕ → Type 0
NamedPlace name functions arity =
    (place : ℕ) × (place < length (map (λ (f : Function). f.name.name) functions)) ×
    (get_or (map (λ (f : Function). f.name.name) functions) place [] ≡ name) ×
    (get_or (map (λ (f : Function). length f.params) functions) place 0 ≡ arity)

place_first : (same : Bool) (name : List ℕ) (f : Function) (functions : List Function)
    (arity : ℕ) → is_same_text name f.name.name ≡ same →
    option_map (λ (f : Function). length f.params)
    (cond same (Some f) (function_named name functions))
    ≡ Some arity →
    (arity_of functions name ≡ Some arity → NamedPlace name functions arity) →
    NamedPlace name (f ∷ functions) arity
place_first true name f functions arity same is later = (
  0,
  omega arith,
  sym ((bytes_decides name f.name.name).0 same),
  ap (λ found. unwrap_or found 0) is,
)
place_first false name f functions arity same is later =
    let inner = later is in
    (suc inner.0, let within = inner.1 in omega arith, inner.2, inner.3)

named_place : (name : List ℕ) (functions : List Function) (arity : ℕ) →
    arity_of functions name ≡ Some arity → NamedPlace name functions arity
named_place name [] arity is = absurd (cc is)
named_place name (f ∷ functions) arity is =
    place_first (is_same_text name f.name.name) name f functions arity refl is
    (λ inner. named_place name functions arity inner)

-- ---- numbers

at_most : (count limit : ℕ) → nat_le count limit ≡ true → count ≤ limit
at_most count limit is = grind (arith, nat_tests)

same_number : (arity count : ℕ) → nat_eq arity count ≡ true → arity ≡ count
same_number arity count is = grind (arith, nat_tests)

arity_taken : (count : ℕ) (found : Option Function) → is_some found ≡ true →
    is_taken count (option_map (λ (f : Function). length f.params) found) ≡ true →
    option_map (λ (f : Function). length f.params) found ≡ Some count
arity_taken count None some taken = absurd (cc some)
arity_taken count (Some f) some taken = ap Some (same_number (length f.params) count taken)

row_taken : (count : ℕ) (found : Option (ℕ × ℕ × ℕ)) → is_some found ≡ true →
    is_taken count (option_map (λ (row : ℕ × ℕ × ℕ). row.2) found) ≡ true →
    (number : ℕ) × (function : ℕ) × (found ≡ Some (number, function, count))
row_taken count None some taken = absurd (cc some)
row_taken count (Some row) some taken =
    (row.0, row.1, ap (λ count. Some (row.0, row.1, count)) (same_number row.2 count taken))

module _ (p : Program) (scoped : InOrder p) where
  variables_once : (earlier : List Function) (f : Function) (later : List Function) →
      p.functions ≡ earlier ++ f ∷ later → NoneTwice (names_declared (said f))
  variables_once earlier f later functions before name after split =
      let comes = comes_from declared (said f) before name after split in
      let it = declares_it comes.item name comes.named in
      let says : Says p comes.earlier (Declares it.0) = record {
        earlier = earlier;
        function = f;
        later = later;
        functions = functions;
        after = comes.later;
        whole = comes.whole ∙ ap (λ m. comes.earlier ++ m ∷ comes.later) it.1;
      } in
      ap (λ names. is_among name names) (sym comes.names)
      ∙ ap (λ name. is_among name (names_declared comes.earlier)) (sym it.2)
      ∙ scoped.two_variables comes.earlier it.0 says

  units_once : NoneTwice (units p.uses)
  units_once before name after split =
      let comes = comes_from unit_of p.uses before name after split in
      let it = names_it comes.item name comes.named in
      let has : HasUse p comes.earlier (Url it.0 it.1) = record {
        after = comes.later;
        whole = comes.whole ∙ ap (λ u. comes.earlier ++ u ∷ comes.later) it.2;
      } in
      ap (λ names. is_among name names) (sym comes.names)
      ∙ ap (λ name. is_among name (units comes.earlier)) (sym it.3)
      ∙ scoped.two_units comes.earlier it.0 it.1 has

  -- ---- functions

  function_once : NoneTwice (function_names p)
  function_once before name after split =
      let comes = comes_from (λ (f : Function). Some f.name.name) p.functions before name after
      (as_names p.functions ∙ split) in
      let has : HasFunction p comes.earlier comes.item =
      record { after = comes.later; whole = comes.whole } in
      ap (λ names. is_among name names) (sym comes.names ∙ as_names comes.earlier)
      ∙ ap (λ name. is_among name (map (λ (f : Function). f.name.name) comes.earlier))
      (sym (ap (λ found. unwrap_or found []) comes.named))
      ∙ named_before comes.item.name.name comes.earlier
      ∙ ap is_some (scoped.two_functions comes.earlier comes.item has)

  -- ---- numbers

  few_variables : (earlier : List Function) (f : Function) (later : List Function) →
      p.functions ≡ earlier ++ f ∷ later → (place : ℕ) →
      place < length (names_declared (said f)) → place < VARIABLE_LIMIT
  few_variables earlier f later functions place within =
      let names = names_declared (said f) in
      let name = get_or names place [] in
      let comes = comes_from declared (said f) (take place names) name (drop (suc place) names)
      (split_at names place [] within) in
      let it = declares_it comes.item name comes.named in
      let says : Says p comes.earlier (Declares it.0) = record {
        earlier = earlier;
        function = f;
        later = later;
        functions = functions;
        after = comes.later;
        whole = comes.whole ∙ ap (λ m. comes.earlier ++ m ∷ comes.later) it.1;
      } in
      let many : length (names_declared comes.earlier) ≡ place =
      ap length comes.names ∙ length-take-le place names (omega (arith, within)) in
      let few = scoped.too_many_locals comes.earlier it.0 says in
      subst (λ count. count < VARIABLE_LIMIT) many few

  few_functions : (place : ℕ) → place < length (function_names p) → place < FUNCTION_LIMIT
  few_functions place within =
      let names = function_names p in
      let name = get_or names place [] in
      let comes = comes_from (λ (f : Function). Some f.name.name) p.functions
      (take place names) name
      (drop (suc place) names) (as_names p.functions ∙ split_at names place [] within) in
      let has : HasFunction p comes.earlier comes.item =
      record { after = comes.later; whole = comes.whole } in
      let many : length comes.earlier ≡ place =
      sym (length-map comes.earlier (λ (f : Function). f.name.name))
      ∙ ap length (sym (as_names comes.earlier) ∙ comes.names)
      ∙ length-take-le place names (omega (arith, within)) in
      subst (λ count. count < FUNCTION_LIMIT) many
      (scoped.too_many_functions comes.earlier comes.item has)

  -- ---- meanings

  variable : (before : List Mention) (v : Id) → (says : Says p before (Refers (Variable v))) →
      (place : ℕ) × StandsOnce v.name (names_declared (said says.function)) place ×
      (place < length (names_declared before)) × (place < VARIABLE_LIMIT)
  variable before v says =
      let known = names_declared before in
      let more = names_declared (Refers (Variable v) ∷ says.after) in
      let names = names_declared (said says.function) in
      let whole : names ≡ known ++ more =
      ap names_declared says.whole
      ∙ filter_map-append declared before (Refers (Variable v) ∷ says.after) in
      let once = variables_once says.earlier says.function says.later says.functions in
      let among = scoped.no_variable before v says in
      let stands = stands_once names once v.name
      (subst (λ names. is_among v.name names ≡ true) (sym whole)
      (among_more v.name known more among)) in
      let prefix = stands_once known
      (prefix_once known more (subst NoneTwice whole once)) v.name among in
      let within = prefix.1.within in
      let there : get_or names prefix.0 [] ≡ v.name =
      ap (λ names. get_or names prefix.0 []) whole
      ∙ get_or-append known more [] prefix.0 within ∙ prefix.1.there in
      let same : prefix.0 ≡ stands.0 =
      stands.1.only prefix.0
      (omega (arith, within, ap length whole, length-append known more))
      there in (
        stands.0,
        stands.1,
        subst (λ place. place < length known) same within,
        few_variables says.earlier says.function says.later says.functions stands.0 stands.1.within,
      )

  local : (before : List Mention) (f : Id) (count : ℕ) → Says p before (Refers (Local f count)) →
      (place : ℕ) × StandsOnce f.name (function_names p) place × (place < FUNCTION_LIMIT) ×
      (get_or (parameter_counts p) place 0 ≡ count)
  local before f count says =
      let names = function_names p in
      let some = scoped.no_function before f count says in
      let stands = stands_once names function_once f.name
      (named_before f.name p.functions ∙ some) in
      let arity = arity_taken count (function_named f.name p.functions) some
      (scoped.arguments before (Local f count) says) in
      let one = named_place f.name p.functions count arity in
      let same : one.0 ≡ stands.0 = stands.1.only one.0 one.1 one.2 in (
        stands.0,
        stands.1,
        few_functions stands.0 stands.1.within,
        ap (λ place. get_or (parameter_counts p) place 0) (sym same) ∙ one.3,
      )

  external : (before : List Mention) (unit f : Id) (count : ℕ) →
      Says p before (Refers (External unit f count)) →
      (place : ℕ) × StandsOnce unit.name (units p.uses) place × (count ≤ ARGUMENT_LIMIT)
  external before unit f count says =
      let stands = stands_once (units p.uses) units_once unit.name
      (scoped.no_unit before unit f count says) in (
        stands.0,
        stands.1,
        at_most count ARGUMENT_LIMIT
            (scoped.arguments before (External unit f count) says),
      )

  library : (before : List Mention) (l f : Id) (count : ℕ) →
      Says p before (Refers (Library l f count)) →
      (number : ℕ) × (function : ℕ) × (lib_named l.name f.name ≡ Some (number, function, count))
  library before l f count says =
      row_taken count (lib_named l.name f.name) (scoped.no_library before l f count says)
      (scoped.arguments before (Library l f count) says)

  pub one_meaning : HaveMeanings p
  one_meaning = record {
    variable = variable;
    local = local;
    external = external;
    library = library;
  }
