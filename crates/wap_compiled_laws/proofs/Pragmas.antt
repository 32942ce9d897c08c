-- The texts of pragmas are constants of the unit.
use Rattle.std.proofs.Common.{◌≡◌, ℕ, Bool, true, not, List, [], ◌∷◌, Some, None}
use Rattle.std.proofs.Common.{refl, sym, ap, ◌∙◌, subst, cond, option_and_then, find}
use Rattle.std.specs.List.{AllByRecursion, flat_map}
use Rattle.std.proofs.lemmas.Grind.{flat_map-append}
use Rattle.wap_unit.specs.declared.unit.Unit.{Unit as CodeUnit}
use Rattle.wap_unit.specs.declared.unit.Constant.{Constant}
use Rattle.wap_unit.specs.Strings.{string_of, string_at, holds_text, is_string}
use Rattle.wap_grammar.specs.declared.program.program.Use.{Use}
use Rattle.wap_grammar.specs.declared.program.program.Use.TheVariants.{Access, Agent}
use Rattle.wap_grammar.specs.declared.program.expression.Literal.{Literal}
use Rattle.wap_grammar.specs.declared.program.expression.Literal.TheVariants.{Str}
use Rattle.wap_meaning.specs.coding.Constants.{HasPool}
use Rattle.wap_compiled_laws.proofs.BodiesLemmas.Pooled.{text_at}
use Rattle.wap_verify.specs.Sound.{indexes, stray_pragma}
use Rattle.wap_meaning.specs.compiled.Pool.{use_literals}
use Rattle.wap_meaning.specs.compiled.Units.{pragmas_of, text_place}
use Rattle.wap_meaning.proofs.Each.{each_front, each_back, each_both}
use Rattle.wap_compiled_laws.proofs.BodiesLemmas.Pooled.{InPool}
use Rattle.std.proofs.Common.{arith}
use Rattle.std.proofs.lemmas.Grind.{common_steps}

-- a constant with a text is a string
is_text : (charset : ℕ) (c : Constant) (t : List ℕ) → string_of charset c ≡ Some t
    → holds_text c ≡ true
is_text charset c t h3 = grind (arith, common_steps)

-- an index with a text names a string
pub names_string : (u : CodeUnit) (index : ℕ) {t : List ℕ} → string_at u index ≡ Some t
    → is_string u index ≡ true
names_string u index {t} is = grind (arith, common_steps, option_and_then, is_text)

module _ (u : CodeUnit) (constants : List Literal) (has : HasPool u constants) where
  -- an index names a string
  abbrev IsString : ℕ → Type 0
  IsString index = is_string u index ≡ true

  -- a text among the constants
  string_there : (t : List ℕ) → InPool constants (Str t) → IsString (text_place constants t)
  string_there t there =
      names_string u (text_place constants t) (text_at u constants has t (there tt))

  -- the texts of a pragma
  use_strings : (x : Use) → AllByRecursion (InPool constants) (use_literals x)
      → AllByRecursion IsString (flat_map indexes (pragmas_of (text_place constants) x))
  use_strings (Access (Some domain) None span) all = (string_there domain all.0, tt)
  use_strings (Access None (Some path) span) all = (string_there path all.0, tt)
  use_strings (Access (Some domain) (Some path) span) all =
      (string_there domain all.0, (string_there path all.1.0, tt))
  use_strings (Agent name content None) all =
      (string_there name all.0, (string_there content all.1.0, tt))
  use_strings (Agent name content (Some scheme)) all = (
    string_there name all.0,
    (string_there content all.1.0, (string_there scheme all.1.1.0, tt)),
  )
  use_strings _ all = tt

  -- those of all pragmas
  uses_strings : (uses : List Use) → AllByRecursion (InPool constants) (flat_map use_literals uses)
      → AllByRecursion IsString
      (flat_map indexes (flat_map (pragmas_of (text_place constants)) uses))
  uses_strings [] all = tt
  uses_strings (x ∷ uses) all =
      let first = pragmas_of (text_place constants) x in
      let rest = flat_map (pragmas_of (text_place constants)) uses in
      subst (AllByRecursion IsString) (sym (flat_map-append indexes first rest))
      (each_both IsString (flat_map indexes first) (flat_map indexes rest)
      (use_strings x (each_front (InPool constants) (use_literals x) _ all))
      (uses_strings uses (each_back (InPool constants) (use_literals x) _ all)))

  -- so none is stray
  none_stray : (is : List ℕ) → AllByRecursion IsString is
      → find (λ index. not (is_string u index)) is ≡ None
  none_stray [] all = refl
  none_stray (index ∷ is) all =
      ap (λ (b : Bool). cond (not b) (Some index) (find (λ index. not (is_string u index)) is))
      all.0
      ∙ none_stray is all.1

  pub no_stray : (uses : List Use)
      → u.pragmas ≡ flat_map (pragmas_of (text_place constants)) uses
      → AllByRecursion (InPool constants) (flat_map use_literals uses) → stray_pragma u ≡ None
  no_stray uses is all = grind (arith, common_steps, none_stray, uses_strings)
