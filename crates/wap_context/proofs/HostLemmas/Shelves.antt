-- What stands under a name in judged pages, as pages of units.
use Rattle.std.proofs.Common.{◌≡◌, ◌∙◌, ℕ, Bool, true, false, List, [], ◌∷◌, Option, Some, None}
use Rattle.std.proofs.Common.{refl, ap}
use Rattle.std.specs.Prelude.{if◌then◌else◌, IfSome, unwrap_or, option_and_then}
use Rattle.std.specs.Option.{option_map}
use Rattle.std.proofs.lemmas.Map.Entries.{All-lookup}
use Rattle.wap_base.specs.Texts.{is_same_text}
use Rattle.wap_unit.specs.declared.unit.Unit.{Unit}
use Rattle.wap_world.specs.declared.site.page.Page.{Page}
use Rattle.wap_world.specs.declared.site.page.Page.TheVariants as judge
use Rattle.wap_world.specs.site.Pages.{Pages as JudgedPages, IsThere, AreSitePages}
use Rattle.wap_world.specs.site.Pages.{page_under as judged_under, page_of}
use Rattle.wap_world.specs.scripting.Units.{external_in}
use Rattle.wap_world.specs.scripting.ScriptPages.{PageOf, page_under, script_in, shelved}
use Rattle.wap_world.specs.scripting.UnitSites.{units, no_unit, shelf_of, unit_under, externals_of}
use Rattle.wap_world.specs.scripting.UnitSites.{unit_page, unit_pages}
use Rattle.wap_context.specs.host.Finding.{shelved_page}

-- ---- the page under a name

by_test : (b : Bool) (page : Page) (others : Option (PageOf Unit)) (judged : Option Page)
    → others ≡ option_map unit_page judged
    → (if b then Some (unit_page page) else others)
    ≡ option_map unit_page (if b then Some page else judged)
by_test true page others judged is = refl
by_test false page others judged is = is

pub under_is : (name : List ℕ) (judged : JudgedPages)
    → page_under name (unit_pages judged) ≡ option_map unit_page (judged_under name judged)
under_is name [] = refl
under_is name (one ∷ others) =
    by_test (is_same_text one.0 name) one.1 (page_under name (unit_pages others))
    (judged_under name others) (under_is name others)

there : (name : List ℕ) (judged : JudgedPages) → AreSitePages judged
    → IfSome (judged_under name judged) IsThere
there name judged are = All-lookup IsThere (λ other. is_same_text other name) judged are.there

-- ---- what stands there

shelved_by : (found : Option Page) → IfSome found IsThere
    → shelved units (option_map unit_page found) ≡ shelved_page (unwrap_or found judge.Missing)
shelved_by None is = refl
shelved_by (Some (judge.Deck deck)) is = refl
shelved_by (Some (judge.Script unit)) is = refl
shelved_by (Some (judge.Words text)) is = refl
shelved_by (Some judge.Refused) is = refl
shelved_by (Some judge.Missing) is = absurd (is refl)

pub shelved_is : (name : List ℕ) (judged : JudgedPages) → AreSitePages judged
    → shelf_of (unit_pages judged) name ≡ shelved_page (page_of name judged)
shelved_is name judged are =
    ap (λ (o : Option (PageOf Unit)). shelved units o) (under_is name judged)
    ∙ shelved_by (judged_under name judged) (there name judged are)

-- ---- scripts

script_by : (found : Option Page) (unit : Unit) → unwrap_or found judge.Missing ≡ judge.Script unit
    → script_in (option_map unit_page found) ≡ Some unit
script_by None unit is = absurd (cc)
script_by (Some (judge.Deck deck)) unit is = absurd (cc)
script_by (Some (judge.Script one)) unit is = cc
script_by (Some (judge.Words text)) unit is = absurd (cc)
script_by (Some judge.Refused) unit is = absurd (cc)
script_by (Some judge.Missing) unit is = absurd (cc)

script_there : (name : List ℕ) (judged : JudgedPages) (unit : Unit)
    → page_of name judged ≡ judge.Script unit
    → script_in (page_under name (unit_pages judged)) ≡ Some unit
script_there name judged unit is =
    ap (λ (o : Option (PageOf Unit)). script_in o) (under_is name judged)
    ∙ script_by (judged_under name judged) unit is

-- the unit of a name is the one that was judged, and its external functions are the page's
pub unit_is : (name : List ℕ) (judged : JudgedPages) (unit : Unit)
    → page_of name judged ≡ judge.Script unit → unit_under (unit_pages judged) name ≡ unit
unit_is name judged unit is =
    ap (λ (o : Option Unit). unwrap_or o no_unit) (script_there name judged unit is)

pub externals_are : (name function : List ℕ) (judged : JudgedPages) (unit : Unit)
    → page_of name judged ≡ judge.Script unit
    → externals_of (unit_pages judged) name function ≡ external_in unit function
externals_are name function judged unit is =
    ap (λ (o : Option Unit). option_and_then (λ one. external_in one function) o)
    (script_there name judged unit is)
