-- What is found for a call of another script in the page that answers, and what such a page gives
-- as a text. This project's own.
use Rattle.std.specs.Prelude.{ℕ, List, Some, nat_eq, codes, if◌then◌else◌}
use Rattle.std.specs.List.{ends_with}
use Rattle.wap_url.specs.declared.url.Url.{Url}
use Rattle.wap_url.specs.Printing.{without_fragment, name_for}
use Rattle.wap_unit.specs.declared.unit.Unit.{Unit}
use Rattle.wap_execution.specs.declared.fatal.Fatal.TheVariants as fatal
use Rattle.wap_execution.specs.declared.found.Found.{Found}
use Rattle.wap_execution.specs.declared.found.Found.TheVariants.{Not}
use Rattle.wap_execution.specs.declared.library.HostOut.{HostOut}
use Rattle.wap_execution.specs.declared.library.HostOut.TheVariants as out
use Rattle.wap_world.specs.declared.site.page.Page.{Page}
use Rattle.wap_world.specs.declared.site.page.Page.TheVariants as page
use Rattle.wap_world.specs.Shelves.{Shelved, deck_page, script_page, text_page, refused_page}
use Rattle.wap_world.specs.Shelves.{no_page}
use Rattle.wap_world.specs.Access.{may_enter}
use Rattle.wap_world.specs.scripting.Loading.{text_in, not_acceptable}
use Rattle.wap_world.specs.scripting.Hosting.{callable, callable_if, kept}
use Rattle.wap_world.specs.scripting.Units.{entrance_in, external_in}

-- a judged page, as it stands on a shelf
abbrev pub shelved_page : Page → Shelved
shelved_page (page.Deck deck) = deck_page deck
shelved_page (page.Script unit) = script_page (entrance_in unit)
shelved_page (page.Words text) = text_page text
shelved_page page.Refused = refused_page
shelved_page page.Missing = no_page

-- the function of a name in a unit, for so many arguments, while so many functions are at work
abbrev pub found_in : Url → Url → Unit → List ℕ → (count depth working : ℕ) → Found Unit
found_in caller url unit function count depth working =
    callable_if (may_enter url (entrance_in unit) (Some caller))
    (callable unit (without_fragment url) count depth working (external_in unit function))

-- the same in a page
abbrev pub found_on : Url → Url → Page → List ℕ → (count depth working : ℕ) → Found Unit
found_on caller url (page.Script unit) function count depth working =
    found_in caller url unit function count depth working
found_on caller url page.Missing function count depth working = Not fatal.NoUnit
found_on caller url other function count depth working = Not fatal.UnitRefused

-- what a page gives that is loaded as a text, within the limit of Strings
abbrev pub loaded_text : ℕ → Url → Page → HostOut
loaded_text string url page =
    kept string (out.Value (if ends_with nat_eq (name_for url) (codes ".txt")
    then text_in (shelved_page page) else not_acceptable))
