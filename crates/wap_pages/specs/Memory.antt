-- Which faults of a page say that memory ran out, be it in a fault that they have in them. This
-- project's own.
use Rattle.std.specs.Prelude.{◌≡◌, Bool, true, false, Result, Err}
use Rattle.wap_wbxml.specs.declared.fault.DocFault.TheVariants as document
use Rattle.wap_deckcheck.specs.declared.fault.DeckFault.TheVariants as deck
use Rattle.wap_lex.specs.declared.fault.LexFault.TheVariants as lex
use Rattle.wap_grammar.specs.declared.fault.ParseFault.TheVariants as parse
use Rattle.wap_scope.specs.declared.fault.ScopeFault.TheVariants as scope
use Rattle.wap_codegen.specs.declared.fault.CompileFault.TheVariants as compile
use Rattle.wap_unit.specs.declared.fault.UnitFault.TheVariants as unit
use Rattle.wap_verify.specs.declared.fault.VerifyFault.TheVariants as verify
use Rattle.wap_image.specs.declared.context_parts.fault.ImageFault.TheVariants as image
use Rattle.wap_image.specs.declared.context_parts.fault.SaveFault.TheVariants as save
use Rattle.wap_pages.specs.declared.fault.PageErr.{PageErr}
use Rattle.wap_pages.specs.declared.fault.PageErr.TheVariants.{Refused}
use Rattle.wap_pages.specs.declared.fault.PageFault.{PageFault}
use Rattle.wap_pages.specs.declared.fault.PageFault.TheVariants as page

abbrev pub is_of_memory : PageFault → Bool
is_of_memory (page.Document document.NoMemory) = true
is_of_memory (page.Deck deck.NoMemory) = true
is_of_memory (page.Source (compile.Lex lex.NoMemory)) = true
is_of_memory (page.Source (compile.Parse parse.NoMemory)) = true
is_of_memory (page.Source (compile.Scope scope.NoMemory)) = true
is_of_memory (page.Source compile.NoMemory) = true
is_of_memory (page.Unit unit.NoMemory) = true
is_of_memory (page.Verify verify.NoMemory) = true
is_of_memory (page.Image image.NoMemory) = true
is_of_memory (page.Save save.NoMemory) = true
is_of_memory _ = false

-- an answer that refuses a page has a fault of the page, and not that memory ran out
abbrev pub RefusesForFault : {X : Type 0} → Result X PageErr → Type 0
RefusesForFault result =
    (fault : PageFault) → result ≡ Err (Refused fault) → is_of_memory fault ≡ false
