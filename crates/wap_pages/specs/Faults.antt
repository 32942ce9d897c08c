-- Why a call on a page gives nothing, by the fault of a call below. This project's own.
use Rattle.wap_unit.specs.declared.fault.UnitFault.{UnitFault}
use Rattle.wap_unit.specs.declared.fault.UnitFault.TheVariants as unit
use Rattle.wap_verify.specs.declared.fault.VerifyFault.{VerifyFault}
use Rattle.wap_verify.specs.declared.fault.VerifyFault.TheVariants as verify
use Rattle.wap_wbxml.specs.declared.fault.DocFault.{DocFault}
use Rattle.wap_wbxml.specs.declared.fault.DocFault.TheVariants as document
use Rattle.wap_deckcheck.specs.declared.fault.DeckFault.{DeckFault}
use Rattle.wap_deckcheck.specs.declared.fault.DeckFault.TheVariants as deck
use Rattle.wap_codegen.specs.declared.fault.CompileFault.{CompileFault}
use Rattle.wap_codegen.specs.declared.fault.CompileFault.TheVariants as compile
use Rattle.wap_pages.specs.declared.fault.PageErr.{PageErr}
use Rattle.wap_pages.specs.declared.fault.PageErr.TheVariants.{Refused, NoMemory}
use Rattle.wap_pages.specs.declared.fault.PageFault.TheVariants as page

-- all faults but one refuse the page
abbrev pub document_error : DocFault → PageErr
document_error document.NoMemory = NoMemory
document_error fault = Refused (page.Document fault)

abbrev pub deck_error : DeckFault → PageErr
deck_error deck.NoMemory = NoMemory
deck_error fault = Refused (page.Deck fault)

abbrev pub unit_error : UnitFault → PageErr
unit_error unit.NoMemory = NoMemory
unit_error fault = Refused (page.Unit fault)

abbrev pub verify_error : VerifyFault → PageErr
verify_error verify.NoMemory = NoMemory
verify_error fault = Refused (page.Verify fault)

abbrev pub source_error : CompileFault → PageErr
source_error compile.NoMemory = NoMemory
source_error fault = Refused (page.Source fault)
