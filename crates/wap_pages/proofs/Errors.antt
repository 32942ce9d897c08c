-- What an error says of the fault that it was made of: one fault is that memory ran out, and each
-- other one refuses the page.
use Rattle.std.proofs.Common.{◌≡◌, ◌≢◌, refl}
use Rattle.wap_wbxml.specs.declared.fault.DocFault.{DocFault}
use Rattle.wap_wbxml.specs.declared.fault.DocFault.TheVariants as document
use Rattle.wap_deckcheck.specs.declared.fault.DeckFault.{DeckFault}
use Rattle.wap_deckcheck.specs.declared.fault.DeckFault.TheVariants as deck
use Rattle.wap_unit.specs.declared.fault.UnitFault.{UnitFault}
use Rattle.wap_unit.specs.declared.fault.UnitFault.TheVariants as unit
use Rattle.wap_verify.specs.declared.fault.VerifyFault.{VerifyFault}
use Rattle.wap_verify.specs.declared.fault.VerifyFault.TheVariants as verify
use Rattle.wap_codegen.specs.declared.fault.CompileFault.{CompileFault}
use Rattle.wap_codegen.specs.declared.fault.CompileFault.TheVariants as compile
use Rattle.wap_pages.specs.declared.fault.PageErr.{PageErr}
use Rattle.wap_pages.specs.declared.fault.PageErr.TheVariants.{Refused, NoMemory}
use Rattle.wap_pages.specs.declared.fault.PageFault.TheVariants as page
use Rattle.wap_pages.specs.Faults.{document_error, deck_error, unit_error, verify_error}
use Rattle.wap_pages.specs.Faults.{source_error}

pub unit_cases : (P : PageErr → Type 0) (fault : UnitFault) → (fault ≡ unit.NoMemory → P NoMemory)
    → (fault ≢ unit.NoMemory → P (Refused (page.Unit fault))) → P (unit_error fault)
unit_cases P unit.NoMemory none some = none refl
unit_cases P fault none some = some (λ e. absurd cc)

pub verify_cases : (P : PageErr → Type 0) (fault : VerifyFault)
    → (fault ≡ verify.NoMemory → P NoMemory)
    → (fault ≢ verify.NoMemory → P (Refused (page.Verify fault))) → P (verify_error fault)
verify_cases P verify.NoMemory none some = none refl
verify_cases P fault none some = some (λ e. absurd cc)

pub document_cases : (P : PageErr → Type 0) (fault : DocFault)
    → (fault ≡ document.NoMemory → P NoMemory)
    → (fault ≢ document.NoMemory → P (Refused (page.Document fault))) → P (document_error fault)
document_cases P document.NoMemory none some = none refl
document_cases P fault none some = some (λ e. absurd cc)

pub deck_cases : (P : PageErr → Type 0) (fault : DeckFault) → (fault ≡ deck.NoMemory → P NoMemory)
    → (fault ≢ deck.NoMemory → P (Refused (page.Deck fault))) → P (deck_error fault)
deck_cases P deck.NoMemory none some = none refl
deck_cases P fault none some = some (λ e. absurd cc)

pub source_cases : (P : PageErr → Type 0) (fault : CompileFault)
    → (fault ≡ compile.NoMemory → P NoMemory)
    → (fault ≢ compile.NoMemory → P (Refused (page.Source fault))) → P (source_error fault)
source_cases P compile.NoMemory none some = none refl
source_cases P fault none some = some (λ e. absurd cc)
