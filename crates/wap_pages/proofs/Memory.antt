-- A fault that refuses a page isn't that memory ran out.
use Rattle.std.proofs.Common.{◌≡◌, ◌≢◌, false, refl, subst}
use Rattle.wap_wbxml.specs.declared.fault.DocFault.{DocFault}
use Rattle.wap_wbxml.specs.declared.fault.DocFault.TheVariants as document
use Rattle.wap_deckcheck.specs.declared.fault.DeckFault.{DeckFault}
use Rattle.wap_deckcheck.specs.declared.fault.DeckFault.TheVariants as deck
use Rattle.wap_unit.specs.declared.fault.UnitFault.{UnitFault}
use Rattle.wap_unit.specs.declared.fault.UnitFault.TheVariants as unit
use Rattle.wap_verify.specs.declared.fault.VerifyFault.{VerifyFault}
use Rattle.wap_verify.specs.declared.fault.VerifyFault.TheVariants as verify
use Rattle.wap_lex.specs.declared.fault.LexFault.{LexFault}
use Rattle.wap_lex.specs.declared.fault.LexFault.TheVariants as lex
use Rattle.wap_grammar.specs.declared.fault.ParseFault.{ParseFault}
use Rattle.wap_grammar.specs.declared.fault.ParseFault.TheVariants as parse
use Rattle.wap_scope.specs.declared.fault.ScopeFault.{ScopeFault}
use Rattle.wap_scope.specs.declared.fault.ScopeFault.TheVariants as scope
use Rattle.wap_codegen.specs.declared.fault.CompileFault.{CompileFault}
use Rattle.wap_codegen.specs.declared.fault.CompileFault.TheVariants as compile
use Rattle.wap_codegen.specs.Faults.{IsPlain}
use Rattle.wap_pages.specs.declared.fault.PageErr.TheVariants.{Refused}
use Rattle.wap_pages.specs.declared.fault.PageFault.{PageFault}
use Rattle.wap_pages.specs.declared.fault.PageFault.TheVariants as page
use Rattle.wap_pages.specs.Faults.{document_error, deck_error, unit_error, verify_error}
use Rattle.wap_pages.specs.Faults.{source_error}
use Rattle.wap_pages.specs.Memory.{is_of_memory}

-- the page is refused for this fault
is_this : (one why : PageFault) → is_of_memory one ≡ false → Refused one ≡ Refused why
    → is_of_memory why ≡ false
is_this one why is e = subst (λ (f : PageFault). is_of_memory f ≡ false) (inner e) is
  where
    inner : Refused one ≡ Refused why → one ≡ why
    inner same = cc

-- ---- by the faults of calls below

pub deck_alone : (fault : DeckFault) → fault ≢ deck.NoMemory
    → is_of_memory (page.Deck fault) ≡ false
deck_alone deck.NoMemory none = absurd (none refl)
deck_alone fault none = refl

pub document_fault : (fault : DocFault) (why : PageFault) → document_error fault ≡ Refused why
    → is_of_memory why ≡ false
document_fault document.NoMemory why e = absurd cc
document_fault fault why e = is_this (page.Document fault) why refl e

pub deck_fault : (fault : DeckFault) (why : PageFault) → deck_error fault ≡ Refused why
    → is_of_memory why ≡ false
deck_fault deck.NoMemory why e = absurd cc
deck_fault fault why e = is_this (page.Deck fault) why refl e

pub unit_fault : (fault : UnitFault) (why : PageFault) → unit_error fault ≡ Refused why
    → is_of_memory why ≡ false
unit_fault unit.NoMemory why e = absurd cc
unit_fault fault why e = is_this (page.Unit fault) why refl e

pub verify_fault : (fault : VerifyFault) (why : PageFault) → verify_error fault ≡ Refused why
    → is_of_memory why ≡ false
verify_fault verify.NoMemory why e = absurd cc
verify_fault fault why e = is_this (page.Verify fault) why refl e

-- ---- those of the compiler have others in them

by_lex : (fault : LexFault) → fault ≢ lex.NoMemory
    → is_of_memory (page.Source (compile.Lex fault)) ≡ false
by_lex lex.NoMemory none = absurd (none refl)
by_lex fault none = refl

by_parse : (fault : ParseFault) → fault ≢ parse.NoMemory
    → is_of_memory (page.Source (compile.Parse fault)) ≡ false
by_parse parse.NoMemory none = absurd (none refl)
by_parse fault none = refl

by_scope : (fault : ScopeFault) → fault ≢ scope.NoMemory
    → is_of_memory (page.Source (compile.Scope fault)) ≡ false
by_scope scope.NoMemory none = absurd (none refl)
by_scope fault none = refl

pub source_fault : (fault : CompileFault) (why : PageFault) → IsPlain fault
    → source_error fault ≡ Refused why → is_of_memory why ≡ false
source_fault (compile.Lex fault) why plain e =
    is_this (page.Source (compile.Lex fault)) why (by_lex fault plain) e
source_fault (compile.Parse fault) why plain e =
    is_this (page.Source (compile.Parse fault)) why (by_parse fault plain) e
source_fault (compile.Scope fault) why plain e =
    is_this (page.Source (compile.Scope fault)) why (by_scope fault plain) e
source_fault compile.NoMemory why plain e = absurd cc
source_fault fault why plain e = is_this (page.Source fault) why refl e
