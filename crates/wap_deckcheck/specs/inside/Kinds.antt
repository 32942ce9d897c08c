-- A fault by its kind and its path. This project's own.
use Rattle.std.specs.Prelude.{ℕ, List}
use Rattle.wap_deckcheck.specs.declared.fault.DeckFault.{DeckFault}
use Rattle.wap_deckcheck.specs.declared.fault.DeckFault.TheVariants as fault
use Rattle.wap_deckcheck.specs.declared.fault.Kind.{Kind}
use Rattle.wap_deckcheck.specs.declared.fault.Kind.TheVariants as kind

abbrev pub fault_of : Kind → List ℕ → DeckFault
fault_of kind.Child path = fault.Child path
fault_of kind.Attr path = fault.Attr path
fault_of kind.Missing path = fault.Missing path
fault_of kind.Value path = fault.Value path
fault_of kind.DuplicateId path = fault.DuplicateId path
