use Rattle.std.proofs.Common.{ℕ, List, sym, subst, codes}
use Rattle.wap_deckcheck.specs.declared.fault.DeckFault.{DeckFault}
use Rattle.wap_devices.specs.Sinks.{Puts}
use Rattle.wap_pages.specs.Printing.{at_path, deck_text}
use Rattle.wap_pages.proofs.deck_faults.print_deck_fault.Goals as goal

pub returns-in-DuplicateId : goal.returns-in-DuplicateId
returns-in-DuplicateId g c =
    let before = g.O.Sink.seen c.args.out.now in
    let after = g.O.Sink.seen c.print_at-in-DuplicateId.new.out in
    let result = c.print_at-in-DuplicateId.result in
    subst (λ (fault : DeckFault). Puts (deck_text fault) before after result)
    (sym c.in-DuplicateId.is)
    (subst (λ (path : List ℕ). Puts (at_path (codes "DuplicateId") path) before after result)
    c.as_slice-in-DuplicateId.ensures c.print_at-in-DuplicateId.ensures)
