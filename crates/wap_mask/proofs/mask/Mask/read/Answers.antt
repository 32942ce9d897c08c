use Rattle.std.proofs.Common.{sym, ap, ◌∙◌}
use Rattle.std.specs.Str.{chars}
use Rattle.wap_mask.specs.Calculation.{symbols_of}
use Rattle.wap_mask.proofs.SymbolLaws.{RepeatsLast-read, read-well_formed}
use Rattle.wap_mask.proofs.SymbolLaws.{read-ill_formed, unread-well_formed}
use Rattle.wap_mask.proofs.mask.Mask.read.Goals as goal

pub invariant_of-result : goal.invariant_of-result
invariant_of-result c =
    RepeatsLast-read (chars c.as_str.result.now) c.in-Some.symbols
    (sym c.in_ok-symbols.ensures ∙ c.in-Some.is)

pub returns-in-Some-clause-well_formed : goal.returns-in-Some-clause-well_formed
returns-in-Some-clause-well_formed c symbols mask =
    read-well_formed c.args.text.now c.in-Some.symbols symbols
    (ap symbols_of (sym c.as_str.ensures.characters)
    ∙ sym c.in_ok-symbols.ensures ∙ c.in-Some.is) mask

pub returns-in-Some-clause-ill_formed : goal.returns-in-Some-clause-ill_formed
returns-in-Some-clause-ill_formed c ill =
    read-ill_formed c.args.text.now c.in-Some.symbols
    (ap symbols_of (sym c.as_str.ensures.characters)
    ∙ sym c.in_ok-symbols.ensures ∙ c.in-Some.is) ill

pub returns-in_ok-add-in-None-clause-well_formed : goal.returns-in_ok-add-in-None-clause-well_formed
returns-in_ok-add-in-None-clause-well_formed c symbols mask =
    unread-well_formed c.args.text.now c.add.new.self symbols
    (ap symbols_of (sym c.as_str.ensures.characters)
    ∙ sym c.in_ok-symbols.ensures ∙ c.in-None.is) mask
