use Rattle.std.proofs.Common.{◌∙◌, ap, Some, List, ℕ, Option}
use Rattle.std.specs.Str.{chars}
use Rattle.wap_base.specs.declared.name.Part.{Part}
use Rattle.wap_deck.specs.declared.good.bits.Bit.{Bit}
use Rattle.wap_deck.specs.good.Runs.{part_of}
use Rattle.wap_deck.proofs.GoodLemmas.Parted.{begun_value}
use Rattle.wap_deck.proofs.GoodLemmas.Spoken.{parts_on}
use Rattle.wap_deck.proofs.good.run.Run.begun_by.Goals as goal

pub value-requires-clause-parts : goal.value-requires-clause-parts
value-requires-clause-parts c =
    parts_on c.args.bytes.now (part_of c.args.bit) c.args.rest.now c.requires.bit c.requires.parts

pub returns-in-Slice : goal.returns-in-Slice
returns-in-Slice c =
    c.value.ensures
    ∙ begun_value c.args.bytes.now (chars c.in-Slice.text.now) c.args.rest.now
    (c.requires.bit ∙ ap (λ (bit : Bit).
    let read : Option (Part × List ℕ) = Some (part_of bit, c.args.rest.now) in read) c.in-Slice.is)
