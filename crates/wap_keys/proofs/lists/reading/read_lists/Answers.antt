-- Items are read to their end, and parted into lists.
use Rattle.std.proofs.Common.{List, Vec, refl, sym, subst, ◌∙◌}
use Rattle.std.specs.declared.alloc.Global.{Global}
use Rattle.wap_base.specs.declared.key.Key.{Key}
use Rattle.wap_keys.specs.declared.ending.Ending.TheVariants.{End}
use Rattle.wap_keys.specs.Read.{ReadsToBy}
use Rattle.wap_keys.specs.lists.Lists.{content_item}
use Rattle.wap_keys.proofs.ListLaws.{lists_read, gives_up}
use Rattle.wap_keys.proofs.lists.reading.read_lists.Goals as goal

abbrev lists_in : Vec (List Key) Global → List (List Key)
lists_in lists = lists.items

pub returns-in_err-items : goal.returns-in_err-items
returns-in_err-items g c =
    gives_up lists_in c.from_residual.result c.from_residual.ensures.0 c.in_err-items.ensures.left
    c.in_err-items.ensures.unread

pub returns-in_ok-parted-in-End : goal.returns-in_ok-parted-in-End
returns-in_ok-parted-in-End g c =
    let read = c.in_ok-items.ensures in
    lists_read lists_in c.in_ok-items.items.items End c.in_ok-parted-in-End.field-0
    (subst (ReadsToBy content_item (g.I.Source.seen c.args.source.now)
    (g.I.Source.seen c.read_all.new.source) c.in_ok-items.items.items) c.in-End.is read.read)
    (λ _. c.in_ok-parted-in-End.ensures) (λ other. absurd (other refl))
    (λ fault. read.failed (c.in-End.is ∙ fault))
    (λ other. read.steady (λ fault. other (sym c.in-End.is ∙ fault))) read.faults

pub returns-in_default : goal.returns-in_default
returns-in_default g c =
    let read = c.in_ok-items.ensures in
    lists_read lists_in c.in_ok-items.items.items c.in_ok-items.ending c.new.result read.read
    (λ is. absurd (c.in_default.not-End is)) (λ _. c.new.ensures.items) read.failed read.steady
    read.faults
