use Rattle.std.proofs.Common.{ap, sym, ◌∙◌}
use Rattle.std.specs.List.{list_any}
use Rattle.indexmap.specs.IndexSet.{insert_key}
use Rattle.wap_base.specs.Texts.{is_same_text}
use Rattle.wap_mend.proofs.Naming.{both_taken}
use Rattle.wap_mend.proofs.names.Names.take_other.Goals as goal

pub returns-then-not-has-clause-taken : goal.returns-then-not-has-clause-taken
returns-then-not-has-clause-taken c =
    both_taken c.args.self.now c.keep.new.self c.keep-then-not-has.new.self c.args.text.now
    c.in_ok-other.other
    (sym (ap (list_any (is_same_text c.in_ok-other.other)) c.loop-number.invariant)
    ∙ sym c.has.ensures ∙ c.if-not-has.true)
    (c.in_ok-keep.ensures
    ∙ ap (λ texts. insert_key is_same_text texts c.in_ok-copy.field-0) c.loop-number.invariant
    ∙ ap (insert_key is_same_text c.args.self.now) c.in_ok-copy.ensures)
    (c.in_ok-keep-2.ensures ∙ ap (insert_key is_same_text c.keep.new.self) c.in_ok-copy-2.ensures)
