use Rattle.std.proofs.Common.{ap, sym, ◌∙◌}
use Rattle.indexmap.specs.IndexSet.{insert_key}
use Rattle.wap_base.specs.Texts.{is_same_text}
use Rattle.wap_mend.proofs.Naming.{one_taken}
use Rattle.wap_mend.proofs.names.Names.take.Goals as goal

pub returns-clause-taken : goal.returns-clause-taken
returns-clause-taken c free =
    one_taken c.args.self.now c.keep.new.self c.args.text.now (sym c.has.ensures ∙ c.if-has.false)
    (c.in_ok-keep.ensures ∙ ap (insert_key is_same_text c.args.self.now) c.in_ok-copy.ensures)
