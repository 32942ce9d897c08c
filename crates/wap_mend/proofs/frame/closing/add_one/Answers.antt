-- What may stand there is added.
use Rattle.wap_tokens.specs.markup.Good.{may_follow, tags_of}
use Rattle.wap_mend.proofs.Framing.{element_added}
use Rattle.wap_mend.proofs.frame.closing.add_one.Goals as goal

pub returns-then-takes : goal.returns-then-takes
returns-then-takes c =
    let old = c.args.content.now in
    let element = c.args.element in
    element_added c.args.notes.now.changes old c.add.new.self element c.takes.result
    c.in_ok-add.field-0 (may_follow old.rule (tags_of old.items) element.node.tag)
    c.if-takes.true c.takes.ensures c.in_ok-add.ensures.taken c.in_ok-add.ensures.added
