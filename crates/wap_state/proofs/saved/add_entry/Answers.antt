use Rattle.wap_state.proofs.Saving.{entry_added}
use Rattle.wap_state.proofs.saved.add_entry.Goals as goal

pub returns : goal.returns
returns c =
    entry_added c.push.result c.args.history.now c.push.new.self c.args.limit c.args.card
    c.args.text.now c.in_ok-url.url c.of.result c.push.ensures.pushed c.of.ensures
    c.in_ok-url.ensures.read c.in_ok-url.ensures.whole c.requires.room
