use Rattle.wap_cli.specs.replay.Texts.{header}
use Rattle.wap_cli.proofs.ReplayLemmas.Transcripts.{bytes_are}
use Rattle.wap_cli.proofs.replay.playing.text_of.Goals as goal

pub returns : goal.returns
returns c =
    let list = c.args.list.now in
    bytes_are c.new-text.result.items c.add_header.new.text.items c.add_lines.new.text.items
    c.add_lines-2.new.text.items (header c.args.number list.is_open) list.opened list.played
    c.new-text.ensures.items c.in_ok-add_header.ensures c.in_ok-add_lines.ensures.ok
    c.in_ok-add_lines-2.ensures.ok
