use Rattle.std.proofs.Common.{sym, ap, ◌∙◌}
use Rattle.std.specs.List.{position}
use Rattle.wap_layout.specs.inside.Slices.{ends_word}
use Rattle.wap_layout.proofs.Begun.{is_some, whole_word}
use Rattle.wap_layout.proofs.first.plain_word.Goals as goal

pub returns-in-None-2 : goal.returns-in-None-2
returns-in-None-2 c =
    whole_word c.args.text.now
    (ap (position ends_word) (sym c.as_bytes-bytes.ensures.value)
    ∙ sym c.word_end.ensures.place ∙ c.in-None-2.is)
    (is_some c.args.text.now c.if-is_empty.ensures)
