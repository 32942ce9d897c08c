use Rattle.std.proofs.Common.{sym, ap, ◌∙◌}
use Rattle.std.specs.List.{position}
use Rattle.wap_layout.specs.inside.Slices.{ends_word}
use Rattle.wap_layout.proofs.Plain.{ascii_whole}
use Rattle.wap_layout.proofs.words.is_plain.Goals as goal

pub returns-in-None : goal.returns-in-None
returns-in-None c =
    ascii_whole c.args.text.now
    (ap (position ends_word) (sym c.as_bytes.ensures.value)
    ∙ sym c.word_end.ensures.place ∙ c.in-None.is)
