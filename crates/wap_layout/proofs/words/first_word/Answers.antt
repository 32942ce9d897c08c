use Rattle.std.proofs.Common.{◌≡◌, length, sym, ap, ◌∙◌}
use Rattle.std.specs.Prelude.{None}
use Rattle.std.specs.List.{position}
use Rattle.std.proofs.lemmas.Str.{chars-IsAscii}
use Rattle.wap_layout.specs.inside.Slices.{ends_word}
use Rattle.wap_layout.proofs.Plain.{plain_whole, ascii_whole}
use Rattle.wap_layout.proofs.Begun.{whole_cut}
use Rattle.wap_layout.proofs.words.first_word.Goals as goal

pub returns-in-None-clause-cut : goal.returns-in-None-clause-cut
returns-in-None-clause-cut c =
    let none : position ends_word c.args.text.now ≡ None =
    ap (position ends_word) (sym c.as_bytes-bytes.ensures.value)
    ∙ sym c.word_end.ensures.place ∙ c.in-None.is in
    whole_cut c.args.text.now (plain_whole c.args.text.now none) c.requires

pub returns-in-None-clause-columns : goal.returns-in-None-clause-columns
returns-in-None-clause-columns c =
    let none : position ends_word c.args.text.now ≡ None =
    ap (position ends_word) (sym c.as_bytes-bytes.ensures.value)
    ∙ sym c.word_end.ensures.place ∙ c.in-None.is in
    sym (ap length (chars-IsAscii c.args.text.now (ascii_whole c.args.text.now none)))
