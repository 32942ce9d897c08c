use Rattle.std.proofs.Common.{◌≡◌, [], get_or, sym, ◌∙◌, arith}
use Rattle.std.specs.List.{list_any}
use Rattle.wap_base.specs.Texts.{is_same_text}
use Rattle.wap_lex.specs.ReservedWords.{reserved_words}
use Rattle.wap_lex.proofs.FirstTexts.{word_rows, short_reserved, other_reserved, reserved_in_row}
use Rattle.wap_lex.proofs.words.is_reserved.Goals as goal

pub returns-then-word-lt2 : goal.returns-then-word-lt2
returns-then-word-lt2 c = short_reserved c.args.word.now c.if-word-lt2.true

pub returns-then-not-is_ascii_lowercase : goal.returns-then-not-is_ascii_lowercase
returns-then-not-is_ascii_lowercase c =
    other_reserved c.args.word.now
    (sym c.is_ascii_lowercase.ensures.value ∙ c.if-not-is_ascii_lowercase.true)

pub returns : goal.returns
unfolding reserved_words
returns c =
    let word = c.args.word.now in
    let row = c.from.result in
    let found : c.is_among_row.result ≡ list_any (is_same_text word) (get_or word_rows row []) =
    c.is_among_row.ensures in
    let plain = sym c.is_ascii_lowercase.ensures.value ∙ c.if-not-is_ascii_lowercase.false in
    found ∙ reserved_in_row word row (omega arith) plain c.from.ensures
