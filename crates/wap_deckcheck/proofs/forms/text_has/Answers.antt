use Rattle.std.proofs.Common.{ap, sym, ◌∙◌, true, false}
use Rattle.wap_tokens.specs.markup.Good.{text_has}
use Rattle.wap_deckcheck.specs.Forms.{words_of, form_of}
use Rattle.wap_deckcheck.specs.inside.Rows.{has_plain_words}
use Rattle.wap_deckcheck.specs.declared.forms.LentForm.{LentForm}
use Rattle.wap_deckcheck.proofs.WordTests.{words_told, named, empty_or, empty_told}
use Rattle.wap_deckcheck.proofs.forms.text_has.Goals as goal

pub returns-in-Words : goal.returns-in-Words
returns-in-Words c =
    let plain = sym (ap has_plain_words c.in-Words.is) ∙ c.requires in
    c.is_word.ensures
    ∙ words_told c.as_str-bytes.result.now c.args.text.now (words_of c.in-Words.words.now)
    c.as_str-bytes.ensures.bytes c.as_str-bytes.ensures.characters plain ∙
    sym (ap (λ (form : LentForm). text_has (form_of form) c.args.text.now) c.in-Words.is)

pub returns-in-Variable : goal.returns-in-Variable
returns-in-Variable c =
    c.is_name.ensures
    ∙ named c.as_bytes.result.now c.as_str-bytes.result.now c.args.text.now c.as_bytes.ensures.value
    c.as_str-bytes.ensures.bytes ∙
    sym (ap (λ (form : LentForm). text_has (form_of form) c.args.text.now) c.in-Variable.is)

pub returns-then-is_name : goal.returns-then-is_name
returns-then-is_name c =
    let same = sym c.is_name-in-OptionalVariable.ensures ∙ c.if-is_name.true in
    c.if-is_name.true ∙ sym (empty_or c.args.text.now true
    (sym (named c.as_bytes-in-OptionalVariable.result.now c.as_str-bytes.result.now c.args.text.now
    c.as_bytes-in-OptionalVariable.ensures.value c.as_str-bytes.ensures.bytes) ∙ same)) ∙
    sym (ap (λ (form : LentForm). text_has (form_of form) c.args.text.now) c.in-OptionalVariable.is)

pub returns-else-is_name : goal.returns-else-is_name
returns-else-is_name c =
    let other = sym c.is_name-in-OptionalVariable.ensures ∙ c.if-is_name.false in
    empty_told c.args.text.now c.is_empty.result c.is_empty.ensures ∙
    sym (empty_or c.args.text.now false
    (sym (named c.as_bytes-in-OptionalVariable.result.now c.as_str-bytes.result.now c.args.text.now
    c.as_bytes-in-OptionalVariable.ensures.value c.as_str-bytes.ensures.bytes) ∙ other)) ∙
    sym (ap (λ (form : LentForm). text_has (form_of form) c.args.text.now) c.in-OptionalVariable.is)
