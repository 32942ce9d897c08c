use Rattle.std.proofs.Common.{◌≡◌, ◌∙◌, sym, arith}
use Rattle.std.specs.Option.{option_map}
use Rattle.wap_tokens.specs.markup.Tables.{value_rows, attr_value}
use Rattle.wap_tokens.proofs.ValueTable.{attr_value-at, attr_value-free}
use Rattle.wap_tokens.proofs.ValueTable.{attr_value-other_page, chars-value}
use Rattle.wap_tokens.proofs.values.attr_value.Goals as goal

pub returns-then-page-ne0-clause-value : goal.returns-then-page-ne0-clause-value
returns-then-page-ne0-clause-value c =
    sym (attr_value-other_page c.args.page c.args.code c.if-page-ne0.true)

pub returns-in-Some-clause-value : goal.returns-in-Some-clause-value
unfolding value_rows
returns-in-Some-clause-value c =
    c.text_at.ensures ∙ sym (attr_value-at c.args.page c.args.code c.in-Some.place
    c.if-page-ne0.false (omega arith) (sym c.value_place.ensures ∙ c.in-Some.is))

pub returns-in-Some-clause-characters : goal.returns-in-Some-clause-characters
unfolding value_rows
returns-in-Some-clause-characters c =
    let found : option_map (λ text. text.now) c.text_at.result
    ≡ attr_value c.args.page c.args.code =
    c.text_at.ensures ∙ sym (attr_value-at c.args.page c.args.code c.in-Some.place
    c.if-page-ne0.false (omega arith) (sym c.value_place.ensures ∙ c.in-Some.is)) in
    chars-value c.args.page c.args.code c.text_at.result found

pub returns-in-None-clause-value : goal.returns-in-None-clause-value
returns-in-None-clause-value c =
    sym (attr_value-free c.args.page c.args.code c.if-page-ne0.false (omega arith)
    (sym c.value_place.ensures ∙ c.in-None.is))
