use Rattle.std.proofs.Common.{◌≡◌, ◌∙◌, sym, arith}
use Rattle.std.specs.Option.{option_map}
use Rattle.wap_tokens.specs.markup.Tables.{start_rows, attr_start}
use Rattle.wap_tokens.specs.Rows.{lent_start}
use Rattle.wap_tokens.proofs.AttributeTable.{attr_start-at, attr_start-free}
use Rattle.wap_tokens.proofs.AttributeTable.{attr_start-other_page, chars-start}
use Rattle.wap_tokens.proofs.attrs.attr_start.Goals as goal

pub returns-then-page-ne0-clause-start : goal.returns-then-page-ne0-clause-start
returns-then-page-ne0-clause-start c =
    sym (attr_start-other_page c.args.page c.args.code c.if-page-ne0.true)

pub returns-in-Some-clause-start : goal.returns-in-Some-clause-start
unfolding start_rows
returns-in-Some-clause-start c =
    c.start_at.ensures ∙ sym (attr_start-at c.args.page c.args.code c.in-Some.place
    c.if-page-ne0.false (omega arith) (sym c.start_place.ensures ∙ c.in-Some.is))

pub returns-in-Some-clause-characters : goal.returns-in-Some-clause-characters
unfolding start_rows
returns-in-Some-clause-characters c =
    let found : option_map lent_start c.start_at.result ≡ attr_start c.args.page c.args.code =
    c.start_at.ensures ∙ sym (attr_start-at c.args.page c.args.code c.in-Some.place
    c.if-page-ne0.false (omega arith) (sym c.start_place.ensures ∙ c.in-Some.is)) in
    chars-start c.args.page c.args.code c.start_at.result found

pub returns-in-None-clause-start : goal.returns-in-None-clause-start
returns-in-None-clause-start c =
    sym (attr_start-free c.args.page c.args.code c.if-page-ne0.false (omega arith)
    (sym c.start_place.ensures ∙ c.in-None.is))
