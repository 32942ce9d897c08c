use Rattle.std.proofs.Common.{◌∙◌, sym, arith}
use Rattle.wap_tokens.specs.markup.Tables.{tag_rows}
use Rattle.wap_tokens.proofs.TagTable.{tag_of-at, tag_of-free, tag_of-other_page}
use Rattle.wap_tokens.proofs.tags.tag_of.Goals as goal

pub returns-then-page-ne0 : goal.returns-then-page-ne0
returns-then-page-ne0 c = sym (tag_of-other_page c.args.page c.args.code c.if-page-ne0.true)

pub returns-in-Some : goal.returns-in-Some
unfolding tag_rows
returns-in-Some c =
    c.tag_at.ensures ∙ sym (tag_of-at c.args.page c.args.code c.in-Some.place c.if-page-ne0.false
    (omega arith) (sym c.tag_place.ensures ∙ c.in-Some.is))

pub returns-in-None : goal.returns-in-None
returns-in-None c =
    sym (tag_of-free c.args.page c.args.code c.if-page-ne0.false (omega arith)
    (sym c.tag_place.ensures ∙ c.in-None.is))
