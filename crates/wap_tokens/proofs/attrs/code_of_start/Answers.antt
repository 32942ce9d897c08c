use Rattle.std.proofs.Common.{◌∙◌, sym, refl}
use Rattle.std.specs.Str.{chars}
use Rattle.std.proofs.lemmas.Str.{encodes-chars}
use Rattle.wap_tokens.specs.markup.Tables.{start_rows}
use Rattle.wap_tokens.proofs.AttributeTable.{code_of_start-bytes}
use Rattle.wap_tokens.proofs.attrs.code_of_start.Goals as goal

pub returns : goal.returns
unfolding start_rows
returns c =
    c.code_beside.ensures ∙ code_of_start-bytes c.args.attr c.args.text.now (chars c.args.text.now)
    (sym (encodes-chars c.args.text.now c.utf8.text)) refl
