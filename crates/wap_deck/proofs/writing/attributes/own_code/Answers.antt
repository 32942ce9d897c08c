use Rattle.std.proofs.Common.{ap, ◌∙◌, List, ℕ}
use Rattle.std.proofs.lemmas.Str.{chars-nil}
use Rattle.wap_tokens.specs.markup.Tables.{code_of_start}
use Rattle.wap_deck.proofs.writing.attributes.own_code.Goals as goal

pub returns : goal.returns
returns c =
    c.code_of_start.ensures ∙ ap (λ (text : List ℕ). code_of_start (c.args.name, text)) chars-nil
