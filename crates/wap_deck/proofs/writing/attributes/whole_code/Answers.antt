use Rattle.std.proofs.Common.{ap, ◌∙◌, List, ℕ}
use Rattle.std.proofs.lemmas.Str.{chars-nil}
use Rattle.wap_tokens.specs.markup.Tables.{code_of_start}
use Rattle.wap_deck.proofs.DocumentsLemmas.Values.{whole_code-none}
use Rattle.wap_deck.proofs.writing.attributes.whole_code.Goals as goal

pub returns-in-empty : goal.returns-in-empty
returns-in-empty c =
    c.code_of_start.ensures ∙ ap (λ (text : List ℕ). code_of_start (c.args.name, text)) chars-nil
    ∙ whole_code-none c.args.name c.args.parts.now c.in-empty.len_below
