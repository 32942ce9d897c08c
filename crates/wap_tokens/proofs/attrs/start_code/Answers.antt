use Rattle.std.proofs.Common.{◌≡◌, ℕ, List, [], Option, unwrap_or, sym, ap, ◌∙◌}
use Rattle.std.specs.Str.{chars}
use Rattle.std.proofs.lemmas.Str.{chars-nil}
use Rattle.wap_tokens.specs.declared.markup.name.AttrName.{AttrName}
use Rattle.wap_tokens.specs.markup.Tables.{start_rows, code_of_start, first_code, start_code}
use Rattle.wap_tokens.proofs.attrs.start_code.Goals as goal

-- the code of the start without a text, by what the program finds
found_bare : (attr : AttrName) (found : Option ℕ) → found ≡ code_of_start (attr, chars [])
    → unwrap_or found (unwrap_or (first_code attr) 0) ≡ start_code attr
found_bare attr found is =
    ap (λ (found : Option ℕ). unwrap_or found (unwrap_or (first_code attr) 0))
    (is ∙ ap (λ (text : List ℕ). code_of_start (attr, text)) chars-nil)

pub returns-in-Some : goal.returns-in-Some
returns-in-Some c = found_bare c.args.attr _ (sym c.in-Some.is ∙ c.code_of_start.ensures)

-- there is none, and the first is looked for
pub returns-in-None : goal.returns-in-None
unfolding first_code start_rows
returns-in-None c =
    c.unwrap_or.ensures
    ∙ ap (λ (found : Option ℕ). unwrap_or found 0) c.first_beside.ensures
    ∙ found_bare c.args.attr _ (sym c.in-None.is ∙ c.code_of_start.ensures)
