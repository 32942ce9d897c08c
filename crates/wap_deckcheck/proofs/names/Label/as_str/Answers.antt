use Rattle.std.proofs.Common.{ap, sym, ◌∙◌, List, ℕ, [], Option}
use Rattle.std.specs.Borrow.{Bor}
use Rattle.std.specs.Option.{option_copied, unwrap_or}
use Rattle.std.proofs.lemmas.Str.{chars-nil}
use Rattle.wap_deckcheck.proofs.names.Label.as_str.Goals as goal

pub returns-in-None-clause-characters : goal.returns-in-None-clause-characters
returns-in-None-clause-characters c =
    let seen : Option (Bor (List ℕ)) → List ℕ = λ text. unwrap_or (option_copied text) [] in
    chars-nil ∙ ap seen (sym c.in-None.is) ∙ c.self.view_is
