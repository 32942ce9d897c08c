use Rattle.std.proofs.Common.{◌∙◌}
use Rattle.wap_deck.proofs.DocumentsLemmas.Strings.{string_after-any}
use Rattle.wap_deck.proofs.writing.runs.last_string.Goals as goal

pub returns-in_ok-string_from-in-Some : goal.returns-in_ok-string_from-in-Some
returns-in_ok-string_from-in-Some c = λ character.
    string_after-any c.args.runs.now c.pop.new.self c.in-Some.last character c.in-Some.ensures
    ∙ c.in_ok-string_from-in-Some.ensures character
