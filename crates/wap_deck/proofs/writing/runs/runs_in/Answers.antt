use Rattle.std.proofs.Common.{sym, ap, ◌∙◌}
use Rattle.std.proofs.lemmas.List.{map-id}
use Rattle.std.proofs.lemmas.Iterator.{YieldsList-from_chars}
use Rattle.std.proofs.lemmas.Iterator.Consumers.{YieldsList-end}
use Rattle.wap_tokens.specs.markup.Writing.{runs_of}
use Rattle.wap_deck.specs.documents.inside.Adding.{character_after}
use Rattle.wap_deck.proofs.DocumentsLemmas.Strings.{runs_of-last}
use Rattle.wap_deck.proofs.writing.runs.runs_in.Goals as goal

pub loop-character-preserved : goal.loop-character-preserved
loop-character-preserved c =
    c.in_ok-add_character.ensures
    ∙ ap (λ runs. character_after runs c.in-Some.character) c.loop-character.invariant
    ∙ sym (runs_of-last c.loop-character.yielded c.in-Some.character)

pub returns : goal.returns
returns c =
    let t =
    YieldsList-end (YieldsList-from_chars c.args.text.now c.utf8.text cc)
    c.loop-character.yielded _ c.loop-character.yielded_by _ _ c.in-None.is c.next.ensures.steps in
    c.loop-character.invariant ∙ ap runs_of (sym (map-id c.loop-character.yielded) ∙ t.0)
