use Rattle.std.proofs.Common.{sym, ap, ◌∙◌, [], ◌∷◌, append_assoc}
use Rattle.std.proofs.lemmas.List.{map-id, append-nil}
use Rattle.std.proofs.lemmas.Iterator.{YieldsList-from_chars}
use Rattle.std.proofs.lemmas.Iterator.Consumers.{YieldsList-end}
use Rattle.wap_grammar.specs.Unescaping.{unescaped}
use Rattle.wap_parse.proofs.expressions.strings.unescape.Goals as goal

pub returns : goal.returns
returns c =
    let all = YieldsList-end (YieldsList-from_chars c.args.inside.now c.utf8.inside cc)
    c.loop-character.yielded _ c.loop-character.yielded_by _ _ c.in-None.is
    c.next.ensures.steps in
    c.in_ok-add_end.ensures
    ∙ c.loop-character.invariant []
    ∙ ap unescaped
    (append-nil c.loop-character.yielded ∙ sym (map-id c.loop-character.yielded) ∙ all.0)

pub loop-character-preserved : goal.loop-character-preserved
loop-character-preserved c = λ rest.
    sym (c.in_ok-place.ensures rest)
    ∙ c.loop-character.invariant (c.in-Some.character ∷ rest)
    ∙ ap unescaped (sym (append_assoc c.loop-character.yielded (c.in-Some.character ∷ []) rest))
