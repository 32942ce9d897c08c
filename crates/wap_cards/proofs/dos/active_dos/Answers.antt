use Rattle.std.proofs.Common.{List, map, ap, ◌∙◌, arith}
use Rattle.std.proofs.lemmas.List.{take_all}
use Rattle.wap_tokens.specs.declared.markup.deck.Node.{Node}
use Rattle.wap_cardrules.specs.Dos.{do_name, label_of}
use Rattle.wap_cards.proofs.dos.active_dos.Goals as goal

pub returns : goal.returns
returns c =
    c.loop-one.invariant
    ∙ ap (λ (l : List Node). map (λ one. (do_name one, label_of c.args.vars.now one)) l)
    (take_all c.loop-one.one-index c.as_slice-one-items.result.now (omega arith)
    ∙ c.as_slice-one-items.ensures ∙ c.in_ok-dos.ensures)
