use Rattle.std.proofs.Common.{◌≡◌, not, List, [], filter, Option, sym, ap, subst, ◌∙◌}
use Rattle.std.specs.Result.{IfOk}
use Rattle.std.specs.List.{list_any}
use Rattle.std.specs.Option.{option_map_or}
use Rattle.wap_base.specs.Texts.{is_same_text}
use Rattle.wap_tokens.specs.declared.markup.deck.Node.{Node}
use Rattle.wap_cardrules.specs.Dos.{dos_in, do_name, has_do}
use Rattle.wap_cards.proofs.Firsts.{filter_same}
use Rattle.wap_cards.proofs.dos.template_dos.Goals as goal

pub returns-in_ok-dos-in-Some : goal.returns-in_ok-dos-in-Some
returns-in_ok-dos-in-Some c =
    let one = λ (node : Node).
    not (list_any (is_same_text (do_name node)) c.in_ok-names-in-Some.names) in
    let other = λ (node : Node). not (has_do (do_name node) c.args.own.now) in
    subst (λ (l : List Node). IfOk c.others.result (λ others. others ≡ l))
    (filter_same one other (λ node. ap not (c.in_ok-names-in-Some.ensures (do_name node)))
    c.as_slice.result.now
    ∙ ap (filter other) (c.as_slice.ensures ∙ c.in_ok-dos-in-Some.ensures
    ∙ ap (λ (template : Option Node). option_map_or dos_in template [])
    (sym c.in-Some.is ∙ c.template_of.ensures)))
    c.others.ensures
