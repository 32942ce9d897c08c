use Rattle.std.proofs.Common.{◌≡◌, List, is_some, filter, Option, None, sym, ap, subst, ◌∙◌}
use Rattle.std.specs.Prelude.{find}
use Rattle.std.specs.Result.{IfOk}
use Rattle.wap_base.specs.Texts.{is_same_text}
use Rattle.wap_tokens.specs.declared.markup.deck.Node.{Node}
use Rattle.wap_tokens.specs.markup.Tasks.{task_of}
use Rattle.wap_cardrules.specs.Dos.{dos_in, do_name, others_beside}
use Rattle.wap_cards.proofs.Firsts.{found_later}
use Rattle.wap_cards.proofs.dos.find_do.Goals as goal

pub returns : goal.returns
returns c =
    let same = λ (one : Node). is_same_text c.args.name.now (do_name one) in
    let active = λ (one : Node). is_some (task_of one) in
    let own = dos_in c.args.card.now in
    let others = others_beside c.args.deck.now own in
    let none : None ≡ find same (filter active own) =
    sym c.in_default.is ∙ c.in_ok-found.ensures
    ∙ ap (λ (l : List Node). find same (filter active l))
    (c.as_slice.ensures ∙ c.in_ok-own.ensures) in
    subst (λ (o : Option Node). IfOk c.find_active-2.result (λ found. found ≡ o))
    (ap (λ (l : List Node). find same (filter active l))
    (c.as_slice-3.ensures ∙ c.in_ok-others.ensures
    ∙ ap (others_beside c.args.deck.now) (c.as_slice-2.ensures ∙ c.in_ok-own.ensures))
    ∙ found_later same active own others none)
    c.find_active-2.ensures
