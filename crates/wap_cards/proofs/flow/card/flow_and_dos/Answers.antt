use Rattle.std.proofs.Common.{List, ◌++◌, ap, ◌∙◌}
use Rattle.std.specs.List.{fold}
use Rattle.wap_tokens.specs.declared.markup.document.TheConstants.{LEVEL_LIMIT}
use Rattle.wap_tokens.specs.declared.markup.deck.Node.{Node}
use Rattle.wap_cardrules.specs.Content.{Mark, content_of, kids_marks, marks_in}
use Rattle.wap_cardrules.specs.Flow.{Shown, flow_of, shown_with}
use Rattle.wap_cards.specs.declared.flow.walk.Walk.{Walk}
use Rattle.wap_cards.proofs.FlowLemmas.Walks.{shown_walked, dos_walked, dos_among}
use Rattle.wap_cards.proofs.flow.card.flow_and_dos.Goals as goal

pub returns-clause-flow : goal.returns-clause-flow
unfolding flow_of content_of
returns-clause-flow c =
    let vars = c.args.vars.now in
    let start : Walk = record { shown = c.new.result; dos = c.new-2.result } in
    let marks : List Mark = kids_marks (marks_in LEVEL_LIMIT) c.args.card.now in
    c.into_flow.ensures
    ∙ ap (λ (walk : Walk). walk.shown.flow) c.in_ok-take_kids.ensures
    ∙ ap (λ (shown : Shown). shown.flow) (shown_walked vars start marks)
    ∙ ap (λ (shown : Shown). (fold (shown_with vars) shown marks).flow) c.new.ensures

pub returns-clause-dos : goal.returns-clause-dos
unfolding content_of
returns-clause-dos c =
    let start : Walk = record { shown = c.new.result; dos = c.new-2.result } in
    let marks : List Mark = kids_marks (marks_in LEVEL_LIMIT) c.args.card.now in
    ap (λ (walk : Walk). walk.dos) c.in_ok-take_kids.ensures
    ∙ dos_walked c.args.vars.now start marks
    ∙ ap (λ (dos : List Node). dos ++ dos_among marks) c.new-2.ensures
