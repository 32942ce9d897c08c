use Rattle.std.proofs.Common.{◌∙◌, List, [], ◌∷◌, ◌++◌, None, sym, ap}
use Rattle.std.specs.List.{last_or}
use Rattle.std.specs.Option.{option_to_list}
use Rattle.wap_world.specs.declared.history.Entry.{Entry}
use Rattle.wap_world.proofs.Entries.{last_pushed}
use Rattle.wap_state.proofs.history.History.keep_last.Goals as goal

pub returns-in-Some : goal.returns-in-Some
returns-in-Some c =
    let last : Entry = c.in-Some.last in
    let alone = ap (λ (h : List Entry). h ++ last ∷ []) c.clear.ensures.items in
    let same =
    ap (last_or None) c.in-Some.ensures.items ∙ last_pushed None c.pop.new.self.items last in
    c.add.ensures ∙ alone ∙ ap option_to_list (sym same)
    ∙ ap (λ (h : List Entry). option_to_list (last_or None h)) c.self.view_is
