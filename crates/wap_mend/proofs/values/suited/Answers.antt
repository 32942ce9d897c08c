use Rattle.std.proofs.Common.{◌∙◌, ap, sym, List, ◌++◌, ◌∷◌, []}
use Rattle.wap_base.specs.declared.name.Part.{Part}
use Rattle.wap_tokens.specs.declared.markup.name.AttrName.{AttrName}
use Rattle.wap_mend.proofs.Suiting.{found_suits}
use Rattle.wap_mend.proofs.values.suited.Goals as goal

pub returns-clause-suits : goal.returns-clause-suits
returns-clause-suits c =
    found_suits c.wrong_value.result c.args.tag c.add.new.self c.pop.new.self c.new.result
    (c.args.name, c.args.value) c.pop.result
    (c.in_ok-add.ensures.ok
    ∙ ap (λ (some : List (AttrName × List Part)). some ++ (c.args.name, c.args.value) ∷ [])
    c.new-attrs.ensures)
    (sym c.is_some.ensures ∙ c.if-is_some.false) c.wrong_value.ensures.none c.pop.ensures
