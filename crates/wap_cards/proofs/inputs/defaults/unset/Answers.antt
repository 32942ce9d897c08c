use Rattle.std.proofs.Common.{Err, sym, ap, ◌∙◌}
use Rattle.wap_base.specs.declared.name.NameFault.{NameFault}
use Rattle.wap_cards.proofs.Names.{kept}
use Rattle.wap_cards.proofs.inputs.defaults.unset.Goals as goal

pub returns-in-Err-BadName-clause-removed : goal.returns-in-Err-BadName-clause-removed
returns-in-Err-BadName-clause-removed c =
    sym (kept c.args.name.now (c.of.ensures.bad.0 (c.in-Err-BadName.is ∙ ap (λ (fault : NameFault).
    Err fault) c.in-Err-BadName.field-0-is)) c.args.vars.now c.keep_rules.ensures)
