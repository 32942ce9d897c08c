use Rattle.std.proofs.Common.{◌∙◌, ap, sym, List, ℕ, arith}
use Rattle.wap_vars.specs.Variables.{text_of, removed}
use Rattle.wap_vars.proofs.TextLaws.{lookup_by_order, removed_by_order, other_place}
use Rattle.wap_vars.proofs.SetLaws.{vars_removed}
use Rattle.wap_vars.proofs.vars.Vars.remove.Goals as goal

pub invariant_of-self : goal.invariant_of-self
invariant_of-self c =
    vars_removed c.self.inside.texts.entries _ _ c.self.invariant c.remove.ensures.entries
    c.remove.ensures.ordered (omega (arith, c.remove.ensures.len))

pub returns-clause-removed : goal.returns-clause-removed
returns-clause-removed c =
    c.remove.ensures.entries
    ∙ removed_by_order c.text.result.now c.self.inside.texts.entries
    ∙ ap (λ (name : List ℕ). removed c.self.inside.texts.entries name) c.text.ensures.same
    ∙ ap (λ (vars : List (List ℕ × List ℕ)). removed vars c.args.name.now) c.self.view_is

pub returns-clause-here : goal.returns-clause-here
returns-clause-here c =
    ap (λ (name : List ℕ). text_of c.remove.new.self.entries name) (sym c.text.ensures.same)
    ∙ sym (lookup_by_order c.text.result.now c.remove.new.self.entries)
    ∙ c.remove.ensures.updates.1

pub returns-clause-elsewhere : goal.returns-clause-elsewhere
returns-clause-elsewhere c = λ other apart.
    sym (lookup_by_order other c.remove.new.self.entries)
    ∙ c.remove.ensures.updates.2 other
    (other_place c.text.result.now other (λ same. apart (same ∙ c.text.ensures.same)))
    ∙ lookup_by_order other c.self.inside.texts.entries
    ∙ ap (λ (vars : List (List ℕ × List ℕ)). text_of vars other) c.self.view_is
