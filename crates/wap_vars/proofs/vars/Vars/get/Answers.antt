use Rattle.std.proofs.Common.{◌≤◌, ◌∙◌, ap, sym, subst, List, ℕ, Option}
use Rattle.std.specs.Option.{IfSome}
use Rattle.wap_base.specs.Utf8.{utf8_len}
use Rattle.wap_vars.specs.declared.limits.TheConstants.{TEXT_LIMIT}
use Rattle.wap_vars.specs.Variables.{text_of}
use Rattle.wap_vars.proofs.TextLaws.{lookup_by_order, found_text, if_copied}
use Rattle.wap_vars.proofs.vars.Vars.get.Goals as goal

pub returns-clause-value : goal.returns-clause-value
returns-clause-value c =
    c.get.ensures.value ∙ lookup_by_order c.text.result.now c.self.inside.texts.entries
    ∙ ap (λ (name : List ℕ). text_of c.self.inside.texts.entries name) c.text.ensures.same
    ∙ ap (λ (vars : List (List ℕ × List ℕ)). text_of vars c.args.name.now) c.self.view_is

pub returns-clause-short : goal.returns-clause-short
returns-clause-short c =
    let P : List ℕ → Type 0 = λ text. utf8_len text ≤ TEXT_LIMIT in
    let Q : Option (List ℕ) → Type 0 = λ found. IfSome found P in
    if_copied P c.get.result (subst Q (sym c.get.ensures.value)
    (found_text P _ c.self.inside.texts.entries c.self.invariant.short))
