use Rattle.std.proofs.Common.{◌≡◌, ◌<◌, subst}
use Rattle.std.specs.List.{AllByRecursion}
use Rattle.wap_vars.specs.Variables.{AreVars}
use Rattle.wap_libs.specs.Generator.{most_drawn}
use Rattle.wap_world.specs.World.{World}
use Rattle.wap_state.specs.page_urls.PageUrls.{IsPageEntry}
use Rattle.wap_state.specs.Saved.{parts_of, generator_at}
use Rattle.wap_state.specs.Standing.{KeepsRules}
use Rattle.wap_state.proofs.Saving.{are_parts, ok_rules, ok_whole}
use Rattle.wap_state.proofs.state.State.parts.Goals as goal

pub returns-clause-rules : goal.returns-clause-rules
returns-clause-rules c =
    ok_rules c.copied.result c.args.self.now c.copied.ensures
    (are_parts c.args.self.now
    (subst (λ (w : World). KeepsRules w.limits w.history w.timer) c.self.view_is c.self.invariant)
    (subst (λ (w : World). AllByRecursion IsPageEntry w.history) c.self.view_is
    c.keep_rules-2.ensures)
    (subst (λ (w : World). AreVars w.vars) c.self.view_is c.keep_rules.ensures))

pub returns-clause-whole : goal.returns-clause-whole
returns-clause-whole c =
    ok_whole c.copied.result c.args.self.now c.copied.ensures
    (subst (λ (w : World). AllByRecursion IsPageEntry w.history) c.self.view_is
    c.keep_rules-2.ensures)
    (subst (λ (w : World). w.generator.drawn < most_drawn
    → w.generator ≡ generator_at (parts_of w)) c.self.view_is c.place-place.ensures.named)
