use Rattle.std.proofs.Common.{◌≡◌, ◌∙◌, ℕ, List, Ok, sym, ap, refl, append-nil}
use Rattle.wap_execution.specs.declared.fatal.Fatal.TheVariants as fatal
use Rattle.wap_execution.specs.declared.found.Found.TheVariants.{Not}
use Rattle.wap_world.specs.site.Asking.{Seen}
use Rattle.wap_world.proofs.SiteLemmas.Asking.{Stays-same}
use Rattle.wap_world.specs.Steps.{Step}
use Rattle.wap_world.specs.scripting.Hosting.{found_at, external_call}
use Rattle.wap_world.specs.scripting.UnitSites.{shelf_of, externals_of, unit_under}
use Rattle.wap_world.specs.scripting.Views.{View, added, fresh}
use Rattle.wap_context.specs.host.Stages.{Sight, view_in}
use Rattle.wap_context.specs.host.Serving.{Serves}
use Rattle.wap_context.proofs.HostLemmas.Serving.{lacks_serves, serves_as}
use Rattle.wap_context.proofs.host.sight.Sight.find.Goals as goal

-- a rule that adds nothing
nothing_serves : {A : Type 0} (rule : View → A × Step) (sight : Sight) (seen : Seen) (answer : A)
    → ((view : View) → rule view ≡ (answer, fresh view))
    → Serves rule sight sight seen seen (Ok answer)
nothing_serves {A = A} rule sight seen answer is = record {
  told = λ judged may.
      let view = view_in sight seen judged in
      record {
        answers = sym (ap (λ (g : A × Step). g.0) (is view));
        stays =
            ap (λ (l : List (List ℕ)). record view { lines = l }) (sym (append-nil sight.lines))
            ∙ ap (λ (g : A × Step). (added view g).1) (sym (is view));
      };
  steady = refl;
  failed = λ failed. absurd (cc);
  fetched = λ failed. absurd (cc);
  stays = Stays-same seen;
}

pub returns-in_err-url-clause-serves : goal.returns-in_err-url-clause-serves
returns-in_err-url-clause-serves g c =
    lacks_serves (λ view. external_call (shelf_of view.pages) (externals_of view.pages)
    (unit_under view.pages) (fresh view) c.args.caller.now c.args.reference.now
    c.args.function.now c.args.count c.args.working)
    c.args.self.now c.args.self.now (g.P.Pages.seen c.args.pages.now) c.from_residual.result
    c.from_residual.ensures.0 c.from_residual.ensures.1

pub returns-in-Ok-clause-serves : goal.returns-in-Ok-clause-serves
returns-in-Ok-clause-serves g c =
    serves_as (λ view. external_call (shelf_of view.pages) (externals_of view.pages)
    (unit_under view.pages) (fresh view) c.args.caller.now c.args.reference.now
    c.args.function.now c.args.count c.args.working)
    (λ view. found_at (shelf_of view.pages) (externals_of view.pages) (unit_under view.pages)
    c.args.caller.now c.args.function.now c.args.count c.args.working (fresh view)
    (Ok c.in-Ok.url))
    c.args.self.now c.find_at.new.self (g.P.Pages.seen c.args.pages.now)
    (g.P.Pages.seen c.find_at.new.pages) c.find_at.result
    (λ view. ap (found_at (shelf_of view.pages) (externals_of view.pages)
    (unit_under view.pages) c.args.caller.now c.args.function.now c.args.count c.args.working
    (fresh view)) (sym c.in-Ok.is ∙ c.in_ok-url.ensures))
    c.find_at.ensures.serves

pub returns-in-Err-clause-serves : goal.returns-in-Err-clause-serves
returns-in-Err-clause-serves g c =
    nothing_serves (λ view. external_call (shelf_of view.pages) (externals_of view.pages)
    (unit_under view.pages) (fresh view) c.args.caller.now c.args.reference.now
    c.args.function.now c.args.count c.args.working)
    c.args.self.now (g.P.Pages.seen c.args.pages.now) (Not fatal.NoUnit)
    (λ view. ap (found_at (shelf_of view.pages) (externals_of view.pages)
    (unit_under view.pages) c.args.caller.now c.args.function.now c.args.count c.args.working
    (fresh view)) (sym c.in_ok-url.ensures ∙ c.in-Err.is))
