use Rattle.std.proofs.Common.{◌≡◌, ℕ, List, ◌∷◌, length, Err, sym, ap, subst, ◌∙◌, arith}
use Rattle.std.proofs.lemmas.Result.{err_from_is_err_and}
use Rattle.wap_base.specs.declared.fault.RunErr.TheVariants.{Store}
use Rattle.wap_url.specs.declared.url.Url.{Url}
use Rattle.wap_execution.specs.declared.found.Found.{Found}
use Rattle.wap_execution.specs.Frames.{Function, Frame}
use Rattle.wap_execution.specs.Effects.{external}
use Rattle.wap_machine.specs.declared.script.Script.{Script}
use Rattle.wap_machine.specs.declared.machine.Step.{Step}
use Rattle.wap_machine.specs.Hosts.{Gives, Fetches, IsCallable}
use Rattle.wap_execution.specs.laws.Settings.{uncounted}
use Rattle.wap_machine.specs.inside.MachineSteps.{rest, calls_from, GoesFound}
use Rattle.wap_machine.proofs.CallLaws.{external_told, external_fetches, found_order}
use Rattle.wap_machine.proofs.HostLaws.{host_keeps, other_fault, told_grows}
use Rattle.wap_machine.proofs.asking.call_external.Goals as goal

pub returns-clause-told : goal.returns-clause-told
returns-clause-told g c = λ under may.
    let set = uncounted c.args.waiting.limits g.H.Host.meaning in
    let frame : Frame = c.frame.result.now in
    let outer = c.frame.ensures.outer in
    let are = c.frame.ensures.are in
    let items = c.args.arguments.items in
    let turns = g.H.Host.turns c.args.host.now in
    let old = g.H.Host.state c.args.host.now c.args.pages.now under in
    let new = g.H.Host.state c.external.new.self c.external.new.pages under in
    let base : c.deref.result.now.base ≡ frame.function.base =
    ap (λ (s : Script). s.base) c.deref.ensures ∙ ap (λ (f : Function). f.base) c.script.ensures in
    let count : c.len-count.result ≡ length items = omega arith in
    let depth : c.depth-depth.result ≡ length (frame ∷ outer) =
    c.depth-depth.ensures.depth ∙ ap (λ (l : List Frame). length l) are in
    let told =
    subst
    (λ (d : ℕ). Gives (g.H.Host.meaning.external old frame.function.base c.args.url c.args.name
    (length items) d) c.in_ok-found.found new) depth
    (subst
    (λ (n : ℕ). Gives (g.H.Host.meaning.external old frame.function.base c.args.url c.args.name n
    c.depth-depth.result) c.in_ok-found.found new) count
    (subst (λ (b : Url). Gives (g.H.Host.meaning.external old b c.args.url c.args.name
    c.len-count.result c.depth-depth.result) c.in_ok-found.found new) base
    (c.in_ok-found.ensures.told under may))) in
    let callable =
    subst (λ (d : ℕ). IsCallable (length items) d c.in_ok-found.found) depth (subst (λ (n : ℕ).
    IsCallable n c.depth-depth.result c.in_ok-found.found) count c.in_ok-found.ensures.callable) in
    let goes =
    subst (λ (l : List Frame). GoesFound c.args.waiting.limits l frame.function.base
    c.in_ok-found.found items c.in_ok-enter_found.field-0) are
    (c.in_ok-enter_found.ensures.goes frame outer are) in
    let same =
    external_told set frame outer items turns old new c.args.url c.args.name
    c.in_ok-found.found c.in_ok-enter_found.field-0 told callable goes in
    subst (λ (l : List Frame). calls_from set l (external c.args.url c.args.name) items turns old
    ≡ rest set c.in_ok-enter_found.field-0 (g.H.Host.turns c.external.new.self) new) (sym are)
    (subst (λ (n : ℕ). calls_from set (frame ∷ outer) (external c.args.url c.args.name) items turns
    old ≡ rest set c.in_ok-enter_found.field-0 n new) (sym c.in_ok-found.ensures.turns) same)

pub returns-clause-order : goal.returns-clause-order
returns-clause-order g c =
    found_order c.args.waiting.limits c.args.waiting.frames c.frame.result.now.function.base
    c.in_ok-found.found
    c.args.arguments.items c.in_ok-enter_found.field-0 c.len-count.result c.depth-depth.result
    c.in_ok-found.ensures.callable (c.in_ok-enter_found.ensures.goes c.frame.result.now
    c.frame.ensures.outer c.frame.ensures.are) c.in_ok-enter_found.ensures.light

pub returns-in_err-found-clause-fetched : goal.returns-in_err-found-clause-fetched
returns-in_err-found-clause-fetched g c = λ is under may.
    let left = err_from_is_err_and c.from_residual.result c.from_residual.ensures.1 in
    let set = uncounted c.args.waiting.limits g.H.Host.meaning in
    let frame : Frame = c.frame.result.now in
    let outer = c.frame.ensures.outer in
    let are = c.frame.ensures.are in
    let items = c.args.arguments.items in
    let turns = g.H.Host.turns c.args.host.now in
    let old = g.H.Host.state c.args.host.now c.args.pages.now under in
    let number = g.H.Host.fetches c.external.new.pages in
    let base : c.deref.result.now.base ≡ frame.function.base =
    ap (λ (s : Script). s.base) c.deref.ensures ∙ ap (λ (f : Function). f.base) c.script.ensures in
    let count : c.len-count.result ≡ length items = omega arith in
    let depth : c.depth-depth.result ≡ length (frame ∷ outer) =
    c.depth-depth.ensures.depth ∙ ap (λ (l : List Frame). length l) are in
    let fetched =
    subst (λ (d : ℕ). Fetches (g.H.Host.fetched old) number (g.H.Host.fetched
    (g.H.Host.meaning.external old frame.function.base c.args.url c.args.name (length items) d).1))
    depth
    (subst (λ (n : ℕ). Fetches (g.H.Host.fetched old) number (g.H.Host.fetched
    (g.H.Host.meaning.external old frame.function.base c.args.url c.args.name n
    c.depth-depth.result).1)) count
    (subst (λ (b : Url). Fetches (g.H.Host.fetched old) number (g.H.Host.fetched
    (g.H.Host.meaning.external old b c.args.url c.args.name c.len-count.result
    c.depth-depth.result).1)) base
    (c.in_err-found.ensures.fetched (other_fault Step (Found _) c.in_err-found.field-0.0 Store
    (sym (left.1 ∙ ap Err left.2) ∙ is)) under may))) in
    let keeps =
    host_keeps c.args.waiting.limits g.H.Host.meaning g.H.Host.fetched g.met.H.Host.external_grows
    g.met.H.Host.library_grows in
    subst (λ (l : List Frame). Fetches (g.H.Host.fetched old) number (g.H.Host.fetched
    (calls_from set l (external c.args.url c.args.name) items turns old).state)) (sym are)
    (external_fetches set g.H.Host.fetched keeps frame outer items turns number old c.args.url
    c.args.name fetched)

pub returns-clause-grown : goal.returns-clause-grown
returns-clause-grown g c = λ under may.
    let old = g.H.Host.state c.args.host.now c.args.pages.now under in
    told_grows g.H.Host.fetched (λ before.
    g.H.Host.meaning.external before c.deref.result.now.base c.args.url c.args.name
    c.len-count.result c.depth-depth.result) old
    (g.H.Host.state c.external.new.self c.external.new.pages under) c.in_ok-found.found
    (c.in_ok-found.ensures.told under may)
    (g.met.H.Host.external_grows old c.deref.result.now.base c.args.url c.args.name
    c.len-count.result c.depth-depth.result)
