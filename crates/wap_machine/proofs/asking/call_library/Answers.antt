use Rattle.std.proofs.Common.{◌≡◌, ℕ, List, ◌∷◌, Option, Err, sym, ap, subst, ◌∙◌}
use Rattle.std.proofs.lemmas.Result.{err_from_is_err_and}
use Rattle.std.specs.Option.{option_copied}
use Rattle.wap_url.specs.declared.url.Url.{Url}
use Rattle.wap_execution.specs.declared.library.HostOut.{HostOut}
use Rattle.wap_execution.specs.Frames.{Function, Frame}
use Rattle.wap_execution.specs.Effects.{library}
use Rattle.wap_base.specs.declared.fault.RunErr.TheVariants.{Store}
use Rattle.wap_machine.specs.declared.script.Script.{Script}
use Rattle.wap_machine.specs.declared.machine.Step.{Step}
use Rattle.wap_machine.specs.Hosts.{Gives, Fetches}
use Rattle.wap_execution.specs.laws.Settings.{uncounted}
use Rattle.wap_machine.specs.inside.MachineSteps.{rest, calls_from, goes_with}
use Rattle.wap_machine.proofs.CallLaws.{library_told, library_fetches}
use Rattle.wap_machine.proofs.HostLaws.{host_keeps, other_fault, told_grows}
use Rattle.wap_machine.proofs.asking.call_library.Goals as goal

pub returns-clause-told : goal.returns-clause-told
returns-clause-told g c = λ under may.
    let set = uncounted c.args.waiting.limits g.H.Host.meaning in
    let frame : Frame = c.frame.result.now in
    let outer = c.frame.ensures.outer in
    let are = c.frame.ensures.are in
    let old = g.H.Host.state c.args.host.now c.args.pages.now under in
    let new = g.H.Host.state c.library.new.self c.library.new.pages under in
    let base : c.deref-2.result.now.base ≡ frame.function.base =
    ap (λ (s : Script). s.base) c.deref-2.ensures
    ∙ ap (λ (f : Function). f.base) c.script-script.ensures in
    let referer : option_copied c.as_ref-referer.result ≡ frame.function.referer =
    c.as_ref-referer.ensures.value ∙ ap (λ (s : Script). s.referer) c.deref.ensures
    ∙ ap (λ (f : Function). f.referer) c.script-script.ensures in
    let told =
    subst (λ (r : Option Url). Gives (g.H.Host.meaning.library old frame.function.base r
    c.args.number c.args.index c.args.arguments.items) c.in_ok-out.out new) referer
    (subst (λ (b : Url). Gives (g.H.Host.meaning.library old b
    (option_copied c.as_ref-referer.result) c.args.number c.args.index c.args.arguments.items)
    c.in_ok-out.out new) base (c.in_ok-out.ensures.told under may)) in
    let goes =
    subst (λ (l : List Frame). c.go_with.result ≡ goes_with c.args.waiting.limits l c.in_ok-out.out)
    are c.go_with.ensures.goes in
    let same =
    library_told set frame outer c.args.arguments.items (g.H.Host.turns c.args.host.now) old new
    c.args.number c.args.index c.in_ok-out.out c.go_with.result told goes in
    subst (λ (l : List Frame). calls_from set l (library c.args.number c.args.index)
    c.args.arguments.items (g.H.Host.turns c.args.host.now) old
    ≡ rest set c.go_with.result (g.H.Host.turns c.library.new.self) new) (sym are)
    (subst (λ (n : ℕ). calls_from set (frame ∷ outer) (library c.args.number c.args.index)
    c.args.arguments.items (g.H.Host.turns c.args.host.now) old ≡ rest set c.go_with.result n new)
    (sym c.in_ok-out.ensures.turns) same)

pub returns-in_err-out-clause-fetched : goal.returns-in_err-out-clause-fetched
returns-in_err-out-clause-fetched g c = λ is under may.
    let left = err_from_is_err_and c.from_residual.result c.from_residual.ensures.1 in
    let set = uncounted c.args.waiting.limits g.H.Host.meaning in
    let frame : Frame = c.frame.result.now in
    let outer = c.frame.ensures.outer in
    let old = g.H.Host.state c.args.host.now c.args.pages.now under in
    let count = g.H.Host.fetches c.library.new.pages in
    let base : c.deref-2.result.now.base ≡ frame.function.base =
    ap (λ (s : Script). s.base) c.deref-2.ensures
    ∙ ap (λ (f : Function). f.base) c.script-script.ensures in
    let referer : option_copied c.as_ref-referer.result ≡ frame.function.referer =
    c.as_ref-referer.ensures.value ∙ ap (λ (s : Script). s.referer) c.deref.ensures
    ∙ ap (λ (f : Function). f.referer) c.script-script.ensures in
    let fetched =
    subst (λ (r : Option Url). Fetches (g.H.Host.fetched old) count (g.H.Host.fetched
    (g.H.Host.meaning.library old frame.function.base r c.args.number c.args.index
    c.args.arguments.items).1)) referer
    (subst (λ (b : Url). Fetches (g.H.Host.fetched old) count (g.H.Host.fetched
    (g.H.Host.meaning.library old b (option_copied c.as_ref-referer.result) c.args.number
    c.args.index c.args.arguments.items).1)) base
    (c.in_err-out.ensures.fetched (other_fault Step HostOut c.in_err-out.field-0.0 Store
    (sym (left.1 ∙ ap Err left.2) ∙ is)) under may)) in
    let keeps =
    host_keeps c.args.waiting.limits g.H.Host.meaning g.H.Host.fetched g.met.H.Host.external_grows
    g.met.H.Host.library_grows in
    subst (λ (l : List Frame). Fetches (g.H.Host.fetched old) count
    (g.H.Host.fetched (calls_from set l (library c.args.number c.args.index) c.args.arguments.items
    (g.H.Host.turns c.args.host.now) old).state)) (sym c.frame.ensures.are)
    (library_fetches set g.H.Host.fetched keeps frame outer c.args.arguments.items
    (g.H.Host.turns c.args.host.now) count old c.args.number c.args.index fetched)

pub returns-clause-grown : goal.returns-clause-grown
returns-clause-grown g c = λ under may.
    let old = g.H.Host.state c.args.host.now c.args.pages.now under in
    told_grows g.H.Host.fetched (λ before.
    g.H.Host.meaning.library before c.deref-2.result.now.base
    (option_copied c.as_ref-referer.result) c.args.number c.args.index c.args.arguments.items) old
    (g.H.Host.state c.library.new.self c.library.new.pages under) c.in_ok-out.out
    (c.in_ok-out.ensures.told under may)
    (g.met.H.Host.library_grows old c.deref-2.result.now.base
    (option_copied c.as_ref-referer.result) c.args.number c.args.index c.args.arguments.items)
