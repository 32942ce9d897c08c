-- Sources that were only ever denied.
use Rattle.std.proofs.Common.{◌≡◌, ℕ, Bool, false, List, Option, sym, ap, ◌∙◌, subst}
use Rattle.std.specs.Prelude.{Result}
use Rattle.wap_unit.specs.declared.unit.Unit.{Unit}
use Rattle.wap_base.specs.declared.key.Key.{Key}
use Rattle.wap_push.specs.declared.indication.Indication.{Indication}
use Rattle.wap_push.specs.declared.fault.PushFault.{PushFault}
use Rattle.wap_world.specs.Sites.{Site, Call}
use Rattle.wap_world.specs.inboxes.Inboxes.{Phone}
use Rattle.wap_world.specs.Sessions.{played}
use Rattle.wap_world.specs.scripting.Sources.{LanguageOf, AllPages, Agrees, site_of, compiled_pages}
use Rattle.wap_site_laws.specs.exchange.Denial.{is_let_in}
use Rattle.wap_site_laws.proofs.ExchangeLemmas.Replacing.{replaces}
use Rattle.wap_site_laws.proofs.ExchangeLemmas.Denying.{DifferWithin, denied}

-- both sites are those of their units, which don't matter
pub denied_sources : {P : Type 0} (language : LanguageOf P) (compiler : P → Unit)
    (agrees : (one : P) → Agrees language one (compiler one)) (call : List ℕ → Option Call)
    (among : List ℕ → Bool) (one other : AllPages P)
    → DifferWithin among (compiled_pages language compiler one)
    (compiled_pages language compiler other)
    → (read : List ℕ → Result Indication PushFault) (keys : List Key) (phone : Phone)
    → is_let_in among (played read (site_of language call one) keys phone).step.tests ≡ false
    → played read (site_of language call one) keys phone
    ≡ played read (site_of language call other) keys phone
denied_sources language compiler agrees call among one other differ read keys phone none =
    let here = replaces language compiler agrees one call in
    let there = replaces language compiler agrees other call in
    ap (λ (s : Site). played read s keys phone) here
    ∙ denied read call among (compiled_pages language compiler one)
    (compiled_pages language compiler other) differ keys phone
    (subst (λ (s : Site). is_let_in among (played read s keys phone).step.tests ≡ false) here none)
    ∙ sym (ap (λ (s : Site). played read s keys phone) there)
