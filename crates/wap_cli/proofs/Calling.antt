-- Whatever reads calls and pushed bytes is what the code reads them by, and so the networks with a
-- store's pages are that with the judged pages.
use Rattle.std.proofs.Common.{◌≡◌, ℕ, List, Option, Some, None, refl, sym, ap, ◌∙◌}
use Rattle.std.specs.Option.{option_map}
use Rattle.std.specs.Prelude.{Result}
use Rattle.wap_base.specs.Contents.{Contents}
use Rattle.wap_parse.specs.declared.invocation.invocation.Invocation.{Invocation}
use Rattle.wap_parse.specs.invocation.Calls.{IsCall}
use Rattle.wap_parse.specs.invocation.Calculation.{call_of}
use Rattle.wap_parse.proofs.InvocationLemmas.CallReading.{is_call, is_read}
use Rattle.wap_push.specs.declared.indication.Indication.{Indication}
use Rattle.wap_push.specs.declared.fault.PushFault.{PushFault}
use Rattle.wap_push.specs.Pushes.{ReadsPushes, push_at}
use Rattle.wap_push.proofs.Pushing.{read_so as read_push}
use Rattle.wap_world.specs.Sites.{Call, Site}
use Rattle.wap_world.specs.scripting.UnitSites.{unit_pages, units_site}
use Rattle.wap_context.specs.Sites.{fragment_call, site_of}
use Rattle.wap_pages.specs.Judged.{judged}
use Rattle.wap_site_laws.specs.pages.SourcePages.{ArePages}
use Rattle.wap_site_laws.proofs.PagesLemmas.Judging.{site_judged}
use Rattle.wap_cli.specs.Calls.{as_call, ReadsCalls}
use Rattle.wap_cli.specs.Networks.{Network, network_of}
use Rattle.wap_cli.specs.Browsing.{PagesAndReaders, AreReaders, source_network}

-- ---- calls

-- nothing is read of a fragment that isn't a call
none_read : (fragment : List ℕ) (read : Option Invocation) → call_of fragment ≡ read
    → ((one : Invocation) → ¬ IsCall fragment one) → option_map as_call read ≡ None
none_read fragment (Some one) is none = absurd (none one (is_call fragment one is))
none_read fragment None is none = refl

-- the calls that the code reads are those that there are
pub calls_read : ReadsCalls fragment_call
calls_read = record {
  some = λ fragment one is. ap (option_map as_call) (is_read fragment one is);
  none = λ fragment none. none_read fragment (call_of fragment) refl none;
}

-- no call is read of a fragment of which none is
no_call : (fragment : List ℕ) → call_of fragment ≡ None → (one : Invocation)
    → ¬ IsCall fragment one
no_call fragment none one is = cc (sym none ∙ is_read fragment one is)

-- a fragment is read as the code reads it
read_so : (call : List ℕ → Option Call) → ReadsCalls call → (fragment : List ℕ)
    (read : Option Invocation) → call_of fragment ≡ read
    → option_map as_call read ≡ call fragment
read_so call reads fragment (Some one) is =
    sym (reads.some fragment one (is_call fragment one is))
read_so call reads fragment None is = sym (reads.none fragment (no_call fragment is))

-- and so are all
pub same_calls : (call : List ℕ → Option Call) → ReadsCalls call → fragment_call ≡ call
same_calls call reads = λ i fragment. read_so call reads fragment (call_of fragment) refl i

-- so two that read calls are the same
pub one_reading : (call other : List ℕ → Option Call) → ReadsCalls call → ReadsCalls other
    → call ≡ other
one_reading call other reads reads_too =
    sym (same_calls call reads) ∙ same_calls other reads_too

-- ---- networks

-- pushed bytes are read by calculation
same_pushes : (push : List ℕ → Result Indication PushFault) → ReadsPushes push → push_at ≡ push
same_pushes push reads = λ i bytes. read_push bytes (push bytes) (reads bytes) i

-- the network with a store's pages is that with the judged pages
pub network_units : (one : PagesAndReaders) (contents : Contents) → ArePages contents one.pages
    → AreReaders one → source_network one ≡ network_of (unit_pages (judged contents))
network_units one contents are reads =
    let units = unit_pages (judged contents) in
    ap {B = Network} (λ (site : Site). record { site = site; push = one.push })
    (site_judged one.call contents one.pages are
    ∙ ap (λ (call : List ℕ → Option Call). units_site call units)
    (sym (same_calls one.call reads.calls)))
    ∙ ap {B = Network} (λ (push : List ℕ → Result Indication PushFault).
    record { site = site_of units; push = push }) (sym (same_pushes one.push reads.pushes))
