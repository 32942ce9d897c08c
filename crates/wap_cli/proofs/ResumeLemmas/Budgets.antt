-- Whatever keys and the scripts that they start do, each key has as many turns as before.
use Rattle.std.proofs.Common.{◌≡◌, inl, ℕ, List, refl, ◌∙◌}
use Rattle.std.specs.Prelude.{Result}
use Rattle.wap_base.specs.declared.key.Key.{Key}
use Rattle.wap_push.specs.declared.indication.Indication.{Indication}
use Rattle.wap_push.specs.declared.fault.PushFault.{PushFault}
use Rattle.wap_world.specs.World.{World}
use Rattle.wap_world.specs.inboxes.Inboxes.{Phone, Stepped}
use Rattle.wap_world.specs.Sessions.{played}
use Rattle.wap_world.specs.scripting.UnitSites.{Pages}
use Rattle.wap_world.proofs.Alike.{Fact, Never, never_lost, unless_lost}
use Rattle.wap_world.proofs.Invariants.{Keeps, react_keeps}
use Rattle.wap_world.proofs.Plays.{plays_same}
use Rattle.wap_world.proofs.Hosts.Kin.{Change, Anew, changed, InScripts}
use Rattle.wap_world.proofs.ScriptingLawsLemmas.Keeping.{scripts_keep}
use Rattle.wap_context.specs.Sites.{fragment_call, site_of}

-- each key has so many turns
abbrev Budget : ℕ → Fact
Budget n keys w = w.budget ≡ n

-- libraries leave them
budget_changed : (change : Change) (w : World) → (changed change w).budget ≡ w.budget
budget_changed Anew w = refl
budget_changed change w = refl

-- and so does whatever scripts do
budget_in_scripts : (n : ℕ) → InScripts (Budget n)
budget_in_scripts n = record {
  turns = λ k w m is. is;
  changes = λ change k w is. budget_changed change w ∙ is;
  takes = λ one k w is. is;
  counts = λ k w time left runs is. is;
  expires = λ k w time runs is. is;
}

-- and so does each change of a world
budget_kept : (n : ℕ) (pages : Pages) → Keeps (Budget n) (site_of pages)
budget_kept n pages = record {
  vars = λ k w v is. is;
  reset = λ k w is. is;
  timer = λ k w t place runs here is. is;
  turn = λ k w m left is. is;
  clear = λ k w is. is;
  push = λ k w url deck fine has is. is;
  pop = λ k w e deck fine has is. is;
  begins = λ k w is. is;
  ends = λ k w is. is;
}

-- so do keys
pub plays_budget : (pages : Pages) (read : List ℕ → Result Indication PushFault) (keys : List Key)
    (phone : Phone)
    → (played read (site_of pages) keys phone).step.world.budget ≡ phone.world.budget
plays_budget pages read keys phone =
    let n = phone.world.budget in
    let site = site_of pages in
    let end = played read site keys phone in
    (unless_lost (Budget n) Never (λ (one : Stepped). one.step) end end (λ lost. lost)
    (plays_same (Budget n) Never never_lost site site
    (λ one keys w is. inl (
      refl,
      react_keeps (Budget n) site (budget_kept n pages)
          (scripts_keep (Budget n) (budget_in_scripts n) fragment_call pages) one keys w is,
    ))
    (λ one keys w is. is) read keys phone refl)).1
