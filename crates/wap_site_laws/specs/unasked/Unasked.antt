-- Pages that are never asked for don't matter to a session. This project's own.
use Rattle.std.specs.Prelude.{◌≡◌, ℕ, Bool, false, List, Option, Result}
use Rattle.std.specs.List.{list_any}
use Rattle.std.specs.Option.{option_map_or}
use Rattle.wap_base.specs.declared.key.Key.{Key}
use Rattle.wap_push.specs.declared.indication.Indication.{Indication}
use Rattle.wap_push.specs.declared.fault.PushFault.{PushFault}
use Rattle.wap_world.specs.site.Misses.{Asked}
use Rattle.wap_url.specs.Printing.{name_for}
use Rattle.wap_world.specs.World.{World, last_entry}
use Rattle.wap_world.specs.Sites.{Call}
use Rattle.wap_world.specs.Sessions.{played}
use Rattle.wap_world.specs.inboxes.Inboxes.{Phone}
use Rattle.wap_world.specs.Sessions.{played}
use Rattle.wap_world.specs.scripting.ScriptPages.{page_under}
use Rattle.wap_world.specs.scripting.UnitSites.{Pages, units_site}

-- whether one of these names was asked for
abbrev pub is_asked : (List ℕ → Bool) → List Asked → Bool
is_asked among asked = list_any (λ one. among one.0) asked

-- whether the current card, if there is one, stands under one of these names
abbrev pub is_on : (List ℕ → Bool) → World → Bool
is_on among world = option_map_or (λ entry. among (name_for entry.url)) (last_entry world) false

-- outside of these names the pages are the same
abbrev pub AgreeBeside : (List ℕ → Bool) → Pages → Pages → Type 0
AgreeBeside among one other =
    (name : List ℕ) → among name ≡ false → page_under name one ≡ page_under name other

-- where a session begins on none of these names and asks for none of them, other pages under these
-- names would have done the same, however what is pushed is read
abbrev pub UnaskedMatterNot : Type 0
UnaskedMatterNot =
    (read : List ℕ → Result Indication PushFault) (call : List ℕ → Option Call)
    (among : List ℕ → Bool) (one other : Pages) → AgreeBeside among one other
    → (keys : List Key) (phone : Phone) → is_on among phone.world ≡ false
    → is_asked among (played read (units_site call one) keys phone).step.asked ≡ false
    → played read (units_site call one) keys phone
    ≡ played read (units_site call other) keys phone

-- nor does it end on one of these names then
abbrev pub EndsBeside : Type 0
EndsBeside =
    (read : List ℕ → Result Indication PushFault) (call : List ℕ → Option Call)
    (among : List ℕ → Bool) (pages : Pages) (keys : List Key) (phone : Phone)
    → is_on among phone.world ≡ false
    → is_asked among (played read (units_site call pages) keys phone).step.asked ≡ false
    → is_on among (played read (units_site call pages) keys phone).step.world ≡ false
