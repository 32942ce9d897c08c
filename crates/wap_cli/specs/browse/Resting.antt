-- Where a session stands whose keys were played to their end. This project's own.
use Rattle.std.specs.Prelude.{◌≡◌, false, ℕ, List, [], ◌++◌, None}
use Rattle.wap_devices.specs.Sources.{MayGive}
use Rattle.wap_base.specs.declared.key.Key.{Key}
use Rattle.wap_keys.specs.Lines.{keys_of}
use Rattle.wap_world.specs.site.Pages.{Pages as JudgedPages}
use Rattle.wap_world.specs.site.Asking.{MayBe}
use Rattle.wap_world.specs.Steps.{Step, then_step}
use Rattle.wap_world.specs.scripting.UnitSites.{Pages, shelf_of, unit_pages}
use Rattle.wap_context.specs.Browsers.{IsOver}
use Rattle.wap_session.specs.Feeding.{State, step_of}
use Rattle.wap_cli.specs.browse.Outside.{Outside}
use Rattle.wap_cli.specs.browse.Plays.{Play, HaveNoPush}

-- the session stands where these keys lead, outside a dialog
pub record StandsAfter (pages : Pages) (play : List Key → Step) (keys : List Key)
    (session : State) : Type 0 where
  pub outside : (play keys).is_open ≡ false
  pub world : session.browser.world ≡ (play keys).world
  pub over : IsOver (shelf_of pages) session.browser
  -- and further keys go on from there
  pub on : (others : List Key) → play (keys ++ others)
      ≡ then_step (play keys) (step_of pages others session)
  -- where none of the keys is a push, its inbox is as in the beginning
  pub unpushed : HaveNoPush keys → session.winners ≡ []

-- no script waits and no key failed, and the session stands where all keys lead, for all bytes of
-- keys that may be those of the source, over any pages that there may be
pub record Rests (play : Play) (old new : Outside) (session : State) : Type 0 where
  pub waiting : session.waiting ≡ None
  pub ready : session.is_over ≡ false
  pub stands : (bytes : List ℕ) → MayGive old.source new.source bytes
      → (judged : JudgedPages) → MayBe new.pages judged
      → StandsAfter (unit_pages judged) (play (unit_pages judged)) (keys_of bytes).keys session
