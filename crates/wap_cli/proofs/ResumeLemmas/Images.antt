-- What the keys come to that go on from where an image was saved.
use Rattle.std.proofs.Common.{◌≡◌, ◌≢◌, ℕ, true, false, List, [], Option, Some, None, Ok, Err}
use Rattle.std.proofs.Common.{refl, sym, ap, ap₂, subst, ◌∙◌}
use Rattle.std.specs.Prelude.{Bool, is_none, not, ◌&&◌, if◌then◌else◌}
use Rattle.wap_devices.specs.Sources.{MayGive}
use Rattle.wap_devices.specs.Sinks.{SinkSeen}
use Rattle.wap_base.specs.declared.key.Key.{Key}
use Rattle.wap_keys.specs.Lines.{keys_of}
use Rattle.wap_image.specs.declared.context_parts.parts.ContextParts.{ContextParts}
use Rattle.wap_image.specs.declared.context_parts.fault.SaveFault.{SaveFault}
use Rattle.wap_image.specs.declared.context_parts.fault.SaveFault.TheVariants.{Drawn, Card}
use Rattle.wap_image.specs.Items.{is_drawn}
use Rattle.wap_image.specs.Rules.{are_short}
use Rattle.wap_image.specs.Spelling.{spelling}
use Rattle.wap_pages.specs.declared.fault.PageFault.{PageFault}
use Rattle.wap_pages.specs.declared.fault.PageFault.TheVariants.{Save}
use Rattle.wap_world.specs.World.{World}
use Rattle.wap_world.specs.Steps.{then_step}
use Rattle.wap_world.specs.Sessions.{Begun, world_of}
use Rattle.wap_world.specs.scripting.UnitSites.{Pages}
use Rattle.wap_world.specs.scripting.Waiting.{Waits, played_from}
use Rattle.wap_context.specs.Sites.{fragment_call, site_of}
use Rattle.wap_state.specs.Saved.{parts_of}
use Rattle.wap_push.specs.declared.indication.Indication.{Indication}
use Rattle.wap_push.specs.Pushes.{push_at}
use Rattle.wap_world.specs.Sessions.{played}
use Rattle.wap_session.specs.Feeding.{State, context_at_rest, step_of}
use Rattle.wap_context.specs.Browsers.{Browser}
use Rattle.wap_pages.specs.Memory.{is_of_memory}
use Rattle.wap_cli.specs.saving.Saving.{image_of}
use Rattle.wap_cli.specs.declared.status.Status.{Status}
use Rattle.wap_cli.specs.declared.status.Status.TheVariants.{Done, Refused}
use Rattle.wap_cli.specs.browse.Outside.{Outside}
use Rattle.wap_cli.specs.browse.Plays.{AreUnitPages, opened}
use Rattle.wap_cli.specs.browse.Resting.{StandsAfter, Rests}
use Rattle.wap_cli.specs.browse.Headline.{BrowsesSeen}
use Rattle.wap_cli.proofs.BrowseLemmas.Exits.{unrefused}
use Rattle.wap_cli.proofs.Writing.{writes_unrefused}
use Rattle.wap_cli.specs.resume.Saving.{WritesImage, played_in, EndsIn, ImagesSeen}
use Rattle.wap_cli.specs.resume.Saving.{IsWhole, Dropped, nothing_dropped, unshown}

-- ---- where keys end

-- where no script waits and nothing is in the inbox, keys are played from the world
pub step_closed : (pages : Pages) (others : List Key) (state : State) → state.waiting ≡ None
    → state.winners ≡ []
    → step_of pages others state ≡ played_in state.browser.world pages others
step_closed pages others state is none =
    ap (λ (waits : Option Waits). (played_from push_at fragment_call pages (record {
      phone = record { world = state.browser.world; pushes = state.winners };
      waiting = waits;
    }) others).step) is
    ∙ ap (λ (pushes : List Indication). (played push_at (site_of pages) others
    (record { world = state.browser.world; pushes = pushes })).step) none

-- it stands where these keys lead, over any pages that may be seen
stands_there : (begun : Begun) (old new : Outside) (state : State)
    → Rests (opened begun) old new state → (bytes : List ℕ) → MayGive old.source new.source bytes
    → (pages : Pages) → AreUnitPages new.pages pages
    → StandsAfter pages (opened begun pages) (keys_of bytes).keys state
stands_there begun old new state rests bytes gives pages (judged, may, are) =
    subst (λ (p : Pages). StandsAfter p (opened begun p) (keys_of bytes).keys state) (sym are)
    (rests.stands bytes gives judged may)

-- the parts of the session are those of the world in which the keys end
ends_in : (begun : Begun) (old new : Outside) (state : State)
    → Rests (opened begun) old new state → (bytes : List ℕ) → MayGive old.source new.source bytes
    → (pages : Pages) → AreUnitPages new.pages pages
    → EndsIn begun pages (keys_of bytes).keys (parts_of state.browser.world)
ends_in begun old new state rests bytes gives pages are =
    let keys = (keys_of bytes).keys in
    let stands = stands_there begun old new state rests bytes gives pages are in
    record {
      parts_are = ap (λ (w : World). parts_of w) stands.world;
      outside = stands.outside;
      on = λ none others. stands.on others
          ∙ ap (then_step (opened begun pages keys))
          (step_closed pages others state rests.waiting (stands.unpushed none)
          ∙ ap (λ (w : World). played_in w pages others) stands.world);
    }

-- ---- the command

-- the context of a session at rest is its browser
pub context_there : (state : State) (context : Browser) → state.waiting ≡ None
    → state.is_over ≡ false → Some context ≡ context_at_rest state → context ≡ state.browser
context_there state context alone ready taken =
    some_is (taken
    ∙ ap₂ (λ (waits : Option Waits) (over : Bool).
    if is_none waits && not over then Some state.browser else None) alone ready)
  where
    some_is : {one other : Browser} → Some one ≡ Some other → one ≡ other
    some_is is = cc

-- no cause that there is no image is that memory ran out
cause_remembers : (parts : ContextParts) (budget : ℕ) (why : SaveFault)
    → image_of parts budget ≡ Err why → is_of_memory (Save why) ≡ false
cause_remembers parts budget why = by (is_drawn parts.drawn) (are_short parts)
  where
    by : (drawn short : Bool)
        → (if drawn then (if short then Ok (spelling parts budget) else Err Card) else Err Drawn)
        ≡ Err why → is_of_memory (Save why) ≡ false
    by true true is = absurd cc
    by true false is =
        let same : Card ≡ why = cc in
        subst (λ (one : SaveFault). is_of_memory (Save one) ≡ false) same refl
    by false short is =
        let same : Drawn ≡ why = cc in
        subst (λ (one : SaveFault). is_of_memory (Save one) ≡ false) same refl

image_remembers : (parts : ContextParts) (budget : ℕ) (before after : SinkSeen) (status : Status)
    → WritesImage (image_of parts budget) before after status → (fault : PageFault)
    → status ≡ Refused fault → is_of_memory fault ≡ false
image_remembers parts budget before after status (WritesImage.writes one bytes is puts) fault so =
    absurd (writes_unrefused (λ Wrote. Wrote bytes) before after one puts fault so)
image_remembers parts budget before after status (WritesImage.refused why is same) fault so =
    let cause : Save why ≡ fault = cc in
    subst (λ (f : PageFault). is_of_memory f ≡ false) cause (cause_remembers parts budget why is)
image_remembers parts budget before after status (WritesImage.no_memory same) fault so = absurd cc

-- the keys didn't end outside a dialog
pub images_undone : (begun : Begun) (old new : Outside) (dropped : Dropped) (status : Status)
    → status ≢ Done
    → BrowsesSeen (opened begun) (unshown nothing_dropped old) (unshown dropped new) status
    → new.sink ≡ old.sink → ImagesSeen begun old new status
images_undone begun old new dropped status undone plays same = record {
  dropped = dropped;
  end = status;
  plays = plays;
  stops = λ other. (refl, same);
  parts = parts_of (world_of begun);
  ends_in = λ is. absurd (undone is);
  saves = λ is. absurd (undone is);
  of_reason = λ fault is.
      absurd
      (unrefused (opened begun) (unshown nothing_dropped old) (unshown dropped new) status plays
      fault is);
  whole = λ is. absurd (undone is);
}

-- they did, and the context was to be saved
pub images_done : (begun : Begun) (old new : Outside) (dropped : Dropped) (state : State)
    (context : Browser) (end status : Status) → end ≡ Done
    → BrowsesSeen (opened begun) (unshown nothing_dropped old) (unshown dropped new) end
    → Rests (opened begun) (unshown nothing_dropped old) (unshown dropped new) state → context
    ≡ state.browser
    → WritesImage (image_of (parts_of context.world) begun.budget) old.sink new.sink status
    → (status ≡ Done → IsWhole (parts_of context.world) context.world)
    → ImagesSeen begun old new status
images_done begun old new dropped state context end status done plays rests is written whole =
    let after = unshown dropped new in
    record {
      dropped = dropped;
      end = Done;
      plays =
          subst (λ (s : Status). BrowsesSeen (opened begun) (unshown nothing_dropped old) after s)
          done plays;
      stops = λ other. absurd (other refl);
      parts = parts_of state.browser.world;
      ends_in = λ so. ends_in begun (unshown nothing_dropped old) after state rests;
      saves = λ so. subst (λ (browser : Browser). WritesImage
          (image_of (parts_of browser.world) begun.budget) old.sink new.sink status) is written;
      of_reason =
          image_remembers (parts_of context.world) begun.budget old.sink new.sink status written;
      whole = λ so bytes gives pages are.
          subst (λ (w : World). IsWhole (parts_of state.browser.world) w)
          (stands_there begun (unshown nothing_dropped old) after state rests bytes gives pages
          are).world
          (subst (λ (browser : Browser). IsWhole (parts_of browser.world) browser.world) is
          (whole so));
    }
