-- Keys over decks, where no script reads those that are left.
use Rattle.std.proofs.Common.{◌≡◌, ℕ, zero, suc, false, List, [], ◌∷◌, ◌++◌, length, refl, ap, sym}
use Rattle.std.proofs.Common.{subst, ◌∙◌}
use Rattle.std.specs.Prelude.{Result}
use Rattle.std.specs.List.{AllByRecursion}
use Rattle.wap_base.specs.declared.key.Key.{Key}
use Rattle.wap_push.specs.declared.indication.Indication.{Indication}
use Rattle.wap_push.specs.declared.fault.PushFault.{PushFault}
use Rattle.wap_world.specs.site.Pages.{Pages}
use Rattle.wap_world.specs.Decks.{decks_site}
use Rattle.wap_world.specs.Sites.{Site}
use Rattle.wap_world.specs.World.{World, place_now}
use Rattle.wap_world.specs.Steps.{Step}
use Rattle.wap_world.specs.Keys.{renewed, react}
use Rattle.wap_world.proofs.Joining.{before}
use Rattle.wap_world.proofs.Laws.{leaves_keys}
use Rattle.wap_world.proofs.SessionLawsLemmas.Following.{keys_left}
use Rattle.wap_world.specs.inboxes.Inboxes.{Phone, Stepped, taking_none, is_of_inbox}
use Rattle.wap_world.specs.inboxes.Inboxes.{Pressed, shows, plays, play_pressed, pressed}
use Rattle.wap_world.specs.inboxes.Inboxes.{pushes_after, react_with}
use Rattle.wap_world.specs.Sessions.{before_all, followed_with, played_in, played}
use Rattle.wap_world.proofs.InboxesLemmas.Counting.{all_assoc}
use Rattle.wap_world.proofs.InboxesLemmas.Reacting.{reacts_alike}

-- ---- in parts

module _ (read : List ℕ → Result Indication PushFault) (pages : Pages) where
  abbrev site : Site
  site = decks_site pages

  -- a key sees none of the keys after it, and leaves them
  leaves_by : (found : Pressed) (keys : List Key) (world : World)
      → play_pressed site (place_now site.shelf world) keys (renewed world) found
      ≡ before keys (play_pressed site (place_now site.shelf world) [] (renewed world) found)
  unfolding react
  leaves_by (shows lines) keys world = refl
  leaves_by (plays one) keys world = leaves_keys pages one keys world

  pub left_with : (one : Key) (keys : List Key) (phone : Phone)
      → (react_with read site one keys phone).step.keys ≡ keys
  left_with one keys phone =
      ap (λ (step : Step). step.keys)
      (leaves_by (pressed read phone.pushes one) keys phone.world)

  -- a key, and then the others
  one_first : (one : Key) (keys : List Key) (phone : Phone) → played read site (one ∷ keys) phone
      ≡ followed_with (react_with read site one [] phone)
      (λ left after. played read site keys after)
  unfolding played
  one_first one keys phone =
      ap (λ (step : Step). followed_with
      (record { step = step; pushes = pushes_after read phone.pushes one })
      (played_in read (length keys) site))
      (leaves_by (pressed read phone.pushes one) keys phone.world)

  -- what keys come to is what the first come to, and then the others
  pub plays_in_parts : (first others : List Key) (phone : Phone)
      → played read site (first ++ others) phone
      ≡ followed_with (played read site first phone) (λ left after. played read site others after)
  unfolding played
  plays_in_parts [] others phone = refl
  plays_in_parts (one ∷ first) others phone =
      let r = react_with read site one [] phone in
      let after : Phone = record { world = r.step.world; pushes = r.pushes } in
      let p = played read site first after in
      one_first one (first ++ others) phone
      ∙ ap (before_all r.step) (plays_in_parts first others after)
      ∙ sym (all_assoc r.step p.step
      (played read site others (record { world = p.step.world; pushes = p.pushes })))
      ∙ sym (ap (λ (x : Stepped). followed_with x (λ left last. played read site others last))
      (one_first one first phone))

-- ---- without a key of an inbox

-- none of the keys is one of an inbox
abbrev AreOthers : List Key → Type 0
AreOthers keys = AllByRecursion (λ (one : Key). is_of_inbox one ≡ false) keys

module _ (read other : List ℕ → Result Indication PushFault) (pages : Pages) where
  -- so many keys at most
  plays_alike_in : (count : ℕ) (keys : List Key) (phone : Phone) (pushes : List Indication)
      → AreOthers keys → played_in read count (decks_site pages) keys phone
      ≡ taking_none phone
      (played_in other count (decks_site pages) keys (record phone { pushes = pushes })).step
  plays_alike_in count [] phone pushes others = refl
  plays_alike_in zero (one ∷ keys) phone pushes others = refl
  plays_alike_in (suc count) (one ∷ keys) phone pushes others =
      let step : Step = react (decks_site pages) one keys phone.world in
      let after : Phone = record { world = step.world; pushes = phone.pushes } in
      ap (λ (x : Stepped). followed_with x (played_in read count (decks_site pages)))
      (reacts_alike read (decks_site pages) one keys phone others.0)
      ∙ ap (before_all step) (plays_alike_in count step.keys after pushes
      (subst AreOthers (sym (keys_left pages one keys phone.world)) others.1))
      ∙ sym (ap (λ (x : Stepped). taking_none phone
      (followed_with x (played_in other count (decks_site pages))).step)
      (reacts_alike other (decks_site pages) one keys (record phone { pushes = pushes }) others.0))

  -- all of them
  pub plays_alike : (keys : List Key) (phone : Phone) (pushes : List Indication) → AreOthers keys
      → played read (decks_site pages) keys phone ≡ taking_none phone
      (played other (decks_site pages) keys (record phone { pushes = pushes })).step
  unfolding played
  plays_alike keys phone pushes others = plays_alike_in (length keys) keys phone pushes others
