-- What keys come to with an inbox, key by key.
use Rattle.std.proofs.Common.{◌≡◌, ◌++◌, ◌∷◌, [], ℕ, zero, suc, List, Some, None, Ok, Err, false}
use Rattle.std.proofs.Common.{refl, ap}
use Rattle.std.specs.Prelude.{Result, Option}
use Rattle.wap_base.specs.declared.key.Key.{Key}
use Rattle.wap_base.specs.declared.key.Key.TheVariants as key
use Rattle.wap_push.specs.declared.indication.Indication.{Indication}
use Rattle.wap_push.specs.declared.fault.PushFault.{PushFault}
use Rattle.wap_world.specs.Sites.{Site}
use Rattle.wap_world.specs.World.{World, place_now}
use Rattle.wap_world.specs.Steps.{quiet}
use Rattle.wap_world.specs.Keys.{ignored, renewed, react}
use Rattle.wap_world.specs.inboxes.Notices.{no_push_line, notice_lines}
use Rattle.wap_world.specs.inboxes.Inboxes.{Phone, taking_none, telling, push_lines, pushes_with}
use Rattle.wap_world.specs.inboxes.Inboxes.{url_at, is_of_inbox, opening, play_pressed, react_with}
use Rattle.wap_world.specs.Sessions.{unpushed}

module _ (read : List ℕ → Result Indication PushFault) (site : Site) where
  -- a key that is none of an inbox
  pub reacts_alike : (one : Key) (keys : List Key) (phone : Phone) → is_of_inbox one ≡ false
      → react_with read site one keys phone ≡ taking_none phone (react site one keys phone.world)
  unfolding react
  reacts_alike (key.Push bytes) keys phone is = absurd (cc is)
  reacts_alike key.Inbox keys phone is = absurd (cc is)
  reacts_alike (key.Follow n) keys phone is = absurd (cc is)
  reacts_alike one keys phone is = refl

  -- an indication that is pushed
  pub push_taken : (keys : List Key) (phone : Phone) (bytes : List ℕ) (pushed : Indication)
      → read bytes ≡ Ok pushed
      → react_with read site (key.Push bytes) keys phone ≡ record {
        step = telling keys (renewed phone.world) (notice_lines phone.pushes pushed);
        pushes = phone.pushes ++ pushed ∷ [];
      }
  push_taken keys phone bytes pushed is =
      ap (λ (found : Result Indication PushFault). record {
        step = telling keys (renewed phone.world) (push_lines phone.pushes found);
        pushes = pushes_with phone.pushes found;
      }) is

  -- bytes that are none
  pub push_refused : (keys : List Key) (phone : Phone) (bytes : List ℕ) (why : PushFault)
      → read bytes ≡ Err why
      → react_with read site (key.Push bytes) keys phone
      ≡ taking_none phone (telling keys (renewed phone.world) (no_push_line why ∷ []))
  push_refused keys phone bytes why is =
      ap (λ (found : Result Indication PushFault). record {
        step = telling keys (renewed phone.world) (push_lines phone.pushes found);
        pushes = pushes_with phone.pushes found;
      }) is

  -- an entry that has a URL
  pub entry_opened : (keys : List Key) (phone : Phone) (n : ℕ) (url : List ℕ)
      → url_at phone.pushes n ≡ Some url
      → react_with read site (key.Follow n) keys phone
      ≡ taking_none phone (react site (key.Open url) keys phone.world)
  unfolding react
  entry_opened keys phone n url is =
      ap (λ (found : Option (List ℕ)).
      taking_none phone (play_pressed site (place_now site.shelf phone.world) keys
      (renewed phone.world) (opening found))) is

  -- and one that has none, or isn't there
  pub entry_ignored : (keys : List Key) (phone : Phone) (n : ℕ)
      → url_at phone.pushes n ≡ None
      → react_with read site (key.Follow n) keys phone
      ≡ taking_none phone (quiet keys (ignored (renewed phone.world)))
  entry_ignored keys phone n is =
      ap (λ (found : Option (List ℕ)).
      taking_none phone (play_pressed site (place_now site.shelf phone.world) keys
      (renewed phone.world) (opening found))) is

  -- no entry has a number in an empty inbox
  none_at : (n : ℕ) → url_at [] n ≡ None
  none_at zero = refl
  none_at (suc n) = refl

  pub none_followed : (keys : List Key) (world : World) (n : ℕ)
      → react_with read site (key.Follow n) keys (unpushed world)
      ≡ taking_none (unpushed world) (react site (key.Follow n) keys world)
  unfolding react
  none_followed keys world n = entry_ignored keys (unpushed world) n (none_at n)
