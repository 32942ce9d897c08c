-- Keys that are played one after the other: what counts them never cuts them off.
use Rattle.std.proofs.Common.{◌≡◌, ℕ, zero, suc, ◌≤◌, List, [], ◌∷◌, length, refl, ap, arith}
use Rattle.std.specs.Prelude.{Result}
use Rattle.wap_base.specs.declared.key.Key.{Key}
use Rattle.wap_push.specs.declared.indication.Indication.{Indication}
use Rattle.wap_push.specs.declared.fault.PushFault.{PushFault}
use Rattle.wap_world.specs.Sites.{Site}
use Rattle.wap_world.specs.World.{World, place_now}
use Rattle.wap_world.specs.Steps.{Step, then_step, still, quiet}
use Rattle.wap_world.specs.Keys.{renewed, react}
use Rattle.wap_world.proofs.Joining.{joined_assoc}
use Rattle.wap_world.proofs.Laws.{keys_fall}
use Rattle.wap_world.specs.session_laws.Scripts.{MakesNoKeys}
use Rattle.wap_world.specs.inboxes.Inboxes.{Phone, Stepped, taking_none, Pressed, shows, plays}
use Rattle.wap_world.specs.inboxes.Inboxes.{play_pressed, pressed, react_with}
use Rattle.wap_world.specs.Sessions.{before_all, followed_with, played_in, played}

-- two steps, and then what else is done
pub all_assoc : (one two : Step) (others : Stepped)
    → before_all (then_step one two) others ≡ before_all one (before_all two others)
all_assoc one two others =
    ap (λ (step : Step). record { step = step; pushes = others.pushes })
    (joined_assoc one two others.step)

module _ (read : List ℕ → Result Indication PushFault) (site : Site) where
  -- no keys do nothing
  pub plays_none : (phone : Phone)
      → played read site [] phone ≡ taking_none phone (quiet [] (still phone.world))
  unfolding played
  plays_none phone = refl

  module _ (falls : MakesNoKeys site) where
    -- lines leave the keys after them, and a key that is played makes none
    few_by : (found : Pressed) (keys : List Key) (world : World)
        → length (play_pressed site (place_now site.shelf world) keys (renewed world) found).keys
        ≤ length keys
    unfolding react
    few_by (shows lines) keys world = omega arith
    few_by (plays one) keys world = keys_fall site falls one keys world

    -- so no key makes any
    pub few_with : (one : Key) (keys : List Key) (phone : Phone)
        → length (react_with read site one keys phone).step.keys ≤ length keys
    few_with one keys phone = few_by (pressed read phone.pushes one) keys phone.world

    -- how many keys may be played makes no difference where there are enough
    plays_enough : (n m : ℕ) (keys : List Key) (phone : Phone) → length keys ≤ n → length keys ≤ m
        → played_in read n site keys phone ≡ played_in read m site keys phone
    plays_enough zero zero keys phone few other = refl
    plays_enough zero (suc m) [] phone few other = refl
    plays_enough zero (suc m) (one ∷ keys) phone few other = absurd (omega (few, arith))
    plays_enough (suc n) zero [] phone few other = refl
    plays_enough (suc n) zero (one ∷ keys) phone few other = absurd (omega (other, arith))
    plays_enough (suc n) (suc m) [] phone few other = refl
    plays_enough (suc n) (suc m) (one ∷ keys) phone few other =
        let first = react_with read site one keys phone in
        let fewer = few_with one keys phone in
        ap (before_all first.step)
        (plays_enough n m first.step.keys
        (record { world = first.step.world; pushes = first.pushes }) (omega (few, fewer, arith))
        (omega (other, fewer, arith)))

    -- a key, and then those that it leaves
    pub plays_first : (one : Key) (keys : List Key) (phone : Phone)
        → played read site (one ∷ keys) phone
        ≡ followed_with (react_with read site one keys phone) (played read site)
    unfolding played
    plays_first one keys phone =
        let first = react_with read site one keys phone in
        ap (before_all first.step)
        (plays_enough (length keys) (length first.step.keys) first.step.keys
        (record { world = first.step.world; pushes = first.pushes }) (few_with one keys phone)
        (omega arith))

    plays_to_end : (n : ℕ) (keys : List Key) (phone : Phone) → length keys ≤ n
        → (played_in read n site keys phone).step.keys ≡ []
    plays_to_end zero [] phone few = refl
    plays_to_end zero (one ∷ keys) phone few = absurd (omega (few, arith))
    plays_to_end (suc n) [] phone few = refl
    plays_to_end (suc n) (one ∷ keys) phone few =
        let first = react_with read site one keys phone in
        plays_to_end n first.step.keys
        (record { world = first.step.world; pushes = first.pushes })
        (omega (few, few_with one keys phone, arith))

    -- no key is left
    pub plays_all : (keys : List Key) (phone : Phone)
        → (played read site keys phone).step.keys ≡ []
    unfolding played
    plays_all keys phone = plays_to_end (length keys) keys phone (omega arith)
