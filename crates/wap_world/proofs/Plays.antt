-- Two sites over which each key comes to the same, or is lost: so do keys one after the other, with
-- pushes that an inbox shows alike.
use Rattle.std.proofs.Common.{◌≡◌, ◌⊎◌, inl, inr, ℕ, zero, suc, false, List, [], ◌∷◌, ◌++◌, length}
use Rattle.std.proofs.Common.{Ok, Err, refl, ap, subst}
use Rattle.std.specs.Prelude.{Result}
use Rattle.std.specs.Option.{option_and_then}
use Rattle.wap_base.specs.declared.key.Key.{Key}
use Rattle.wap_base.specs.declared.key.Key.TheVariants as key
use Rattle.wap_push.specs.declared.indication.Indication.{Indication}
use Rattle.wap_push.specs.declared.fault.PushFault.{PushFault}
use Rattle.wap_push.specs.Inbox.{entry_at}
use Rattle.wap_world.specs.Sites.{Site}
use Rattle.wap_world.specs.World.{World, place_now}
use Rattle.wap_world.specs.Steps.{Step, then_step}
use Rattle.wap_world.specs.Keys.{renewed, react}
use Rattle.wap_world.specs.inboxes.Winners.{entries_of}
use Rattle.wap_world.specs.inboxes.Notices.{notice_lines, entry_lines}
use Rattle.wap_world.specs.inboxes.Inboxes.{Phone, Stepped, Pressed, shows, plays, opening}
use Rattle.wap_world.specs.inboxes.Inboxes.{push_lines, pushes_with, play_pressed, pressed}
use Rattle.wap_world.specs.inboxes.Inboxes.{pushes_after, react_with}
use Rattle.wap_world.specs.Sessions.{before_all, followed_with, played_in, played}
use Rattle.wap_world.proofs.Alike.{Fact, Loss, Losing, IsLost, AlikeBy, StepAlike, first, second}

-- pushes that an inbox shows alike, also after more
pub record ShownAlike (P : List Indication → List Indication → Type 0) : Type 0 where
  pub notices : (p q : List Indication) (more : Indication) → P p q
      → notice_lines p more ≡ notice_lines q more
  pub entries : (p q : List Indication) → P p q → entries_of p ≡ entries_of q
  pub more : (p q : List Indication) (more : Indication) → P p q
      → P (p ++ more ∷ []) (q ++ more ∷ [])

-- the same pushes are
abbrev Same : List Indication → List Indication → Type 0
Same p q = p ≡ q

same_shown : ShownAlike Same
same_shown = record {
  notices = λ p q more is. ap (λ pushes. notice_lines pushes more) is;
  entries = λ p q is. ap entries_of is;
  more = λ p q more is. ap (λ pushes. pushes ++ more ∷ []) is;
}

-- the same steps and such pushes, or both are lost
abbrev pub WithAlike : Fact → Loss → (List Indication → List Indication → Type 0) → Stepped
    → Stepped → Type 0
WithAlike I Lost P a b =
    ((a.step ≡ b.step) × P a.pushes b.pushes × I a.step.keys a.step.world)
    ⊎ (IsLost Lost a.step × IsLost Lost b.step)

-- ---- a key after pushes that are shown alike

module _ (P : List Indication → List Indication → Type 0) (shown : ShownAlike P)
    (read : List ℕ → Result Indication PushFault) (p q : List Indication) (alike : P p q) where
  -- what was pushed, by whether it is an indication
  lines_alike : (found : Result Indication PushFault) → push_lines p found ≡ push_lines q found
  lines_alike (Ok pushed) = shown.notices p q pushed alike
  lines_alike (Err why) = refl

  with_alike : (found : Result Indication PushFault)
      → P (pushes_with p found) (pushes_with q found)
  with_alike (Ok pushed) = shown.more p q pushed alike
  with_alike (Err why) = alike

  -- it is the same
  pressed_alike : (one : Key) → pressed read p one ≡ pressed read q one
  pressed_alike (key.Push bytes) = ap shows (lines_alike (read bytes))
  pressed_alike key.Inbox =
      ap (λ entries. shows (entry_lines 1 entries)) (shown.entries p q alike)
  pressed_alike (key.Follow n) =
      ap (λ entries. opening (option_and_then (λ entry. entry.href) (entry_at entries n)))
      (shown.entries p q alike)
  pressed_alike one = refl

  -- and takes pushes alike
  after_alike : (one : Key) → P (pushes_after read p one) (pushes_after read q one)
  after_alike (key.Push bytes) = with_alike (read bytes)
  after_alike one = alike

module _ (I : Fact) (Lost : Loss) (losing : Losing Lost) (here there : Site)
    (reacts : (one : Key) (keys : List Key) (w : World) → I keys w
    → StepAlike I Lost (react here one keys w) (react there one keys w))
    (taken : (one : Key) (keys : List Key) (w : World) → I (one ∷ keys) w → I keys w) where
  -- where a key only tells something, the world with its turns is left, or it is lost
  told : (keys : List Key) (w : World) → I keys w → I keys (renewed w) ⊎ Lost [] [] false
  unfolding react
  told keys w i = by (reacts key.Inbox keys w i)
    where
      by : StepAlike I Lost (react here key.Inbox keys w) (react there key.Inbox keys w)
          → I keys (renewed w) ⊎ Lost [] [] false
      by (inl is) = inl is.1
      by (inr lost) = inr lost.0

  -- what a key shows or plays, where the world is
  abbrev pressed_at : Site → List Key → World → Pressed → Step
  pressed_at site keys w found =
      play_pressed site (place_now site.shelf w) keys (renewed w) found

  presses : (found : Pressed) (keys : List Key) (w : World) → I keys w
      → StepAlike I Lost (pressed_at here keys w found) (pressed_at there keys w found)
  unfolding react
  presses (shows lines) keys w i = by (told keys w i)
    where
      by : I keys (renewed w) ⊎ Lost [] [] false
          → StepAlike I Lost (pressed_at here keys w (shows lines))
          (pressed_at there keys w (shows lines))
      by (inl j) = inl (refl, j)
      by (inr lost) = inr (lost, lost)
  presses (plays one) keys w i = reacts one keys w i

  -- ---- with an inbox, in which pushes are shown alike, however they are read

  module _ (P : List Indication → List Indication → Type 0) (shown : ShownAlike P)
      (read : List ℕ → Result Indication PushFault) where
    abbrev Withs : Stepped → Stepped → Type 0
    Withs = WithAlike I Lost P

    -- a browser with these pushes
    abbrev with_pushes : World → List Indication → Phone
    with_pushes w pushes = record { world = w; pushes = pushes }

    -- a key
    key_alike : (one : Key) (keys : List Key) (w : World) (p q : List Indication) → P p q
        → I keys w → Withs (react_with read here one keys (with_pushes w p))
        (react_with read there one keys (with_pushes w q))
    key_alike one keys w p q alike i =
        by (subst (λ (found : Pressed).
        StepAlike I Lost (pressed_at here keys w (pressed read p one))
        (pressed_at there keys w found)) (pressed_alike P shown read p q alike one)
        (presses (pressed read p one) keys w i))
      where
        by : StepAlike I Lost (pressed_at here keys w (pressed read p one))
            (pressed_at there keys w (pressed read q one))
            → Withs (react_with read here one keys (with_pushes w p))
            (react_with read there one keys (with_pushes w q))
        by (inl is) = inl (is.0, after_alike P shown read p q alike one, is.1)
        by (inr lost) = inr lost

    -- steps and what follows them
    next_alike : (f g : List Key → Phone → Stepped)
        → ((keys : List Key) (w : World) (p q : List Indication) → P p q → I keys w
        → Withs (f keys (with_pushes w p)) (g keys (with_pushes w q)))
        → (a b : Stepped) → Withs a b → Withs (followed_with a f) (followed_with b g)
    next_alike f g same a b (inl is) =
        subst (λ (s : Step). Withs (followed_with a f)
        (followed_with (record { step = s; pushes = b.pushes }) g)) is.0
        (by (f a.step.keys (with_pushes a.step.world a.pushes))
        (g a.step.keys (with_pushes a.step.world b.pushes))
        (same a.step.keys a.step.world a.pushes b.pushes is.1 is.2))
      where
        by : (c d : Stepped) → Withs c d → Withs (before_all a.step c) (before_all a.step d)
        by c d (inl is) = inl (ap (then_step a.step) is.0, is.1, is.2)
        by c d (inr lost) = inr (
          second I Lost losing a.step c.step lost.0,
          second I Lost losing a.step d.step lost.1,
        )
    next_alike f g same a b (inr lost) = inr (
      first I Lost losing a.step (f a.step.keys (with_pushes a.step.world a.pushes)).step lost.0,
      first I Lost losing b.step (g b.step.keys (with_pushes b.step.world b.pushes)).step lost.1,
    )

    -- so many keys at most
    plays_in_alike : (count : ℕ) (keys : List Key) (w : World) (p q : List Indication) → P p q
        → I keys w → Withs (played_in read count here keys (with_pushes w p))
        (played_in read count there keys (with_pushes w q))
    plays_in_alike count [] w p q alike i = inl (refl, alike, i)
    plays_in_alike zero (one ∷ keys) w p q alike i = inl (refl, alike, i)
    plays_in_alike (suc count) (one ∷ keys) w p q alike i =
        next_alike (played_in read count here) (played_in read count there)
        (plays_in_alike count) (react_with read here one keys (with_pushes w p))
        (react_with read there one keys (with_pushes w q))
        (key_alike one keys w p q alike (taken one keys w i))

    -- all of them
    pub plays_alike : (keys : List Key) (w : World) (p q : List Indication) → P p q → I keys w
        → Withs (played read here keys (with_pushes w p)) (played read there keys (with_pushes w q))
    unfolding played
    plays_alike keys w p q alike i = plays_in_alike (length keys) keys w p q alike i

  -- with the same pushes
  pub plays_same : (read : List ℕ → Result Indication PushFault) (keys : List Key) (phone : Phone)
      → I keys phone.world
      → AlikeBy I Lost (λ (one : Stepped). one.step) (played read here keys phone)
      (played read there keys phone)
  plays_same read keys phone i =
      by (played read here keys phone) (played read there keys phone)
      (plays_alike Same same_shown read keys phone.world phone.pushes phone.pushes refl i)
    where
      by : (a b : Stepped) → WithAlike I Lost Same a b
          → AlikeBy I Lost (λ (one : Stepped). one.step) a b
      by a b (inl is) = inl (λ j. record { step = is.0 j; pushes = is.1 j }, is.2)
      by a b (inr lost) = inr lost
