-- Pushes that have the same winners: an inbox shows the same of them.
use Rattle.std.proofs.Common.{◌≡◌, ℕ, Bool, true, false, List, [], ◌∷◌, ◌++◌, ◌&&◌, map, cond}
use Rattle.std.proofs.Common.{Option, Some, None, refl, ap, sym, subst, ◌∙◌, inl, inr}
use Rattle.std.specs.Prelude.{Result, find}
use Rattle.std.specs.List.{AllByRecursion}
use Rattle.std.specs.List.Sorted.{IsStrictlySortedBy}
use Rattle.std.specs.declared.cmp.Ordering.TheVariants.{Less}
use Rattle.std.specs.Cmp.Lexicographic.{bytes_decides, nat_list_cmp_total}
use Rattle.std.proofs.lemmas.Cmp.{tied_itself}
use Rattle.wap_base.specs.Texts.{text_cmp}
use Rattle.wap_base.specs.declared.key.Key.{Key}
use Rattle.wap_push.specs.declared.indication.Indication.{Indication}
use Rattle.wap_push.specs.declared.fault.PushFault.{PushFault}
use Rattle.wap_push.specs.Inbox.{is_of, alerts, later, winner_of, inbox_of, HaveWinners}
use Rattle.wap_push.proofs.Latest.{after, winner_here, winner_elsewhere}
use Rattle.wap_push.proofs.Winner.{own_first, other_first}
use Rattle.wap_world.specs.Sites.{Site}
use Rattle.wap_world.specs.World.{World}
use Rattle.wap_world.specs.inboxes.Winners.{winners_of, Alike}
use Rattle.wap_world.specs.inboxes.Notices.{notice_line, notice_lines}
use Rattle.wap_world.specs.inboxes.Inboxes.{Stepped}
use Rattle.wap_world.specs.Sessions.{played, StepAlike}
use Rattle.wap_world.proofs.Alike.{Anything, Never, never_lost}
use Rattle.wap_world.proofs.Plays.{ShownAlike, WithAlike, plays_alike as plays}
use Rattle.wap_world.proofs.InboxesLemmas.Winning.{calculated, exactly}
use Rattle.wap_world.proofs.InboxesLemmas.Alerts.{passes, latest_passes}

-- ---- one more push

module _ (a b : List Indication) (alike : Alike a b) where
  -- each identifier has the same winner
  pub one_winner : (id : List ℕ) → winner_of a id ≡ winner_of b id
  one_winner id =
      sym ((calculated a).each id)
      ∙ ap (λ (winners : List Indication). find (is_of id) winners) alike
      ∙ (calculated b).each id

  -- and it still has after one more
  more_at : (more : Indication) (id : List ℕ) (own : Bool) → is_of id more ≡ own
      → winner_of (a ++ more ∷ []) id ≡ winner_of (b ++ more ∷ []) id
  more_at more id true is =
      winner_here a more id is
      ∙ ap (λ (found : Option Indication). Some (after found more)) (one_winner id)
      ∙ sym (winner_here b more id is)
  more_at more id false is =
      winner_elsewhere a more id is ∙ one_winner id ∙ sym (winner_elsewhere b more id is)

  -- so the winners are the same then
  pub more_alike : (more : Indication) → Alike (a ++ more ∷ []) (b ++ more ∷ [])
  more_alike more =
      (exactly (b ++ more ∷ []) (winners_of (a ++ more ∷ []))).0 (record {
        ordered = (calculated (a ++ more ∷ [])).ordered;
        each = λ id. (calculated (a ++ more ∷ [])).each id
            ∙ more_at more id (is_of id more) refl;
      })

  -- and it is shown of either
  pub notice_alike : (more : Indication) → notice_lines a more ≡ notice_lines b more
  notice_alike more =
      ap (λ (last : Bool).
      cond (alerts more.action && last) (notice_line more ∷ []) [])
      (latest_passes a more
      ∙ ap (λ (found : Option Indication). passes found more) (one_winner more.id)
      ∙ sym (latest_passes b more))

-- ---- winners have themselves as winners

-- none of an identifier among those of later ones
none_later : (id : List ℕ) (winners : List Indication)
    → AllByRecursion (λ other. text_cmp id other ≡ Less)
    (map (λ (winner : Indication). winner.id) winners)
    → winner_of winners id ≡ None
none_later id [] all = refl
none_later id (w ∷ ws) all = by (is_of id w) refl (none_later id ws all.1) where
  by : (own : Bool) → is_of id w ≡ own → winner_of ws id ≡ None → winner_of (w ∷ ws) id ≡ None
  by true is others =
      let same : id ≡ w.id = (bytes_decides id w.id).0 is in
      let less : text_cmp id id ≡ Less =
      subst (λ (other : List ℕ). text_cmp id other ≡ Less) (sym same) all.0 in
      absurd (cc (less, tied_itself nat_list_cmp_total id))
  by false is others = other_first id w ws is ∙ others

-- each is the winner of its identifier
own_at : (winners : List Indication)
    → IsStrictlySortedBy text_cmp (map (λ (winner : Indication). winner.id) winners)
    → (id : List ℕ) → find (is_of id) winners ≡ winner_of winners id
unfolding IsStrictlySortedBy
own_at [] sorted id = refl
own_at (w ∷ ws) sorted id = by (is_of id w) refl (own_at ws sorted.1 id) where
  by : (own : Bool) → is_of id w ≡ own → find (is_of id) ws ≡ winner_of ws id
      → cond own (Some w) (find (is_of id) ws) ≡ winner_of (w ∷ ws) id
  by true is others =
      let same : id ≡ w.id = (bytes_decides id w.id).0 is in
      let none : winner_of ws id ≡ None =
      none_later id ws
      (subst (λ (first : List ℕ). AllByRecursion (λ other. text_cmp first other ≡ Less)
      (map (λ (winner : Indication). winner.id) ws)) (sym same) sorted.0) in
      sym (own_first id w ws is ∙ ap (λ (found : Option Indication). Some (later w found)) none)
  by false is others = others ∙ sym (other_first id w ws is)

-- all of them
pub winners_win : (pushes winners : List Indication) → HaveWinners pushes winners
    → HaveWinners winners winners
winners_win pushes winners have =
    record { ordered = have.ordered; each = own_at winners have.ordered }

-- ---- what keys come to

-- they are shown alike, also after more
alike_shown : ShownAlike Alike
alike_shown = record {
  notices = λ p q more alike. notice_alike p q alike more;
  entries = λ p q alike. ap inbox_of alike;
  more = λ p q more alike. more_alike p q alike more;
}

-- so keys come to the same
pub plays_alike : (read : List ℕ → Result Indication PushFault) (site : Site) (keys : List Key)
    (world : World) (a b : List Indication) → Alike a b
    → StepAlike (played read site keys (record { world = world; pushes = a }))
    (played read site keys (record { world = world; pushes = b }))
plays_alike read site keys world a b alike =
    by (played read site keys (record { world = world; pushes = a }))
    (played read site keys (record { world = world; pushes = b }))
    (plays Anything Never never_lost site site (λ one k w i. inl (refl, tt)) (λ one k w i. tt)
    Alike alike_shown read keys world a b alike tt)
  where
    by : (one other : Stepped) → WithAlike Anything Never Alike one other → StepAlike one other
    by one other (inl is) = record { step = is.0; pushes = is.1 }
    by one other (inr lost) = absurd lost.0
