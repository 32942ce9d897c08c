-- A key that is ignored without a look at the card or the inbox.
use Rattle.std.proofs.Common.{◌≡◌, ℕ, List, [], ◌∷◌, Bool, true, false, Option, None, Ok, refl, sym}
use Rattle.std.proofs.Common.{ap, subst, ◌∙◌}
use Rattle.std.specs.Prelude.{is_some, is_none, not, ◌&&◌}
use Rattle.wap_base.specs.declared.key.Key.{Key}
use Rattle.wap_base.specs.declared.key.Key.TheVariants as key
use Rattle.wap_push.specs.declared.indication.Indication.{Indication}
use Rattle.wap_push.specs.Inbox.{HaveWinners}
use Rattle.wap_push.specs.Pushes.{push_at}
use Rattle.wap_world.specs.site.Asking.{Seen}
use Rattle.wap_world.specs.declared.refusal.Refusal.TheVariants.{Ignored}
use Rattle.wap_world.specs.Lines.{refusal_line}
use Rattle.wap_world.specs.inboxes.Inboxes.{pushes_after}
use Rattle.wap_world.specs.scripting.UnitSites.{unit_pages}
use Rattle.wap_world.specs.scripting.Waiting.{Waits}
use Rattle.wap_context.specs.declared.waiting.Step.{Step as Did}
use Rattle.wap_context.specs.declared.waiting.Step.TheVariants.{Settled}
use Rattle.wap_context.specs.Acting.{Acts}
use Rattle.wap_context.specs.Browsers.{Browser, place_held}
use Rattle.wap_context.specs.Sites.{IfOver}
use Rattle.wap_session.specs.Feeding.{State, TurnsTo, Plays}
use Rattle.wap_session.specs.declared.standing.Standing.{Standing}
use Rattle.wap_session.specs.declared.standing.Standing.TheVariants.{Rest}
use Rattle.wap_session.specs.Ignoring.{fits_nothing}
use Rattle.wap_session.specs.inside.Turns.{waiting_of, is_over, state_of, turn_rule, taken_by}
use Rattle.wap_session.specs.inside.Pressing.{press_rule}
use Rattle.wap_session.proofs.Rules.{Acts-leads, Acts-ignored}
use Rattle.wap_session.proofs.Turning.{rest_leads, in_session, taken_in, played_ok, turns_by}
use Rattle.wap_session.proofs.Typing.{fits}

-- a session at rest
at_rest : (standing : Standing)
    → (is_none (waiting_of standing) && not (is_over standing)) ≡ true
    → (waiting_of standing ≡ None) × (is_over standing ≡ false)
at_rest Rest rests = (refl, refl)
at_rest _ rests = absurd cc

-- a key that fits nothing takes no push
takes_none : (has_card : Bool) (one : Key) (pushes : List Indication)
    → fits_nothing has_card one ≡ true → pushes_after push_at pushes one ≡ pushes
takes_none has_card (key.Push bytes) pushes nothing = absurd cc
takes_none has_card one pushes nothing = refl

module _ (one : Key) (first last : Browser) (standing : Standing) (winners : List Indication)
    (old : State) (was : state_of first standing winners ≡ old) (own : HaveWinners winners winners)
    (rests : (is_none old.waiting && not old.is_over) ≡ true)
    (nothing : fits_nothing (is_some (place_held first)) one ≡ true)
    (budget : ℕ) (same : budget ≡ first.world.budget)
    (began : last
    ≡ record first { world = record first.world { budget = budget; turns = budget } }) where
  -- what it does
  abbrev did : Did
  did = Settled (refusal_line Ignored ∷ [])

  abbrev new : State
  new = state_of last standing winners

  stands : (waiting_of standing ≡ None) × (is_over standing ≡ false)
  stands =
      at_rest standing
      (ap (λ (state : State). is_none state.waiting && not state.is_over) was ∙ rests)

  -- a card is at hand where it was
  place_stays : is_some (place_held last) ≡ is_some (place_held first)
  place_stays = ap (λ (browser : Browser). is_some (place_held browser)) began

  acts : (seen : Seen)
      → Acts (turn_rule old.waiting old.winners one) seen seen old.browser last (Ok did)
  acts seen =
      in_session one first winners {standing = standing} refl was
      (subst (λ (o : Option Waits). Acts (turn_rule o winners one) seen seen first last (Ok did))
      (sym stands.0)
      (Acts-leads (press_rule (place_held last) winners one) (turn_rule None winners one)
      seen seen last first last (rest_leads one winners first last budget began same) (Ok did)
      (Acts-ignored (press_rule (place_held last) winners one) seen last did refl
      (λ pages over keys. fits one winners pages keys last.world (place_held last)
      (ap (λ has_card. fits_nothing has_card one) place_stays ∙ nothing)))))

  -- no push is taken
  kept : HaveWinners (taken_by old.waiting old.winners one) winners
  kept =
      taken_in one first winners {standing = standing} refl was
      (subst (λ (o : Option Waits). HaveWinners (taken_by o winners one) winners) (sym stands.0)
      (subst (λ (pushes : List Indication). HaveWinners pushes winners)
      (sym (takes_none (is_some (place_held first)) one winners nothing)) own))

  -- it is played, and shows that line
  pub ignored_plays : (seen : Seen) → Plays (one ∷ []) seen seen old new
      (Ok (refusal_line Ignored ∷ []))
  ignored_plays seen =
      played_ok one old new did stands.0 (refusal_line Ignored ∷ []) refl stands.1
      (ap (λ (state : State). state.is_over) (sym was) ∙ stands.1) kept (acts seen)

  -- and leaves the rest to further keys
  pub ignored_turns : (seen : Seen) → IfOver seen old.browser (λ pages. TurnsTo one pages old new)
  ignored_turns seen judged may is =
      turns_by one old new did stands.0 (unit_pages judged) ((acts seen).follows judged may is)
