-- What is shown when an indication comes is what an inbox says of it.
use Rattle.std.proofs.Common.{◌≡◌, ◌≤◌, ◌<◌, Bool, true, false, cond, List, [], ◌∷◌, ◌++◌, Option}
use Rattle.std.proofs.Common.{Some, None, refl, ap, sym, subst, ◌∙◌, nat_le, ◌&&◌, ◌||◌, arith}
use Rattle.std.specs.Prelude.{not, ◌↔◌}
use Rattle.std.proofs.lemmas.Bool.{and_from, and_parts, leb-true, leb-false, le-leb}
use Rattle.std.specs.Cmp.Lexicographic.{bytes_decides}
use Rattle.wap_push.specs.declared.indication.Indication.{Indication}
use Rattle.wap_push.specs.Inbox.{is_of, alerts, later, winner_of, IsAlert}
use Rattle.wap_push.proofs.Latest.{after, winner_here}
use Rattle.wap_push.proofs.Winner.{own_first, other_first}
use Rattle.wap_world.specs.inboxes.Notices.{is_latest}

-- whether a winner, if there is one, was made no later
abbrev pub passes : Option Indication → Indication → Bool
passes None more = true
passes (Some winner) more = nat_le winner.created more.created

-- of two, the one that was made later
two_pass : (p w more : Indication) (pw pm wm : Bool) → nat_le p.created w.created ≡ pw
    → nat_le p.created more.created ≡ pm → nat_le w.created more.created ≡ wm
    → (pm && wm) ≡ passes (Some (cond pw w p)) more
two_pass p w more true true wm pw_is pm_is wm_is = sym wm_is
two_pass p w more true false true pw_is pm_is wm_is =
    let below : p.created ≤ w.created = leb-true p.created w.created pw_is in
    let above : w.created ≤ more.created = leb-true w.created more.created wm_is in
    let all : nat_le p.created more.created ≡ true =
    le-leb p.created more.created (omega arith) in
    absurd (cc (all, pm_is))
two_pass p w more true false false pw_is pm_is wm_is = sym wm_is
two_pass p w more false true true pw_is pm_is wm_is = sym pm_is
two_pass p w more false true false pw_is pm_is wm_is =
    let below : w.created < p.created = leb-false p.created w.created pw_is in
    let above : p.created ≤ more.created = leb-true p.created more.created pm_is in
    let all : nat_le w.created more.created ≡ true =
    le-leb w.created more.created (omega arith) in
    absurd (cc (all, wm_is))
two_pass p w more false false wm pw_is pm_is wm_is = sym pm_is

-- one push of the identifier before the others
first_passes : (p more : Indication) (found : Option Indication)
    → (nat_le p.created more.created && passes found more) ≡ passes (Some (later p found)) more
first_passes p more None = right_true (nat_le p.created more.created) where
  right_true : (b : Bool) → (b && true) ≡ b
  right_true true = refl
  right_true false = refl
first_passes p more (Some w) =
    two_pass p w more (nat_le p.created w.created) (nat_le p.created more.created)
    (nat_le w.created more.created) refl refl refl

-- no push of the identifier was made later where its winner wasn't
pub latest_passes : (pushes : List Indication) (more : Indication)
    → is_latest pushes more ≡ passes (winner_of pushes more.id) more
latest_passes [] more = refl
latest_passes (p ∷ ps) more = by (is_of more.id p) refl (latest_passes ps more) where
  by : (b : Bool) → is_of more.id p ≡ b
      → is_latest ps more ≡ passes (winner_of ps more.id) more
      → ((not (is_of more.id p) || nat_le p.created more.created) && is_latest ps more)
      ≡ passes (winner_of (p ∷ ps) more.id) more
  by true is rest =
      ap (λ (b : Bool). (not b || nat_le p.created more.created) && is_latest ps more) is
      ∙ ap (λ (b : Bool). nat_le p.created more.created && b) rest
      ∙ first_passes p more (winner_of ps more.id)
      ∙ ap (λ (found : Option Indication). passes found more) (sym (own_first more.id p ps is))
  by false is rest =
      ap (λ (b : Bool). (not b || nat_le p.created more.created) && is_latest ps more) is
      ∙ rest
      ∙ ap (λ (found : Option Indication). passes found more) (sym (other_first more.id p ps is))

-- a push that passes wins
wins_over : (found : Option Indication) (more : Indication) → passes found more ≡ true
    → after found more ≡ more
wins_over None more is = refl
wins_over (Some winner) more is = ap (λ (b : Bool). cond b more winner) is

-- and one that doesn't, doesn't
loses_to : (found : Option Indication) (more : Indication) (b : Bool) → passes found more ≡ b
    → after found more ≡ more → b ≡ true
loses_to None more b is won = sym is
loses_to (Some winner) more true is won = refl
loses_to (Some winner) more false is won =
    let same : winner ≡ more = sym (ap (λ (b : Bool). cond b more winner) is) ∙ won in
    let less : more.created < winner.created = leb-false winner.created more.created is in
    let now : more.created < more.created =
    subst (λ (w : Indication). more.created < w.created) same less in
    absurd (omega arith)

-- the two are one answer
pub alert_is : (pushes : List Indication) (more : Indication)
    → ((alerts more.action && is_latest pushes more) ≡ true) ↔ IsAlert (pushes ++ more ∷ []) more
alert_is pushes more =
    let here : winner_of (pushes ++ more ∷ []) more.id
    ≡ Some (after (winner_of pushes more.id) more) =
    winner_here pushes more more.id ((bytes_decides more.id more.id).1 refl) in (
      λ both.
          let parts = and_parts (alerts more.action) (is_latest pushes more) both in
          record {
            wins = here ∙ ap Some (wins_over (winner_of pushes more.id) more
                (sym (latest_passes pushes more) ∙ parts.1));
            shown = parts.0;
          },
      λ alert.
          let won : after (winner_of pushes more.id) more ≡ more = cc (here, alert.wins) in
          and_from (alerts more.action) (is_latest pushes more) alert.shown
          (latest_passes pushes more
          ∙ loses_to (winner_of pushes more.id) more (passes (winner_of pushes more.id) more) refl
          won),
    )
