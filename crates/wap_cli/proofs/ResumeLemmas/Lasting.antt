-- Keys that go on from what was saved.
use Rattle.std.proofs.Common.{◌≡◌, ℕ, List, [], ◌∷◌, ◌++◌, false, refl, sym, ap, ◌∙◌}
use Rattle.std.specs.Prelude.{map}
use Rattle.wap_base.specs.Controls.{shown_text}
use Rattle.wap_base.specs.declared.key.Key.{Key}
use Rattle.wap_base.specs.declared.key.Key.TheVariants as key
use Rattle.wap_push.specs.Pushes.{push_at}
use Rattle.wap_image.specs.declared.context_parts.parts.ContextParts.{ContextParts}
use Rattle.wap_world.specs.Shelves.{Shelf}
use Rattle.wap_world.specs.World.{World}
use Rattle.wap_layout.specs.buffer.Written.{lines_bytes}
use Rattle.wap_world.specs.Steps.{then_step}
use Rattle.wap_world.specs.Sessions.{Begun, world_of, unpushed, played}
use Rattle.wap_world.specs.session_laws.Standing.{HaveCards, StandsOnCard}
use Rattle.wap_world.proofs.ScriptingLawsLemmas.Keeping.{scripts_keep, card_in_scripts}
use Rattle.wap_world.specs.scripting.UnitSites.{Pages, shelf_of, units_site}
use Rattle.wap_context.specs.Sites.{fragment_call, site_of}
use Rattle.wap_cli.proofs.SavingLemmas.AtRest.{Rests, plays_rest}
use Rattle.wap_session.specs.Feeding.{left_open}
use Rattle.wap_cli.specs.browse.Handling.{bytes_of}
use Rattle.wap_cli.specs.browse.Plays.{opened, HaveNoPush}
use Rattle.wap_cli.proofs.BrowseLemmas.Stepping.{bytes_joined}
use Rattle.wap_cli.specs.resume.Saving.{played_in, EndsIn, IsWhole}
use Rattle.wap_cli.specs.resume.Resuming.{resumed, world_with, world_over}
use Rattle.wap_cli.proofs.ResumeLemmas.Reviving.{site_shelf}
use Rattle.wap_cli.proofs.ResumeLemmas.Budgets.{plays_budget}
use Rattle.wap_cli.proofs.ResumeLemmas.Leading.{over_same, made_again}

-- each key has its turns, so how many are left before it doesn't matter: keys show the same
same_lines : (pages : Pages) (keys : List Key) (world : World) (turns : ℕ)
    → (played_in (record world { turns = turns }) pages keys).lines
    ≡ (played_in world pages keys).lines
unfolding played
same_lines pages [] world turns = refl
same_lines pages (one ∷ keys) world turns = refl

-- and ask for the same
pub same_asked : (pages : Pages) (keys : List Key) (world : World) (turns : ℕ)
    → (played_in (record world { turns = turns }) pages keys).asked
    ≡ (played_in world pages keys).asked
unfolding played
same_asked pages [] world turns = refl
same_asked pages (one ∷ keys) world turns = refl

-- ---- where keys lead

module _ (begun : Begun) (pages : Pages) (cards : HaveCards (shelf_of pages)) where
  -- each key has as many turns where a session ends that began so
  budget_there : (keys : List Key) → (opened begun pages keys).world.budget ≡ begun.budget
  budget_there keys =
      plays_budget pages push_at (key.Open begun.url ∷ keys)
      (unpushed (world_of begun))

  -- and its world is at rest, unless a dialog stays open
  rests_there : (keys : List Key) → (opened begun pages keys).is_open ≡ false
      → Rests (shelf_of pages) (opened begun pages keys).world
  unfolding units_site
  rests_there keys shut =
      plays_rest (site_of pages)
      (scripts_keep (λ k. StandsOnCard (shelf_of pages)) (card_in_scripts (shelf_of pages))
      fragment_call pages) cards push_at (key.Open begun.url ∷ keys)
      (unpushed (world_of begun))
      (record { card = refl; timer = λ none. refl }, refl, λ is. cc is) shut

-- what was saved there leads back to it, with the turns of a key
pub leads_back : (begun : Begun) (pages : Pages) (first : List Key) (parts : ContextParts)
    → EndsIn begun pages first parts → IsWhole parts (opened begun pages first).world
    → HaveCards (shelf_of pages)
    → let again : World = record (opened begun pages first).world { turns = begun.budget } in
    (world_with parts begun.budget ≡ again) × (world_over (shelf_of pages) again ≡ again)
leads_back begun pages first parts ends whole cards =
    let world = (opened begun pages first).world in
    let rests = rests_there begun pages cards first ends.outside in
    let all = whole (record {
      none = rests.1;
      settled = rests.2;
      unstarted = rests.0.timer;
    }) in (
      made_again parts begun.budget world all (budget_there begun pages cards first),
      over_same (shelf_of pages) (record world { turns = begun.budget })
          (record { card = rests.0.card; timer = rests.0.timer }),
    )

pub goes_on : (begun : Begun) (pages : Pages) (first others : List Key) (parts : ContextParts)
    → EndsIn begun pages first parts → IsWhole parts (opened begun pages first).world
    → HaveNoPush first → HaveCards (shelf_of pages)
    → bytes_of (opened begun pages (first ++ others))
    ≡ bytes_of (opened begun pages first) ++ bytes_of (resumed parts begun.budget pages others)
goes_on begun pages first others parts ends whole none cards =
    let step = opened begun pages first in
    let more = played_in step.world pages others in
    let back = leads_back begun pages first parts ends whole cards in
    ap bytes_of (ends.on none others)
    ∙ bytes_joined (then_step (left_open step) more) step more refl
    ∙ ap (λ (lines : List (List ℕ)). bytes_of step ++ lines_bytes (map shown_text lines))
    (sym (same_lines pages others step.world begun.budget)
    ∙ ap (λ (w : World). (played_in w pages others).lines)
    (sym (ap (λ (s : Shelf). world_over s (world_with parts begun.budget)) (site_shelf pages)
    ∙ ap (world_over (shelf_of pages)) back.0 ∙ back.1)))
