use Rattle.std.proofs.Common.{◌≡◌, ◌∙◌, ℕ, List, [], ◌∷◌, Ok, refl, ap, subst, map, inl, inr}
use Rattle.std.specs.Option.{option_and_then}
use Rattle.wap_base.specs.declared.key.Key.{Key}
use Rattle.wap_base.specs.declared.key.Key.TheVariants as key
use Rattle.wap_push.specs.declared.indication.Indication.{Indication}
use Rattle.wap_push.specs.Inbox.{inbox_of, entry_at}
use Rattle.wap_push.specs.Pushes.{push_at}
use Rattle.wap_world.specs.declared.refusal.Refusal.TheVariants as refusals
use Rattle.wap_world.specs.site.Asking.{Seen}
use Rattle.wap_world.specs.World.{World}
use Rattle.wap_world.proofs.SiteLemmas.Asking.{Stays-same}
use Rattle.wap_world.specs.Steps.{quiet}
use Rattle.wap_world.specs.Keys.{apply, ignored}
use Rattle.wap_world.specs.Lines.{variable_line, refusal_line}
use Rattle.wap_world.specs.inboxes.Winners.{winners_of}
use Rattle.wap_world.specs.inboxes.Notices.{entry_lines}
use Rattle.wap_world.specs.inboxes.Inboxes.{telling, push_lines, pushes_with, opening, play_pressed}
use Rattle.wap_world.proofs.InboxesLemmas.Winning.{exactly}
use Rattle.wap_world.proofs.InboxesLemmas.Alike.{winners_win}
use Rattle.wap_world.specs.scripting.UnitSites.{Pages}
use Rattle.wap_context.specs.declared.waiting.Step.{Step as Did}
use Rattle.wap_context.specs.declared.waiting.Step.TheVariants.{Settled}
use Rattle.wap_context.specs.Acting.{Acts}
use Rattle.wap_context.specs.Browsers.{Browser, place_held}
use Rattle.wap_context.specs.Sites.{site_of}
use Rattle.wap_session.specs.inside.Pressing.{typed, press_rule}
use Rattle.wap_session.proofs.Rules.{Acts-same, Acts-shows, Acts-ignored, Acts-wants, shows_lines}
use Rattle.wap_session.proofs.Rules.{anyhow}
use Rattle.wap_session.proofs.Typing.{typed_keys}
use Rattle.wap_session.proofs.keys.press.Goals as goal

pub returns-in-Open-clause-acts : goal.returns-in-Open-clause-acts
returns-in-Open-clause-acts g c = rw c.in-Open.is c.open.ensures

pub returns-in-Open-clause-taken : goal.returns-in-Open-clause-taken
returns-in-Open-clause-taken g c = rw c.in-Open.is (anyhow c.open.result c.requires.own)

pub returns-in-Do-clause-acts : goal.returns-in-Do-clause-acts
returns-in-Do-clause-acts g c = rw c.in-Do.is c.run_do.ensures

pub returns-in-Do-clause-taken : goal.returns-in-Do-clause-taken
returns-in-Do-clause-taken g c = rw c.in-Do.is (anyhow c.run_do.result c.requires.own)

pub returns-in-Pick-clause-acts : goal.returns-in-Pick-clause-acts
returns-in-Pick-clause-acts g c = rw c.in-Pick.is c.follow_link.ensures

pub returns-in-Pick-clause-taken : goal.returns-in-Pick-clause-taken
returns-in-Pick-clause-taken g c = rw c.in-Pick.is (anyhow c.follow_link.result c.requires.own)

pub returns-in_ok-enter_text-in-Enter-clause-acts :
    goal.returns-in_ok-enter_text-in-Enter-clause-acts
returns-in_ok-enter_text-in-Enter-clause-acts g c =
    let old = c.args.context.now in
    let new = c.enter_text.new.context in
    let n = c.in-Enter.number in
    let text = c.in-Enter.text in
    let seen = g.P.Pages.seen c.args.pages.now in
    let lines = c.in_ok-enter_text-in-Enter.field-0 in
    rw c.in-Enter.is
    (Acts-same (λ pages keys world. quiet keys (typed n text (place_held old) world))
    (λ pages keys world. apply (site_of pages) (place_held old) keys world (key.Enter n text))
    seen seen old new
    (λ pages is keys. typed_keys (site_of pages) keys old.world n text (place_held old))
    (Ok (Settled lines))
    (Acts-shows (typed n text) seen old new lines c.in_ok-enter_text-in-Enter.ensures))

pub returns-in-Choose-clause-acts : goal.returns-in-Choose-clause-acts
returns-in-Choose-clause-acts g c = rw c.in-Choose.is c.choose_option.ensures

pub returns-in-Choose-clause-taken : goal.returns-in-Choose-clause-taken
returns-in-Choose-clause-taken g c =
    rw c.in-Choose.is (anyhow c.choose_option.result c.requires.own)

pub returns-in-Back-clause-acts : goal.returns-in-Back-clause-acts
returns-in-Back-clause-acts g c = rw c.in-Back.is c.go_back.ensures

pub returns-in-Back-clause-taken : goal.returns-in-Back-clause-taken
returns-in-Back-clause-taken g c = rw c.in-Back.is (anyhow c.go_back.result c.requires.own)

pub returns-in-Tick-clause-acts : goal.returns-in-Tick-clause-acts
returns-in-Tick-clause-acts g c = rw c.in-Tick.is c.tick.ensures

pub returns-in-Tick-clause-taken : goal.returns-in-Tick-clause-taken
returns-in-Tick-clause-taken g c = rw c.in-Tick.is (anyhow c.tick.result c.requires.own)

pub returns-in_err-enter_text-in-Enter-clause-acts :
    goal.returns-in_err-enter_text-in-Enter-clause-acts
returns-in_err-enter_text-in-Enter-clause-acts g c =
    Acts-wants _ (g.P.Pages.seen c.args.pages.now) (g.P.Pages.seen c.args.pages.now)
    c.args.context.now c.enter_text.new.context c.from_residual.result
    (Stays-same (g.P.Pages.seen c.args.pages.now)) c.from_residual.ensures.1

pub returns-in_err-variable_lines-in-Vars-clause-acts :
    goal.returns-in_err-variable_lines-in-Vars-clause-acts
returns-in_err-variable_lines-in-Vars-clause-acts g c =
    Acts-wants _ (g.P.Pages.seen c.args.pages.now) (g.P.Pages.seen c.args.pages.now)
    c.args.context.now c.args.context.now c.from_residual-in_err-variable_lines-in-Vars.result
    (Stays-same (g.P.Pages.seen c.args.pages.now))
    c.from_residual-in_err-variable_lines-in-Vars.ensures.1

pub returns-in_err-ignore-in-Ok-clause-acts : goal.returns-in_err-ignore-in-Ok-clause-acts
returns-in_err-ignore-in-Ok-clause-acts g c =
    Acts-wants _ (g.P.Pages.seen c.args.pages.now) (g.P.Pages.seen c.args.pages.now)
    c.args.context.now c.args.context.now c.from_residual-in_err-ignore-in-Ok.result
    (Stays-same (g.P.Pages.seen c.args.pages.now)) c.from_residual-in_err-ignore-in-Ok.ensures.1

pub returns-in_ok-variable_lines-in-Vars-clause-acts :
    goal.returns-in_ok-variable_lines-in-Vars-clause-acts
returns-in_ok-variable_lines-in-Vars-clause-acts g c =
    rw c.in-Vars.is (Acts-shows
    (λ place world. record { world = world; lines = map variable_line world.vars })
    (g.P.Pages.seen c.args.pages.now) c.args.context.now c.args.context.now
    c.in_ok-variable_lines-in-Vars.field-0 (record {
      plays = record {
        world = refl;
        lines = c.in_ok-variable_lines-in-Vars.ensures ∙ ap (map variable_line) c.vars.ensures;
        kept = refl;
      };
      deck = refl;
    }))

-- a key that fits nothing outside a dialog
ignores : (one : Key) (pushes : List Indication) (seen : Seen) (browser : Browser) (did : Did)
    → did ≡ Settled (refusal_line refusals.Ignored ∷ []) → (other : Key) → one ≡ other
    → ((pages : Pages) (keys : List Key) (w : World)
    → press_rule (place_held browser) pushes other pages keys w ≡ quiet keys (ignored w))
    → Acts (press_rule (place_held browser) pushes one) seen seen browser browser (Ok did)
ignores one pushes seen browser did is other same fits =
    Acts-ignored (press_rule (place_held browser) pushes one) seen browser did is
    (λ pages over keys.
    ap (λ (key : Key). press_rule (place_held browser) pushes key pages keys browser.world) same
    ∙ fits pages keys browser.world)

pub returns-in_ok-ignore-in-Ok-clause-acts : goal.returns-in_ok-ignore-in-Ok-clause-acts
returns-in_ok-ignore-in-Ok-clause-acts g c =
    let so = ignores c.args.key.now c.args.inbox.now (g.P.Pages.seen c.args.pages.now)
    c.args.context.now c.in_ok-ignore-in-Ok.field-0 c.in_ok-ignore-in-Ok.ensures in
    elim c.in-Ok.is [
      | inl is ↦ so key.Ok is (λ pages keys w. refl)
      | inr one ↦ elim one [
        | inl is ↦ so key.Cancel is (λ pages keys w. refl)
        | inr two ↦ elim two [
          | inl is ↦ so (key.Answer is.0) is.1 (λ pages keys w. refl)
          | inr is ↦ so key.Stop is (λ pages keys w. refl)
        ]
      ]
    ]

-- ---- the inbox

-- lines that are told
told : (lines : List (List ℕ)) (seen : Seen) (browser : Browser) (shown : List (List ℕ))
    → shown ≡ lines → Acts (λ pages keys world. telling keys world lines) seen seen browser browser
    (Ok (Settled shown))
told lines seen browser shown is =
    Acts-shows (λ place world. record { world = world; lines = lines }) seen browser browser shown
    (shows_lines browser lines shown is)

pub returns-in_err-take_push-in-Push-clause-acts : goal.returns-in_err-take_push-in-Push-clause-acts
returns-in_err-take_push-in-Push-clause-acts g c =
    Acts-wants _ (g.P.Pages.seen c.args.pages.now) (g.P.Pages.seen c.args.pages.now)
    c.args.context.now c.args.context.now c.from_residual-in_err-take_push-in-Push.result
    (Stays-same (g.P.Pages.seen c.args.pages.now))
    c.from_residual-in_err-take_push-in-Push.ensures.1

pub returns-in_ok-take_push-in-Push-clause-acts : goal.returns-in_ok-take_push-in-Push-clause-acts
returns-in_ok-take_push-in-Push-clause-acts g c =
    let lines = λ (bytes : List ℕ). push_lines c.args.inbox.now (push_at bytes) in
    rw c.in-Push.is (told (lines c.in-Push.bytes) (g.P.Pages.seen c.args.pages.now)
    c.args.context.now c.in_ok-take_push-in-Push.field-0
    (c.in_ok-take_push-in-Push.ensures.lines ∙ ap lines c.as_slice.ensures))

pub returns-in_ok-take_push-in-Push-clause-own : goal.returns-in_ok-take_push-in-Push-clause-own
returns-in_ok-take_push-in-Push-clause-own g c =
    winners_win (pushes_with c.args.inbox.now (push_at c.as_slice.result.now))
    c.take_push.new.inbox c.in_ok-take_push-in-Push.ensures.taken

pub returns-in_err-entry_lines-in-Inbox-clause-acts :
    goal.returns-in_err-entry_lines-in-Inbox-clause-acts
returns-in_err-entry_lines-in-Inbox-clause-acts g c =
    Acts-wants _ (g.P.Pages.seen c.args.pages.now) (g.P.Pages.seen c.args.pages.now)
    c.args.context.now c.args.context.now c.from_residual-in_err-entry_lines-in-Inbox.result
    (Stays-same (g.P.Pages.seen c.args.pages.now))
    c.from_residual-in_err-entry_lines-in-Inbox.ensures.1

-- winners are the winners of themselves
pub returns-in_ok-entry_lines-in-Inbox-clause-acts :
    goal.returns-in_ok-entry_lines-in-Inbox-clause-acts
returns-in_ok-entry_lines-in-Inbox-clause-acts g c =
    let winners = c.args.inbox.now in
    let lines = λ (all : List Indication). entry_lines 1 (inbox_of all) in
    rw c.in-Inbox.is (told (lines (winners_of winners)) (g.P.Pages.seen c.args.pages.now)
    c.args.context.now c.in_ok-entry_lines-in-Inbox.field-0
    (c.in_ok-entry_lines-in-Inbox.ensures
    ∙ ap lines ((exactly winners winners).0 c.requires.own)))

pub returns-in-Follow-clause-acts : goal.returns-in-Follow-clause-acts
returns-in-Follow-clause-acts g c =
    let winners = c.args.inbox.now in
    rw c.in-Follow.is (subst (λ (all : List Indication).
    Acts (λ pages keys world.
    play_pressed (site_of pages) (place_held c.args.context.now) keys world
    (opening (option_and_then (λ entry. entry.href)
    (entry_at (inbox_of all) c.in-Follow.number))))
    (g.P.Pages.seen c.args.pages.now) (g.P.Pages.seen c.follow_entry.new.pages)
    c.args.context.now c.follow_entry.new.context c.follow_entry.result)
    ((exactly winners winners).0 c.requires.own) c.follow_entry.ensures)
