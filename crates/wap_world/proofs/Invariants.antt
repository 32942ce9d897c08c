-- What each change of a world keeps, and each script, every key keeps: the walk over one site,
-- where nothing is lost.
use Rattle.std.proofs.Common.{◌≡◌, inl, List, Option, refl}
use Rattle.std.specs.Prelude.{⊤}
use Rattle.wap_base.specs.declared.key.Key.{Key}
use Rattle.wap_url.specs.declared.url.Url.{Url}
use Rattle.wap_cardrules.specs.declared.task.Go.{Go}
use Rattle.wap_cardrules.specs.Values.{Pairs}
use Rattle.wap_world.specs.Sites.{Ran, Site}
use Rattle.wap_world.specs.World.{World, Place, place_now}
use Rattle.wap_world.specs.Steps.{Step, Once}
use Rattle.wap_world.specs.Starting.{ended_script}
use Rattle.wap_world.specs.Tasks.{go, prev, onward, act}
use Rattle.wap_world.specs.Keys.{renewed, react}
use Rattle.wap_world.specs.session_laws.Scripts.{EachRun}
use Rattle.wap_world.proofs.Alike.{Fact, Never, never_lost, StepAlike, OnceAlike, unless_lost}
use Rattle.wap_world.proofs.Walk.{Names, Kept, SitesAlike, go_alike, prev_alike, ended_alike}
use Rattle.wap_world.proofs.Walk.{leads_alike, react_alike}

-- of any name
abbrev pub Any : Names
Any name = ⊤

-- each change of a world keeps the invariant
abbrev pub Keeps : Fact → Site → Type 0
Keeps I site = Kept I I Any site.shelf

-- and so does each script, its turns being those of the world
abbrev pub RunsKeep : Fact → Site → Type 0
RunsKeep I site = EachRun (λ turns step ran.
    I step.keys (record step.world { turns = turns })
    → I ran.step.keys (record ran.step.world { turns = ran.turns })) site

module _ (I : Fact) (site : Site) (kept : Keeps I site) (runs : RunsKeep I site) where
  itself : SitesAlike I I Never Any Any site site
  itself = record {
    losing = never_lost;
    kept = kept;
    unanswered = λ step i. inl i;
    call = refl;
    place = λ k w i. refl;
    fine = λ k w place i is. tt;
    asks = λ name fresh. inl tt;
    pages = λ name fine. refl;
    lets_in = λ name caller fine. inl tt;
    externals = λ name function same. refl;
    runs = λ name base referer index arguments turns step same i.
        inl (refl, runs name base referer index arguments turns step i);
  }

  of_step : (a : Step) → StepAlike I Never a a → I a.keys a.world
  of_step a same = (unless_lost I Never (λ (step : Step). step) a a (λ lost. lost) same).1

  of_once : (a : Once) → OnceAlike I Never a a → I a.step.keys a.step.world
  of_once a same = (unless_lost I Never (λ (once : Once). once.step) a a (λ lost. lost) same).1

  -- a go
  pub go_keeps : (keys : List Key) (place : Option Place) (base : Option Url) (one : Go)
      (w : World) → place_now site.shelf w ≡ place → I keys w
      → let once = go site place keys base one w in I once.step.keys once.step.world
  go_keeps keys place base one w is i =
      let once = go site place keys base one w in
      of_once once (go_alike I I Never Any Any site site itself keys place base one w is i)

  -- a prev
  pub prev_keeps : (keys : List Key) (place : Option Place) (sets : Pairs) (w : World)
      → place_now site.shelf w ≡ place → I keys w
      → let once = prev site.shelf place keys sets w in I once.step.keys once.step.world
  prev_keeps keys place sets w is i =
      let once = prev site.shelf place keys sets w in
      of_once once (prev_alike I I Never Any Any site site itself keys place sets w is i)

  -- the end of a script, and all that it leads to
  pub ended_keeps : (base : Url) (ran : Ran)
      → I ran.step.keys (record ran.step.world { turns = ran.turns })
      → let step = onward (act site) (ended_script site.shelf base ran) in I step.keys step.world
  ended_keeps base ran i =
      let once = ended_script site.shelf base ran in
      of_step (onward (act site) once)
      (leads_alike I I Never Any Any site site itself once once
      (ended_alike I I Never Any Any site site itself base ran ran (inl (refl, i))))

  -- a key, which has its turns
  pub react_keeps : (pressed : Key) (keys : List Key) (w : World) → I keys (renewed w)
      → let step = react site pressed keys w in I step.keys step.world
  react_keeps pressed keys w i =
      let step = react site pressed keys w in
      of_step step (react_alike I I Never Any Any site site itself pressed keys w i)
