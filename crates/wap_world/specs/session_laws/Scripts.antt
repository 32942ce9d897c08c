-- What may be known of the scripts of a site, whatever they do. This project's own.
use Rattle.std.specs.Prelude.{◌≤◌, ℕ, List, length, Option}
use Rattle.wap_url.specs.declared.url.Url.{Url}
use Rattle.wap_value.specs.declared.value.Value.{Value}
use Rattle.wap_world.specs.World.{World}
use Rattle.wap_world.specs.Steps.{Step}
use Rattle.wap_world.specs.Sites.{Ran, Site}

-- what is so of each run of a script: of the turns and the step before it, and of what it comes to
abbrev pub EachRun : (ℕ → Step → Ran → Type 0) → Site → Type 0
EachRun Fact site =
    (name : List ℕ) (base : Url) (referer : Option Url) (index : ℕ) (arguments : List Value)
    (turns : ℕ) (step : Step)
    → Fact turns step (site.run name base referer index arguments turns step)

-- no script gives turns back
abbrev pub GivesNoTurns : Site → Type 0
GivesNoTurns site = EachRun (λ turns step ran. ran.turns ≤ turns) site

-- no script makes keys
abbrev pub MakesNoKeys : Site → Type 0
MakesNoKeys site = EachRun (λ turns step ran. length ran.step.keys ≤ length step.keys) site

-- where this is so of the world before a script, it is so after it
abbrev pub ScriptsKeep : (World → Type 0) → Site → Type 0
ScriptsKeep Fact site = EachRun (λ turns step ran.
    Fact (record step.world { turns = turns }) → Fact (record ran.step.world { turns = ran.turns }))
    site
