-- What keys do outside a dialog. This project's own.
use Rattle.std.specs.Prelude.{ℕ, List, Option}
use Rattle.std.specs.Option.{option_map_or}
use Rattle.wap_base.specs.declared.key.Key.{Key}
use Rattle.wap_push.specs.declared.indication.Indication.{Indication}
use Rattle.wap_push.specs.Pushes.{push_at}
use Rattle.wap_world.specs.World.{World, Place}
use Rattle.wap_world.specs.Steps.{Scene, Step}
use Rattle.wap_world.specs.Keys.{ignored, type_text}
use Rattle.wap_world.specs.inboxes.Inboxes.{play_pressed, pressed}
use Rattle.wap_world.specs.scripting.UnitSites.{Pages}
use Rattle.wap_context.specs.Sites.{site_of}

-- a text that is entered at a place
abbrev pub typed : ℕ → List ℕ → Option Place → World → Scene
typed n text place world = option_map_or (λ one. type_text n text one world) place (ignored world)

-- a key at a place, after these pushes, which has its turns already
abbrev pub press_rule : Option Place → List Indication → Key → Pages → List Key → World → Step
press_rule place pushes one pages keys world =
    play_pressed (site_of pages) place keys world (pressed push_at pushes one)
