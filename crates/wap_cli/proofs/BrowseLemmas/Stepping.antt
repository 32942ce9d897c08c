-- One step, and then another.
use Rattle.std.proofs.Common.{◌≡◌, ℕ, List, [], ◌++◌, sym, ap, ◌∙◌}
use Rattle.std.specs.Prelude.{map, is_some}
use Rattle.std.proofs.lemmas.List.{map-append, append-nil}
use Rattle.std.proofs.lemmas.Grind.{flat_map-append}
use Rattle.wap_base.specs.Controls.{shown_text}
use Rattle.wap_base.specs.declared.key.Key.{Key}
use Rattle.wap_layout.specs.buffer.Written.{line_bytes, lines_bytes}
use Rattle.wap_world.specs.Steps.{Step, then_step}
use Rattle.wap_world.specs.scripting.UnitSites.{Pages}
use Rattle.wap_session.specs.Feeding.{State, step_of, left_open}
use Rattle.wap_session.proofs.Playing.{step_none}
use Rattle.wap_cli.specs.browse.Handling.{bytes_of}

-- ---- bytes

-- the bytes of lines in two parts
lines_bytes-append : (first others : List (List ℕ))
    → lines_bytes (map shown_text (first ++ others))
    ≡ lines_bytes (map shown_text first) ++ lines_bytes (map shown_text others)
lines_bytes-append first others =
    ap lines_bytes (map-append shown_text first others)
    ∙ flat_map-append line_bytes (map shown_text first) (map shown_text others)

-- the bytes of two steps
pub bytes_joined : (all one two : Step) → all ≡ then_step (left_open one) two
    → bytes_of all ≡ bytes_of one ++ bytes_of two
bytes_joined all one two is = ap bytes_of is ∙ lines_bytes-append one.lines two.lines

-- and what they ask for
pub asked_joined : (all one two : Step) → all ≡ then_step (left_open one) two
    → all.asked ≡ one.asked ++ two.asked
asked_joined all one two is = ap (λ (s : Step). s.asked) is

-- ---- where keys lead

module _ (pages : Pages) (play : List Key → Step) (given : List Key) (state : State)
    (on : (others : List Key) → play (given ++ others)
    ≡ then_step (left_open (play given)) (step_of pages others state)) where
  -- a dialog is open exactly where a script waits
  pub open_there : (play given).is_open ≡ is_some state.waiting
  open_there =
      ap (λ (keys : List Key). (play keys).is_open) (sym (append-nil given))
      ∙ ap (λ (s : Step). s.is_open) (on [])
      ∙ ap (λ (s : Step). s.is_open) (step_none pages state)

  -- the world is that of the session
  pub world_there : state.browser.world ≡ (play given).world
  world_there =
      sym (ap (λ (s : Step). s.world) (step_none pages state))
      ∙ sym (ap (λ (s : Step). s.world) (on []))
      ∙ ap (λ (keys : List Key). (play keys).world) (append-nil given)
