-- The options of a select, one after another.
use Rattle.std.proofs.Common.{◌≡◌, ℕ, ◌+◌, ◌<◌, min, Bool, false, List, ◌++◌}
use Rattle.std.proofs.Common.{length, take, get_or, sym, ap, ap₂, ◌∙◌, arith}
use Rattle.std.specs.List.{flat_map, zip, enumerate_from}
use Rattle.std.proofs.lemmas.List.{take_all, flat_map_more, get_or_default}
use Rattle.std.proofs.lemmas.Slice.Zip.{length-zip, get_or-zip}
use Rattle.wap_tokens.specs.declared.markup.deck.Node.{Node}
use Rattle.wap_layout.specs.declared.flow.Flow.{Flow}
use Rattle.wap_vars.specs.Variables.{Variables}
use Rattle.wap_cards.proofs.InputsLemmas.Marking.{enumerate_next}
use Rattle.wap_cardrules.specs.Flow.{option_flow}

abbrev pub options_flow : Variables → ℕ → List (Bool × Node) → List Flow
options_flow vars select options = flat_map (option_flow vars select) (enumerate_from 1 options)

module _ (vars : Variables) (select : ℕ) (choice : List Bool) (options : List Node) where
  abbrev pairs : List (Bool × Node)
  pairs = zip choice options

  abbrev flow_to : ℕ → List Flow
  flow_to i = options_flow vars select (take i pairs)

  abbrev flow_at : ℕ → Node → List Flow
  flow_at i option = option_flow vars select (i + 1, (get_or choice i false, option))

  -- one more option
  pub option_next : (flow : List Flow) (i : ℕ) (option : Node)
      → i < min (length choice) (length options) → option ≡ get_or options i option
      → flow ++ flow_to (i + 1) ≡ (flow ++ flow_to i) ++ flow_at i option
  option_next flow i option within is =
      let chosen : Bool = get_or choice i false in
      let inside : i < length pairs = omega (arith, length-zip choice options) in
      let here : (chosen, option) ≡ get_or pairs i (chosen, option) =
      ap₂ (λ (c : Bool) (o : Node). (c, o))
      (get_or_default choice i false chosen (omega arith)) is
      ∙ sym (get_or-zip choice options i (chosen, option) (omega arith) (omega arith)) in
      ap (λ ones. flow ++ flat_map (option_flow vars select) ones)
      (enumerate_next pairs i (chosen, option) inside here)
      ∙ sym (flat_map_more (option_flow vars select) flow (enumerate_from 1 (take i pairs))
      (i + 1, (chosen, option)))

  -- the flow of all options
  pub options_end : (i : ℕ) → i ≡ min (length choice) (length options)
      → flow_to i ≡ options_flow vars select pairs
  options_end i all =
      ap (options_flow vars select)
      (take_all i pairs (omega (arith, all, length-zip choice options)))
