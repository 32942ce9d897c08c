-- The texts in an option, child by child.
use Rattle.std.proofs.Common.{◌≡◌, List, ◌∷◌, map, ap, append_assoc}
use Rattle.std.specs.List.{filter_map, cons_option}
use Rattle.wap_base.specs.declared.name.Part.{Part}
use Rattle.wap_tokens.specs.declared.markup.deck.Node.{Node}
use Rattle.wap_tokens.specs.declared.markup.deck.Item.{Item}
use Rattle.wap_tokens.specs.declared.markup.deck.Item.TheVariants as item
use Rattle.wap_tokens.specs.markup.Trees.{ItemLevel, words_from, words_of}
use Rattle.wap_layout.specs.declared.flow.Flow.{Flow}
use Rattle.wap_layout.specs.declared.flow.Flow.TheVariants.{Words}
use Rattle.wap_vars.specs.Variables.{Variables}
use Rattle.wap_vars.specs.Filling.{filled}
use Rattle.wap_deck.proofs.GoodLemmas.Layers.{out_node, out_text}

abbrev pub texts_flow : Variables → List Item → List Flow
texts_flow vars items =
    map (λ parts. Words (filled vars parts)) (filter_map words_of items)

-- of an opened item, and of those after it
abbrev flow_behind : Variables → List Item → ItemLevel → List Flow
flow_behind vars items level =
    map (λ parts. Words (filled vars parts))
    (cons_option (words_from level) (filter_map words_of items))

module _ (vars : Variables) (items : List Item) where
  pub texts_text : (parts : List Part)
      → texts_flow vars (item.Text parts ∷ items)
      ≡ Words (filled vars parts) ∷ texts_flow vars items
  texts_text parts = ap (flow_behind vars items) (out_text parts)

  pub texts_node : (node : Node)
      → texts_flow vars (item.Node node ∷ items) ≡ texts_flow vars items
  texts_node node = ap (flow_behind vars items) (out_node node)

pub ruleset text_steps = (texts_text, texts_node, append_assoc)
