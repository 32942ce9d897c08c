-- What is found among the children of a node, child by child.
use Rattle.std.proofs.Common.{◌≡◌, true, false, cond, List, ◌∷◌, Some, None, ap, ◌∙◌, append_assoc}
use Rattle.std.specs.List.{filter_map, cons_option}
use Rattle.wap_base.specs.declared.name.Part.{Part}
use Rattle.wap_tokens.specs.declared.markup.deck.Node.{Node}
use Rattle.wap_tokens.specs.declared.markup.deck.Item.{Item}
use Rattle.wap_tokens.specs.declared.markup.deck.Item.TheVariants as item
use Rattle.wap_tokens.specs.declared.markup.name.Tag.{Tag}
use Rattle.wap_tokens.specs.markup.Tables.{is_same_tag}
use Rattle.wap_tokens.specs.markup.Trees.{node_of, node_from, node_with, if_tagged}
use Rattle.wap_deck.proofs.GoodLemmas.Layers.{out_node, out_text}

-- ---- nodes

module _ (items : List Item) where
  pub nodes_of_node : (node : Node)
      → filter_map node_of (item.Node node ∷ items) ≡ node ∷ filter_map node_of items
  nodes_of_node node =
      ap (λ level. cons_option (node_from level) (filter_map node_of items)) (out_node node)

  pub nodes_of_text : (parts : List Part)
      → filter_map node_of (item.Text parts ∷ items) ≡ filter_map node_of items
  nodes_of_text parts =
      ap (λ level. cons_option (node_from level) (filter_map node_of items)) (out_text parts)

-- ---- nodes with a tag

module _ (tag : Tag) (items : List Item) where
  abbrev others : List Node
  others = filter_map (node_with tag) items

  pub tagged_here : (node : Node) → is_same_tag node.tag tag ≡ true
      → filter_map (node_with tag) (item.Node node ∷ items)
      ≡ node ∷ filter_map (node_with tag) items
  tagged_here node is =
      ap (λ level. cons_option (if_tagged tag (node_from level)) others) (out_node node)
      ∙ ap (λ b. cons_option (cond b (Some node) None) others) is

  pub tagged_behind : (node : Node) → is_same_tag node.tag tag ≡ false
      → filter_map (node_with tag) (item.Node node ∷ items) ≡ filter_map (node_with tag) items
  tagged_behind node isnt =
      ap (λ level. cons_option (if_tagged tag (node_from level)) others) (out_node node)
      ∙ ap (λ b. cons_option (cond b (Some node) None) others) isnt

  pub tagged_after_text : (parts : List Part)
      → filter_map (node_with tag) (item.Text parts ∷ items) ≡ filter_map (node_with tag) items
  tagged_after_text parts =
      ap (λ level. cons_option (if_tagged tag (node_from level)) others) (out_text parts)

pub ruleset node_steps =
    (nodes_of_node, nodes_of_text, tagged_here, tagged_behind, tagged_after_text)

pub ruleset pair_steps = (tagged_here, tagged_behind, tagged_after_text, append_assoc)
