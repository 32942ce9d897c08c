-- The options in a node, child by child.
use Rattle.std.proofs.Common.{◌≡◌, ℕ, suc, ◌-◌, ◌<◌, List, [], ◌∷◌, ◌++◌}
use Rattle.std.proofs.Common.{filter, ap, subst, ◌∙◌, append_assoc, arith}
use Rattle.std.proofs.lemmas.List.Elements.{filter-append}
use Rattle.wap_base.specs.declared.name.Part.{Part}
use Rattle.wap_tokens.specs.declared.markup.deck.Node.{Node}
use Rattle.wap_tokens.specs.declared.markup.deck.Item.{Item}
use Rattle.wap_tokens.specs.declared.markup.deck.Item.TheVariants as item
use Rattle.wap_tokens.specs.declared.markup.name.Tag.TheVariants as tags
use Rattle.wap_tokens.specs.markup.Tables.{is_same_tag}
use Rattle.wap_tokens.specs.markup.Good.{nodes_in}
use Rattle.wap_deck.proofs.GoodLemmas.Layers.{nodes_after_node, nodes_after_text}

abbrev pub options_in : List Node → List Node
options_in nodes = filter (λ one. is_same_tag one.tag tags.Option) nodes

module _ (levels : ℕ) (items : List Item) where
  pub options_after_node : (node : Node) → 0 < levels
      → options_in (nodes_in levels (item.Node node ∷ items))
      ≡ options_in (node ∷ [])
      ++ (options_in (nodes_in (levels - 1) node.kids) ++ options_in (nodes_in levels items))
  options_after_node node some =
      let deep : suc (levels - 1) ≡ levels = omega arith in
      subst (λ all. options_in (nodes_in all (item.Node node ∷ items))
      ≡ options_in (node ∷ [])
      ++ (options_in (nodes_in (levels - 1) node.kids) ++ options_in (nodes_in all items))) deep
      (at (levels - 1))
    where
      at : (below : ℕ)
          → options_in (nodes_in (suc below) (item.Node node ∷ items))
          ≡ options_in (node ∷ [])
          ++ (options_in (nodes_in below node.kids) ++ options_in (nodes_in (suc below) items))
      at below =
          ap options_in (nodes_after_node below node items)
          ∙ filter-append (λ one. is_same_tag one.tag tags.Option) (node ∷ nodes_in below node.kids)
          (nodes_in (suc below) items)
          ∙ ap (λ more. more ++ options_in (nodes_in (suc below) items)) (filter-append
          (λ one. is_same_tag one.tag tags.Option) (node ∷ []) (nodes_in below node.kids))
          ∙ append_assoc (options_in (node ∷ [])) (options_in (nodes_in below node.kids))
          (options_in (nodes_in (suc below) items))

  pub options_after_text : (parts : List Part)
      → options_in (nodes_in levels (item.Text parts ∷ items)) ≡ options_in (nodes_in levels items)
  options_after_text parts = ap options_in (nodes_after_text levels parts items)

pub ruleset option_steps = (options_after_node, options_after_text, append_assoc)
