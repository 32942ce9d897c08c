-- The layers of items.
use Rattle.std.proofs.Common.{◌≡◌, ℕ, zero, suc, ◌-◌, ◌<◌, Bool, true, false, ◌||◌, List}
use Rattle.std.proofs.Common.{[], ◌∷◌, ◌++◌, refl, ap, subst, ◌∙◌, arith}
use Rattle.std.specs.List.{filter_map, flat_map, cons_option, list_any}
use Rattle.std.proofs.lemmas.List.Folds.{list_any-append}
use Rattle.wap_tokens.specs.markup.Trees.{node_from, node_of}
use Rattle.wap_tokens.specs.markup.Good.{nodes_in}
use Rattle.wap_base.specs.declared.name.Part.TheVariants.{Lit, Var}
use Rattle.wap_tokens.specs.markup.Decks.{before}
use Rattle.wap_deck.specs.good.Runs.{part_of, is_reference, IsFirstBit}
use Rattle.wap_deck.specs.declared.good.bits.Bit.{Bit}
use Rattle.wap_base.specs.declared.name.Part.{Part}
use Rattle.wap_tokens.specs.declared.markup.deck.Node.{Node}
use Rattle.wap_tokens.specs.declared.markup.deck.Item.{Item, out-Item}
use Rattle.wap_tokens.specs.declared.markup.deck.Item.TheOpen.{Item-F}
use Rattle.wap_tokens.specs.declared.markup.deck.Item.TheVariants.{outs-Text, outs-Node}
use Rattle.wap_tokens.specs.declared.markup.deck.Item.TheVariants as item

pub out_text : (parts : List Part) → out-Item (item.Text parts) ≡ Item-F.Text parts
out_text parts = outs-Text parts

pub out_node : (node : Node) → out-Item (item.Node node) ≡ Item-F.Node node
out_node node = outs-Node node

-- ---- walks

pub nodes_after_node : (levels : ℕ) (node : Node) (items : List Item)
    → nodes_in (suc levels) (item.Node node ∷ items)
    ≡ node ∷ nodes_in levels node.kids ++ nodes_in (suc levels) items
nodes_after_node levels node items =
    ap (λ level. flat_map (λ one. one ∷ nodes_in levels one.kids)
    (cons_option (node_from level) (filter_map node_of items))) (out_node node)

pub nodes_after_text : (levels : ℕ) (parts : List Part) (items : List Item)
    → nodes_in levels (item.Text parts ∷ items) ≡ nodes_in levels items
nodes_after_text zero parts items = refl
nodes_after_text (suc levels) parts items =
    ap (λ level. flat_map (λ one. one ∷ nodes_in levels one.kids)
    (cons_option (node_from level) (filter_map node_of items))) (out_text parts)

-- what is looked for stands in the first node, below it, or after it
module _ (p : Node → Bool) (levels : ℕ) (node : Node) (items : List Item) (some : 0 < levels) where
  abbrev Splits : ℕ → Type 0
  Splits all =
      list_any p (nodes_in all (item.Node node ∷ items))
      ≡ (p node
      || (list_any p (nodes_in (levels - 1) node.kids) || list_any p (nodes_in all items)))

  split : Splits levels
  split =
      let below = levels - 1 in
      let deep : suc below ≡ levels = omega arith in
      let one : Splits (suc below) =
      ap (list_any p) (nodes_after_node below node items) ∙ ap (λ rest. p node || rest)
      (list_any-append p (nodes_in below node.kids) (nodes_in (suc below) items)) in
      subst Splits deep one

  pub found_here : p node ≡ true → list_any p (nodes_in levels (item.Node node ∷ items)) ≡ true
  found_here is =
      split ∙ ap (λ b.
      b || (list_any p (nodes_in (levels - 1) node.kids) || list_any p (nodes_in levels items))) is

  pub found_below : p node ≡ false → list_any p (nodes_in (levels - 1) node.kids) ≡ true
      → list_any p (nodes_in levels (item.Node node ∷ items)) ≡ true
  found_below isnt is =
      split
      ∙ ap (λ b. b
      || (list_any p (nodes_in (levels - 1) node.kids) || list_any p (nodes_in levels items))) isnt
      ∙ ap (λ b. b || list_any p (nodes_in levels items)) is

  pub found_behind : p node ≡ false → list_any p (nodes_in (levels - 1) node.kids) ≡ false
      → list_any p (nodes_in levels (item.Node node ∷ items)) ≡ list_any p (nodes_in levels items)
  found_behind isnt is =
      split
      ∙ ap (λ b. b
      || (list_any p (nodes_in (levels - 1) node.kids) || list_any p (nodes_in levels items))) isnt
      ∙ ap (λ b. b || list_any p (nodes_in levels items)) is

pub found_after_text : (p : Node → Bool) (levels : ℕ) (parts : List Part) (items : List Item)
    → list_any p (nodes_in levels (item.Text parts ∷ items)) ≡ list_any p (nodes_in levels items)
found_after_text p levels parts items = ap (list_any p) (nodes_after_text levels parts items)

-- ---- texts

joins : (first : Part) (rest : List Part) → list_any is_reference (before first rest)
    ≡ (is_reference first || list_any is_reference rest)
joins (Lit text) [] = refl
joins (Lit text) (Lit more ∷ rest) = refl
joins (Lit text) (Var name conv ∷ rest) = refl
joins (Var name conv) rest = refl

pub reference_first : (parts : List Part) (first : Bit) (rest : List Part)
    → IsFirstBit parts first rest
    → list_any is_reference parts ≡ (is_reference (part_of first) || list_any is_reference rest)
reference_first parts first rest is =
    ap (list_any is_reference) is.together ∙ joins (part_of first) rest
