-- The content of a node, child by child.
use Rattle.std.proofs.Common.{◌≡◌, ℕ, zero, suc, ◌-◌, ◌<◌, Bool, true, false, cond, List, [], ◌∷◌}
use Rattle.std.proofs.Common.{◌++◌, refl, ap, subst, arith}
use Rattle.std.specs.List.{flat_map}
use Rattle.wap_base.specs.declared.name.Part.{Part}
use Rattle.wap_tokens.specs.declared.markup.deck.Node.{Node}
use Rattle.wap_tokens.specs.declared.markup.deck.Item.{Item, out-Item}
use Rattle.wap_tokens.specs.declared.markup.deck.Item.TheVariants as item
use Rattle.wap_tokens.specs.markup.Good.{is_among}
use Rattle.wap_cardrules.specs.Content.{Mark, words, begins, ends, shown_tags}
use Rattle.wap_cardrules.specs.Content.{marks_from, marks_in, kids_marks}
use Rattle.wap_deck.proofs.GoodLemmas.Layers.{out_node, out_text}

-- ---- children

-- what children give that are left
abbrev pub left_marks : (Node → List Mark) → Bool → List Item → List Mark
left_marks inner may_have_text items =
    flat_map (λ kid. marks_from inner may_have_text (out-Item kid)) items

module _ (inner : Node → List Mark) (items : List Item) where
  pub marks_text : (parts : List Part)
      → left_marks inner true (item.Text parts ∷ items) ≡ words parts ∷ left_marks inner true items
  marks_text parts =
      ap (λ level. marks_from inner true level ++ left_marks inner true items) (out_text parts)

  pub marks_no_text : (parts : List Part)
      → left_marks inner false (item.Text parts ∷ items) ≡ left_marks inner false items
  marks_no_text parts =
      ap (λ level. marks_from inner false level ++ left_marks inner false items) (out_text parts)

  pub marks_node : (may_have_text : Bool) (node : Node)
      → left_marks inner may_have_text (item.Node node ∷ items)
      ≡ begins node ∷ (inner node ++ ends node ∷ []) ++ left_marks inner may_have_text items
  marks_node may_have_text node =
      ap (λ level. marks_from inner may_have_text level ++ left_marks inner may_have_text items)
      (out_node node)

-- ---- levels

module _ (levels : ℕ) (node : Node) where
  pub marks_closed : is_among shown_tags node.tag ≡ false → marks_in levels node ≡ []
  marks_closed is = by levels
    where
      by : (levels : ℕ) → marks_in levels node ≡ []
      by zero = refl
      by (suc levels) = ap (λ b. cond b (kids_marks (marks_in levels) node) []) is

  pub marks_open : 0 < levels → is_among shown_tags node.tag ≡ true
      → marks_in levels node ≡ kids_marks (marks_in (levels - 1)) node
  marks_open some is =
      let deep : suc (levels - 1) ≡ levels = omega arith in
      subst (λ all. marks_in all node ≡ kids_marks (marks_in (levels - 1)) node) deep
      (ap (λ b. cond b (kids_marks (marks_in (levels - 1)) node) []) is)

  pub none_below : levels ≡ 0 → marks_in levels node ≡ []
  none_below is = ap (λ all. marks_in all node) is
