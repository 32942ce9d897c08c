-- Onevents, looked for child by child.
use Rattle.std.proofs.Common.{◌≡◌, ℕ, Bool, true, false, cond, List, ◌∷◌, Some, refl, ap, ◌∙◌}
use Rattle.std.specs.Prelude.{find, ◌&&◌}
use Rattle.wap_base.specs.declared.name.Part.{Part}
use Rattle.wap_tokens.specs.declared.markup.deck.Node.{Node}
use Rattle.wap_tokens.specs.declared.markup.deck.Item.{Item}
use Rattle.wap_tokens.specs.declared.markup.deck.Item.TheVariants as item
use Rattle.wap_tokens.specs.declared.markup.name.Tag.TheVariants as tags
use Rattle.wap_tokens.specs.markup.Tables.{is_same_tag}
use Rattle.wap_tokens.specs.markup.Trees.{is_text}
use Rattle.wap_tokens.specs.markup.Cards.{type_of}
use Rattle.wap_cards.specs.inside.Onevents.{is_onevent, onevent_in}
use Rattle.wap_cards.proofs.Kids.{tagged_here, tagged_behind, tagged_after_text}

module _ (kind : List ℕ) (items : List Item) where
  abbrev of_kind : Node → Bool
  of_kind one = is_text kind (type_of one)

  by : (node : Node) (tagged : Bool) → is_same_tag node.tag tags.Onevent ≡ tagged
      → onevent_in kind (item.Node node ∷ items)
      ≡ cond (tagged && of_kind node) (Some node) (onevent_in kind items)
  by node true is = ap (find of_kind) (tagged_here tags.Onevent items node is)
  by node false isnt = ap (find of_kind) (tagged_behind tags.Onevent items node isnt)

  onevent_first : (node : Node)
      → onevent_in kind (item.Node node ∷ items)
      ≡ cond (is_onevent kind node) (Some node) (onevent_in kind items)
  onevent_first node = by node (is_same_tag node.tag tags.Onevent) refl

  pub onevent_here : (node : Node) → is_onevent kind node ≡ true
      → onevent_in kind (item.Node node ∷ items) ≡ Some node
  onevent_here node is =
      onevent_first node ∙ ap (λ b. cond b (Some node) (onevent_in kind items)) is

  pub onevent_behind : (node : Node) → is_onevent kind node ≡ false
      → onevent_in kind (item.Node node ∷ items) ≡ onevent_in kind items
  onevent_behind node isnt =
      onevent_first node ∙ ap (λ b. cond b (Some node) (onevent_in kind items)) isnt

  pub onevent_after_text : (parts : List Part)
      → onevent_in kind (item.Text parts ∷ items) ≡ onevent_in kind items
  onevent_after_text parts = ap (find of_kind) (tagged_after_text tags.Onevent items parts)

pub ruleset onevent_steps = (onevent_here, onevent_behind, onevent_after_text)
