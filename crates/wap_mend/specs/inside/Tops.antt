-- The root that is being put together. This project's own.
use Rattle.std.specs.Prelude.{◌≡◌, ℕ, ◌+◌, ◌-◌, ◌≤◌, true, if◌then◌else◌, map, List, [], ◌++◌}
use Rattle.std.specs.Prelude.{Option, None, IfSome}
use Rattle.std.specs.List.{filter_map, AllByRecursion}
use Rattle.std.specs.Option.{option_to_list, option_and_then}
use Rattle.wap_tokens.specs.declared.markup.deck.Node.{Node}
use Rattle.wap_tokens.specs.declared.markup.deck.Item.{Item}
use Rattle.wap_tokens.specs.declared.markup.deck.Item.TheVariants as item
use Rattle.wap_tokens.specs.declared.markup.name.Tag.{Tag}
use Rattle.wap_tokens.specs.declared.markup.name.Tag.TheVariants as tags
use Rattle.wap_tokens.specs.declared.markup.name.AttrName.TheVariants as attrs
use Rattle.wap_tokens.specs.declared.markup.document.TheConstants.{LEVEL_LIMIT}
use Rattle.wap_tokens.specs.markup.Tables.{is_same_tag}
use Rattle.wap_tokens.specs.markup.Trees.{plain_text}
use Rattle.wap_tokens.specs.markup.Cards.{id_of}
use Rattle.wap_tokens.specs.markup.Good.{rule_of, may_follow, tags_of}
use Rattle.wap_mend.specs.inside.Building.{Kept, Built, Filled, value_among}
use Rattle.wap_mend.specs.inside.Names.{times, taken}
use Rattle.wap_mend.specs.inside.Frames.{Load, both, load_if, load_all}

-- ---- what stands in the root

-- what stands there so far, and the ids that are taken
pub record Topped : Type 0 where
  pub head : Option Built
  pub template : Option Built
  pub cards : List Built
  pub ids : List (List ℕ)

-- an element of this tag, with as many levels as there are below the root
pub record IsUnder (which : Tag) (element : Built) : Type 0 where
  pub levels : element.levels ≡ LEVEL_LIMIT - 1
  pub tag : element.node.tag ≡ which

-- a head and a template at most, without texts, and cards
pub record IsTop (top : Topped) : Type 0 where
  pub head : IfSome top.head (IsUnder tags.Head)
  pub template : IfSome top.template (IsUnder tags.Template)
  pub cards : AllByRecursion (IsUnder tags.Card) top.cards
  pub head_mute : (load_if top.head).signs ≡ []
  pub template_mute : (load_if top.template).signs ≡ []

-- some elements as items
abbrev pub items_with : List Built → List Item
items_with elements = map (λ element. item.Node element.node) elements

-- all that stands there, in its order
abbrev pub items_in : Topped → List Item
items_in top =
    (items_with (option_to_list top.head) ++ items_with (option_to_list top.template))
    ++ items_with top.cards

-- what is in all of them
abbrev pub load_top : Topped → Load
load_top top = both (load_if top.head) (both (load_if top.template) (load_all top.cards))

-- cards are added to content of the root, and these are left
pub record IsAdding (begun : Filled) (all : List Built) (content : Filled)
    (left : List Built) : Type 0 where
  pub rule : content.rule ≡ rule_of tags.Wml
  pub room : content.room ≡ LEVEL_LIMIT - 1
  pub same : record content { items = content.items ++ items_with left }
      ≡ record begun { items = begun.items ++ items_with all }
  pub cards : AllByRecursion (IsUnder tags.Card) left
  pub follows : may_follow (rule_of tags.Wml) (tags_of content.items) tags.Card ≡ true

-- ---- ids of cards

-- those of some cards
abbrev pub ids_in : List Built → List (List ℕ)
ids_in cards = filter_map (λ card. id_of card.node) cards

-- that of a card by its attributes; another element has none
abbrev pub own_id_of : Kept → Option (List ℕ)
own_id_of kept =
    if is_same_tag kept.tag tags.Card
    then option_and_then plain_text (value_among attrs.Id kept.rows) else None

-- the ids of the cards and one more, if there is one, stand no more often than they are taken
pub record AreTaken (top : Topped) (more : Option (List ℕ)) : Type 0 where
  pub each : (text : List ℕ) →
      times text (ids_in top.cards) + times text (option_to_list more) ≤ taken text top.ids

-- ---- a walk

-- the ids of the cards are taken; and where there is no card then, there was none before, and none
-- of these was found
pub record Gathers (old new : Topped) (nodes : List Node) : Type 0 where
  pub taken : AreTaken new None
  pub before : new.cards ≡ [] → old.cards ≡ []
  pub found : new.cards ≡ [] → nodes ≡ []
