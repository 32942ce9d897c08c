-- Elements in which no text may stand at any depth: where they keep their rules, they have no
-- signs.
use Rattle.std.proofs.Common.{◌≡◌, ℕ, zero, suc, Bool, true, false, List, [], ◌∷◌, ◌++◌}
use Rattle.std.proofs.Common.{Some, refl, sym, ap, ◌∙◌}
use Rattle.std.specs.Prelude.{◌||◌, is_some, take, slice_get}
use Rattle.std.specs.List.{filter_map, flat_map, cons_option, AllByRecursion}
use Rattle.std.proofs.lemmas.Bool.{and_parts}
use Rattle.wap_tokens.specs.declared.markup.deck.Node.{Node}
use Rattle.wap_tokens.specs.declared.markup.deck.Item.{Item, out-Item}
use Rattle.wap_tokens.specs.declared.markup.deck.Item.TheOpen.{Item-F}
use Rattle.wap_tokens.specs.declared.markup.name.Tag.{Tag}
use Rattle.wap_tokens.specs.declared.markup.name.Tag.TheVariants as tags
use Rattle.wap_tokens.specs.markup.Trees.{ItemLevel, node_from, node_of, words_from}
use Rattle.wap_tokens.specs.markup.Good.{Rule, rule_of, rules, is_among, place_in, stands}
use Rattle.wap_tokens.specs.markup.Good.{is_blank_text, nodes_in, IsGoodNode}
use Rattle.wap_mend.specs.Accounts.{item_signs, node_signs, signs_in}
use Rattle.wap_mend.proofs.Accounting.{signs_blank}

-- ---- elements without texts

-- their tags
abbrev pub mute_tags : List Tag
mute_tags =
    tags.Onevent ∷ tags.Timer ∷ tags.Go ∷ tags.Prev ∷ tags.Noop ∷ tags.Refresh ∷ tags.Setvar ∷
    tags.Postfield ∷ tags.Do ∷ tags.Template ∷ tags.Head ∷ tags.Access ∷ tags.Meta ∷ []

-- whether no text may stand in an element of this tag, at any depth
abbrev pub is_mute : Tag → Bool
is_mute tag = is_among mute_tags tag

-- no text may stand in it
mute_text : (tag : Tag) → is_mute tag ≡ true → (rule_of tag).text ≡ false
unfolding rule_of rules
mute_text tags.Onevent is = refl
mute_text tags.Timer is = refl
mute_text tags.Go is = refl
mute_text tags.Prev is = refl
mute_text tags.Noop is = refl
mute_text tags.Refresh is = refl
mute_text tags.Setvar is = refl
mute_text tags.Postfield is = refl
mute_text tags.Do is = refl
mute_text tags.Template is = refl
mute_text tags.Head is = refl
mute_text tags.Access is = refl
mute_text tags.Meta is = refl
mute_text _ is = absurd (cc is)

-- whether an element may stand in one of some groups only if it is mute
abbrev IsMuteIn : List (List Tag) → Type 0
IsMuteIn groups = (inner : Tag) → is_some (place_in groups inner) ≡ true → is_mute inner ≡ true

-- these are the groups of mute elements
in_none : IsMuteIn []
in_none inner may = absurd (cc may)

in_tasks : IsMuteIn ((tags.Go ∷ tags.Prev ∷ tags.Noop ∷ tags.Refresh ∷ []) ∷ [])
in_tasks tags.Go may = refl
in_tasks tags.Prev may = refl
in_tasks tags.Noop may = refl
in_tasks tags.Refresh may = refl
in_tasks _ may = absurd (cc may)

in_fields : IsMuteIn ((tags.Postfield ∷ tags.Setvar ∷ []) ∷ [])
in_fields tags.Postfield may = refl
in_fields tags.Setvar may = refl
in_fields _ may = absurd (cc may)

in_setvars : IsMuteIn ((tags.Setvar ∷ []) ∷ [])
in_setvars tags.Setvar may = refl
in_setvars _ may = absurd (cc may)

in_template : IsMuteIn ((tags.Do ∷ []) ∷ (tags.Onevent ∷ []) ∷ [])
in_template tags.Do may = refl
in_template tags.Onevent may = refl
in_template _ may = absurd (cc may)

in_head : IsMuteIn ((tags.Access ∷ tags.Meta ∷ []) ∷ [])
in_head tags.Access may = refl
in_head tags.Meta may = refl
in_head _ may = absurd (cc may)

-- what may stand in a mute element is mute
mute_inside : (tag : Tag) → is_mute tag ≡ true → IsMuteIn (rule_of tag).groups
unfolding rule_of rules
mute_inside tags.Onevent is = in_tasks
mute_inside tags.Timer is = in_none
mute_inside tags.Go is = in_fields
mute_inside tags.Prev is = in_setvars
mute_inside tags.Noop is = in_none
mute_inside tags.Refresh is = in_setvars
mute_inside tags.Setvar is = in_none
mute_inside tags.Postfield is = in_none
mute_inside tags.Do is = in_tasks
mute_inside tags.Template is = in_template
mute_inside tags.Head is = in_head
mute_inside tags.Access is = in_none
mute_inside tags.Meta is = in_none
mute_inside _ is = absurd (cc is)

-- ---- what stands in them

-- what holds of each of two lists together holds of each of both
both_each : {X : Type 0} (P : X → Type 0) (some more : List X) → AllByRecursion P (some ++ more)
    → AllByRecursion P some × AllByRecursion P more
both_each P [] more each = (tt, each)
both_each P (x ∷ some) more each =
    let both = both_each P some more each.1 in
    ((each.0, both.0), both.1)

-- a text that is blank, or an element that is of one of the groups
abbrev IsQuiet : Rule → ItemLevel → Type 0
IsQuiet rule (Item-F.Text parts) = is_blank_text parts ≡ true
IsQuiet rule (Item-F.Node node) = is_some (place_in rule.groups node.tag) ≡ true

-- so is what may stand where no text may
quiet : (rule : Rule) (earlier : List Item) (level : ItemLevel) → rule.text ≡ false
    → stands rule earlier (node_from level) (words_from level) ≡ true → IsQuiet rule level
quiet rule earlier (Item-F.Text parts) no_text may =
    ap (λ texts. texts || is_blank_text parts) (sym no_text) ∙ may
quiet rule earlier (Item-F.Node node) no_text may = (and_parts _ _ may).0

module _ (room : ℕ) (rule : Rule)
    (inner : (node : Node) → AllByRecursion IsGoodNode (node ∷ nodes_in room node.kids)
    → is_some (place_in rule.groups node.tag) ≡ true → node_signs room node ≡ []) where
  abbrev below : Node → List Node
  below node = node ∷ nodes_in room node.kids

  abbrev AreGood : List Node → Type 0
  AreGood nodes = AllByRecursion IsGoodNode (flat_map below nodes)

  -- where the elements that may stand in it have no signs, an item has none
  item_mute : (level : ItemLevel) (nodes : List Node) → IsQuiet rule level
      → AreGood (cons_option (node_from level) nodes)
      → (item_signs (node_signs room) level ≡ []) × AreGood nodes
  item_mute (Item-F.Text parts) nodes is good = (signs_blank parts is, good)
  item_mute (Item-F.Node node) nodes is good =
      let both = both_each IsGoodNode (below node) (flat_map below nodes) good in
      (inner node both.0 is, both.1)

  -- items have none
  items_mute : (items : List Item)
      → ((i : ℕ) (item : Item) → slice_get items i ≡ Some item → IsQuiet rule (out-Item item))
      → AreGood (filter_map node_of items) → signs_in room items ≡ []
  items_mute [] each good = refl
  items_mute (item ∷ items) each good =
      let here = item_mute (out-Item item) (filter_map node_of items) (each zero item refl) good in
      ap (λ signs. signs ++ signs_in room items) here.0
      ∙ items_mute items (λ i. each (suc i)) here.1

-- a mute element that keeps its rule, as do those in it, has no signs
pub mute : (levels : ℕ) (node : Node) → AllByRecursion IsGoodNode (node ∷ nodes_in levels node.kids)
    → is_mute node.tag ≡ true → node_signs levels node ≡ []
mute zero node good is = refl
mute (suc levels) node good is =
    let rule = rule_of node.tag in
    items_mute levels rule
    (λ kid each may. mute levels kid each (mute_inside node.tag is kid.tag may))
    node.kids
    (λ i item at.
    quiet rule (take i node.kids) (out-Item item) (mute_text node.tag is)
    (good.0.children i item at))
    good.1
