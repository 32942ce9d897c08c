-- Good decks (WAP-191, section 11; the profile of the rules is this project's own): each node keeps
-- the rule of its element, and ids of cards and names of dos are distinct.
use Rattle.std.specs.Prelude.{◌≡◌, ℕ, zero, suc, ◌<◌, Bool, true, false, not, ◌&&◌, ◌||◌}
use Rattle.std.specs.Prelude.{nat_eq, nat_le, is_some, map, take, position, filter, slice_get}
use Rattle.std.specs.Prelude.{List, [], ◌∷◌, length, Option, Some, None, codes}
use Rattle.std.specs.List.{filter_map, flat_map, list_all, list_any, AllByRecursion, IsDistinct}
use Rattle.std.specs.Option.{option_and_then}
use Rattle.std.specs.Map.{lookup}
use Rattle.wap_base.specs.Texts.{is_empty}
use Rattle.wap_base.specs.Ascii.{tab, line_feed, carriage_return, space}
use Rattle.wap_base.specs.declared.name.Part.{Part}
use Rattle.wap_base.specs.declared.name.Part.TheVariants.{Lit}
use Rattle.wap_base.specs.Names.{is_name}
use Rattle.wap_base.specs.Texts.{is_same_text, AreDistinct}
use Rattle.wap_tokens.specs.declared.markup.deck.Deck.{Deck}
use Rattle.wap_tokens.specs.declared.markup.deck.Node.{Node}
use Rattle.wap_tokens.specs.declared.markup.deck.Item.{Item}
use Rattle.wap_tokens.specs.declared.markup.name.Tag.{Tag}
use Rattle.wap_tokens.specs.declared.markup.name.Tag.TheVariants as tags
use Rattle.wap_tokens.specs.declared.markup.name.AttrName.{AttrName}
use Rattle.wap_tokens.specs.declared.markup.name.AttrName.TheVariants as attrs
use Rattle.wap_tokens.specs.declared.markup.rules.TheConstants.{RULES}
use Rattle.wap_tokens.specs.markup.Tables.{is_same_tag, is_same_attr}
use Rattle.wap_tokens.specs.markup.Trees.{node_of, words_of, value_of, plain_text}
use Rattle.wap_tokens.specs.declared.markup.document.TheConstants.{LEVEL_LIMIT}
use Rattle.wap_tokens.specs.markup.Cards.{cards_of, ids_of}

-- ---- rules, as the table has them

-- what may stand in an element: elements of these groups, perhaps in this order, and perhaps texts;
-- of some groups one at most; of some elements one at least; and the attributes that it has to have
pub record Rule : Type 0 where
  pub groups : List (List Tag)
  pub in_order : Bool
  pub text : Bool
  pub once : List (List Tag)
  pub needs : List Tag
  pub attributes : List AttrName

-- an element without a rule may have nothing
abbrev pub no_rule : Rule
no_rule =
    record { groups = []; in_order = false; text = false; once = []; needs = []; attributes = [] }

-- the rules of elements, as the program's table lists them
unfoldable pub rules : List (Tag × Rule)
rules = map (λ row. (
  row.0,
  record {
    groups = map (λ group. group.now) row.1.now;
    in_order = row.2;
    text = row.3;
    once = map (λ group. group.now) row.4.now;
    needs = row.5.now;
    attributes = row.6.now;
  },
)) RULES

-- a rule, or that of an element without one
abbrev pub rule_or_none : Option Rule → Rule
rule_or_none None = no_rule
rule_or_none (Some rule) = rule

-- the rule of an element
unfoldable pub rule_of : Tag → Rule
rule_of tag = rule_or_none (lookup (is_same_tag tag) rules)

-- ---- the children of a node

-- whether a tag is one of a group
abbrev pub is_among : List Tag → Tag → Bool
is_among group tag = list_any (is_same_tag tag) group

-- the number of the group in which a tag is
abbrev pub place_in : List (List Tag) → Tag → Option ℕ
place_in groups tag = position (λ group. is_among group tag) groups

-- whether one group comes no later than another; what is in no group doesn't count
abbrev pub is_not_behind : Option ℕ → Option ℕ → Bool
is_not_behind (Some place) (Some other) = nat_le place other
is_not_behind _ _ = true

-- whether one element may stand before another
abbrev pub may_precede : Rule → Tag → Tag → Bool
may_precede rule first second =
    (not rule.in_order
    || is_not_behind (place_in rule.groups first) (place_in rule.groups second)) &&
    list_all (λ group. not (is_among group first && is_among group second)) rule.once

-- whether an element may stand after these
abbrev pub may_follow : Rule → List Tag → Tag → Bool
may_follow rule earlier tag =
    is_some (place_in rule.groups tag) && list_all (λ first. may_precede rule first tag) earlier

-- space, tab, carriage return or line feed
abbrev pub is_blank : ℕ → Bool
is_blank c =
    (nat_eq c space || nat_eq c tab) || (nat_eq c carriage_return || nat_eq c line_feed)

-- one literal of blanks
abbrev pub is_blank_text : List Part → Bool
is_blank_text (Lit text ∷ []) = list_all is_blank text
is_blank_text _ = false

-- the tags of the nodes among items
abbrev pub tags_of : List Item → List Tag
tags_of items = map (λ node. node.tag) (filter_map node_of items)

-- whether a node or a text may stand after these items
abbrev pub stands : Rule → List Item → Option Node → Option (List Part) → Bool
stands rule earlier (Some node) words = may_follow rule (tags_of earlier) node.tag
stands rule earlier None (Some parts) = rule.text || is_blank_text parts
stands rule earlier None None = false

-- the item of this number may stand at its place
abbrev pub StandsAt : Rule → List Item → ℕ → Type 0
StandsAt rule items i =
    (item : Item) → slice_get items i ≡ Some item
    → stands rule (take i items) (node_of item) (words_of item) ≡ true

-- ---- attributes

-- the names of a node's attributes
abbrev pub names_of : Node → List AttrName
names_of node = map (λ a. a.0) node.attrs

-- whether a node has an attribute of this name
abbrev pub has_attribute : Node → AttrName → Bool
has_attribute node name = is_some (value_of name node)

-- whether nothing is missing
abbrev pub has_needs : Rule → Node → Bool
has_needs rule node =
    list_all (has_attribute node) rule.attributes
    && (is_empty rule.needs || list_any (is_among rule.needs) (tags_of node.kids))

-- what the value of an attribute has to be: one of some words; the name of a variable; that, or
-- nothing; free of references
pub data Form : Type 0 where
  words : List (List ℕ) → Form
  variable : Form
  optional_variable : Form
  plain : Form

-- `true` or `false`
abbrev pub booleans : Form
booleans = words (codes "true" ∷ codes "false" ∷ [])

-- which attributes have a form, and in which elements
abbrev pub forms : List (Tag × AttrName × Form)
forms =
    (tags.Go, attrs.Method, words (codes "get" ∷ codes "post" ∷ [])) ∷
    (tags.Go, attrs.Sendreferer, booleans) ∷
    (tags.P, attrs.Mode, words (codes "wrap" ∷ codes "nowrap" ∷ [])) ∷
    (tags.Card, attrs.Newcontext, booleans) ∷
    (tags.Card, attrs.Id, plain) ∷
    (tags.Do, attrs.Optional, booleans) ∷
    (tags.Do, attrs.Name, plain) ∷
    (tags.Do, attrs.Type, plain) ∷
    (tags.Onevent, attrs.Type, plain) ∷
    (tags.Input, attrs.Emptyok, booleans) ∷
    (tags.Input, attrs.Name, variable) ∷
    (tags.Timer, attrs.Name, optional_variable) ∷
    (tags.Select, attrs.Multiple, booleans) ∷
    (tags.Select, attrs.Name, optional_variable) ∷
    (tags.Select, attrs.Iname, optional_variable) ∷
    []

-- whether a text is of this form
abbrev pub text_has : Form → List ℕ → Bool
text_has (words some) text = list_any (is_same_text text) some
text_has variable text = is_name text
text_has optional_variable text = is_name text || is_same_text text []
text_has plain text = true

-- whether there is a plain text, and it is of this form
abbrev pub value_has : Form → Option (List ℕ) → Bool
value_has form None = false
value_has form (Some text) = text_has form text

-- each value of this name is of this form
abbrev pub all_have : AttrName → Form → Node → Bool
all_have name form node =
    list_all (λ a. not (is_same_attr a.0 name) || value_has form (plain_text a.1)) node.attrs

-- each attribute of a node that has a form here is of that form
abbrev pub has_forms : Node → Bool
has_forms node =
    list_all (λ form. not (is_same_tag node.tag form.0) || all_have form.1 form.2 node) forms

-- ---- nodes

-- a node that keeps the rule of its element: each child may stand at its place, no attribute stands
-- twice, nothing is missing, and values have their forms
pub record IsGoodNode (node : Node) : Type 0 where
  pub children : (i : ℕ) → StandsAt (rule_of node.tag) node.kids i
  pub once : IsDistinct is_same_attr (names_of node)
  pub whole : has_needs (rule_of node.tag) node ≡ true
  pub forms : has_forms node ≡ true

-- the nodes in items, of so many levels, parents before their children
abbrev pub nodes_in : ℕ → List Item → List Node
nodes_in zero items = []
nodes_in (suc levels) items =
    flat_map (λ node. node ∷ nodes_in levels node.kids) (filter_map node_of items)

-- the nodes of a deck, parents before their children
abbrev pub all_nodes : Deck → List Node
all_nodes deck = deck.root ∷ nodes_in LEVEL_LIMIT deck.root.kids

-- ---- names of dos

-- the first of two, if there is one, and else the second
abbrev pub first_of : {X : Type 0} → Option X → Option X → Option X
first_of None other = other
first_of (Some x) other = Some x

-- the name of a do, or else its type
abbrev pub name_of_do : Node → Option (List ℕ)
name_of_do node =
    option_and_then plain_text (first_of (value_of attrs.Name node) (value_of attrs.Type node))

-- the names of the dos in a card or a template, in the order of the document
abbrev pub names_of_dos : Node → List (List ℕ)
names_of_dos node =
    filter_map name_of_do
    (filter (λ one. is_same_tag one.tag tags.Do) (nodes_in LEVEL_LIMIT node.kids))

-- whether dos in an element of this tag are told apart
abbrev pub holds_dos : Tag → Bool
holds_dos tag = is_same_tag tag tags.Card || is_same_tag tag tags.Template

-- the cards and the template
abbrev pub do_holders : Deck → List Node
do_holders deck = filter (λ node. holds_dos node.tag) (filter_map node_of deck.root.kids)

-- ---- decks

-- a good deck: its root is wml, its nodes keep their rules, ids of cards are distinct, and so are
-- the names of dos in each card and in the template; and there is a card
pub record IsGood (deck : Deck) : Type 0 where
  pub root : deck.root.tag ≡ tags.Wml
  pub nodes : AllByRecursion IsGoodNode (all_nodes deck)
  pub ids : AreDistinct (ids_of deck)
  pub names : AllByRecursion (λ node. AreDistinct (names_of_dos node)) (do_holders deck)
  pub card : 0 < length (cards_of deck)
