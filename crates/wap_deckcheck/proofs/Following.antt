-- What may follow, by what is reached.
use Rattle.std.proofs.Common.{◌≡◌, ℕ, Bool, false, not, ◌&&◌, ◌||◌, nat_le, max, List, [], ◌∷◌}
use Rattle.std.proofs.Common.{◌++◌, map, Option, Some, None, refl, sym, ap, ◌∙◌, arith}
use Rattle.std.specs.Prelude.{is_some, IfSome}
use Rattle.std.specs.List.{list_any, list_all, filter_map, cons_option}
use mathlib.Core.Bool.{and-true}
use Rattle.std.proofs.lemmas.Bool.Decides.{nat_tests}
use Rattle.std.proofs.lemmas.List.Folds.{list_all-append}
use Rattle.wap_base.specs.declared.name.Part.{Part}
use Rattle.wap_tokens.specs.declared.markup.name.Tag.{Tag}
use Rattle.wap_tokens.specs.declared.markup.deck.Node.{Node}
use Rattle.wap_tokens.specs.declared.markup.deck.Item.{Item, out-Item}
use Rattle.wap_tokens.specs.declared.markup.deck.Item.TheOpen.{Item-F}
use Rattle.wap_tokens.specs.markup.Trees.{node_from, node_of}
use Rattle.wap_tokens.specs.markup.Good.{Rule, is_among, place_in, is_not_behind}
use Rattle.wap_tokens.specs.markup.Good.{may_precede, may_follow, tags_of}
use Rattle.wap_deckcheck.specs.Reached.{HasReached, IsReachedBy}
use Rattle.wap_deckcheck.proofs.Tests.{all_and, all_or, all_not, all_apart, all_all, all_same}

-- ---- an element after others

abbrev pub is_used_with : Rule → Tag → List Tag → Bool
is_used_with rule tag earlier =
    list_any (λ group. is_among group tag && list_any (is_among group) earlier) rule.once

module _ (rule : Rule) (tag : Tag) (earlier : List Tag) where
  once_apart : list_all (λ first.
      list_all (λ group. not (is_among group first && is_among group tag)) rule.once) earlier
      ≡ not (is_used_with rule tag earlier)
  once_apart =
      all_all (λ first group. not (is_among group first && is_among group tag)) earlier rule.once ∙
      all_same
      (λ group. list_all (λ first. not (is_among group first && is_among group tag)) earlier)
      (λ group. not (is_among group tag && list_any (is_among group) earlier))
      (λ group. all_apart (is_among group tag) (is_among group) earlier) rule.once ∙
      all_not (λ group. is_among group tag && list_any (is_among group) earlier) rule.once

  pub follows_none : place_in rule.groups tag ≡ None → may_follow rule earlier tag ≡ false
  follows_none none =
      ap (λ found. is_some found && list_all (λ first. may_precede rule first tag) earlier) none

  pub follows_some : (place : ℕ) → place_in rule.groups tag ≡ Some place
      → may_follow rule earlier tag ≡
      ((not rule.in_order
      || list_all (λ first. is_not_behind (place_in rule.groups first) (Some place)) earlier)
      && not (is_used_with rule tag earlier))
  follows_some place some =
      ap (λ found. is_some found && list_all (λ first. may_precede rule first tag) earlier) some ∙
      all_and (λ first. not rule.in_order
      || is_not_behind (place_in rule.groups first) (place_in rule.groups tag)) (λ first.
      list_all (λ group. not (is_among group first && is_among group tag)) rule.once) earlier ∙
      ap (λ b.
      b && list_all (λ first.
      list_all (λ group. not (is_among group first && is_among group tag)) rule.once) earlier)
      (all_or (not rule.in_order)
      (λ first. is_not_behind (place_in rule.groups first) (place_in rule.groups tag)) earlier ∙
      ap (λ found. not rule.in_order
      || list_all (λ first. is_not_behind (place_in rule.groups first) found) earlier) some) ∙
      ap (λ b. (not rule.in_order || list_all
      (λ first. is_not_behind (place_in rule.groups first) (Some place)) earlier) && b) once_apart

pub follows_reached : (rule : Rule) (tag : Tag) (items : List Item) (reached place : ℕ)
    → HasReached rule items reached → place_in rule.groups tag ≡ Some place →
    may_follow rule (tags_of items) tag
    ≡ ((not rule.in_order || nat_le reached place) && not (is_used_with rule tag (tags_of items)))
follows_reached rule tag items reached place has some =
    follows_some rule tag (tags_of items) place some
    ∙ ap (λ b. (not rule.in_order || b) && not (is_used_with rule tag (tags_of items))) (has place)

le_max : (place reached p : ℕ) → nat_le (max place reached) p ≡ (nat_le reached p && nat_le place p)
le_max place reached p = grind (arith, nat_tests)

pub reached_by : (rule : Rule) (tag : Tag) (place reached next : ℕ)
    → place_in rule.groups tag ≡ Some place
    → next ≡ max place reached → IsReachedBy rule reached tag next
reached_by rule tag place reached next some is p =
    ap (λ next. nat_le next p) is ∙ le_max place reached p
    ∙ ap (λ found. nat_le reached p && is_not_behind found (Some p)) (sym some)

-- ---- an item more

tags_of-append : (items more : List Item) → tags_of (items ++ more) ≡ tags_of items ++ tags_of more
tags_of-append [] more = refl
tags_of-append (item ∷ items) more =
    cons_tag (node_of item) (filter_map node_of (items ++ more)) (filter_map node_of items)
    (tags_of more) (tags_of-append items more)
  where
    cons_tag : (found : Option Node) (all some : List Node) (rest : List Tag)
        → map (λ node. node.tag) all ≡ map (λ node. node.tag) some ++ rest
        → map (λ node. node.tag) (cons_option found all)
        ≡ map (λ node. node.tag) (cons_option found some) ++ rest
    cons_tag None all some rest same = same
    cons_tag (Some node) all some rest same = ap (λ tags. node.tag ∷ tags) same

module _ (rule : Rule) (items : List Item) (item : Item) (place : ℕ) where
  one_more : list_all (λ first. is_not_behind (place_in rule.groups first) (Some place))
      (tags_of (items ++ item ∷ [])) ≡
      (list_all (λ first. is_not_behind (place_in rule.groups first) (Some place)) (tags_of items)
      && list_all (λ first. is_not_behind (place_in rule.groups first) (Some place))
      (tags_of (item ∷ [])))
  one_more =
      ap (list_all (λ first. is_not_behind (place_in rule.groups first) (Some place)))
      (tags_of-append items (item ∷ []))
      ∙ list_all-append (λ first. is_not_behind (place_in rule.groups first) (Some place))
      (tags_of items) (tags_of (item ∷ []))

pub reached_node : (rule : Rule) (items : List Item) (reached next : ℕ) (item : Item) (node : Node)
    → HasReached rule items reached → out-Item item ≡ Item-F.Node node
    → IsReachedBy rule reached node.tag next → HasReached rule (items ++ item ∷ []) next
reached_node rule items reached next item node has is by place =
    one_more rule items item place ∙ ap (λ level.
    list_all (λ first. is_not_behind (place_in rule.groups first) (Some place)) (tags_of items)
    && list_all (λ first. is_not_behind (place_in rule.groups first) (Some place))
    (map (λ node. node.tag) (cons_option (node_from level) []))) is ∙
    ap (λ b.
    list_all (λ first. is_not_behind (place_in rule.groups first) (Some place)) (tags_of items)
    && b) (and-true (is_not_behind (place_in rule.groups node.tag) (Some place))) ∙
    ap (λ b. b && is_not_behind (place_in rule.groups node.tag) (Some place)) (has place)
    ∙ sym (by place)

pub reached_text : (rule : Rule) (items : List Item) (reached : ℕ) (item : Item) (parts : List Part)
    → HasReached rule items reached → out-Item item ≡ Item-F.Text parts
    → HasReached rule (items ++ item ∷ []) reached
reached_text rule items reached item parts has is place =
    one_more rule items item place ∙ ap (λ level.
    list_all (λ first. is_not_behind (place_in rule.groups first) (Some place)) (tags_of items)
    && list_all (λ first. is_not_behind (place_in rule.groups first) (Some place))
    (map (λ node. node.tag) (cons_option (node_from level) []))) is ∙
    and-true (list_all (λ first. is_not_behind (place_in rule.groups first) (Some place))
    (tags_of items)) ∙ has place

pub reached_node_if : (rule : Rule) (items : List Item) (reached : ℕ) (item : Item) (node : Node)
    → HasReached rule items reached → out-Item item ≡ Item-F.Node node
    → (next : Option ℕ) → IfSome next (IsReachedBy rule reached node.tag)
    → IfSome next (HasReached rule (items ++ item ∷ []))
reached_node_if rule items reached item node has is None by = tt
reached_node_if rule items reached item node has is (Some next) by =
    reached_node rule items reached next item node has is by
