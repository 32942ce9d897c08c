-- Content and elements as they are put together: with a part of a text or an element more, content
-- stays what it has to be.
use Rattle.std.proofs.Common.{◌≡◌, ◌≢◌, ℕ, zero, suc, ◌+◌, ◌<◌, true, ◌||◌, nat_le, List, []}
use Rattle.std.proofs.Common.{◌∷◌, ◌++◌, length, get_or, take, map, Some, None, refl, sym, ap}
use Rattle.std.proofs.Common.{subst, ◌∙◌, append_assoc, arith}
use Rattle.std.specs.Prelude.{slice_get}
use Rattle.std.specs.List.{filter_map, flat_map, cons_option, list_all, AllByRecursion}
use Rattle.std.proofs.lemmas.List.{append-nil, map-append, take_more}
use Rattle.std.proofs.lemmas.List.Elements.{filter_map-append}
use Rattle.std.proofs.lemmas.Grind.{flat_map-append}
use Rattle.std.proofs.lemmas.Bool.Decides.{nat_tests}
use Rattle.wap_base.specs.Texts.{AreDistinct}
use Rattle.wap_base.specs.declared.name.Part.{Part}
use Rattle.wap_base.specs.declared.name.Part.TheVariants.{Lit, Var}
use Rattle.wap_tokens.specs.declared.markup.deck.Node.{Node}
use Rattle.wap_tokens.specs.declared.markup.deck.Item.{Item, out-Item}
use Rattle.wap_tokens.specs.declared.markup.deck.Item.TheOpen.{Item-F}
use Rattle.wap_tokens.specs.declared.markup.deck.Item.TheVariants.{outs-Text, outs-Node}
use Rattle.wap_tokens.specs.declared.markup.deck.Item.TheVariants as item
use Rattle.wap_tokens.specs.markup.Trees.{ItemLevel, node_from, words_from, node_of, words_of}
use Rattle.wap_tokens.specs.declared.markup.name.AttrName.{AttrName}
use Rattle.wap_tokens.specs.declared.markup.name.Tag.{Tag}
use Rattle.wap_tokens.specs.declared.markup.name.Tag.TheVariants as tags
use Rattle.wap_tokens.specs.declared.markup.document.TheConstants.{LEVEL_LIMIT}
use Rattle.wap_tokens.specs.markup.Decks.{before, Mark, items_of}
use Rattle.wap_tokens.specs.markup.Decks as decks
use Rattle.wap_tokens.specs.markup.Normal.{IsPart, IsItem, marks_of, IsContent, IsNode}
use Rattle.wap_tokens.specs.markup.Good.{Rule, rule_of, stands, StandsAt, may_follow, tags_of}
use Rattle.wap_tokens.specs.markup.Good.{place_in, is_not_behind, nodes_in, IsGoodNode, has_needs}
use Rattle.wap_tokens.specs.markup.Good.{holds_dos, is_blank_text}
use Rattle.wap_deck.specs.documents.Adding.{part_added, after_last, part_after, marks_after}
use Rattle.wap_deck.proofs.DocumentsLemmas.Joining.{added_to_none, marks_after_append}
use Rattle.wap_deck.proofs.DocumentsLemmas.Together.{items_together}
use Rattle.wap_deckcheck.specs.Reached.{IsReachedBy}
use Rattle.wap_deckcheck.specs.Places.{own_name, names_among}
use Rattle.wap_deckcheck.proofs.Walking.{names-append, names_in_node}
use Rattle.wap_deckcheck.proofs.Following.{reached_node}
use Rattle.wap_mend.specs.inside.Building.{IsKept, IsApart, IsBuilt, Stand, IsFilled}
use Rattle.wap_mend.specs.inside.Names.{names_with}
use Rattle.wap_mend.proofs.Suiting.{kept_forms}

-- ---- names of dos

-- those in content with an element more
pub names_behind : (room : ℕ) (items : List Item) (node : Node)
    → names_among true (suc room) (items ++ item.Node node ∷ [])
    ≡ names_among true (suc room) items ++ names_with room node
names_behind room items node =
    names-append true (suc room) items (item.Node node ∷ [])
    ∙ ap (λ names. names_among true (suc room) items ++ names)
    (names_in_node true room (item.Node node) node (outs-Node node))

-- a text is no element
text_no_node : (parts : List Part) → node_of (item.Text parts) ≡ None
text_no_node parts = ap node_from (outs-Text parts)

-- a part behind the last item adds no element
last_nodes : (level : ItemLevel) (last : Item) (more : Part) → out-Item last ≡ level
    → filter_map node_of (after_last last (words_from level) more)
    ≡ cons_option (node_from level) []
last_nodes (Item-F.Text parts) last more is =
    ap (λ found. cons_option found []) (text_no_node (part_added parts more))
last_nodes (Item-F.Node node) last more is =
    ap (λ found. cons_option found (cons_option (node_of (item.Text (more ∷ []))) []))
    (ap node_from is)
    ∙ ap (λ found. node ∷ cons_option found []) (text_no_node (more ∷ []))

-- a part of a text more adds no element
pub nodes_same : (items : List Item) (more : Part)
    → filter_map node_of (part_after items more) ≡ filter_map node_of items
nodes_same [] more = ap (λ found. cons_option found []) (text_no_node (more ∷ []))
nodes_same (last ∷ []) more = last_nodes (out-Item last) last more refl
nodes_same (first ∷ next ∷ items) more =
    ap (λ nodes. cons_option (node_of first) nodes) (nodes_same (next ∷ items) more)

-- so those in content with a part of a text more are the same
pub names_same : (room : ℕ) (items : List Item) (more : Part)
    → names_among true (suc room) (part_after items more) ≡ names_among true (suc room) items
names_same room items more =
    let below : Node → List Node = λ node. node ∷ nodes_in room node.kids in
    ap (λ nodes. filter_map (own_name true) (flat_map below nodes)) (nodes_same items more)

-- ---- content that documents can mean

-- a text with a character has one with more behind it
no_part : (a b : List ℕ) → a ≢ [] → a ++ b ≢ []
no_part [] b some none = absurd (some refl)
no_part (c ∷ a) b some none = absurd (cc none)

-- a part before another
before_each : (first more : Part) → IsPart first → IsPart more
    → AllByRecursion IsPart (before first (more ∷ []))
before_each (Lit a) (Lit b) is are = (no_part a b is, tt)
before_each (Lit a) (Var name conv) is are = (is, (are, tt))
before_each (Var name conv) more is are = (is, (are, tt))

-- each part of a text with a part more is one
part_added_each : (parts : List Part) (more : Part) → AllByRecursion IsPart parts → IsPart more
    → AllByRecursion IsPart (part_added parts more)
part_added_each [] more each is = (is, tt)
part_added_each (last ∷ []) more each is = before_each last more each.0 is
part_added_each (first ∷ next ∷ parts) more each is =
    (each.0, part_added_each (next ∷ parts) more each.1 is)

-- what holds of each of some and of each of more
pub each_append : {X : Type 0} (P : X → Type 0) (xs ys : List X) → AllByRecursion P xs
    → AllByRecursion P ys → AllByRecursion P (xs ++ ys)
each_append P [] ys some more = more
each_append P (x ∷ xs) ys some more = (some.0, each_append P xs ys some.1 more)

module _ (inner : Node → Type 0) where
  -- an item as it has to be
  abbrev IsOpened : Item → Type 0
  IsOpened one = IsItem inner (out-Item one)

  -- a text of parts is one
  text_opened : (parts : List Part) → AllByRecursion IsPart parts → IsOpened (item.Text parts)
  text_opened parts each = subst (IsItem inner) (sym (outs-Text parts)) each

  -- so is the last item with a part behind it
  last_each : (level : ItemLevel) (last : Item) (more : Part) → IsItem inner level → IsOpened last
      → IsPart more → AllByRecursion IsOpened (after_last last (words_from level) more)
  last_each (Item-F.Text parts) last more level_is last_is is =
      (text_opened (part_added parts more) (part_added_each parts more level_is is), tt)
  last_each (Item-F.Node one) last more level_is last_is is =
      (last_is, (text_opened (more ∷ []) (is, tt), tt))

  -- so is each of some with a part behind them
  part_after_each : (items : List Item) (more : Part) → AllByRecursion IsOpened items
      → IsPart more → AllByRecursion IsOpened (part_after items more)
  part_after_each [] more each is = (text_opened (more ∷ []) (is, tt), tt)
  part_after_each (last ∷ []) more each is = last_each (out-Item last) last more each.0 each.0 is
  part_after_each (first ∷ next ∷ items) more each is =
      (each.0, part_after_each (next ∷ items) more each.1 is)

  -- texts stay joined when marks are added
  marks_together : (items : List Item) (marks : List Mark) → items_of (marks_of items) ≡ items
      → items_of (marks_of (marks_after items marks)) ≡ marks_after items marks
  marks_together items marks together =
      let old = marks_of items in
      let made = ap (λ some. marks_after some marks) (sym together ∙ sym (added_to_none old))
      ∙ sym (marks_after_append [] old marks) ∙ added_to_none (old ++ marks) in
      ap (λ some. items_of (marks_of some)) made ∙ items_together (old ++ marks) ∙ sym made

  -- content with a part of a text more
  content_part : (items : List Item) (more : Part) → IsContent inner items → IsPart more
      → IsContent inner (part_after items more)
  content_part items more content is = record {
    each = part_after_each items more content.each is;
    together = marks_together items (decks.part more ∷ []) content.together;
  }

  -- content with an element more
  content_node : (items : List Item) (more : Node) → IsContent inner items → inner more
      → IsContent inner (items ++ item.Node more ∷ [])
  content_node items more content is = record {
    each =
        each_append IsOpened items (item.Node more ∷ []) content.each
        (subst (IsItem inner) (sym (outs-Node more)) is, tt);
    together = marks_together items (decks.node more ∷ []) content.together;
  }

-- content with parts of a text and with one more
pub parts_more : (items : List Item) (parts : List Part) (n : ℕ) (one : Part)
    → n < length parts → one ≡ get_or parts n one
    → part_after (marks_after items (map decks.part (take n parts))) one
    ≡ marks_after items (map decks.part (take (n + 1) parts))
parts_more items parts n one within is =
    let marks = map decks.part (take n parts) in
    sym (marks_after_append items marks (decks.part one ∷ []))
    ∙ ap (marks_after items) (sym (map-append decks.part (take n parts) (one ∷ [])))
    ∙ ap (λ some. marks_after items (map decks.part (take n parts ++ some ∷ []))) is
    ∙ ap (λ some. marks_after items (map decks.part some)) (sym (take_more parts n one within))

-- ---- where items may stand

module _ (rule : Rule) where
  -- a text may stand where there may be texts
  text_stands : (earlier : List Item) (parts : List Part) → rule.text ≡ true
      → stands rule earlier (node_of (item.Text parts)) (words_of (item.Text parts)) ≡ true
  text_stands earlier parts texts =
      ap (λ level. stands rule earlier (node_from level) (words_from level)) (outs-Text parts)
      ∙ ap (λ b. b || is_blank_text parts) texts

  -- the last item with a part behind it may stand where it stands
  last_stand : (level : ItemLevel) (earlier : List Item) (last : Item) (more : Part)
      → rule.text ≡ true → stands rule earlier (node_of last) (words_of last) ≡ true
      → Stand rule earlier (after_last last (words_from level) more)
  last_stand (Item-F.Text parts) earlier last more texts is =
      (text_stands earlier (part_added parts more) texts, tt)
  last_stand (Item-F.Node one) earlier last more texts is =
      (is, (text_stands (earlier ++ last ∷ []) (more ∷ []) texts, tt))

  -- items with a part of a text more may stand where they stand
  stand_part : (earlier items : List Item) (more : Part) → rule.text ≡ true
      → Stand rule earlier items → Stand rule earlier (part_after items more)
  stand_part earlier [] more texts stand = (text_stands earlier (more ∷ []) texts, tt)
  stand_part earlier (last ∷ []) more texts stand =
      last_stand (out-Item last) earlier last more texts stand.0
  stand_part earlier (first ∷ next ∷ items) more texts stand =
      (stand.0, stand_part (earlier ++ first ∷ []) (next ∷ items) more texts stand.1)

  -- so do items with one more that may stand behind them
  stand_behind : (earlier items : List Item) (last : Item) → Stand rule earlier items
      → stands rule (earlier ++ items) (node_of last) (words_of last) ≡ true
      → Stand rule earlier (items ++ last ∷ [])
  stand_behind earlier [] last stand is = (
    ap (λ before. stands rule before (node_of last) (words_of last)) (sym (append-nil earlier))
        ∙ is,
    tt,
  )
  stand_behind earlier (first ∷ items) last stand is = (
    stand.0,
    stand_behind (earlier ++ first ∷ []) items last stand.1
        (ap (λ before. stands rule before (node_of last) (words_of last))
        (append_assoc earlier (first ∷ []) items) ∙ is),
  )

  -- an element may stand behind items if it may follow them
  node_stands : (items : List Item) (node : Node) → may_follow rule (tags_of items) node.tag ≡ true
      → stands rule items (node_of (item.Node node)) (words_of (item.Node node)) ≡ true
  node_stands items node follows =
      ap (λ level. stands rule items (node_from level) (words_from level)) (outs-Node node)
      ∙ follows

  -- items that may stand where they stand do so by their numbers
  stands_at : (earlier items : List Item) → Stand rule earlier items → (i : ℕ) (item : Item)
      → slice_get items i ≡ Some item
      → stands rule (earlier ++ take i items) (node_of item) (words_of item) ≡ true
  stands_at earlier [] stand i item is = absurd (cc is)
  stands_at earlier (first ∷ items) stand zero item is =
      let same : first ≡ item = cc in
      ap (λ before. stands rule before (node_of item) (words_of item)) (append-nil earlier)
      ∙ ap (λ one. stands rule earlier (node_of one) (words_of one)) (sym same) ∙ stand.0
  stands_at earlier (first ∷ items) stand (suc i) item is =
      ap (λ before. stands rule before (node_of item) (words_of item))
      (sym (append_assoc earlier (first ∷ []) (take i items)))
      ∙ stands_at (earlier ++ first ∷ []) items stand.1 i item is

-- ---- content that keeps its rule

-- the elements in content with an element more
pub nodes_behind : (items : List Item) (node : Node)
    → filter_map node_of (items ++ item.Node node ∷ []) ≡ filter_map node_of items ++ node ∷ []
nodes_behind items node =
    filter_map-append node_of items (item.Node node ∷ [])
    ∙ ap (λ found. filter_map node_of items ++ cons_option found []) (ap node_from (outs-Node node))

-- no content
pub nothing_filled : (rule : Rule) (room : ℕ) → room < LEVEL_LIMIT → IsFilled rule 0 room []
nothing_filled rule room deep = record {
  deep = deep;
  order = λ place. none_before place;
  content = record { each = tt; together = refl };
  stand = tt;
  good = tt;
  apart = tt;
}
  where
    none_before : (place : ℕ) → true ≡ nat_le 0 place
    none_before place = grind (arith, nat_tests)

-- content with a part of a text more
pub part_filled : (rule : Rule) (reached room : ℕ) (items : List Item) (more : Part)
    → IsFilled rule reached room items → rule.text ≡ true → IsPart more
    → IsFilled rule reached room (part_after items more)
part_filled rule reached room items more filled texts is =
    let same = nodes_same items more in
    record {
      deep = filled.deep;
      order = λ place.
          ap (λ nodes. list_all
          (λ first. is_not_behind (place_in rule.groups first) (Some place))
          (map (λ node. node.tag) nodes)) same
          ∙ filled.order place;
      content = content_part (IsNode room) items more filled.content is;
      stand = stand_part rule [] items more texts filled.stand;
      good =
          subst (λ nodes. AllByRecursion IsGoodNode
          (flat_map (λ node. node ∷ nodes_in room node.kids) nodes)) (sym same) filled.good;
      apart = subst (AllByRecursion (IsApart room)) (sym same) filled.apart;
    }

-- content with an element more
pub element_filled : (rule : Rule) (reached next room : ℕ) (items : List Item) (node : Node)
    → IsFilled rule reached room items → may_follow rule (tags_of items) node.tag ≡ true
    → IsReachedBy rule reached node.tag next → IsBuilt room node
    → IsFilled rule next room (items ++ item.Node node ∷ [])
element_filled rule reached next room items node filled follows by built =
    let more = nodes_behind items node in
    let below : Node → List Node = λ node. node ∷ nodes_in room node.kids in
    record {
      deep = filled.deep;
      order =
          reached_node rule items reached next (item.Node node) node filled.order (outs-Node node)
          by;
      content = content_node (IsNode room) items node filled.content built.normal;
      stand =
          stand_behind rule [] items (item.Node node) filled.stand
          (node_stands rule items node follows);
      good =
          subst (AllByRecursion IsGoodNode)
          (sym (ap (flat_map below) more
          ∙ flat_map-append below (filter_map node_of items) (node ∷ [])
          ∙ ap (λ nodes. flat_map below (filter_map node_of items) ++ nodes)
          (append-nil (below node))))
          (each_append IsGoodNode (flat_map below (filter_map node_of items)) (below node)
          filled.good built.good);
      apart =
          subst (AllByRecursion (IsApart room)) (sym more)
          (each_append (IsApart room) (filter_map node_of items) (node ∷ []) filled.apart
          (built.apart, tt));
    }

-- an element that has what it can't do without
pub element_built : (tag : Tag) (rows : List (AttrName × List Part)) (rule : Rule)
    (reached room : ℕ) (items : List Item) → tag ≢ tags.Other → rule ≡ rule_of tag
    → IsKept tag rows → IsFilled rule reached room items
    → (holds_dos tag ≡ true → AreDistinct (names_among true (suc room) items))
    → has_needs rule (record { tag = tag; attrs = rows; kids = items }) ≡ true
    → IsBuilt (suc room) (record { tag = tag; attrs = rows; kids = items })
element_built tag rows rule reached room items known ruled kept filled apart whole =
    let made : Node = record { tag = tag; attrs = rows; kids = items } in
    record {
      normal =
          record { known = known; attributes = kept.normal; content = filled.content };
      good = (
        record {
          children = λ i. subst (λ rule. StandsAt rule items i) ruled
              (stands_at rule [] items filled.stand i);
          once = kept.once;
          whole = ap (λ rule. has_needs rule made) (sym ruled) ∙ whole;
          forms = kept_forms tag rows items kept.suits;
        },
        filled.good,
      );
      apart = apart;
    }
