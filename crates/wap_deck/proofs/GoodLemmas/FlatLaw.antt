-- The document of a deck is written as the bytes of its nodes.
use Rattle.std.proofs.Common.{◌≡◌, ℕ, zero, suc, ◌+◌, ◌^◌, ◌<◌, List, [], ◌∷◌, ◌++◌, length, map}
use Rattle.std.proofs.Common.{Option, Some, None, refl, sym, ap, subst, ◌∙◌, arith}
use Rattle.std.specs.List.{flat_map, AllByRecursion}
use Rattle.std.proofs.lemmas.List.{append-nil}
use Rattle.std.proofs.lemmas.Grind.{flat_map-append}
use Rattle.wap_base.specs.declared.name.Part.{Part}
use Rattle.wap_base.specs.declared.name.Part.TheVariants.{Lit, Var}
use Rattle.wap_tokens.specs.declared.markup.document.Element.{Element}
use Rattle.wap_tokens.specs.declared.markup.document.Kid.{Kid, out-Kid}
use Rattle.wap_tokens.specs.declared.markup.document.Kid.TheOpen.{Kid-F}
use Rattle.wap_tokens.specs.declared.markup.document.Kid.TheVariants as kid
use Rattle.wap_tokens.specs.declared.markup.document.Piece.TheVariants as piece
use Rattle.wap_tokens.specs.declared.markup.document.Token.TheVariants.{Code}
use Rattle.wap_tokens.specs.declared.markup.deck.Node.{Node}
use Rattle.wap_tokens.specs.declared.markup.deck.Item.{Item, out-Item}
use Rattle.wap_tokens.specs.declared.markup.deck.Item.TheOpen.{Item-F}
use Rattle.wap_tokens.specs.declared.markup.name.AttrName.{AttrName}
use Rattle.wap_tokens.specs.markup.Grammar.{table_size}
use Rattle.wap_tokens.specs.markup.Tables.{code_of}
use Rattle.wap_tokens.specs.markup.Trees.{ItemLevel}
use Rattle.wap_tokens.specs.markup.Normal.{IsPart}
use Rattle.wap_tokens.specs.markup.Writing.{runs_of, run_piece, run_kid, part_pieces, part_kids}
use Rattle.wap_tokens.specs.markup.Writing.{attr_of}
use Rattle.wap_tokens.specs.markup.Writing.{kids_from, item_kids, items_kids, node_kids, element_of}
use Rattle.wap_wbxml.specs.spelling.Writings.{Writing, plain, ◌⨾◌, each, ended, on_tag_page}
use Rattle.wap_wbxml.specs.spelling.Names.{KidLevel}
use Rattle.wap_wbxml.specs.spelling.Spelling.{bit, bits, tag_spelling, attr_spelling}
use Rattle.wap_wbxml.specs.spelling.Spelling.{opened_spelling, kid_spelling, element_by}
use Rattle.wap_wbxml.specs.spelling.Spelling.{element_spelling, first_pages}
use Rattle.wap_deck.proofs.WritingLemmas.Content.{bit_map}
use Rattle.wap_deck.proofs.GoodLemmas.Flat.{Flat, flat_on, flat_both, flat_one, Filled, flat_ended}
use Rattle.wap_deck.proofs.GoodLemmas.PartLaw.{piece_bytes, runs_filled}
use Rattle.wap_deck.proofs.GoodLemmas.AttrLaw.{IsGoodAttr, attr_bytes, attr_flat}
use Rattle.wap_deck.proofs.GoodLemmas.NodeLaw.{parts_bytes, level_bytes, item_bytes, IsBefore}
use Rattle.wap_deck.proofs.GoodLemmas.NodeLaw.{AreItems, list_bytes, mark_of, behind_mark}
use Rattle.wap_deck.proofs.GoodLemmas.NodeLaw.{node_bytes, IsGoodElement, IsGoodNode}

flat_as : (write : Writing) (a b : List ℕ) → a ≡ b → Flat write a → Flat write b
flat_as write a b same flat = subst (Flat write) same flat

filled_append : {A : Type 0} (xs ys : List A) → Filled xs → Filled (xs ++ ys)
filled_append {A = A} xs ys filled = record {
  first = filled.first;
  others = filled.others ++ ys;
  are = ap (λ (l : List A). l ++ ys) filled.are;
}

filled_map : {A B : Type 0} (f : A → B) (xs : List A) → Filled xs → Filled (map f xs)
filled_map f xs filled =
    record { first = f filled.first; others = map f filled.others; are = ap (map f) filled.are }

bit_of : {A : Type 0} (value : ℕ) (xs : List A) → Filled xs → bit value xs ≡ value
bit_of value xs filled = ap (bit value) filled.are

module _ (all : List (List ℕ)) (size : table_size all < 2 ^ 32) where
  -- ---- texts

  module _ (inner : Element → Writing) where
    kid_flat : (k : Kid) (level : KidLevel) (bytes : List ℕ) → out-Kid k ≡ level
        → Flat (opened_spelling all inner level) bytes → Flat (kid_spelling all inner k) bytes
    kid_flat k level bytes opened flat =
        ap (λ (l : KidLevel). opened_spelling all inner l first_pages) opened ∙ flat

    run_flat : (run : Option (List ℕ))
        → Flat (kid_spelling all inner (run_kid run)) (piece_bytes (run_piece run))
    run_flat None =
        kid_flat (kid.Entity 0) (Kid-F.Entity 0) (piece_bytes (piece.Entity 0))
        (kid.outs-Entity 0) refl
    run_flat (Some text) =
        kid_flat (kid.Str text) (Kid-F.Str text) (piece_bytes (piece.Str text))
        (kid.outs-Str text) refl

    runs_flat : (runs : List (Option (List ℕ)))
        → Flat (each (kid_spelling all inner) (map run_kid runs))
        (flat_map piece_bytes (map run_piece runs))
    unfolding each
    runs_flat [] = refl
    runs_flat (run ∷ runs) =
        flat_on (kid_spelling all inner (run_kid run))
        (each (kid_spelling all inner) (map run_kid runs)) (piece_bytes (run_piece run))
        (flat_map piece_bytes (map run_piece runs))
        (run_flat run) (runs_flat runs)

    part_flat : (one : Part) → Flat (each (kid_spelling all inner) (part_kids one))
        (flat_map piece_bytes (part_pieces one))
    part_flat (Lit text) = runs_flat (runs_of text)
    part_flat (Var name conv) =
        flat_one (kid_spelling all inner) (kid.Var name conv) (piece_bytes (piece.Var name conv))
        (kid_flat (kid.Var name conv) (Kid-F.Var name conv) (piece_bytes (piece.Var name conv))
        (kid.outs-Var name conv) refl)

    parts_flat : (parts : List Part)
        → Flat (each (kid_spelling all inner) (flat_map part_kids parts)) (parts_bytes parts)
    unfolding each
    parts_flat [] = refl
    parts_flat (one ∷ parts) =
        flat_as (each (kid_spelling all inner) (flat_map part_kids (one ∷ parts)))
        (flat_map piece_bytes (part_pieces one) ++ parts_bytes parts) (parts_bytes (one ∷ parts))
        (sym (flat_map-append piece_bytes (part_pieces one) (flat_map part_pieces parts)))
        (flat_both (kid_spelling all inner) (part_kids one) (flat_map part_kids parts) (flat_map
        piece_bytes (part_pieces one)) (parts_bytes parts) (part_flat one) (parts_flat parts))

  -- ---- content

  part_filled : (one : Part) → IsPart one → Filled (part_kids one)
  part_filled (Lit text) is = filled_map run_kid (runs_of text) (runs_filled text is)
  part_filled (Var name conv) is = record { first = kid.Var name conv; others = []; are = refl }

  parts_filled : (parts : List Part) → 0 < length parts → AllByRecursion IsPart parts
      → Filled (flat_map part_kids parts)
  parts_filled [] some are = absurd (omega arith)
  parts_filled (one ∷ parts) some are =
      filled_append (part_kids one) (flat_map part_kids parts) (part_filled one are.0)

  node_filled : (levels : ℕ) (one : Node) → IsGoodNode all size levels one
      → Filled (node_kids levels one)
  unfolding IsGoodNode
  node_filled zero one is = absurd is
  node_filled (suc levels) one is = record {
    first = kid.Element (element_of one (items_kids (node_kids levels) one.kids));
    others = [];
    are = refl;
  }

  level_filled : (levels : ℕ) (level : ItemLevel) (items : List Item)
      → IsBefore (IsGoodNode all size levels) level items
      → Filled (kids_from (node_kids levels) level)
  level_filled levels (Item-F.Text parts) items is = parts_filled parts is.0 is.1.each
  level_filled levels (Item-F.Node one) items is = node_filled levels one is

  module _ (levels : ℕ) (spells : (one : Node) → IsGoodNode all size levels one
      → Flat (each (kid_spelling all (element_spelling all levels)) (node_kids levels one))
      (node_bytes all size levels one)) where
    level_flat : (level : ItemLevel) (items : List Item)
        → IsBefore (IsGoodNode all size levels) level items
        → Flat (each (kid_spelling all (element_spelling all levels))
        (kids_from (node_kids levels) level)) (level_bytes (node_bytes all size levels) level)
    level_flat (Item-F.Text parts) items is = parts_flat (element_spelling all levels) parts
    level_flat (Item-F.Node one) items is = spells one is

    items_flat : (items : List Item) → AreItems (IsGoodNode all size levels) items → Flat (each
        (kid_spelling all (element_spelling all levels)) (items_kids (node_kids levels) items))
        (flat_map (item_bytes (node_bytes all size levels)) items)
    unfolding each
    items_flat [] are = refl
    items_flat (first ∷ items) are =
        flat_both (kid_spelling all (element_spelling all levels))
        (item_kids (node_kids levels) first) (items_kids (node_kids levels) items)
        (item_bytes (node_bytes all size levels) first)
        (flat_map (item_bytes (node_bytes all size levels)) items)
        (level_flat (out-Item first) items are.0) (items_flat items are.1)

    content_flat : (items : List Item) → AreItems (IsGoodNode all size levels) items → Flat (ended
        (kid_spelling all (element_spelling all levels)) (items_kids (node_kids levels) items))
        (list_bytes (item_bytes (node_bytes all size levels)) items)
    content_flat [] are = refl
    content_flat (first ∷ items) are =
        flat_ended (kid_spelling all (element_spelling all levels)) (items_kids (node_kids levels)
        (first ∷ items)) (flat_map (item_bytes (node_bytes all size levels)) (first ∷ items))
        (filled_append (item_kids (node_kids levels) first) (items_kids (node_kids levels) items)
        (level_filled levels (out-Item first) items are.0))
        (items_flat (first ∷ items) are)

    content_bit : (items : List Item) → AreItems (IsGoodNode all size levels) items
        → bit 64 (items_kids (node_kids levels) items) ≡ bit 64 items
    content_bit [] are = refl
    content_bit (first ∷ items) are =
        bit_of 64 (items_kids (node_kids levels) (first ∷ items))
        (filled_append (item_kids (node_kids levels) first) (items_kids (node_kids levels) items)
        (level_filled levels (out-Item first) items are.0))

  -- ---- attributes

  attrs_each : (attrs : List (AttrName × List Part)) → AllByRecursion (IsGoodAttr all size) attrs
      → Flat (each (attr_spelling all) (map attr_of attrs)) (flat_map (attr_bytes all size) attrs)
  unfolding each
  attrs_each [] are = refl
  attrs_each (one ∷ attrs) are =
      flat_on (attr_spelling all (attr_of one)) (each (attr_spelling all) (map attr_of attrs))
      (attr_bytes all size one) (flat_map (attr_bytes all size) attrs)
      (attr_flat all size one are.0) (attrs_each attrs are.1)

  attrs_flat : (attrs : List (AttrName × List Part)) → AllByRecursion (IsGoodAttr all size) attrs
      → Flat (ended (attr_spelling all) (map attr_of attrs))
      (list_bytes (attr_bytes all size) attrs)
  attrs_flat [] are = refl
  attrs_flat (one ∷ attrs) are =
      flat_ended (attr_spelling all) (map attr_of (one ∷ attrs))
      (flat_map (attr_bytes all size) (one ∷ attrs))
      (record { first = attr_of one; others = map attr_of attrs; are = refl })
      (attrs_each (one ∷ attrs) are)

  -- ---- nodes

  element_flat : (levels : ℕ)
      → ((one : Node) → IsGoodNode all size levels one
      → Flat (each (kid_spelling all (element_spelling all levels)) (node_kids levels one))
      (node_bytes all size levels one))
      → (one : Node) → IsGoodElement all size (IsGoodNode all size levels) one
      → Flat (element_by all (element_spelling all levels)
      (element_of one (items_kids (node_kids levels) one.kids)))
      (mark_of all size one ∷ behind_mark all size (item_bytes (node_bytes all size levels)) one)
  element_flat levels spells one is =
      let kids = items_kids (node_kids levels) one.kids in
      let element = element_of one kids in
      let attrs = list_bytes (attr_bytes all size) one.attrs in
      let content = list_bytes (item_bytes (node_bytes all size levels)) one.kids in
      let write_attrs = ended (attr_spelling all) element.attrs in
      let write_kids = ended (kid_spelling all (element_spelling all levels)) kids in
      let tag = tag_spelling all (bits element) (Code (code_of one.tag)) in
      let a_bit = sym (bit_map 128 attr_of one.attrs) in
      let k_bit = content_bit levels spells one.kids is.kids in
      let same : code_of one.tag + bits element ≡ mark_of all size one = omega arith in
      flat_on (on_tag_page 0) (plain tag ⨾ write_attrs ⨾ write_kids) []
      (mark_of all size one ∷ (attrs ++ content)) refl
      (flat_on (plain tag) (write_attrs ⨾ write_kids) (mark_of all size one ∷ []) (attrs ++ content)
      (ap (λ (n : ℕ). plain (n ∷ []) first_pages) same)
      (flat_on write_attrs write_kids attrs content (attrs_flat one.attrs is.attrs)
      (content_flat levels spells one.kids is.kids)))

  pub node_flat : (levels : ℕ) (one : Node) → IsGoodNode all size levels one
      → Flat (each (kid_spelling all (element_spelling all levels)) (node_kids levels one))
      (node_bytes all size levels one)
  unfolding IsGoodNode node_bytes element_spelling
  node_flat zero one is = absurd is
  node_flat (suc levels) one is =
      let element = element_of one (items_kids (node_kids levels) one.kids) in
      let bytes =
      mark_of all size one ∷ behind_mark all size (item_bytes (node_bytes all size levels)) one in
      flat_as (each (kid_spelling all (element_spelling all (suc levels)))
      (kid.Element element ∷ [])) (bytes ++ []) bytes (append-nil bytes)
      (flat_one (kid_spelling all (element_spelling all (suc levels))) (kid.Element element) bytes
      (kid_flat (element_spelling all (suc levels)) (kid.Element element)
      (Kid-F.Element element) bytes (kid.outs-Element element)
      (element_flat levels (node_flat levels) one is)))

  pub root_flat : (levels : ℕ) (one : Node)
      → IsGoodElement all size (IsGoodNode all size levels) one → Flat
      (element_spelling all (suc levels) (element_of one (items_kids (node_kids levels) one.kids)))
      (node_bytes all size (suc levels) one)
  unfolding node_bytes element_spelling
  root_flat levels one is = element_flat levels (node_flat levels) one is
