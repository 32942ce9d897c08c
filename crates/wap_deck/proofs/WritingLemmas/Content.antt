-- Nodes and their content.
use Rattle.std.proofs.Common.{◌≡◌, ℕ, zero, suc, ◌+◌, ◌-◌, ◌<◌, ◌≤◌, Bool, true, false, List, []}
use Rattle.std.proofs.Common.{◌∷◌, map, refl, sym, ap, ap₂, ◌∙◌, arith, ltb-true}
use Rattle.std.specs.Prelude.{nat_lt}
use Rattle.std.proofs.lemmas.Bool.{lt-ltb}
use Rattle.wap_base.specs.declared.name.Part.{Part}
use Rattle.wap_tokens.specs.declared.markup.codes.TheConstants.{END}
use Rattle.wap_tokens.specs.declared.markup.document.Element.{Element}
use Rattle.wap_tokens.specs.declared.markup.document.Kid.{Kid}
use Rattle.wap_tokens.specs.declared.markup.document.Kid.TheOpen.{Kid-F}
use Rattle.wap_tokens.specs.declared.markup.document.Kid.TheVariants as kid
use Rattle.wap_tokens.specs.declared.markup.deck.Node.{Node}
use Rattle.wap_tokens.specs.declared.markup.deck.Item.{Item, out-Item}
use Rattle.wap_tokens.specs.declared.markup.deck.Item.TheVariants as item
use Rattle.wap_tokens.specs.declared.markup.name.Tag.{Tag}
use Rattle.wap_tokens.specs.declared.markup.name.Tag.TheVariants as tags
use Rattle.wap_tokens.specs.markup.Tables.{tag_rows, code_of}
use Rattle.wap_tokens.specs.markup.Writing.{attr_of, kids_from, item_kids}
use Rattle.wap_tokens.specs.markup.Writing.{items_kids, element_of, node_kids}
use Rattle.wap_wbxml.specs.declared.spelling.output.Output.{Output}
use Rattle.wap_wbxml.specs.spelling.Writings.{Writing, plain, ◌⨾◌, each, ended, on_tag_page}
use Rattle.wap_wbxml.specs.spelling.Spelling.{bit, bits, attr_spelling, kid_spelling}
use Rattle.wap_wbxml.specs.spelling.Spelling.{element_spelling}
use Rattle.wap_wbxml.specs.spelling.Written.{written}
use Rattle.wap_wbxml.proofs.SpellingLemmas.Appending.{in_turn, each_none}
use Rattle.wap_deck.specs.writing.inside.WrittenTexts.{part_spelling, content_bit, has_any}
use Rattle.wap_deck.proofs.WritingLemmas.Lists.{each_one, each_flat}
use Rattle.wap_deck.proofs.WritingLemmas.PiecesAndKids.{opened, parts_kids}

-- ---- whether content follows

pub node_gives : (levels : ℕ) (one : Item) (node : Node) → one ≡ item.Node node
    → nat_lt 0 levels ≡ has_any (item_kids (node_kids levels) one)
node_gives zero one node is =
    ap (λ level. has_any (kids_from (node_kids zero) level))
    (sym (ap out-Item is ∙ item.outs-Node node))
node_gives (suc levels) one node is =
    lt-ltb 0 (suc levels) (omega arith)
    ∙ ap (λ level. has_any (kids_from (node_kids (suc levels)) level))
    (sym (ap out-Item is ∙ item.outs-Node node))

-- ---- tags

small : (tag : Tag) → nat_lt (code_of tag) 64 ≡ true
unfolding code_of tag_rows
small tags.Other = refl
small tag = refl

pub code_small : (tag : Tag) → code_of tag < 64
code_small tag = ltb-true (code_of tag) 64 (small tag)

pub bit_map : {A B : Type 0} (value : ℕ) (f : A → B) (xs : List A)
    → bit value xs ≡ bit value (map f xs)
bit_map value f [] = refl
bit_map value f (x ∷ xs) = refl

bit_some : {A : Type 0} (xs : List A) → content_bit (has_any xs) ≡ bit 64 xs
bit_some [] = refl
bit_some (x ∷ xs) = refl

pub bit_within : {A : Type 0} (value : ℕ) (xs : List A) → bit value xs ≤ value
bit_within value [] = omega arith
bit_within value (x ∷ xs) = omega arith

pub content_within : (content : Bool) → content_bit content ≤ 64
content_within true = omega arith
content_within false = omega arith

pub bits_are : (node : Node) (kids : List Kid)
    → bit 128 node.attrs + content_bit (has_any kids) ≡ bits (element_of node kids)
bits_are node kids = ap₂ (λ (a b : ℕ). a + b) (bit_map 128 attr_of node.attrs) (bit_some kids)

-- ---- content

module _ (names : List (List ℕ)) where
  pub text_written : (levels : ℕ) (one : Item) (parts : List Part) → one ≡ item.Text parts
      → (before after : Output)
      → after ≡ written (each part_spelling parts) before
      → after ≡ written (each (kid_spelling names (element_spelling names levels))
      (item_kids (node_kids levels) one)) before
  text_written levels one parts is before after so =
      let spell = kid_spelling names (element_spelling names levels) in
      so ∙ parts_kids names (element_spelling names levels) parts before
      ∙ ap (λ level. written (each spell (kids_from (node_kids levels) level)) before)
      (sym (ap out-Item is ∙ item.outs-Text parts))

  abbrev element : ℕ → Node → Element
  element levels node = element_of node (items_kids (node_kids levels) node.kids)

  pub none_written : (levels : ℕ) (one : Item) (node : Node) → one ≡ item.Node node → levels ≡ 0
      → (output : Output)
      → output ≡ written (each (kid_spelling names (element_spelling names levels))
      (item_kids (node_kids levels) one)) output
  none_written (suc levels) one node is none output = absurd (omega arith)
  none_written zero one node is none output =
      let spell = kid_spelling names (element_spelling names zero) in
      each_none spell output
      ∙ ap (λ level. written (each spell (kids_from (node_kids zero) level)) output)
      (sym (ap out-Item is ∙ item.outs-Node node))

  pub node_written : (levels : ℕ) (one : Item) (node : Node) → one ≡ item.Node node → 0 < levels
      → (before after : Output)
      → after
      ≡ written (element_spelling names (suc (levels - 1)) (element (levels - 1) node)) before
      → after ≡ written (each (kid_spelling names (element_spelling names levels))
      (item_kids (node_kids levels) one)) before
  node_written zero one node is few before after so = absurd (omega arith)
  node_written (suc levels) one node is few before after so =
      let less : suc levels - 1 ≡ levels = omega arith in
      let inner = element_spelling names (suc levels) in
      let spell = kid_spelling names inner in
      let inside = element levels node in
      so ∙ ap (λ (n : ℕ). written (element_spelling names (suc n) (element n node)) before) less
      ∙ ap (λ (w : Writing). written w before)
      (opened names inner (kid.Element inside) (Kid-F.Element inside) (kid.outs-Element inside))
      ∙ each_one spell (kid.Element inside) before
      ∙ ap (λ level. written (each spell (kids_from (node_kids (suc levels)) level)) before)
      (sym (ap out-Item is ∙ item.outs-Node node))

  pub items_written : (levels : ℕ) (items : List Item) (output : Output)
      → written (each (λ one. each (kid_spelling names (element_spelling names levels))
      (item_kids (node_kids levels) one)) items) output
      ≡ written (each (kid_spelling names (element_spelling names levels))
      (items_kids (node_kids levels) items)) output
  items_written levels items output =
      let spell = kid_spelling names (element_spelling names levels) in
      each_flat spell (item_kids (node_kids levels))
      (λ one. each spell (item_kids (node_kids levels) one)) (λ x output. refl) items output

  -- ---- its end

  module _ {A : Type 0} (write : A → Writing) where
    pub end_none : (xs : List A) → false ≡ has_any xs → (before after : Output)
        → after ≡ written (each write xs) before
        → after ≡ written (ended write xs) before
    unfolding each
    end_none [] none before after so = so
    end_none (x ∷ xs) none before after so = absurd cc

    pub end_some : (xs : List A) → true ≡ has_any xs → (before between after : Output)
        → between ≡ written (each write xs) before
        → after ≡ written (plain (END ∷ [])) between → after ≡ written (ended write xs) before
    end_some [] more before between after so end = absurd cc
    end_some (x ∷ xs) more before between after so end =
        in_turn (each write (x ∷ xs)) (plain (END ∷ [])) before between after so end

  -- ---- a node

  pub element_written : (levels : ℕ) (node : Node) (before paged tagged between after : Output)
      → paged ≡ written (on_tag_page 0) before
      → tagged ≡ written (plain ((code_of node.tag + bits (element levels node)) ∷ [])) paged
      → between ≡ written (ended (attr_spelling names) (map attr_of node.attrs)) tagged
      → after ≡ written (ended (kid_spelling names (element_spelling names levels))
      (items_kids (node_kids levels) node.kids)) between
      → after ≡ written (element_spelling names (suc levels) (element levels node)) before
  unfolding element_spelling
  element_written levels node before paged tagged between after one two three four =
      let inside = element levels node in
      let tag = plain ((code_of node.tag + bits inside) ∷ []) in
      let attributes = ended (attr_spelling names) inside.attrs in
      let content = ended (kid_spelling names (element_spelling names levels)) inside.kids in
      in_turn (on_tag_page 0) (tag ⨾ attributes ⨾ content) before paged after one
      (in_turn tag (attributes ⨾ content) paged tagged after two
      (in_turn attributes content tagged between after three four))
