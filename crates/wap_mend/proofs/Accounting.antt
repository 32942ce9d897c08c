-- The signs of texts: what is some of a list, how many of it pass a test, and the signs and pieces
-- of content as it is put together.
use Rattle.std.proofs.Common.{◌≡◌, ℕ, suc, ◌+◌, ◌<◌, Bool, true, false, cond, List, [], ◌∷◌, ◌++◌}
use Rattle.std.proofs.Common.{map, length, take, get_or, refl, sym, ap, ◌∙◌, append_assoc}
use Rattle.std.specs.Prelude.{filter, not, ◌&&◌}
use Rattle.std.specs.List.{filter_map, flat_map, list_all}
use Rattle.std.proofs.lemmas.List.{append-nil, map-append, length-append, take_more}
use Rattle.std.proofs.lemmas.List.Elements.{filter-append}
use Rattle.std.proofs.lemmas.Grind.{flat_map-append}
use Rattle.wap_base.specs.declared.name.Part.{Part}
use Rattle.wap_base.specs.declared.name.Part.TheVariants.{Lit, Var}
use Rattle.wap_tokens.specs.declared.markup.deck.Node.{Node}
use Rattle.wap_tokens.specs.declared.markup.deck.Item.{Item, out-Item}
use Rattle.wap_tokens.specs.declared.markup.deck.Item.TheOpen.{Item-F}
use Rattle.wap_tokens.specs.declared.markup.deck.Item.TheVariants.{outs-Text, outs-Node}
use Rattle.wap_tokens.specs.declared.markup.deck.Item.TheVariants as item
use Rattle.wap_tokens.specs.markup.Trees.{ItemLevel, node_of, words_from}
use Rattle.wap_tokens.specs.markup.Decks.{before, part}
use Rattle.wap_tokens.specs.markup.Good.{is_blank, is_blank_text, nodes_in}
use Rattle.wap_deck.specs.documents.Adding.{part_added, after_last, part_after, marks_after}
use Rattle.wap_mend.specs.Accounts.{character, signs_of, item_signs, node_signs, signs_in}
use Rattle.wap_mend.specs.Accounts.{IsWithin, nothing, kept, left_out, number, is_paragraph}
use Rattle.wap_mend.specs.inside.Frames.{Piece, no_paragraphs, own_pieces, pieces_of_nodes}
use Rattle.wap_mend.proofs.Building.{nodes_same, nodes_behind}

-- ---- some of a list

-- a list is some of itself
pub within_refl : {X : Type 0} (xs : List X) → IsWithin xs xs
within_refl [] = nothing
within_refl (x ∷ xs) = kept x xs xs (within_refl xs)

-- nothing is some of any list
pub within_nothing : {X : Type 0} (xs : List X) → IsWithin [] xs
within_nothing [] = nothing
within_nothing (x ∷ xs) = left_out x [] xs (within_nothing xs)

-- some of some of a list is some of it
pub within_then : {X : Type 0} {a b c : List X} → IsWithin a b → IsWithin b c → IsWithin a c
within_then first nothing = first
within_then first (left_out y some all second) = left_out y _ all (within_then first second)
within_then (left_out x few more first) (kept y some all second) =
    left_out y few all (within_then first second)
within_then (kept x few more first) (kept y some all second) =
    kept y few all (within_then first second)

-- some of a list and some of another are some of both
pub within_both : {X : Type 0} {a b c d : List X} → IsWithin a b → IsWithin c d
    → IsWithin (a ++ c) (b ++ d)
within_both nothing second = second
within_both {c} {d} (kept x some all first) second =
    kept x (some ++ c) (all ++ d) (within_both first second)
within_both {c} {d} (left_out x some all first) second =
    left_out x (some ++ c) (all ++ d) (within_both first second)

-- a list is some of it with more behind it
pub within_first : {X : Type 0} (a b : List X) → IsWithin a (a ++ b)
within_first [] b = within_nothing b
within_first (x ∷ a) b = kept x a (a ++ b) (within_first a b)

-- a list is some of it with more before it
pub within_last : {X : Type 0} (a b : List X) → IsWithin b (a ++ b)
within_last [] b = within_refl b
within_last (x ∷ a) b = left_out x b (a ++ b) (within_last a b)

-- ---- how many pass a test

-- as many as in each of two lists pass in both
pub number-append : {X : Type 0} (test : X → Bool) (xs ys : List X)
    → number test (xs ++ ys) ≡ number test xs + number test ys
number-append test xs ys =
    ap length (filter-append test xs ys) ∙ length-append (filter test xs) (filter test ys)

-- ---- signs of texts

-- those of parts and more
pub signs_of-append : (some more : List Part)
    → signs_of (some ++ more) ≡ signs_of some ++ signs_of more
signs_of-append [] more = refl
signs_of-append (Lit text ∷ some) more =
    let here = map character (filter (λ c. not (is_blank c)) text) in
    ap (λ signs. here ++ signs) (signs_of-append some more)
    ∙ sym (append_assoc here (signs_of some) (signs_of more))
signs_of-append (Var name conv ∷ some) more =
    ap (λ signs. Var name conv ∷ signs) (signs_of-append some more)

-- those of two literals are those of one
literals_signs : (a b : List ℕ)
    → signs_of (Lit (a ++ b) ∷ []) ≡ signs_of (Lit a ∷ []) ++ signs_of (Lit b ∷ [])
literals_signs a b =
    let kept = filter (λ c. not (is_blank c)) in
    let signs : List ℕ → List Part = λ text. map character (kept text) in
    ap (λ text. map character text ++ []) (filter-append (λ c. not (is_blank c)) a b)
    ∙ append-nil (map character (kept a ++ kept b))
    ∙ map-append character (kept a) (kept b)
    ∙ ap (λ first. first ++ signs b) (sym (append-nil (signs a)))
    ∙ ap (λ last. (signs a ++ []) ++ last) (sym (append-nil (signs b)))

-- those of a part and one that may join it
before_signs : (last more : Part)
    → signs_of (before last (more ∷ [])) ≡ signs_of (last ∷ []) ++ signs_of (more ∷ [])
before_signs (Lit a) (Lit b) = literals_signs a b
before_signs (Lit a) (Var name conv) = signs_of-append (Lit a ∷ []) (Var name conv ∷ [])
before_signs (Var name conv) more = refl

-- what holds of a rest holds of it with a front
joined_on : {X : Type 0} (whole first rest old more all : List X) → all ≡ first ++ whole
    → whole ≡ rest ++ more → old ≡ first ++ rest → all ≡ old ++ more
joined_on whole first rest old more all begins joins was =
    begins ∙ ap (λ some. first ++ some) joins ∙ sym (append_assoc first rest more)
    ∙ ap (λ some. some ++ more) (sym was)

-- those of parts with one more, which may join the last
pub signs_added : (parts : List Part) (more : Part)
    → signs_of (part_added parts more) ≡ signs_of parts ++ signs_of (more ∷ [])
signs_added [] more = refl
signs_added (last ∷ []) more = before_signs last more
signs_added (first ∷ next ∷ parts) more =
    let inner = part_added (next ∷ parts) more in
    joined_on (signs_of inner) (signs_of (first ∷ [])) (signs_of (next ∷ parts))
    (signs_of (first ∷ next ∷ parts)) (signs_of (more ∷ [])) (signs_of (first ∷ inner))
    (signs_of-append (first ∷ []) inner) (signs_added (next ∷ parts) more)
    (signs_of-append (first ∷ []) (next ∷ parts))

-- none of some blanks is another character
blanks_none : (text : List ℕ) → list_all is_blank text ≡ true
    → filter (λ c. not (is_blank c)) text ≡ []
blanks_none [] blank = refl
blanks_none (c ∷ text) blank = here (is_blank c) (list_all is_blank text) blank (blanks_none text)
  where
    here : (first rest : Bool) → (first && rest) ≡ true
        → (rest ≡ true → filter (λ c. not (is_blank c)) text ≡ [])
        → cond (not first) (c ∷ filter (λ c. not (is_blank c)) text)
        (filter (λ c. not (is_blank c)) text) ≡ []
    here true rest both next = next both
    here false rest both next = absurd (cc both)

-- a text of blanks has no signs
pub signs_blank : (parts : List Part) → is_blank_text parts ≡ true → signs_of parts ≡ []
signs_blank [] blank = refl
signs_blank (Lit text ∷ []) blank =
    ap (λ text. map character text ++ []) (blanks_none text blank)
signs_blank (Lit text ∷ next ∷ parts) blank = absurd (cc blank)
signs_blank (Var name conv ∷ parts) blank = absurd (cc blank)

-- ---- signs in content

module _ (room : ℕ) where
  -- those of a text
  pub signs_text : (parts : List Part) → signs_in room (item.Text parts ∷ []) ≡ signs_of parts
  signs_text parts =
      append-nil (item_signs (node_signs room) (out-Item (item.Text parts)))
      ∙ ap (item_signs (node_signs room)) (outs-Text parts)

  -- those of an element
  pub signs_node : (node : Node) → signs_in room (item.Node node ∷ []) ≡ node_signs room node
  signs_node node =
      append-nil (item_signs (node_signs room) (out-Item (item.Node node)))
      ∙ ap (item_signs (node_signs room)) (outs-Node node)

  -- those of items and more
  pub signs_in-append : (items more : List Item)
      → signs_in room (items ++ more) ≡ signs_in room items ++ signs_in room more
  signs_in-append items more =
      flat_map-append (λ item. item_signs (node_signs room) (out-Item item)) items more

  -- those of content with an element more
  pub signs_behind : (items : List Item) (node : Node)
      → signs_in room (items ++ item.Node node ∷ [])
      ≡ signs_in room items ++ node_signs room node
  signs_behind items node =
      signs_in-append items (item.Node node ∷ [])
      ∙ ap (λ signs. signs_in room items ++ signs) (signs_node node)

  -- those of an item and a part that may join it
  last_signs : (level : ItemLevel) (last : Item) (more : Part) → out-Item last ≡ level
      → signs_in room (after_last last (words_from level) more)
      ≡ signs_in room (last ∷ []) ++ signs_of (more ∷ [])
  last_signs (Item-F.Text parts) last more is =
      signs_text (part_added parts more) ∙ signs_added parts more
      ∙ ap (λ signs. signs ++ signs_of (more ∷ []))
      (sym (append-nil (item_signs (node_signs room) (out-Item last))
      ∙ ap (item_signs (node_signs room)) is))
  last_signs (Item-F.Node node) last more is =
      signs_in-append (last ∷ []) (item.Text (more ∷ []) ∷ [])
      ∙ ap (λ signs. signs_in room (last ∷ []) ++ signs) (signs_text (more ∷ []))

  -- those of content with a part of a text more
  pub signs_after : (items : List Item) (more : Part)
      → signs_in room (part_after items more) ≡ signs_in room items ++ signs_of (more ∷ [])
  signs_after [] more = signs_text (more ∷ [])
  signs_after (last ∷ []) more = last_signs (out-Item last) last more refl
  signs_after (first ∷ next ∷ items) more =
      let inner = part_after (next ∷ items) more in
      joined_on (signs_in room inner) (signs_in room (first ∷ [])) (signs_in room (next ∷ items))
      (signs_in room (first ∷ next ∷ items)) (signs_of (more ∷ [])) (signs_in room (first ∷ inner))
      (signs_in-append (first ∷ []) inner) (signs_after (next ∷ items) more)
      (signs_in-append (first ∷ []) (next ∷ items))

  -- those of content with parts of a text more
  pub signs_more : (items : List Item) (parts : List Part)
      → signs_in room (marks_after items (map part parts)) ≡ signs_in room items ++ signs_of parts
  signs_more items [] = sym (append-nil (signs_in room items))
  signs_more items (more ∷ parts) =
      signs_more (part_after items more) parts
      ∙ ap (λ signs. signs ++ signs_of parts) (signs_after items more)
      ∙ append_assoc (signs_in room items) (signs_of (more ∷ [])) (signs_of parts)
      ∙ ap (λ signs. signs_in room items ++ signs) (sym (signs_of-append (more ∷ []) parts))

-- ---- signs of texts that are copied

-- those of one part more
pub parts_turn : (parts : List Part) (n : ℕ) (one copy : Part) (begun old new : List Part)
    → n < length parts → one ≡ get_or parts n one → copy ≡ one
    → signs_of old ≡ signs_of begun ++ signs_of (take n parts) → new ≡ old ++ copy ∷ []
    → signs_of new ≡ signs_of begun ++ signs_of (take (n + 1) parts)
parts_turn parts n one copy begun old new within is same so_far made =
    ap signs_of (made ∙ ap (λ last. old ++ last ∷ []) (same ∙ is))
    ∙ signs_of-append old (get_or parts n one ∷ [])
    ∙ ap (λ signs. signs ++ signs_of (get_or parts n one ∷ [])) so_far
    ∙ append_assoc (signs_of begun) (signs_of (take n parts)) (signs_of (get_or parts n one ∷ []))
    ∙ ap (λ signs. signs_of begun ++ signs)
    (sym (ap signs_of (take_more parts n one within)
    ∙ signs_of-append (take n parts) (get_or parts n one ∷ [])))

-- ---- pieces in content

-- what is left of two lists of pieces, and how many of them pass
pub kept-append : (some more : List Piece)
    → no_paragraphs (some ++ more) ≡ no_paragraphs some ++ no_paragraphs more
kept-append some more =
    filter-append (λ (piece : Piece). not (is_paragraph piece.0)) some more

pub kept_number : (test : Piece → Bool) (some more : List Piece)
    → number test (no_paragraphs (some ++ more))
    ≡ number test (no_paragraphs some) + number test (no_paragraphs more)
kept_number test some more =
    ap (number test) (kept-append some more)
    ∙ number-append test (no_paragraphs some) (no_paragraphs more)

-- those of nodes and more
pub pieces-append : (some more : List Node)
    → pieces_of_nodes (some ++ more) ≡ pieces_of_nodes some ++ pieces_of_nodes more
pieces-append some more =
    ap no_paragraphs (flat_map-append own_pieces some more)
    ∙ filter-append (λ (piece : Piece). not (is_paragraph piece.0)) (flat_map own_pieces some)
    (flat_map own_pieces more)

module _ (room : ℕ) where
  abbrev below : Node → List Node
  below node = node ∷ nodes_in room node.kids

  -- those in content with an element more
  pub pieces_behind : (items : List Item) (node : Node)
      → pieces_of_nodes (nodes_in (suc room) (items ++ item.Node node ∷ []))
      ≡ pieces_of_nodes (nodes_in (suc room) items)
      ++ pieces_of_nodes (node ∷ nodes_in room node.kids)
  pieces_behind items node =
      ap pieces_of_nodes (ap (flat_map below) (nodes_behind items node)
      ∙ flat_map-append below (filter_map node_of items) (node ∷ [])
      ∙ ap (λ nodes. flat_map below (filter_map node_of items) ++ nodes) (append-nil (below node)))
      ∙ pieces-append (flat_map below (filter_map node_of items)) (below node)

  -- those in content with a part of a text more are the same
  pub pieces_more : (items : List Item) (more : Part)
      → pieces_of_nodes (nodes_in (suc room) (part_after items more))
      ≡ pieces_of_nodes (nodes_in (suc room) items)
  pieces_more items more =
      ap (λ nodes. pieces_of_nodes (flat_map below nodes)) (nodes_same items more)

  -- so they are with parts of a text more
  pub pieces_parts : (items : List Item) (parts : List Part)
      → pieces_of_nodes (nodes_in (suc room) (marks_after items (map part parts)))
      ≡ pieces_of_nodes (nodes_in (suc room) items)
  pieces_parts items [] = refl
  pieces_parts items (more ∷ parts) =
      pieces_parts (part_after items more) parts ∙ pieces_more items more
