-- What goes with a change is collected: texts, elements and attributes.
use Rattle.std.proofs.Common.{◌≡◌, ℕ, ◌+◌, ◌-◌, ◌<◌, List, [], ◌∷◌, ◌++◌, length, take}
use Rattle.std.proofs.Common.{get_or, refl, sym, ap, subst}
use Rattle.std.proofs.Common.{◌∙◌, append_assoc, map, Some, None, arith}
use Rattle.std.proofs.lemmas.List.{append-nil, take_more, map-append}
use Rattle.wap_base.specs.declared.name.Part.{Part}
use Rattle.wap_tokens.specs.declared.markup.deck.Node.{Node}
use Rattle.wap_tokens.specs.declared.markup.deck.Item.{Item, out-Item}
use Rattle.wap_tokens.specs.declared.markup.deck.Item.TheVariants.{outs-Text, outs-Node}
use Rattle.wap_tokens.specs.declared.markup.deck.Item.TheVariants as item
use Rattle.wap_tokens.specs.declared.markup.name.AttrName.{AttrName}
use Rattle.wap_tokens.specs.declared.markup.name.Tag.{Tag}
use Rattle.wap_tokens.specs.markup.Good.{nodes_in}
use Rattle.wap_mend.specs.Accounts.{signs_of, node_signs, number, Attribute}
use Rattle.wap_mend.specs.declared.change.Lost.{Lost}
use Rattle.wap_mend.specs.inside.Frames.{Load, nothing, both, load_lost, own_load}
use Rattle.wap_mend.specs.inside.Frames.{rows_load, given_items, given_node, IsSame, Piece, dressed}
use Rattle.wap_mend.specs.inside.Frames.{pieces_lost, no_paragraphs, as_pieces, pieces_of_nodes}
use Rattle.wap_mend.proofs.Accounting.{number-append, kept_number, kept-append}
use Rattle.wap_mend.proofs.Loads.{both_assoc}
use Rattle.wap_mend.proofs.Putting.{given_behind, given_text, given_one, given_own, own_dressed}
use Rattle.wap_mend.proofs.Putting.{signs_dressed}

-- first some, and then more
same_more : (begun old new some more : Load) → IsSame old (both begun some)
    → IsSame new (both old more) → IsSame new (both begun (both some more))
same_more begun old new some more first second = record {
  pieces = λ test.
      grind (
        arith,
        first.pieces test,
        second.pieces test,
        number-append test begun.pieces some.pieces,
        number-append test old.pieces more.pieces,
        number-append test begun.pieces (some.pieces ++ more.pieces),
        number-append test some.pieces more.pieces,
      );
  signs =
      second.signs ∙ ap (λ signs. signs ++ more.signs) first.signs
      ∙ ap (λ (load : Load). load.signs) (sym (both_assoc begun some more));
}

-- ---- items

-- one item more
pub item_more : (begun old new : Lost) (levels : ℕ) (items : List Item) (n : ℕ) (one : Item)
    → n < length items → one ≡ get_or items n one
    → IsSame (load_lost old) (both (load_lost begun) (given_items levels (take n items)))
    → IsSame (load_lost new) (both (load_lost old) (given_items levels (one ∷ [])))
    → IsSame (load_lost new) (both (load_lost begun) (given_items levels (take (n + 1) items)))
item_more begun old new levels items n one within is before more =
    subst (λ load. IsSame (load_lost new) (both (load_lost begun) load))
    (ap (λ last. both (given_items levels (take n items)) (given_items levels (last ∷ []))) is
    ∙ sym (given_behind levels (take n items) (get_or items n one ∷ []))
    ∙ ap (given_items levels) (sym (take_more items n one within)))
    (same_more (load_lost begun) (load_lost old) (load_lost new)
    (given_items levels (take n items)) (given_items levels (one ∷ [])) before more)

-- it is a text
pub text_more : (old new : Lost) (levels : ℕ) (one : Item) (parts : List Part)
    → one ≡ item.Text parts → signs_of new.texts ≡ signs_of old.texts ++ signs_of parts
    → new.elements ≡ old.elements → new.attributes ≡ old.attributes
    → IsSame (load_lost new) (both (load_lost old) (given_items levels (one ∷ [])))
text_more old new levels one parts is texts elements attributes =
    subst (λ load. IsSame (load_lost new) (both (load_lost old) load))
    (sym (given_text levels one parts (ap out-Item is ∙ outs-Text parts))) (record {
      pieces = λ test.
          grind (
            arith,
            number-append test (pieces_lost old) [],
            ap (λ some. number test (no_paragraphs
                (map (λ tag. (tag, None)) some ++ as_pieces new.attributes))) elements,
            ap (λ some. number test (no_paragraphs
                (map (λ tag. (tag, None)) old.elements ++ as_pieces some))) attributes,
          );
      signs = texts;
    })

-- or a node
pub one_more : (old new : Lost) (levels : ℕ) (one : Item) (node : Node) → one ≡ item.Node node
    → IsSame (load_lost new) (both (load_lost old) (given_node levels node))
    → IsSame (load_lost new) (both (load_lost old) (given_items levels (one ∷ [])))
one_more old new levels one node is more =
    subst (λ load. IsSame (load_lost new) (both (load_lost old) load))
    (sym (given_one levels one node (ap out-Item is ∙ outs-Node node))) more

-- ---- nodes

-- one tag more
tag_more : (old new : Lost) (node : Node) → new.elements ≡ old.elements ++ node.tag ∷ []
    → new.texts ≡ old.texts → new.attributes ≡ old.attributes
    → IsSame (load_lost new) (both (load_lost old) (own_load (record node { attrs = [] })))
tag_more old new node more texts attributes =
    let element : Tag → Piece = λ tag. (tag, None) in
    let own : List Piece = (node.tag, None) ∷ [] in
    record {
      pieces = λ test.
          grind (
            arith,
            ap (λ some. number test (no_paragraphs (map element some ++ as_pieces new.attributes)))
                more,
            ap (λ some. number test (no_paragraphs (map element (old.elements ++ node.tag ∷ [])
                ++ as_pieces some))) attributes,
            ap (λ some. number test (no_paragraphs (some ++ as_pieces old.attributes)))
                (map-append element old.elements (node.tag ∷ [])),
            kept_number test (map element old.elements ++ own) (as_pieces old.attributes),
            kept_number test (map element old.elements) own,
            kept_number test (map element old.elements) (as_pieces old.attributes),
            number-append test (pieces_lost old) (no_paragraphs own),
          );
      signs = ap (λ all. signs_of all) texts ∙ sym (append-nil (signs_of old.texts));
    }

-- a node of no levels
pub node_alone : (old new : Lost) (levels : ℕ) (node : Node) → levels ≡ 0
    → new.elements ≡ old.elements ++ node.tag ∷ [] → new.texts ≡ old.texts
    → new.attributes ≡ old.attributes
    → IsSame (load_lost new)
    (both (load_lost old) (given_node levels (record node { attrs = [] })))
node_alone old new levels node none more texts attributes =
    subst (λ l. IsSame (load_lost new)
    (both (load_lost old) (given_node l (record node { attrs = [] })))) (sym none)
    (tag_more old new node more texts attributes)

-- or with what is in it
pub node_more : (old one new : Lost) (levels : ℕ) (node : Node) (kids : List Item) → 0 < levels
    → one.elements ≡ old.elements ++ node.tag ∷ [] → one.texts ≡ old.texts
    → one.attributes ≡ old.attributes → kids ≡ node.kids
    → IsSame (load_lost new) (both (load_lost one) (given_items (levels - 1) kids))
    → IsSame (load_lost new)
    (both (load_lost old) (given_node levels (record node { attrs = [] })))
node_more old one new levels node kids deep more texts attributes is inner =
    let bare : Node = record node { attrs = [] } in
    subst (λ load. IsSame (load_lost new) (both (load_lost old) load))
    (ap (λ some. both (own_load bare) (given_items (levels - 1) some)) is
    ∙ given_own levels bare deep)
    (same_more (load_lost old) (load_lost one) (load_lost new) (own_load bare)
    (given_items (levels - 1) kids) (tag_more old one node more texts attributes) inner)

-- ---- attributes

-- attributes as pieces
pub pieces_same : (tag : Tag) (rows : List (AttrName × List Part))
    → as_pieces (map (λ row. (tag, row.0, row.1)) rows) ≡ dressed tag rows
pieces_same tag [] = refl
pieces_same tag (row ∷ rows) = ap (λ some. (tag, Some row) ∷ some) (pieces_same tag rows)

-- a node, and its own attributes before
pub dressed_more : (old one new : Lost) (levels : ℕ) (node : Node)
    (rows : List (AttrName × List Part)) → rows ≡ node.attrs
    → one.attributes ≡ old.attributes ++ map (λ row. (node.tag, row.0, row.1)) rows
    → one.texts ≡ old.texts → one.elements ≡ old.elements
    → IsSame (load_lost new)
    (both (load_lost one) (given_node levels (record node { attrs = [] })))
    → IsSame (load_lost new) (both (load_lost old) (given_node levels node))
dressed_more old one new levels node rows is more texts elements inner =
    let element : Tag → Piece = λ tag. (tag, None) in
    let bare : Node = record node { attrs = [] } in
    let nodes = nodes_in levels node.kids in
    record {
      pieces = λ test.
          grind (
            arith,
            inner.pieces test,
            number-append test (pieces_lost one) (pieces_of_nodes (bare ∷ nodes)),
            number-append test (pieces_lost old) (pieces_of_nodes (node ∷ nodes)),
            own_dressed test node node.attrs nodes,
            ap (λ some. number test (no_paragraphs (dressed node.tag some))) is,
            ap (λ some. number test (no_paragraphs (map element some ++ as_pieces one.attributes)))
                elements,
            ap (λ some. number test (no_paragraphs (map element old.elements ++ some)))
                (ap as_pieces more
                ∙ map-append
                (λ (one : Attribute). (one.0, Some (one.1, one.2))) old.attributes
                (map (λ row. (node.tag, row.0, row.1)) rows)
                ∙ ap (λ some. as_pieces old.attributes ++ some) (pieces_same node.tag rows)),
            kept_number test (map element old.elements)
                (as_pieces old.attributes ++ dressed node.tag rows),
            kept_number test (as_pieces old.attributes) (dressed node.tag rows),
            kept_number test (map element old.elements) (as_pieces old.attributes),
          );
      signs =
          inner.signs ∙ ap (λ signs. signs_of one.texts ++ signs) (signs_dressed levels node [])
          ∙ ap (λ all. signs_of all ++ node_signs levels node) texts;
    }

-- attributes alone
pub rows_lost : (old new : Lost) (tag : Tag) (rows : List (AttrName × List Part))
    → load_lost old ≡ nothing → new.texts ≡ old.texts → new.elements ≡ old.elements
    → new.attributes ≡ old.attributes ++ map (λ row. (tag, row.0, row.1)) rows
    → load_lost new ≡ rows_load tag rows
rows_lost old new tag rows none texts elements more =
    let element : Tag → Piece = λ tag. (tag, None) in
    let before : List Piece = map element old.elements in
    let pieces : pieces_lost new ≡ pieces_lost old ++ no_paragraphs (dressed tag rows) =
    ap (λ some. no_paragraphs (map element some ++ as_pieces new.attributes)) elements
    ∙ ap (λ some. no_paragraphs (before ++ some))
    (ap as_pieces more
    ∙ map-append (λ (one : Attribute). (one.0, Some (one.1, one.2))) old.attributes
    (map (λ row. (tag, row.0, row.1)) rows)
    ∙ ap (λ some. as_pieces old.attributes ++ some) (pieces_same tag rows))
    ∙ ap (λ some. no_paragraphs some)
    (sym (append_assoc before (as_pieces old.attributes) (dressed tag rows)))
    ∙ kept-append (before ++ as_pieces old.attributes) (dressed tag rows) in
    ap (λ (some : List Piece). record {
      names = [];
      pieces = some;
      signs = signs_of new.texts;
    }) (pieces ∙ ap (λ (load : Load). load.pieces ++ no_paragraphs (dressed tag rows)) none)
    ∙ ap (λ (some : List Part). record {
      names = [];
      pieces = no_paragraphs (dressed tag rows);
      signs = some;
    }) (ap (λ all. signs_of all) texts ∙ ap (λ (load : Load). load.signs) none)

-- what is added to nothing
pub same_alone : (old new : Lost) (load : Load) → load_lost old ≡ nothing
    → IsSame (load_lost new) (both (load_lost old) load) → IsSame (load_lost new) load
same_alone old new load none same =
    subst (λ some. IsSame (load_lost new) (both some load)) none same
