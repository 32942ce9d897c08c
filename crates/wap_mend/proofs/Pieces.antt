-- Pieces are elements and attributes: how many of either there are.
use Rattle.std.proofs.Common.{◌≡◌, suc, Bool, true, false, cond, not, List, [], ◌∷◌, ◌++◌, map}
use Rattle.std.proofs.Common.{length, Some, None, refl, sym, ap, ◌∙◌, arith}
use Rattle.std.specs.Prelude.{filter}
use Rattle.std.specs.List.{flat_map}
use Rattle.std.proofs.lemmas.List.Elements.{filter-append}
use Rattle.wap_base.specs.declared.name.Part.{Part}
use Rattle.wap_tokens.specs.declared.markup.deck.Node.{Node}
use Rattle.wap_tokens.specs.declared.markup.name.AttrName.{AttrName}
use Rattle.wap_tokens.specs.declared.markup.name.Tag.{Tag}
use Rattle.wap_mend.specs.Accounts.{number, is_paragraph, but_paragraphs, tags_of_nodes, gone, came}
use Rattle.wap_mend.specs.Accounts.{Attribute, of_no_paragraph, attributes_of, attributes_of_nodes}
use Rattle.wap_mend.specs.Accounts.{gone_attributes}
use Rattle.wap_mend.specs.declared.change.Change.{Change}
use Rattle.wap_mend.specs.declared.change.Lost.{Lost}
use Rattle.wap_mend.specs.inside.Frames.{Piece, no_paragraphs, dressed, own_pieces}
use Rattle.wap_mend.specs.inside.Frames.{pieces_of_nodes, as_pieces, pieces_lost, pieces_came}
use Rattle.wap_mend.specs.inside.Frames.{gone_pieces, came_pieces}
use Rattle.wap_mend.proofs.Accounting.{number-append, kept_number}

-- a test of elements, and one of attributes
pub on_elements : (Tag → Bool) → Piece → Bool
on_elements test (tag, None) = test tag
on_elements test (tag, Some row) = false

pub on_attributes : (Attribute → Bool) → Piece → Bool
on_attributes test (tag, None) = false
on_attributes test (tag, Some row) = test (tag, row.0, row.1)

-- ---- lists that are mapped

-- as many pass of what is made as pass before
mapped : {X Y : Type 0} (make : X → Y) (keep test : Y → Bool) (xs : List X)
    → number test (filter keep (map make xs))
    ≡ number (λ x. test (make x)) (filter (λ x. keep (make x)) xs)
mapped make keep test [] = refl
mapped {X} {Y} make keep test (x ∷ xs) =
    kept (keep (make x)) (mapped make keep test xs)
  where
    rest : List Y
    rest = filter keep (map make xs)

    more : List X
    more = filter (λ x. keep (make x)) xs

    tested : (passes : Bool) → number test rest ≡ number (λ x. test (make x)) more
        → length (cond passes (make x ∷ filter test rest) (filter test rest))
        ≡ length (cond passes (x ∷ filter (λ x. test (make x)) more)
        (filter (λ x. test (make x)) more))
    tested true so_far = ap suc so_far
    tested false so_far = so_far

    kept : (keeps : Bool) → number test rest ≡ number (λ x. test (make x)) more
        → number test (cond keeps (make x ∷ rest) rest)
        ≡ number (λ x. test (make x)) (cond keeps (x ∷ more) more)
    kept true so_far = tested (test (make x)) so_far
    kept false so_far = so_far

-- none passes where all fail
none_number : {X : Type 0} (xs : List X) → number (λ x. false) xs ≡ 0
none_number [] = refl
none_number (x ∷ xs) = none_number xs

module _ (test : Tag → Bool) where
  -- elements
  tags_number : (tags : List Tag) → number (on_elements test)
      (no_paragraphs (map (λ tag. (tag, None)) tags)) ≡ number test (but_paragraphs tags)
  unfolding on_elements
  tags_number tags =
      mapped (λ tag. (tag, None)) (λ (piece : Piece). not (is_paragraph piece.0))
      (on_elements test) tags

  -- no attribute is one
  pub rows_elements : (tag : Tag) (rows : List (AttrName × List Part))
      → number (on_elements test) (no_paragraphs (dressed tag rows)) ≡ 0
  unfolding on_elements
  rows_elements tag rows =
      mapped (λ row. (tag, Some row)) (λ (piece : Piece). not (is_paragraph piece.0))
      (on_elements test) rows
      ∙ none_number (filter (λ row. not (is_paragraph tag)) rows)

  came_none : (all : List Attribute) → number (on_elements test) (pieces_came all) ≡ 0
  unfolding on_elements
  came_none all =
      mapped (λ (one : Attribute). (one.0, Some (one.1, one.2)))
      (λ (piece : Piece). not (is_paragraph piece.0)) (on_elements test) all
      ∙ none_number (of_no_paragraph all)

  -- those of nodes
  pub nodes_elements : (nodes : List Node)
      → number (on_elements test) (pieces_of_nodes nodes) ≡ number test (tags_of_nodes nodes)
  nodes_elements [] = refl
  nodes_elements (node ∷ nodes) =
      let own : List Piece = (node.tag, None) ∷ [] in
      let rows = dressed node.tag node.attrs in
      let below = flat_map own_pieces nodes in
      let tag_of : Node → Tag = λ node. node.tag in
      grind (
        arith,
        kept_number (on_elements test) own (rows ++ below),
        kept_number (on_elements test) rows below,
        rows_elements node.tag node.attrs,
        tags_number (node.tag ∷ []),
        nodes_elements nodes,
        ap (number test) (filter-append (λ tag. not (is_paragraph tag)) (node.tag ∷ [])
            (map tag_of nodes)),
        number-append test (but_paragraphs (node.tag ∷ [])) (tags_of_nodes nodes),
      )

  lost_elements : (what : Lost)
      → number (on_elements test) (pieces_lost what) ≡ number test (but_paragraphs what.elements)
  lost_elements what =
      grind (
        arith,
        kept_number (on_elements test) (map (λ tag. (tag, None)) what.elements)
            (as_pieces what.attributes),
        tags_number what.elements,
        came_none what.attributes,
      )

  -- those that go with changes
  pub gone_elements : (changes : List Change)
      → number (on_elements test) (gone_pieces changes) ≡ number test (gone changes)
  gone_elements [] = refl
  gone_elements (change ∷ changes) =
      grind (
        arith,
        number-append (on_elements test) (pieces_lost change.lost) (gone_pieces changes),
        number-append test (but_paragraphs change.lost.elements) (gone changes),
        lost_elements change.lost,
        gone_elements changes,
      )

  -- none comes
  pub came_elements : (changes : List Change)
      → number (on_elements test) (came_pieces changes) ≡ 0
  came_elements [] = refl
  came_elements (change ∷ changes) =
      grind (
        arith,
        number-append (on_elements test) (pieces_came change.came) (came_pieces changes),
        came_none change.came,
        came_elements changes,
      )

module _ (test : Attribute → Bool) where
  -- attributes of an element
  pub rows_attributes : (tag : Tag) (rows : List (AttrName × List Part))
      → number (on_attributes test) (no_paragraphs (dressed tag rows))
      ≡ number test (attributes_of tag rows)
  unfolding on_attributes
  rows_attributes tag rows =
      mapped (λ row. (tag, Some row)) (λ (piece : Piece). not (is_paragraph piece.0))
      (on_attributes test) rows
      ∙ sym (mapped (λ (row : AttrName × List Part). (tag, row.0, row.1))
      (λ (one : Attribute). not (is_paragraph one.0)) test rows)

  -- no element is one
  tags_none : (tags : List Tag)
      → number (on_attributes test) (no_paragraphs (map (λ tag. (tag, None)) tags)) ≡ 0
  unfolding on_attributes
  tags_none tags =
      mapped (λ tag. (tag, None)) (λ (piece : Piece). not (is_paragraph piece.0))
      (on_attributes test) tags
      ∙ none_number (but_paragraphs tags)

  came_number : (all : List Attribute)
      → number (on_attributes test) (pieces_came all) ≡ number test (of_no_paragraph all)
  unfolding on_attributes
  came_number all =
      mapped (λ (one : Attribute). (one.0, Some (one.1, one.2)))
      (λ (piece : Piece). not (is_paragraph piece.0)) (on_attributes test) all

  -- those of nodes
  pub nodes_attributes : (nodes : List Node) → number (on_attributes test) (pieces_of_nodes nodes)
      ≡ number test (attributes_of_nodes nodes)
  nodes_attributes [] = refl
  nodes_attributes (node ∷ nodes) =
      let own : List Piece = (node.tag, None) ∷ [] in
      let rows = dressed node.tag node.attrs in
      let below = flat_map own_pieces nodes in
      grind (
        arith,
        kept_number (on_attributes test) own (rows ++ below),
        kept_number (on_attributes test) rows below,
        rows_attributes node.tag node.attrs,
        tags_none (node.tag ∷ []),
        nodes_attributes nodes,
        number-append test (attributes_of node.tag node.attrs) (attributes_of_nodes nodes),
      )

  lost_attributes : (what : Lost)
      → number (on_attributes test) (pieces_lost what)
      ≡ number test (of_no_paragraph what.attributes)
  lost_attributes what =
      grind (
        arith,
        kept_number (on_attributes test) (map (λ tag. (tag, None)) what.elements)
            (as_pieces what.attributes),
        tags_none what.elements,
        came_number what.attributes,
      )

  -- those that go with changes, and those that come
  pub gone_attributes_number : (changes : List Change)
      → number (on_attributes test) (gone_pieces changes)
      ≡ number test (gone_attributes changes)
  gone_attributes_number [] = refl
  gone_attributes_number (change ∷ changes) =
      grind (
        arith,
        number-append (on_attributes test) (pieces_lost change.lost) (gone_pieces changes),
        number-append test (of_no_paragraph change.lost.attributes) (gone_attributes changes),
        lost_attributes change.lost,
        gone_attributes_number changes,
      )

  pub came_attributes : (changes : List Change)
      → number (on_attributes test) (came_pieces changes) ≡ number test (came changes)
  came_attributes [] = refl
  came_attributes (change ∷ changes) =
      grind (
        arith,
        number-append (on_attributes test) (pieces_came change.came) (came_pieces changes),
        number-append test (of_no_paragraph change.came) (came changes),
        came_number change.came,
        came_attributes changes,
      )
