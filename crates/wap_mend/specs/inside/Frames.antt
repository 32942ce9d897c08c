-- What elements that are being put together gain: names of dos are those of what is added at most;
-- and elements and texts are kept, these in their order, or noted as lost. This project's own.
use Rattle.std.specs.Prelude.{◌≡◌, ℕ, suc, ◌+◌, Bool, true, false, List, [], ◌∷◌, ◌++◌}
use Rattle.std.specs.Prelude.{Option, Some, None, not, map, filter}
use Rattle.std.specs.List.{flat_map}
use Rattle.wap_base.specs.declared.name.Part.{Part}
use Rattle.wap_tokens.specs.declared.markup.deck.Item.{Item}
use Rattle.wap_tokens.specs.declared.markup.deck.Node.{Node}
use Rattle.wap_tokens.specs.declared.markup.name.AttrName.{AttrName}
use Rattle.wap_tokens.specs.declared.markup.name.Tag.{Tag}
use Rattle.wap_tokens.specs.declared.markup.name.Tag.TheVariants as tags
use Rattle.wap_tokens.specs.markup.Good.{Rule, rule_of, nodes_in}
use Rattle.wap_deckcheck.specs.Places.{names_among}
use Rattle.wap_mend.specs.Accounts.{signs_of, node_signs, signs_in, lost, IsWithin, number}
use Rattle.wap_mend.specs.Accounts.{is_paragraph, Attribute}
use Rattle.wap_mend.specs.declared.change.Change.{Change}
use Rattle.wap_mend.specs.declared.change.Lost.{Lost}
use Rattle.wap_mend.specs.inside.Building.{Kept, Built, Filled}
use Rattle.wap_mend.specs.inside.Names.{names_with, Adds, Takes}

-- ---- what is in elements

-- a piece: an element, by its tag, or an attribute of one
abbrev pub Piece : Type 0
Piece = Tag × Option (AttrName × List Part)

-- some pieces, but for those of paragraphs
abbrev pub no_paragraphs : List Piece → List Piece
no_paragraphs pieces = filter (λ piece. not (is_paragraph piece.0)) pieces

-- those of an element of a tag with attributes, and those of nodes
abbrev pub dressed : Tag → List (AttrName × List Part) → List Piece
dressed tag rows = map (λ row. (tag, Some row)) rows

abbrev pub own_pieces : Node → List Piece
own_pieces node = (node.tag, None) ∷ dressed node.tag node.attrs

abbrev pub pieces_of_nodes : List Node → List Piece
pieces_of_nodes nodes = no_paragraphs (flat_map own_pieces nodes)

-- attributes as pieces
abbrev pub as_pieces : List Attribute → List Piece
as_pieces attributes = map (λ attribute. (attribute.0, Some (attribute.1, attribute.2))) attributes

-- those that go, and those that come
abbrev pub pieces_lost : Lost → List Piece
pieces_lost lost =
    no_paragraphs (map (λ tag. (tag, None)) lost.elements ++ as_pieces lost.attributes)

abbrev pub pieces_came : List Attribute → List Piece
pieces_came came = no_paragraphs (as_pieces came)

abbrev pub gone_pieces : List Change → List Piece
gone_pieces changes = flat_map (λ change. pieces_lost change.lost) changes

abbrev pub came_pieces : List Change → List Piece
came_pieces changes = flat_map (λ change. pieces_came change.came) changes

-- the names of dos, the elements but paragraphs and their attributes, and the signs of texts
pub record Load : Type 0 where
  pub names : List (List ℕ)
  pub pieces : List Piece
  pub signs : List Part

abbrev pub nothing : Load
nothing = record { names = []; pieces = []; signs = [] }

abbrev pub both : Load → Load → Load
both some more = record {
  names = some.names ++ more.names;
  pieces = some.pieces ++ more.pieces;
  signs = some.signs ++ more.signs;
}

-- those in content
abbrev pub load_filled : Filled → Load
load_filled content = record {
  names = names_among true (suc content.room) content.items;
  pieces = pieces_of_nodes (nodes_in (suc content.room) content.items);
  signs = signs_in content.room content.items;
}

-- those of an element
abbrev pub load_built : Built → Load
load_built element = record {
  names = names_with element.levels element.node;
  pieces = pieces_of_nodes (element.node ∷ nodes_in element.levels element.node.kids);
  signs = node_signs element.levels element.node;
}

abbrev pub load_if : Option Built → Load
load_if None = nothing
load_if (Some element) = load_built element

abbrev pub load_all : List Built → Load
load_all [] = nothing
load_all (element ∷ elements) = both (load_built element) (load_all elements)

-- what is given in items of so many levels: what they have, without names
abbrev pub given_items : ℕ → List Item → Load
given_items levels items = record {
  names = [];
  pieces = pieces_of_nodes (nodes_in (suc levels) items);
  signs = signs_in levels items;
}

-- and in a node of so many levels
abbrev pub given_node : ℕ → Node → Load
given_node levels node = record {
  names = [];
  pieces = pieces_of_nodes (node ∷ nodes_in levels node.kids);
  signs = node_signs levels node;
}

-- in a text
abbrev pub text_load : List Part → Load
text_load parts = record { names = []; pieces = []; signs = signs_of parts }

-- in an element by itself, without what is in it
abbrev pub own_load : Node → Load
own_load node = record { names = []; pieces = pieces_of_nodes (node ∷ []); signs = [] }

-- in attributes of an element of a tag
abbrev pub rows_load : Tag → List (AttrName × List Part) → Load
rows_load tag rows = record { names = []; pieces = no_paragraphs (dressed tag rows); signs = [] }

abbrev pub rows_if : Option Kept → Load
rows_if None = nothing
rows_if (Some kept) = rows_load kept.tag kept.rows

-- in what goes
abbrev pub load_lost : Lost → Load
load_lost lost = record {
  names = [];
  pieces = pieces_lost lost;
  signs = signs_of lost.texts;
}

-- as much of each piece, and the same signs
pub record IsSame (some more : Load) : Type 0 where
  pub pieces : (test : Piece → Bool) → number test some.pieces ≡ number test more.pieces
  pub signs : some.signs ≡ more.signs

-- an element without signs
abbrev pub IsMute : Built → Type 0
IsMute element = node_signs element.levels element.node ≡ []

-- one that has none if it is an event or a timer
pub record IsQuiet (element : Built) : Type 0 where
  pub event : element.node.tag ≡ tags.Onevent → IsMute element
  pub timer : element.node.tag ≡ tags.Timer → IsMute element

-- ---- changes

-- nothing more is lost, or came
pub record IsStill (before after : List Change) : Type 0 where
  pub lost : lost after ≡ lost before
  pub gone : gone_pieces after ≡ gone_pieces before
  pub came : came_pieces after ≡ came_pieces before

-- this is lost
pub record IsNoted (before after : List Change) (load : Load) : Type 0 where
  pub lost : lost after ≡ lost before ++ load.signs
  pub gone : (test : Piece → Bool) →
      number test (gone_pieces after)
      ≡ number test (gone_pieces before) + number test load.pieces
  pub came : came_pieces after ≡ came_pieces before

-- this is lost, and these attributes came
pub record IsTurned (before after : List Change) (load : Load) (new : List Attribute)
    : Type 0 where
  pub lost : lost after ≡ lost before ++ load.signs
  pub gone : gone_pieces after ≡ gone_pieces before ++ load.pieces
  pub came : came_pieces after ≡ came_pieces before ++ pieces_came new

-- ---- gains

-- the elements that there were and these more, with their attributes, or noted as lost, and what is
-- noted that it came; and so the signs, in their order
pub record Keeps (before after : List Change) (old new more : Load) : Type 0 where
  pub pieces : (test : Piece → Bool) →
      (number test new.pieces + number test (gone_pieces after)) + number test (came_pieces before)
      ≡ (number test old.pieces + number test more.pieces)
      + (number test (gone_pieces before) + number test (came_pieces after))
  pub order : IsWithin new.signs (old.signs ++ more.signs)
  pub signs : (test : Part → Bool) → number test new.signs + number test (lost after)
      ≡ (number test old.signs + number test more.signs) + number test (lost before)

-- with this more at most
pub record Carries (before after : List Change) (old new more : Load) : Type 0 where
  pub names : Adds old.names new.names more.names
  pub keeps : Keeps before after old new more

-- an element that is being put together: its rule, the levels of the elements in it, what is in
-- it, and in the paragraph that is open
pub record Framed : Type 0 where
  pub rule : Rule
  pub room : ℕ
  pub load : Load
  pub running : Load

-- by its groups and the paragraph that is open
abbrev pub framed : Filled → Option Built → List Built → Filled → Framed
framed first second third run = record {
  rule = first.rule;
  room = first.room;
  load =
      both (load_filled first) (both (load_if second) (both (load_all third) (load_filled run)));
  running = load_filled run;
}

-- where groups come in their order, the first two have no texts; else all is in the first
pub record IsFramed (first : Filled) (second : Option Built) (third : List Built)
    (run : Filled) : Type 0 where
  pub paragraph : run.rule ≡ rule_of tags.P
  pub first_mute : first.rule.in_order ≡ true → signs_in first.room first.items ≡ []
  pub second_mute : (load_if second).signs ≡ []
  pub one : first.rule.in_order ≡ false → load_all third ≡ nothing
  pub none : first.rule.in_order ≡ false → run.items ≡ []

-- with more in it
pub record Gains (before after : List Change) (old new : Framed) (more : Load) : Type 0 where
  pub rule : new.rule ≡ old.rule
  pub room : new.room ≡ old.room
  pub load : Carries before after old.load new.load more

-- the same of content
pub record Collects (before after : List Change) (old new : Filled) (more : Load) : Type 0 where
  pub rule : new.rule ≡ old.rule
  pub room : new.room ≡ old.room
  pub load : Carries before after (load_filled old) (load_filled new) more

-- what stands in it when all was put there
pub record Closes (before after : List Change) (whole : Framed) (content : Filled) : Type 0 where
  pub rule : content.rule ≡ whole.rule
  pub room : content.room ≡ whole.room
  pub load : Carries before after whole.load (load_filled content) nothing

-- ---- the walk

-- the same, but that names were free before and are taken then
pub record Moves (names_before names_after : List (List ℕ)) (before after : List Change)
    (old new more : Load) : Type 0 where
  pub names : Takes names_before names_after old.names new.names
  pub keeps : Keeps before after old new more

-- what was given is put into an element
pub record Puts (names_before names_after : List (List ℕ)) (before after : List Change)
    (old new : Framed) (given : Load) : Type 0 where
  pub rule : new.rule ≡ old.rule
  pub room : new.room ≡ old.room
  pub load : Moves names_before names_after before after old.load new.load given
