-- What the parts of a document give in its deck, as they are read. This project's own.
use Rattle.std.specs.Prelude.{List, [], ◌∷◌, ◌++◌, Option, Some, None, unwrap_or}
use Rattle.std.specs.List.{cons_option}
use Rattle.wap_base.specs.declared.name.Part.{Part}
use Rattle.wap_tokens.specs.declared.markup.document.Piece.{Piece}
use Rattle.wap_tokens.specs.declared.markup.deck.Deck.{Deck}
use Rattle.wap_tokens.specs.declared.markup.deck.Node.{Node}
use Rattle.wap_tokens.specs.declared.markup.deck.Item.{Item}
use Rattle.wap_tokens.specs.declared.markup.deck.Item.TheVariants as item
use Rattle.wap_tokens.specs.declared.markup.name.Tag.{Tag}
use Rattle.wap_tokens.specs.declared.markup.name.Tag.TheVariants as tags
use Rattle.wap_tokens.specs.declared.markup.name.AttrName.{AttrName}
use Rattle.wap_tokens.specs.markup.Decks.{piece_part, part_marks, start_of, tag_in, value_after}
use Rattle.wap_tokens.specs.markup.Grammar.{piece_of}
use Rattle.wap_tokens.specs.markup.Tables.{Start}
use Rattle.wap_wbxml.specs.reading.Making.{Makes}
use Rattle.wap_deck.specs.documents.Adding.{any_added, marks_after}

-- an attribute and its value, if it is known
abbrev pub Known : Type 0
Known = Option (AttrName × List Part)

-- an attribute that begins so
abbrev pub begun : Option Start → Known
begun None = None
begun (Some start) = Some (start.0, value_after start.1 [])

-- an attribute with one more part of its value
abbrev pub piece_added : Known → Piece → Known
piece_added None piece = None
piece_added (Some known) piece = Some (known.0, any_added known.1 (piece_part piece))

-- tags and attributes that aren't known are left out, and so are processing instructions
abbrev pub deck_parts : Makes Tag Known (List (AttrName × List Part)) (List Item) Node Deck
deck_parts = record {
  tag = tag_in;
  root_tag = λ page token. unwrap_or (tag_in page token) tags.Other;
  attribute = λ page start. begun (start_of page start);
  piece_added = piece_added;
  no_attributes = [];
  attribute_added = λ attributes known. attributes ++ cons_option known [];
  no_content = [];
  leaf_added = λ items leaf. marks_after items (part_marks (piece_part (piece_of leaf)));
  instruction_added = λ items instruction. items;
  node = λ tag attributes kids. record { tag = tag; attrs = attributes; kids = kids };
  node_added = λ items one. items ++ item.Node one ∷ [];
  too_deep = λ items element. items;
  whole = λ version public charset root. record { root = root };
}
