-- Attributes, by how they begin.
use Rattle.std.proofs.Common.{◌≡◌, ℕ, List, [], ◌∷◌, Option, Some, None, sym, ap, ◌∙◌}
use Rattle.std.specs.List.{flat_map}
use Rattle.wap_base.specs.Numbers.{mb_spelling}
use Rattle.wap_base.specs.declared.name.Part.{Part}
use Rattle.wap_tokens.specs.declared.markup.codes.TheConstants.{LITERAL}
use Rattle.wap_tokens.specs.declared.markup.document.Attr.{Attr}
use Rattle.wap_tokens.specs.declared.markup.document.Piece.{Piece}
use Rattle.wap_tokens.specs.declared.markup.document.Token.TheVariants.{Literal}
use Rattle.wap_tokens.specs.declared.markup.name.AttrName.{AttrName}
use Rattle.wap_tokens.specs.markup.Tables.{code_of_start, name_of_attr}
use Rattle.wap_tokens.specs.markup.Writing.{part_pieces, coded_attr, attr_without}
use Rattle.wap_tokens.specs.markup.Writing.{whole_code, attr_with, attr_of}
use Rattle.wap_wbxml.specs.declared.spelling.output.Output.{Output}
use Rattle.wap_wbxml.specs.spelling.Writings.{plain, ◌⨾◌, each, on_attribute_page}
use Rattle.wap_wbxml.specs.spelling.Names.{place_of}
use Rattle.wap_wbxml.specs.spelling.Spelling.{piece_spelling, attr_spelling}
use Rattle.wap_wbxml.specs.spelling.Written.{written}
use Rattle.wap_wbxml.proofs.SpellingLemmas.Appending.{in_turn, written_none}
use Rattle.wap_deck.specs.writing.inside.WrittenTexts.{part_spelling}
use Rattle.wap_deck.proofs.WritingLemmas.PiecesAndKids.{parts_pieces}

module _ (attribute : AttrName × List Part) where
  abbrev pieces : List Piece
  pieces = flat_map part_pieces attribute.1

  own : (code : ℕ) → code_of_start (attribute.0, []) ≡ Some code
      → attr_of attribute ≡ coded_attr code pieces
  own code found = ap (λ (own : Option ℕ). attr_with own attribute.0 attribute.1) found

  other : code_of_start (attribute.0, []) ≡ None
      → attr_of attribute ≡ attr_without (whole_code attribute.0 attribute.1) attribute.0 pieces
  other none = ap (λ (own : Option ℕ). attr_with own attribute.0 attribute.1) none

  whole : (code : ℕ) → code_of_start (attribute.0, []) ≡ None
      → whole_code attribute.0 attribute.1 ≡ Some code
      → attr_of attribute ≡ coded_attr code []
  whole code none found =
      other none ∙ ap (λ (whole : Option ℕ). attr_without whole attribute.0 pieces) found

  named : code_of_start (attribute.0, []) ≡ None → whole_code attribute.0 attribute.1 ≡ None
      → attr_of attribute
      ≡ record { page = 0; start = Literal (name_of_attr attribute.0); value = pieces }
  named none neither =
      other none ∙ ap (λ (whole : Option ℕ). attr_without whole attribute.0 pieces) neither

  -- ---- what is written

  module _ (names : List (List ℕ)) (before paged : Output)
      (turned : paged ≡ written (on_attribute_page 0) before) where
    abbrev Attribute : Output → Type 0
    Attribute after = after ≡ written (attr_spelling names (attr_of attribute)) before

    is_attribute : (attr : Attr) (after : Output) → attr_of attribute ≡ attr
        → after ≡ written (attr_spelling names attr) before → Attribute after
    is_attribute attr after is so =
        so ∙ ap (λ (attr : Attr). written (attr_spelling names attr) before) (sym is)

    pub by_own : (code : ℕ) → code_of_start (attribute.0, []) ≡ Some code → (begun after : Output)
        → begun ≡ written (plain (code ∷ [])) paged
        → after ≡ written (each part_spelling attribute.1) begun → Attribute after
    by_own code found begun after first then =
        let start = plain (code ∷ []) in
        let value = each piece_spelling pieces in
        is_attribute (coded_attr code pieces) after (own code found)
        (in_turn (on_attribute_page 0) (start ⨾ value) before paged after turned
        (in_turn start value paged begun after first (then ∙ parts_pieces attribute.1 begun)))

    pub by_whole : (code : ℕ) → code_of_start (attribute.0, []) ≡ None
        → whole_code attribute.0 attribute.1 ≡ Some code → (after : Output)
        → after ≡ written (plain (code ∷ [])) paged → Attribute after
    unfolding each
    by_whole code none found after first =
        let start = plain (code ∷ []) in
        let value = each piece_spelling [] in
        is_attribute (coded_attr code []) after (whole code none found)
        (in_turn (on_attribute_page 0) (start ⨾ value) before paged after turned
        (in_turn start value paged after after first (sym (written_none after))))

    pub by_name : code_of_start (attribute.0, []) ≡ None → whole_code attribute.0 attribute.1 ≡ None
        → (begun after : Output)
        → begun
        ≡ written (plain (LITERAL ∷ mb_spelling (place_of names (name_of_attr attribute.0)))) paged
        → after ≡ written (each part_spelling attribute.1) begun → Attribute after
    by_name none neither begun after first then =
        let start = plain (LITERAL ∷ mb_spelling (place_of names (name_of_attr attribute.0))) in
        let value = each piece_spelling pieces in
        is_attribute (record {
          page = 0;
          start = Literal (name_of_attr attribute.0);
          value = pieces;
        }) after (named none neither)
        (in_turn (on_attribute_page 0) (start ⨾ value) before paged after turned
        (in_turn start value paged begun after first (then ∙ parts_pieces attribute.1 begun)))
