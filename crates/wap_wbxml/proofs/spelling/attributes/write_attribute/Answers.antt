use Rattle.std.proofs.Common.{List, ap, ◌∙◌}
use Rattle.wap_tokens.specs.declared.markup.document.Piece.{Piece}
use Rattle.wap_wbxml.specs.spelling.Writings.{plain, ◌⨾◌, each, on_attribute_page}
use Rattle.wap_wbxml.specs.spelling.Spelling.{start_spelling, piece_spelling}
use Rattle.wap_wbxml.specs.spelling.Written.{written}
use Rattle.wap_wbxml.proofs.SpellingLemmas.Appending.{in_turn}
use Rattle.wap_wbxml.proofs.spelling.attributes.write_attribute.Goals as goal

pub returns : goal.returns
returns c =
    let attr = c.args.attr.now in
    let start = plain (start_spelling c.args.table.now attr.start) in
    let value = each piece_spelling attr.value in
    in_turn (on_attribute_page attr.page)
    (start ⨾ value) c.args.output.now c.go_to_attribute_page.new.self
    c.write_pieces.new.output c.in_ok-go_to_attribute_page.ensures.ok
    (in_turn start value c.go_to_attribute_page.new.self c.write_start.new.output
    c.write_pieces.new.output
    c.in_ok-write_start.ensures
    (c.in_ok-write_pieces.ensures
    ∙ ap (λ (l : List Piece). written (each piece_spelling l) c.write_start.new.output)
    c.as_slice.ensures))
