use Rattle.std.proofs.Common.{List, ◌∷◌, ap, subst, ◌∙◌, sym}
use Rattle.std.specs.List.{AllByRecursion}
use Rattle.wap_base.specs.declared.name.Part.{Part}
use Rattle.wap_base.specs.Numbers.{mb_spelling}
use Rattle.wap_tokens.specs.declared.markup.codes.TheConstants.{LITERAL}
use Rattle.wap_tokens.specs.markup.Writing.{whole_code}
use Rattle.wap_wbxml.specs.spelling.Characters.{OfPart}
use Rattle.wap_wbxml.specs.spelling.Names.{place_of}
use Rattle.wap_wbxml.specs.spelling.Writings.{plain, each}
use Rattle.wap_wbxml.specs.spelling.Written.{written}
use Rattle.wap_deck.specs.writing.inside.WrittenTexts.{part_spelling}
use Rattle.wap_deck.proofs.WritingLemmas.Starts.{by_own, by_whole, by_name}
use Rattle.wap_deck.proofs.WritingLemmas.Told.{whole_of}
use Rattle.wap_deck.proofs.writing.attributes.write_attribute.Goals as goal

pub returns-in-Some-clause-written : goal.returns-in-Some-clause-written
returns-in-Some-clause-written c =
    by_own c.args.attribute.now c.args.table.now c.args.output.now c.go_to_attribute_page.new.self
    c.in_ok-go_to_attribute_page.ensures.ok c.in-Some.code (sym c.own_code.ensures ∙ c.in-Some.is)
    c.push.new.self c.write_parts.new.output c.in_ok-push.ensures.ok
    (c.in_ok-write_parts.ensures.written
    ∙ ap (λ (parts : List Part). written (each part_spelling parts) c.push.new.self)
    c.as_slice-parts.ensures)

pub returns-in-Some-whole_code-clause-written : goal.returns-in-Some-whole_code-clause-written
returns-in-Some-whole_code-clause-written c =
    by_whole c.args.attribute.now c.args.table.now c.args.output.now c.go_to_attribute_page.new.self
    c.in_ok-go_to_attribute_page.ensures.ok c.in-Some-whole_code.code
    (sym c.own_code.ensures ∙ c.in_default.is)
    (sym (c.whole_code.ensures
    ∙ ap (λ (parts : List Part). whole_code c.args.attribute.now.0 parts) c.as_slice-parts.ensures)
    ∙ c.in-Some-whole_code.is)
    c.push-in-Some-whole_code.new.self c.in_ok-push-2.ensures.ok

pub returns-clause-written : goal.returns-clause-written
returns-clause-written c =
    let name = c.args.attribute.now.0 in
    let text =
    c.in_ok-text.ensures ∙ c.name_of_attr.ensures.characters ∙ c.name_of_attr.ensures.name in
    let place = c.place_of.ensures ∙ ap (place_of c.args.table.now) text in
    by_name c.args.attribute.now c.args.table.now c.args.output.now c.go_to_attribute_page.new.self
    c.in_ok-go_to_attribute_page.ensures.ok (sym c.own_code.ensures ∙ c.in_default.is)
    (sym (c.whole_code.ensures
    ∙ ap (λ (parts : List Part). whole_code name parts) c.as_slice-parts.ensures)
    ∙ c.in_default-whole_code.is)
    c.write_number.new.self c.write_parts-2.new.output
    (c.in_ok-write_number.ensures.ok
    ∙ ap
    (λ place. written (plain (LITERAL ∷ mb_spelling place)) c.go_to_attribute_page.new.self) place)
    (c.in_ok-write_parts-2.ensures.written
    ∙ ap (λ (parts : List Part). written (each part_spelling parts) c.write_number.new.self)
    c.as_slice-parts.ensures)

pub returns-in-Some-clause-characters : goal.returns-in-Some-clause-characters
returns-in-Some-clause-characters c =
    subst (AllByRecursion OfPart) c.as_slice-parts.ensures c.in_ok-write_parts.ensures.characters

-- the whole value is one of the table
pub returns-in-Some-whole_code-clause-characters : goal.returns-in-Some-whole_code-clause-characters
returns-in-Some-whole_code-clause-characters c =
    whole_of c.args.attribute.now.0 c.args.attribute.now.1 c.in-Some-whole_code.code
    (sym (c.whole_code.ensures
    ∙ ap (λ (parts : List Part). whole_code c.args.attribute.now.0 parts) c.as_slice-parts.ensures)
    ∙ c.in-Some-whole_code.is)

pub returns-clause-characters : goal.returns-clause-characters
returns-clause-characters c =
    subst (AllByRecursion OfPart) c.as_slice-parts.ensures c.in_ok-write_parts-2.ensures.characters
