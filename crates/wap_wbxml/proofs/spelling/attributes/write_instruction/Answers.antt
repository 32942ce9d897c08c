use Rattle.std.proofs.Common.{◌∷◌, []}
use Rattle.wap_tokens.specs.declared.markup.codes.TheConstants.{PI, END}
use Rattle.wap_wbxml.specs.spelling.Writings.{plain, ◌⨾◌}
use Rattle.wap_wbxml.specs.spelling.Spelling.{attr_spelling}
use Rattle.wap_wbxml.proofs.SpellingLemmas.Appending.{in_turn}
use Rattle.wap_wbxml.proofs.spelling.attributes.write_instruction.Goals as goal

pub returns : goal.returns
returns c =
    let attribute = attr_spelling c.args.table.now c.args.attr.now in
    let end = plain (END ∷ []) in
    in_turn (plain (PI ∷ [])) (attribute ⨾ end) c.args.output.now c.push.new.self c.push-2.new.self
    c.in_ok-push.ensures.ok
    (in_turn attribute end c.push.new.self c.write_attribute.new.output c.push-2.new.self
    c.in_ok-write_attribute.ensures c.in_ok-push-2.ensures.ok)
