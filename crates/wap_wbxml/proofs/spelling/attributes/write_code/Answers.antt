use Rattle.std.proofs.Common.{◌∷◌, []}
use Rattle.wap_wbxml.specs.spelling.Writings.{plain, on_attribute_page}
use Rattle.wap_wbxml.proofs.SpellingLemmas.Appending.{in_turn}
use Rattle.wap_wbxml.proofs.spelling.attributes.write_code.Goals as goal

pub returns : goal.returns
returns c =
    in_turn (on_attribute_page c.args.page)
    (plain (c.args.code ∷ [])) c.args.output.now c.go_to_attribute_page.new.self
    c.push.new.self c.in_ok-go_to_attribute_page.ensures.ok c.in_ok-push.ensures.ok
