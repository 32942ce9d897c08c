use Rattle.std.proofs.Common.{◌≡◌, ap, ◌∙◌, encode_utf8_all}
use Rattle.wap_deck.specs.documents.inside.Adding.{has_zero}
use Rattle.wap_deck.proofs.DocumentsLemmas.Strings.{zero_bytes}
use Rattle.wap_deck.proofs.writing.runs.has_zero.Goals as goal

pub returns : goal.returns
returns c =
    let is : c.as_bytes.result.now ≡ encode_utf8_all c.args.text.now = cc in
    c.have_zero.ensures ∙ ap has_zero is ∙ zero_bytes c.args.text.now
