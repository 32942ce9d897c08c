use Rattle.std.proofs.Common.{ap, ◌∙◌, arith, ◌++◌}
use Rattle.std.specs.Str.{chars}
use Rattle.percent_encoding.specs.Percent.{percent_encode}
use Rattle.std.proofs.lemmas.List.Elements.{All-from_get_or}
use Rattle.percent_encoding.proofs.PercentLemmas.{IsByte}
use Rattle.wap_url.specs.Escapes.{unescaped}
use Rattle.wap_url.proofs.EscapeLaws.{chars_escaped, unescaped_escaped}
use Rattle.wap_url.proofs.escapes.escape_bytes.Goals as goal

abbrev text_of_it : goal.returns-clause-exact
text_of_it c =
    c.from_string.ensures
    ∙ ap chars (c.in_ok-append_to.ensures.ok
    ∙ ap (λ front. front ++ percent_encode c.percent_encode.result.ascii_set
    c.percent_encode.result.bytes.now) c.new-text.ensures.bytes
    ∙ c.percent_encode.ensures.text)
    ∙ chars_escaped c.args.bytes.now

pub returns-clause-exact : goal.returns-clause-exact
returns-clause-exact c = text_of_it c

pub returns-clause-back : goal.returns-clause-back
returns-clause-back c =
    let small =
    All-from_get_or IsByte c.args.bytes.now 0 (λ i within. omega (arith, c.type_inv.bytes i)) in
    ap unescaped (text_of_it c) ∙ unescaped_escaped c.args.bytes.now small
