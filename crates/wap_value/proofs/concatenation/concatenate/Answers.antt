use Rattle.std.proofs.Common.{◌∙◌, ◌++◌, ap}
use Rattle.std.specs.Str.{chars}
use Rattle.std.proofs.lemmas.Str.{chars-nil}
use Rattle.wap_value.proofs.concatenation.concatenate.Goals as goal

pub returns : goal.returns
returns c =
    let none =
    c.from_string-text.ensures ∙ ap chars c.in_ok-with_capacity.ensures.bytes ∙ chars-nil in
    c.in_ok-add-2.ensures.ok
    ∙ ap (λ text. text ++ chars c.as_str-2.result.now) (c.in_ok-add.ensures.ok
    ∙ ap (λ text. text ++ chars c.as_str.result.now) none ∙ c.as_str.ensures.characters)
    ∙ ap (λ text. c.args.left.now ++ text) c.as_str-2.ensures.characters
