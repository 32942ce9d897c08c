use Rattle.std.proofs.Common.{ap, ◌∙◌, ◌++◌, ◌∷◌, []}
use Rattle.std.specs.Prelude.{string_bytes}
use Rattle.std.specs.Str.{chars}
use Rattle.std.proofs.lemmas.Str.{IsUtf8-string_bytes}
use Rattle.wap_base.proofs.TextLaws.{chars-push}
use Rattle.wap_base.proofs.text.Text.push.Goals as goal

pub returns-clause-ok : goal.returns-clause-ok
returns-clause-ok c =
    ap chars (c.in_ok-push.ensures.bytes)
    ∙ chars-push (string_bytes c.self.inside.inner) c.args.character
    (IsUtf8-string_bytes c.self.inside.inner) c.ranges.character.0
    ∙ ap (λ cs. cs ++ c.args.character ∷ []) c.self.view_is
