use Rattle.std.proofs.Common.{ap, ◌∙◌, ◌++◌}
use Rattle.std.specs.Prelude.{string_bytes}
use Rattle.std.specs.Str.{chars}
use Rattle.std.proofs.lemmas.Str.{chars-append, IsUtf8-string_bytes}
use Rattle.wap_base.proofs.text.Text.add.Goals as goal

pub returns-clause-ok : goal.returns-clause-ok
returns-clause-ok c =
    ap chars (c.in_ok-push_str.ensures.bytes)
    ∙ chars-append (string_bytes c.self.inside.inner) c.args.text.now
    (IsUtf8-string_bytes c.self.inside.inner)
    ∙ ap (λ cs. cs ++ chars c.args.text.now) c.self.view_is
