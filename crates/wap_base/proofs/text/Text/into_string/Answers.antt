use Rattle.std.proofs.Common.{ap, sym, ◌∙◌}
use Rattle.std.specs.Prelude.{string_bytes, encode_utf8_all}
use Rattle.std.proofs.lemmas.Str.{encodes-chars, IsUtf8-string_bytes}
use Rattle.wap_base.proofs.text.Text.into_string.Goals as goal

pub returns-clause-bytes : goal.returns-clause-bytes
returns-clause-bytes c =
    sym (encodes-chars (string_bytes c.self.inside.inner) (IsUtf8-string_bytes c.self.inside.inner))
    ∙ ap encode_utf8_all c.self.view_is
