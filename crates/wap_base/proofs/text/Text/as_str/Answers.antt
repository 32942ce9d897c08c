use Rattle.std.proofs.Common.{ap, sym, ◌∙◌}
use Rattle.std.specs.Prelude.{string_bytes, encode_utf8_all}
use Rattle.std.specs.Str.{all_scalars}
use Rattle.std.proofs.lemmas.Str.{encodes-chars, scalars-chars, IsUtf8-string_bytes}
use Rattle.wap_base.proofs.text.Text.as_str.Goals as goal

pub returns-clause-bytes : goal.returns-clause-bytes
returns-clause-bytes c = c.as_str.ensures.value
    ∙ sym
    (encodes-chars (string_bytes c.self.inside.inner) (IsUtf8-string_bytes c.self.inside.inner))
    ∙ ap encode_utf8_all c.self.view_is

pub returns-clause-scalars : goal.returns-clause-scalars
returns-clause-scalars c =
    ap all_scalars (sym c.self.view_is)
    ∙ scalars-chars (string_bytes c.self.inside.inner) (IsUtf8-string_bytes c.self.inside.inner)
