use Rattle.std.proofs.Common.{ap, sym, ◌∙◌, length}
use Rattle.std.specs.Prelude.{string_bytes}
use Rattle.std.specs.Str.{chars}
use Rattle.std.proofs.lemmas.Bool.{eqb-true, eq-eqb}
use Rattle.std.proofs.lemmas.List.{nil_from_length}
use Rattle.std.proofs.lemmas.Str.{chars-nil, IsUtf8-string_bytes}
use Rattle.wap_base.proofs.TextLaws.{nil-from_chars}
use Rattle.wap_base.proofs.text.Text.is_empty.Goals as goal

pub returns : goal.returns
returns c =
    let text = c.as_str.result.now in
    let same = c.as_str.ensures.value in (
      λ empty. sym c.self.view_is ∙ ap chars (sym same ∙ nil_from_length text
          (eqb-true (length text) 0 (sym c.is_empty.ensures ∙ empty))) ∙ chars-nil,
      λ none. c.is_empty.ensures ∙ eq-eqb (length text) 0
          (ap length (same ∙ nil-from_chars (string_bytes c.self.inside.inner)
          (IsUtf8-string_bytes c.self.inside.inner) (c.self.view_is ∙ none))),
    )
