use Rattle.std.proofs.Common.{◌∙◌, ap}
use Rattle.std.specs.Str.{chars}
use Rattle.std.proofs.lemmas.Str.{chars-nil}
use Rattle.wap_layout.proofs.fill.empty_line.Goals as goal

pub returns : goal.returns
returns c = c.from_string.ensures ∙ ap chars c.in_ok-with_capacity.ensures.bytes ∙ chars-nil
