use Rattle.std.proofs.Common.{◌∙◌, ap}
use Rattle.std.specs.Str.{chars}
use Rattle.std.proofs.lemmas.Str.{chars-IsAscii, IsUtf8-from_ascii}
use Rattle.wap_url.proofs.texts.text_of.Goals as goal

pub returns-then-is_ascii : goal.returns-then-is_ascii
returns-then-is_ascii c =
    c.from_string.ensures ∙ ap chars (c.in_ok-from_utf8_lossy.ensures.ok
    (IsUtf8-from_ascii c.args.bytes.now c.if-is_ascii.ensures.cases))
    ∙ chars-IsAscii c.args.bytes.now c.if-is_ascii.ensures.cases
