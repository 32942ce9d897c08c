use Rattle.std.proofs.Common.{◌<◌, ℕ, map, ◌∙◌, ap, arith}
use Rattle.std.specs.Char.{to_ascii_lowercase}
use Rattle.std.specs.Str.{chars}
use Rattle.std.proofs.lemmas.Bool.Decides.{nat_tests}
use Rattle.std.proofs.lemmas.Str.{chars-IsAscii, IsUtf8-from_ascii}
use Rattle.std.proofs.lemmas.Str.Ascii.{IsAscii-map}
use Rattle.wap_url.proofs.texts.lowered_text.Goals as goal

lowered_ascii : (b : ℕ) → b < 128 → to_ascii_lowercase b < 128
lowered_ascii b small = grind (arith, nat_tests)

pub returns-then-is_ascii : goal.returns-then-is_ascii
returns-then-is_ascii c =
    let ascii = c.if-is_ascii.ensures.cases in
    c.from_string.ensures
    ∙ ap chars (c.make_ascii_lowercase.ensures.bytes ∙ ap (map to_ascii_lowercase)
    (c.in_ok-lowered.ensures.ok (IsUtf8-from_ascii c.args.bytes.now ascii)))
    ∙ chars-IsAscii (map to_ascii_lowercase c.args.bytes.now)
    (IsAscii-map to_ascii_lowercase c.args.bytes.now lowered_ascii ascii)
