use Rattle.std.proofs.Common.{◌≡◌, length, ◌+◌, ap, sym, ◌∙◌}
use Rattle.std.specs.Str.{chars}
use Rattle.std.proofs.lemmas.Str.{encodes-chars}
use Rattle.wap_base.specs.Utf8.{utf8_len}
use Rattle.wap_base.proofs.Utf8Lengths.{length-encode_utf8_all}
use Rattle.wap_libs.specs.Outcome.{counted}
use Rattle.wap_libs.proofs.texts.draft.bytes_with.Goals as goal

pub returns : goal.returns
returns c =
    let same : length c.args.more.now ≡ utf8_len (chars c.args.more.now) =
    ap length (sym (encodes-chars c.args.more.now c.utf8.more))
    ∙ length-encode_utf8_all (chars c.args.more.now) in
    c.saturating_add.ensures ∙ ap (λ n. counted (c.args.bytes + n)) same
