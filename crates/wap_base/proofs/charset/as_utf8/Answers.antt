use Rattle.std.proofs.Common.{sym, ◌∙◌}
use Rattle.wap_base.proofs.CharsetLaws.{ascii_is_utf8}
use Rattle.wap_base.proofs.charset.as_utf8.Goals as goal

pub from_utf8_unchecked-requires : goal.from_utf8_unchecked-requires
from_utf8_unchecked-requires c =
    ascii_is_utf8 c.args.bytes.now (sym c.is_ascii.ensures ∙ c.if-is_ascii.true)
