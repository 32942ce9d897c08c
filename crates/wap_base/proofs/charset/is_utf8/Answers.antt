use Rattle.std.proofs.Common.{sym}
use Rattle.std.proofs.lemmas.Str.{is_utf8-from_IsUtf8}
use Rattle.wap_base.proofs.CharsetLaws.{is_utf8-no}
use Rattle.wap_base.proofs.charset.is_utf8.Goals as goal

pub returns-in-Some : goal.returns-in-Some
returns-in-Some c = sym (is_utf8-from_IsUtf8 c.args.bytes.now c.in-Some.ensures.1)

pub returns-in-None : goal.returns-in-None
returns-in-None c = sym (is_utf8-no c.args.bytes.now c.in-None.ensures)
