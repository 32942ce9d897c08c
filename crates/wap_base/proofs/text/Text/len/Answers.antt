use Rattle.std.proofs.Common.{ap, ◌∙◌, length}
use Rattle.wap_base.proofs.Utf8Lengths.{length-encode_utf8_all}
use Rattle.wap_base.proofs.text.Text.len.Goals as goal

pub returns : goal.returns
returns c = ap length c.as_str.ensures.bytes ∙ length-encode_utf8_all c.args.self.now
