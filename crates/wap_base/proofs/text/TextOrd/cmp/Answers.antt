use Rattle.wap_base.proofs.Utf8Order.{cmp-encode_utf8_all}
use Rattle.wap_base.proofs.text.TextOrd.cmp.Goals as goal

pub returns : goal.returns
returns c =
    rw (c.cmp.ensures, c.as_str.ensures.bytes, c.as_str-2.ensures.bytes)
    (cmp-encode_utf8_all c.args.self.now c.args.other.now)
