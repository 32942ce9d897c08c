use Rattle.std.proofs.Common.{◌∙◌, nat_lt, sym, ap}
use Rattle.wap_value.specs.declared.value.Value.{Value}
use Rattle.wap_world.specs.Starting.{is_too_long}
use Rattle.wap_base.proofs.Utf8Lengths.{length-encode_utf8_all}
use Rattle.wap_context.proofs.starting.is_too_long.Goals as goal

pub returns-in-Str : goal.returns-in-Str
returns-in-Str c =
    ap (nat_lt c.args.string)
    (c.len.ensures ∙ sym (length-encode_utf8_all c.in-Str.text))
    ∙ sym (ap (λ (v : Value). is_too_long c.args.string v) c.in-Str.is)
