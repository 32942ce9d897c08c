use Rattle.std.proofs.Common.{ℕ, Bool, ◌&&◌, nat_lt, sym, ap, ◌∙◌}
use Rattle.wap_base.proofs.Utf8Lengths.{length-encode_utf8_all}
use Rattle.wap_meaning.specs.compiled.Units.{is_short}
use Rattle.wap_codegen.proofs.names.is_named.Goals as goal

pub returns-then-function : goal.returns-then-function
returns-then-function c =
    ap (λ (n : ℕ). nat_lt n 256)
    (c.len.ensures ∙ sym (length-encode_utf8_all c.args.function.now.name.name))
    ∙ sym (ap (λ (b : Bool). b && is_short c.args.function.now.name.name) c.if-function.true)
