use Rattle.std.proofs.Common.{arith}
use Rattle.wap_asm.proofs.BytesLaws.{code_more, code_all}
use Rattle.wap_asm.proofs.bytes.bytes_of.Goals as goal

pub loop-i-preserved : goal.loop-i-preserved
loop-i-preserved c =
    code_more c.args.forms.now c.loop-i.i c.loop-i.code c.add_form.new.code (omega arith)
    c.loop-i.invariant c.in_ok-add_form.ensures

pub returns : goal.returns
returns c =
    code_all c.args.forms.now c.loop-i.i c.loop-i.code (omega arith) c.loop-i.invariant
