use Rattle.std.proofs.Common.{◌-◌, sym, ◌∙◌, arith}
use Rattle.wap_asm.specs.Spellings.{is_of}
use Rattle.wap_asm.proofs.Finding.{last_passing}
use Rattle.wap_asm.proofs.table.longest_in.Goals as goal

pub returns-then-eq : goal.returns-then-eq
returns-then-eq c =
    sym
    (last_passing (is_of c.args.operation) c.args.rows.now c.loop-i.i (c.loop-i.i - 1) _
    (grind arith) (grind arith) (sym c.eq.ensures ∙ c.if-eq.true))
    ∙ c.loop-i.invariant.last
