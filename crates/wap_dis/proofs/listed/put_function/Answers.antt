use Rattle.std.proofs.Common.{ℕ, List, length, subst}
use Rattle.wap_dis.specs.Listing.{head_line, code_from}
use Rattle.wap_dis.specs.inside.Gathering.{Gathers}
use Rattle.wap_dis.specs.inside.Gathered.{state}
use Rattle.wap_dis.proofs.Putting.{gathers_then}
use Rattle.wap_dis.proofs.listed.put_function.Goals as goal

pub returns : goal.returns
returns g c =
    let seen = g.O.Sink.seen in
    let code : List ℕ = c.args.function.now.code in
    gathers_then (seen c.args.out.now) (seen c.put_head_line.new.out)
    (seen c.put_code.new.out)
    (state c.args.held.now) (state c.put_head_line.new.held) (state c.put_code.new.held)
    (head_line c.args.unit.now c.args.index c.args.function.now)
    (code_from (length code) code 0) c.put_head_line.ensures
    (subst (λ (l : List ℕ).
    Gathers (seen c.put_head_line.new.out) (seen c.put_code.new.out)
    (state c.put_head_line.new.held)
    (state c.put_code.new.held) (code_from (length l) l 0))
    c.as_slice.ensures c.put_code.ensures)
