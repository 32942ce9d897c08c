use Rattle.std.proofs.Common.{ℕ, List, [], ◌∷◌, ◌∙◌, subst}
use Rattle.std.specs.Fmt.{decimal}
use Rattle.wap_devices.specs.Sinks.{Puts}
use Rattle.wap_devices.proofs.Putting.{puts_then, puts_fails}
use Rattle.wap_devices.proofs.printing.print_field.Goals as goal

pub returns-in_err-write_all : goal.returns-in_err-write_all
returns-in_err-write_all g c =
    puts_fails (32 ∷ []) (decimal c.args.field)
    (g.O.Sink.seen c.args.out.now) (g.O.Sink.seen c.write_all.new.out)
    c.in_err-write_all.ensures c.from_residual.result c.from_residual.ensures.0

pub returns : goal.returns
returns g c =
    let between = g.O.Sink.seen c.write_all.new.out in
    let after = g.O.Sink.seen c.write_all-2.new.out in
    puts_then (32 ∷ []) (decimal c.args.field) (g.O.Sink.seen c.args.out.now) between after
    c.in_ok-write_all.ensures c.write_all-2.result
    (subst (λ (text : List ℕ). Puts text between after c.write_all-2.result)
    (c.as_bytes.ensures.value ∙ c.format.ensures.text) c.write_all-2.ensures)
