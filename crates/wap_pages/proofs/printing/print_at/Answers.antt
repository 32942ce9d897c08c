use Rattle.std.proofs.Common.{◌∷◌}
use Rattle.wap_devices.proofs.Putting.{puts_then, puts_fails}
use Rattle.wap_pages.specs.Printing.{path_text}
use Rattle.wap_pages.proofs.printing.print_at.Goals as goal

pub returns-in_err-write_all : goal.returns-in_err-write_all
returns-in_err-write_all g c =
    puts_fails c.args.name.now (32 ∷ path_text c.args.path.now)
    (g.O.Sink.seen c.args.out.now) (g.O.Sink.seen c.write_all.new.out)
    c.in_err-write_all.ensures c.from_residual.result c.from_residual.ensures.0

pub returns : goal.returns
returns g c =
    puts_then c.args.name.now (32 ∷ path_text c.args.path.now)
    (g.O.Sink.seen c.args.out.now) (g.O.Sink.seen c.write_all.new.out)
    (g.O.Sink.seen c.print_path.new.out) c.in_ok-write_all.ensures c.print_path.result
    c.print_path.ensures
