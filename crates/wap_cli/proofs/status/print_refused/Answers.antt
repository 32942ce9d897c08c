use Rattle.std.proofs.Common.{◌++◌, codes}
use Rattle.wap_devices.proofs.Putting.{puts_then, puts_fails}
use Rattle.wap_pages.specs.Printing.{page_text}
use Rattle.wap_cli.proofs.status.print_refused.Goals as goal

pub returns-in_err-write_all : goal.returns-in_err-write_all
returns-in_err-write_all g c =
    puts_fails (codes "wap: refused ") (page_text c.args.fault.now ++ codes "\n")
    (g.O.Sink.seen c.args.out.now) (g.O.Sink.seen c.write_all.new.out)
    c.in_err-write_all.ensures c.from_residual.result c.from_residual.ensures.0

pub returns-in_err-print : goal.returns-in_err-print
returns-in_err-print g c =
    let between = g.O.Sink.seen c.write_all.new.out in
    let after = g.O.Sink.seen c.print.new.out in
    let text = page_text c.args.fault.now in
    let result = c.from_residual-in_err-print.result in
    puts_then (codes "wap: refused ") (text ++ codes "\n") (g.O.Sink.seen c.args.out.now) between
    after c.in_ok-write_all.ensures result
    (puts_fails text (codes "\n") between after c.in_err-print.ensures result
    c.from_residual-in_err-print.ensures.0)

pub returns : goal.returns
returns g c =
    let between = g.O.Sink.seen c.write_all.new.out in
    let later = g.O.Sink.seen c.print.new.out in
    let after = g.O.Sink.seen c.write_all-2.new.out in
    let text = page_text c.args.fault.now in
    let result = c.write_all-2.result in
    puts_then (codes "wap: refused ") (text ++ codes "\n") (g.O.Sink.seen c.args.out.now) between
    after c.in_ok-write_all.ensures result
    (puts_then text (codes "\n") between later after c.in_ok-print.ensures result
    c.write_all-2.ensures)
