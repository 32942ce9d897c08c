use Rattle.std.proofs.Common.{ℕ, List, ◌++◌, codes, Ok, Err, subst, ◌∙◌}
use Rattle.std.specs.Fmt.{decimal}
use Rattle.wap_devices.specs.Sinks.{Puts}
use Rattle.wap_devices.proofs.Putting.{puts_then, puts_fails}
use Rattle.wap_cli.specs.Statuses.{fault_name}
use Rattle.wap_cli.proofs.status.print_bad_key.Goals as goal

pub returns-in_err-write_all : goal.returns-in_err-write_all
returns-in_err-write_all g c =
    let rest = decimal c.args.line ++ (codes " " ++ (fault_name c.args.fault ++ codes "\n")) in
    puts_fails (codes "wap: line ") rest (g.O.Sink.seen c.args.out.now)
    (g.O.Sink.seen c.write_all.new.out) c.in_err-write_all.ensures c.from_residual.result
    c.from_residual.ensures.0

pub returns-in_err-write_all-2 : goal.returns-in_err-write_all-2
returns-in_err-write_all-2 g c =
    let between = g.O.Sink.seen c.write_all.new.out in
    let after = g.O.Sink.seen c.write_all-2.new.out in
    let number = decimal c.args.line in
    let rest = codes " " ++ (fault_name c.args.fault ++ codes "\n") in
    let result = c.from_residual-in_err-write_all-2.result in
    puts_then (codes "wap: line ") (number ++ rest) (g.O.Sink.seen c.args.out.now) between after
    c.in_ok-write_all.ensures result
    (puts_fails number rest between after
    (subst (λ (text : List ℕ). Puts text between after (Err c.in_err-write_all-2.field-0.0))
    (c.as_bytes.ensures.value ∙ c.format.ensures.text) c.in_err-write_all-2.ensures) result
    c.from_residual-in_err-write_all-2.ensures.0)

pub returns : goal.returns
returns g c =
    let between = g.O.Sink.seen c.write_all.new.out in
    let later = g.O.Sink.seen c.write_all-2.new.out in
    let after = g.O.Sink.seen c.write_all-3.new.out in
    let number = decimal c.args.line in
    let rest = codes " " ++ (fault_name c.args.fault ++ codes "\n") in
    let result = c.write_all-3.result in
    puts_then (codes "wap: line ") (number ++ rest) (g.O.Sink.seen c.args.out.now) between after
    c.in_ok-write_all.ensures result
    (puts_then number rest between later after
    (subst (λ (text : List ℕ). Puts text between later (Ok c.in_ok-write_all-2.field-0))
    (c.as_bytes.ensures.value ∙ c.format.ensures.text) c.in_ok-write_all-2.ensures) result
    (subst (λ (text : List ℕ). Puts text later after result) c.fault_end.ensures
    c.write_all-3.ensures))
