use Rattle.std.proofs.Common.{ℕ, List, ◌∷◌, sym, subst}
use Rattle.std.specs.List.{flat_map}
use Rattle.wap_devices.specs.Printing.{field_text}
use Rattle.wap_pages.specs.Printing.{step_text, path_text}
use Rattle.wap_devices.specs.Sinks.{Puts}
use Rattle.wap_devices.proofs.Putting.{puts_then, puts_fails}
use Rattle.wap_pages.proofs.printing.print_path.Goals as goal

pub returns-in_err-print_field-in-Some : goal.returns-in_err-print_field-in-Some
returns-in_err-print_field-in-Some g c =
    let before = g.O.Sink.seen c.args.out.now in
    let after = g.O.Sink.seen c.print_field.new.out in
    subst (λ (path : List ℕ). Puts (32 ∷ path_text path) before after c.from_residual.result)
    (sym c.in-Some.ensures.cases.0)
    (puts_fails (field_text c.in-Some.first.now) (flat_map step_text c.in-Some.rest.now)
    before after c.in_err-print_field-in-Some.ensures c.from_residual.result
    c.from_residual.ensures.0)

pub returns-in_ok-print_field-in-Some : goal.returns-in_ok-print_field-in-Some
returns-in_ok-print_field-in-Some g c =
    let before = g.O.Sink.seen c.args.out.now in
    let after = g.O.Sink.seen c.print_steps.new.out in
    subst (λ (path : List ℕ). Puts (32 ∷ path_text path) before after c.print_steps.result)
    (sym c.in-Some.ensures.cases.0)
    (puts_then (field_text c.in-Some.first.now) (flat_map step_text c.in-Some.rest.now)
    before (g.O.Sink.seen c.print_field.new.out) after c.in_ok-print_field-in-Some.ensures
    c.print_steps.result c.print_steps.ensures)
