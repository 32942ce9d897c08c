use Rattle.std.proofs.Common.{ℕ, List, Result, Ok, ap, ◌∙◌, sym}
use Rattle.wap_value.specs.declared.value.Value.{Value}
use Rattle.wap_value.specs.declared.value.Value.TheVariants.{Str}
use Rattle.wap_value.specs.declared.fault.ValueFault.{ValueFault}
use Rattle.wap_machine.proofs.Doing.{text_kept, text_too_long}
use Rattle.wap_machine.proofs.constants.literal.Goals as goal

pub returns-then-text-string : goal.returns-then-text-string
returns-then-text-string c =
    λ other. text_too_long c.args.string c.args.text.now c.utf8.text c.if-text-string.true

pub returns : goal.returns
returns c =
    let kept : List ℕ → Result Value ValueFault = λ text. Ok (Str text) in
    text_kept c.args.string c.args.text.now c.utf8.text c.if-text-string.false
    ∙ ap kept (sym c.in_ok-of.ensures)
