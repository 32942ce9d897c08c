use Rattle.std.proofs.Common.{◌≡◌, ◌+◌, ◌-◌, List, length, take, drop, reverse, ap, ◌∙◌, arith}
use Rattle.std.proofs.lemmas.List.{length-reverse}
use Rattle.wap_value.specs.declared.value.Value.{Value}
use Rattle.wap_execution.specs.Frames.{Frame}
use Rattle.wap_machine.specs.Seen.{with_operands}
use Rattle.wap_machine.proofs.Operands.{arguments_of, rest_of}
use Rattle.wap_machine.proofs.frame.Frame.take_arguments.Goals as goal

pub returns-clause-arguments : goal.returns-clause-arguments
returns-clause-arguments c =
    let same = ap (λ (f : Frame). f.operands) c.self.view_is in
    let items = c.self.inside.operands.items in
    let enough = ap (λ (l : List Value). length l) same in
    let all : c.len.result - c.args.count + c.args.count ≡ length items =
    omega (arith, length-reverse items, enough) in
    c.in_ok-split_off.ensures.tail
    ∙ arguments_of items (c.len.result - c.args.count) c.args.count all
    ∙ ap (λ (l : List Value). reverse (take c.args.count l)) same

pub returns-clause-rest : goal.returns-clause-rest
returns-clause-rest c =
    let same = ap (λ (f : Frame). f.operands) c.self.view_is in
    let items = c.self.inside.operands.items in
    let enough = ap (λ (l : List Value). length l) same in
    let all : c.len.result - c.args.count + c.args.count ≡ length items =
    omega (arith, length-reverse items, enough) in
    ap (λ (f : Frame). with_operands (reverse c.split_off.new.self.items) f) c.self.view_is
    ∙ ap (λ (l : List Value). with_operands l c.args.self.now)
    (ap (λ (l : List Value). reverse l) c.in_ok-split_off.ensures.items
    ∙ rest_of items (c.len.result - c.args.count) c.args.count all
    ∙ ap (λ (l : List Value). drop c.args.count l) same)
