use Rattle.std.proofs.Common.{◌≡◌, List, ℕ}
use Rattle.std.proofs.lemmas.Result.{IfOk-weaker}
use Rattle.wap_layout.specs.Calculation.{lines_of}
use Rattle.wap_layout.proofs.Laying.{only_of}
use Rattle.wap_layout.proofs.layout.lines.Goals as goal

pub returns-clause-only : goal.returns-clause-only
returns-clause-only c page a =
    let width = c.args.width in
    IfOk-weaker c.laid_out.result
    (λ (lines : List (List ℕ)). lines ≡ lines_of width c.args.flow) (λ lines. lines ≡ page)
    (λ lines is. only_of width c.args.flow lines page c.requires is a)
    c.laid_out.ensures
