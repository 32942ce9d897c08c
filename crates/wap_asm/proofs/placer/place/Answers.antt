use Rattle.std.proofs.Common.{arith, sym, subst}
use Rattle.wap_asm.specs.Placed.{IsPlaced, start}
use Rattle.wap_asm.proofs.PlacedLaws.{is_placed}
use Rattle.wap_asm.proofs.placer.place.Goals as goal

pub returns-clause-splits : goal.returns-clause-splits
returns-clause-splits c =
    subst (λ code. IsPlaced code c.args.forms.now (start c.args.forms.now))
    (sym c.in_ok-code.ensures)
    (is_placed c.args.forms.now c.requires (omega arith))
