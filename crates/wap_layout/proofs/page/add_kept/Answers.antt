use Rattle.std.proofs.Common.{◌≡◌, List, ℕ, subst}
use Rattle.std.specs.Prelude.{OnOk}
use Rattle.wap_layout.specs.inside.Endings.{is_hard}
use Rattle.wap_layout.proofs.Slices.{kept-step, kept-end}
use Rattle.wap_layout.proofs.page.add_kept.Goals as goal

pub loop-line-preserved : goal.loop-line-preserved
loop-line-preserved c =
    let cut = c.in-Some.ensures in (
      cut.rest_text,
      kept-step c.args.width (is_hard c.args.ending)
          c.loop-line.lines c.add_piece.new.lines c.loop-line.rest.now c.in-Some.line.now
          c.in-Some.after.now _ c.in_ok-add_piece.ensures cut c.loop-line.invariant.1,
    )

pub returns : goal.returns
returns c =
    let P : List (List ℕ) → Type 0 =
    λ lines. OnOk c.add_piece-2.result (c.add_piece-2.new.lines ≡ lines) in
    subst P (kept-end c.args.width (is_hard c.args.ending) c.loop-line.lines c.loop-line.rest.now _
    c.in_default.ensures c.loop-line.invariant.1)
    c.add_piece-2.ensures
