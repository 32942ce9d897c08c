use Rattle.std.proofs.Common.{◌≡◌, ℕ, ◌<◌, Result, Vec, IsOk, arith, sym, subst}
use Rattle.std.proofs.Common.{slice_index_or, vec_len, length}
use Rattle.std.specs.List.{AllZip, flat_map}
use Rattle.std.specs.declared.alloc.Global.{Global}
use Rattle.wap_base.specs.declared.fault.NoMemory.{NoMemory}
use Rattle.wap_folder.specs.Pieces.{piece_items}
use Rattle.wap_folder.proofs.PieceLaws.{pieces_right, if_ok_both}
use Rattle.wap_folder.proofs.jobs.run_jobs.Goals as goal

pub returns : goal.returns
returns g c =
    let R = g.W.Work.right c.args.work.now in
    let jobs = c.args.jobs.now in
    let pieces = c.in_ok-pieces.pieces in
    let count : ℕ = c.min-count.result in
    let none : count ≡ 0 → length jobs ≡ 0 =
    λ e. omega (arith, e, c.min-count.ensures, c.from.ensures) in
    if_ok_both (λ all. all.items ≡ flat_map piece_items pieces.items)
    (λ all. (k : ℕ) (d : Result (Vec _ Global) NoMemory) → k < vec_len pieces
    → IsOk (slice_index_or pieces.items k d))
    (λ all. AllZip R jobs all.items) c.join.result c.join.ensures.items c.join.ensures.each
    (λ all items ok. subst (λ l. AllZip R jobs l) (sym items)
    (pieces_right R jobs count pieces.items none
    (omega (arith, pieces.ok, c.in_ok-pieces.ensures.len))
    (λ k d h. ok k d (omega (arith, h, c.in_ok-pieces.ensures.len)))
    (λ k d h. (c.in_ok-pieces.ensures.each k d h).1.met)))
