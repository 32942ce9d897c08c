use Rattle.std.proofs.Common.{◌≤◌, [], length, slice_index_or, ap, ◌∙◌, arith}
use Rattle.std.proofs.lemmas.Result.{IfOk-weaker}
use Rattle.wap_base.proofs.Utf8Lengths.{utf8_len-bounds}
use Rattle.wap_libs.specs.Elements.{elements}
use Rattle.wap_libs.proofs.TextsLemmas.Parting.{past_last}
use Rattle.wap_libs.proofs.url.last_segment.Goals as goal

pub returns : goal.returns
returns c =
    let path = c.args.path.now in
    let past : length path ≤ c.len.result =
    omega (arith, c.len.ensures, (utf8_len-bounds path).0) in
    IfOk-weaker c.element_at.result _ _ (λ found is. is
    ∙ ap (λ k. slice_index_or (elements 47 path) k []) (past_last 47 path c.len.result past))
    c.element_at.ensures
