use Rattle.std.proofs.Common.{◌≤◌, ◌-◌, length, slice_set, ap, ◌∙◌, arith}
use Rattle.std.proofs.lemmas.Result.{IfOk-weaker}
use Rattle.wap_base.proofs.Utf8Lengths.{utf8_len-bounds}
use Rattle.wap_libs.specs.Elements.{elements, joined, element_at}
use Rattle.wap_libs.proofs.TextsLemmas.Parting.{past_last}
use Rattle.wap_libs.proofs.url.without_parameters.Goals as goal

pub returns : goal.returns
returns c =
    let path = c.args.path.now in
    let es = elements 47 path in
    let past : length path ≤ c.len.result =
    omega (arith, c.len.ensures, (utf8_len-bounds path).0) in
    IfOk-weaker c.with_element.result _ _ (λ made is. is
    ∙ ap (λ k. joined 47 (slice_set es k c.in_ok-kept.kept))
    (past_last 47 path c.len.result past)
    ∙ ap (λ e. joined 47 (slice_set es (length es - 1) e))
    (c.in_ok-kept.ensures ∙ ap (element_at 59 0) c.in_ok-last.ensures)) c.with_element.ensures
