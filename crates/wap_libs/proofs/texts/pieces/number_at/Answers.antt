use Rattle.std.proofs.Common.{◌<◌, ap, ◌∙◌, arith}
use Rattle.std.specs.Char.{is_ascii_digit}
use Rattle.std.proofs.lemmas.List.{get_or-take, length-take}
use Rattle.std.proofs.lemmas.List.Sums.{prefix_len_passes}
use Rattle.wap_libs.proofs.texts.pieces.number_at.Goals as goal

pub number_of-requires : goal.number_of-requires
number_of-requires c = λ k d below.
    let s = c.args.text.now in
    let n = c.digits.result in
    let inside : k < n = omega (arith, length-take n s) in
    ap is_ascii_digit (get_or-take n s k d inside)
    ∙ prefix_len_passes is_ascii_digit s k d (omega (arith, c.digits.ensures.exact))
