use Rattle.std.proofs.Common.{◌∙◌, ◌≡◌, length, ap, sym, Some, arith}
use Rattle.std.specs.Prelude.{vec_len}
use Rattle.wap_libs.proofs.LawsLemmas.Tables.{pure_so}
use Rattle.wap_context.proofs.host.sight.Sight.pure.Goals as goal

pub call_pure-requires : goal.call_pure-requires
call_pure-requires c =
    let ok = c.args.arguments.ok in
    let count : length c.args.arguments.items ≡ vec_len c.args.arguments = omega arith in
    pure_so c.args.library c.args.function (vec_len c.args.arguments)
    (sym c.is_pure.ensures ∙ c.if-not-is_pure.false) (c.requires ∙ ap Some count)
