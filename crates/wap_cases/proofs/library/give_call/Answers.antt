use Rattle.std.proofs.Common.{Some, ◌∙◌, sym, ap}
use Rattle.wap_libs.proofs.LawsLemmas.Tables.{pure_so}
use Rattle.wap_cases.proofs.library.give_call.Goals as goal

pub call_pure-requires : goal.call_pure-requires
call_pure-requires c =
    pure_so c.args.numbers.0 c.args.numbers.1 _ (sym c.is_pure.ensures ∙ c.if-is_pure.true)
    (sym c.lib_args.ensures ∙ c.in-Some.is
    ∙ ap Some (sym c.from.ensures ∙ c.if-from-len.true ∙ c.len.ensures))
