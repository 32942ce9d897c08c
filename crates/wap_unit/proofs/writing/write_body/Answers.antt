use Rattle.std.proofs.Common.{sym, subst}
use Rattle.wap_unit.specs.inside.Fitting.{FitsConstants, FitsFunctions}
use Rattle.wap_unit.proofs.writing.write_body.Goals as goal

pub write_constants-requires : goal.write_constants-requires
write_constants-requires c = subst FitsConstants (sym c.as_slice.ensures) c.requires.constants

pub write_functions-requires : goal.write_functions-requires
write_functions-requires c =
    let unit = c.args.unit.now in
    let names = c.as_slice-3 in
    let functions = c.as_slice-4 in
    subst (λ ns. FitsFunctions ns functions.result.now) (sym names.ensures)
    (subst (λ fs. FitsFunctions unit.names fs) (sym functions.ensures) c.requires.functions)
