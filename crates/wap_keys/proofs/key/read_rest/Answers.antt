use Rattle.std.proofs.Common.{Err, Result, sym, ap, subst, ◌∙◌}
use Rattle.std.proofs.lemmas.Result.{err_from_is_err_and}
use Rattle.std.specs.Option.{option_map}
use Rattle.wap_base.specs.Outcome.{Meets}
use Rattle.wap_base.specs.declared.key.Key.{Key}
use Rattle.wap_keys.specs.declared.fault.KeyFault.{KeyFault}
use Rattle.wap_keys.specs.declared.fault.KeyFault.TheVariants.{NoMemory}
use Rattle.wap_keys.specs.inside.Wording.{key_of_rest}
use Rattle.wap_keys.proofs.WordLaws.{good_rest, other_rest}
use Rattle.wap_keys.proofs.key.read_rest.Goals as goal

pub returns : goal.returns
returns c =
    let rest = option_map (λ rest. rest.now) c.args.rest in
    let text = c.in_ok-rest_text.ensures in
    good_rest c.read_form.result c.args.word rest
    (option_map (λ text. text.now) c.in_ok-rest_text.field-0) text.0 text.1 c.read_form.ensures

pub returns-in_err-rest_text : goal.returns-in_err-rest_text
returns-in_err-rest_text c =
    let rest = option_map (λ rest. rest.now) c.args.rest in
    let fault = c.in_err-rest_text.field-0.0 in
    let left = err_from_is_err_and c.from_residual.result c.from_residual.ensures.1 in
    subst
    (λ (r : Result Key KeyFault). Meets NoMemory (λ key. key) r (key_of_rest c.args.word rest))
    (sym (left.1 ∙ ap Err left.2))
    (λ _. other_rest c.args.word rest fault c.in_err-rest_text.ensures)
