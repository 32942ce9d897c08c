use Rattle.std.proofs.Common.{Result, Err, subst, sym, ap, ◌∙◌}
use Rattle.std.specs.Option.{option_map}
use Rattle.wap_base.specs.Outcome.{Meets}
use Rattle.wap_base.specs.declared.key.Key.{Key}
use Rattle.wap_keys.specs.declared.fault.KeyFault.{KeyFault}
use Rattle.wap_keys.specs.declared.fault.KeyFault.TheVariants.{NoMemory}
use Rattle.wap_keys.proofs.KeyLaws.{long_key}
use Rattle.wap_keys.proofs.WordLaws.{word_key, unknown_key}
use Rattle.wap_keys.proofs.key.read_line.Goals as goal

pub returns-then-line-gt-LINE_LIMIT : goal.returns-then-line-gt-LINE_LIMIT
returns-then-line-gt-LINE_LIMIT c = λ _. long_key c.args.line.now c.if-line-gt-LINE_LIMIT.true

pub returns-in-Some : goal.returns-in-Some
returns-in-Some c =
    subst (λ (reading : Result Key KeyFault).
    Meets NoMemory (λ (key : Key). key) c.read_rest.result reading)
    (sym (word_key c.args.line.now c.split_word.result.0.now
    (option_map (λ rest. rest.now) c.split_word.result.1) c.in-Some.word
    c.if-line-gt-LINE_LIMIT.false c.split_word.ensures.is (sym c.of.ensures ∙ c.in-Some.is)))
    c.read_rest.ensures

pub returns-in-None : goal.returns-in-None
returns-in-None c = λ _.
    unknown_key c.args.line.now c.split_word.result.0.now
    (option_map (λ rest. rest.now) c.split_word.result.1) c.if-line-gt-LINE_LIMIT.false
    c.split_word.ensures.is c.split_word.ensures.word (sym c.of.ensures ∙ c.in-None.is)
    ∙ ap Err (sym c.unknown_fault.ensures)
