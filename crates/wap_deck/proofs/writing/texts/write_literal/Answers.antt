use Rattle.std.proofs.Common.{List, ℕ, Option, Some, ap, ◌∙◌, sym}
use Rattle.wap_tokens.specs.markup.Writing.{runs_of}
use Rattle.wap_wbxml.specs.spelling.Writings.{each}
use Rattle.wap_wbxml.specs.spelling.Written.{written}
use Rattle.wap_deck.specs.writing.inside.WrittenTexts.{run_spelling}
use Rattle.wap_deck.proofs.WritingLemmas.Lists.{each_one}
use Rattle.wap_deck.proofs.writing.texts.write_literal.Goals as goal

pub returns-then-is_string-clause-written : goal.returns-then-is_string-clause-written
returns-then-is_string-clause-written c =
    c.in_ok-write_text.ensures.ok
    ∙ each_one run_spelling (Some c.args.text.now) c.args.output.now
    ∙ ap (λ (runs : List (Option (List ℕ))). written (each run_spelling runs) c.args.output.now)
    (sym (c.is_string.ensures.0 c.if-is_string.true))

pub returns-clause-written : goal.returns-clause-written
returns-clause-written c =
    c.in_ok-write_runs.ensures
    ∙ ap (λ (runs : List (Option (List ℕ))). written (each run_spelling runs) c.args.output.now)
    (c.as_slice.ensures ∙ c.in_ok-runs.ensures ∙ ap runs_of c.as_str-characters.ensures.characters)
