use Rattle.std.proofs.Common.{◌≡◌, ◌++◌, length, sym, ap, ◌∙◌}
use Rattle.std.specs.Char.{encode_utf8}
use Rattle.wap_libs.proofs.TextsLemmas.Ends.{before_last, before_smaller, no_characters}
use Rattle.wap_libs.proofs.texts.walks.last_of.Goals as goal

pub returns-in-Some : goal.returns-in-Some
returns-in-Some c =
    let s = c.args.text.now in
    let last = c.in-Some.last in
    let rest = c.as_str.result.now in
    let same : s ≡ rest ++ encode_utf8 last =
    sym c.chars-characters.ensures.rest ∙ c.in-Some.ensures.steps
    ∙ ap (λ t. t ++ encode_utf8 last) (sym c.as_str.ensures) in (
      before_last last s rest c.utf8.text c.as_str.utf8 same,
      c.as_str.utf8,
      before_smaller last s rest same,
    )

pub returns-in-None : goal.returns-in-None
returns-in-None c =
    no_characters c.args.text.now
    (ap length (sym c.chars-characters.ensures.rest) ∙ c.in-None.ensures.steps.0)
