use Rattle.std.proofs.Common.{◌≢◌, [], not, ap, sym, ◌∙◌}
use Rattle.std.proofs.lemmas.Bool.{not-true}
use Rattle.wap_deck.proofs.DocumentsLemmas.Strings.{one_string, string_has_no_zero}
use Rattle.wap_deck.proofs.writing.runs.is_string.Goals as goal

pub returns-then-not-is_empty : goal.returns-then-not-is_empty
returns-then-not-is_empty c =
    let some : c.args.text.now ≢ [] =
    λ empty. let yes = c.is_empty.ensures.1 empty in cc (yes, c.if-not-is_empty.true) in (
      λ none. one_string c.args.text.now some
          (sym c.has_zero.ensures ∙ not-true c.has_zero.result none),
      λ one. ap not (c.has_zero.ensures ∙ string_has_no_zero c.args.text.now one),
    )
