use Rattle.std.proofs.Common.{◌≡◌, ℕ, List, [], length, drop, true, ap, subst, sym, ◌∙◌}
use Rattle.std.specs.Prelude.{◌==◌}
use Rattle.wap_keys.specs.declared.prefix.Prefix.TheVariants as prefix
use Rattle.wap_keys.specs.Prefixes.{TakesPrefix}
use Rattle.wap_keys.proofs.LineSteps.{takes_whole, no_bytes}
use Rattle.wap_keys.proofs.reader.Reader.take_line.Goals as goal

pub returns : goal.returns
returns g c =
    let line = c.self.inside.line.items in
    let piece = c.self.inside.piece.items in
    let whole = c.in-Some.line.now in
    let tested : c.is_empty.result ≡ (length line == 0) = cc in
    let yes : c.is_empty.result ≡ true = cc in
    let empty : line ≡ [] = no_bytes line (sym tested ∙ yes) in
    let unread : c.split_at.result.1.now ≡ drop c.self.inside.at piece = cc in
    let takes : TakesPrefix line whole (drop c.self.inside.at piece) (prefix.Whole (length whole)) =
    subst (λ (l : List ℕ). TakesPrefix line whole l (prefix.Whole (length whole))) unread
    (subst (λ (l : List ℕ).
    TakesPrefix l whole c.split_at.result.1.now (prefix.Whole (length whole)))
    (sym empty) c.in-Some.ensures.takes) in
    takes_whole g.T.Says.meaning c.args.self.now line piece whole line c.self.inside.at
    (length whole) c.self.inside.number c.self.inside.count c.self.inside.over c.in_ok-said.said
    c.self.view_is c.self.invariant.1 takes
    (c.in_ok-said.ensures.is ∙ ap g.T.Says.meaning c.without_return.ensures)
    c.in_ok-said.ensures.known empty
