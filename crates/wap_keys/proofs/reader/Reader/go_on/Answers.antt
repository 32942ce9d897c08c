use Rattle.std.proofs.Common.{◌≡◌, ◌≢◌, ℕ, List, ◌++◌, drop, ap, subst, ◌∙◌}
use Rattle.wap_keys.specs.KeyReaders.{Reading}
use Rattle.wap_keys.specs.Lines.{without_return}
use Rattle.wap_keys.specs.declared.fault.KeyFault.TheVariants.{TooLong, NoMemory}
use Rattle.wap_keys.specs.declared.prefix.Prefix.{Prefix}
use Rattle.wap_keys.specs.declared.prefix.Prefix.TheVariants as prefix
use Rattle.wap_keys.specs.Prefixes.{TakesPrefix}
use Rattle.wap_keys.proofs.LineSteps.{takes_whole, takes_long}
use Rattle.wap_keys.proofs.reader.Reader.go_on.Goals as goal

pub returns-in_ok-said-in-Whole : goal.returns-in_ok-said-in-Whole
returns-in_ok-said-in-Whole g c =
    let line = c.self.inside.line.items in
    let piece = c.self.inside.piece.items in
    let whole = c.take_prefix.new.line.items in
    let unread : c.split_at.result.1.now ≡ drop c.self.inside.at piece = cc in
    let takes
    : TakesPrefix line whole (drop c.self.inside.at piece) (prefix.Whole c.in-Whole.place) =
    subst (λ (l : List ℕ). TakesPrefix line whole l (prefix.Whole c.in-Whole.place)) unread
    (subst (λ (prefix : Prefix). TakesPrefix line whole c.split_at.result.1.now prefix)
    c.in-Whole.is c.in_ok-take_prefix.ensures.takes) in
    let content : c.without_return.result.now ≡ without_return whole =
    c.without_return.ensures
    ∙ ap without_return (let same : c.deref.result.now ≡ whole = cc in same) in
    takes_whole g.T.Says.meaning c.args.self.now line piece whole c.clear-in-Whole.new.self.items
    c.self.inside.at c.in-Whole.place c.self.inside.number c.self.inside.count c.self.inside.over
    c.in_ok-said-in-Whole.said c.self.view_is c.self.invariant.1 takes
    (c.in_ok-said-in-Whole.ensures.is ∙ ap g.T.Says.meaning content)
    c.in_ok-said-in-Whole.ensures.known c.clear-in-Whole.ensures.items

pub returns-in-TooLong : goal.returns-in-TooLong
returns-in-TooLong g c =
    let line = c.self.inside.line.items in
    let piece = c.self.inside.piece.items in
    let whole = c.take_prefix.new.line.items in
    let view : line ++ drop c.self.inside.at piece ≡ c.args.self.now.unread =
    ap (λ (r : Reading). r.unread) c.self.view_is in
    let unread : c.split_at.result.1.now ≡ drop c.self.inside.at piece = cc in
    let takes : TakesPrefix line whole (drop c.self.inside.at piece) prefix.TooLong =
    subst (λ (l : List ℕ). TakesPrefix line whole l prefix.TooLong) unread
    (subst (λ (prefix : Prefix). TakesPrefix line whole c.split_at.result.1.now prefix)
    c.in-TooLong.is c.in_ok-take_prefix.ensures.takes) in
    let no_want : TooLong ≢ NoMemory = λ e. absurd (let none : ⊥ = cc in none) in (
      no_want,
      ap (λ (r : Reading). r.over) c.self.view_is,
      takes_long g.T.Says.meaning c.args.self.now line
          (drop c.self.inside.at piece) whole view c.self.invariant.1 takes,
    )
