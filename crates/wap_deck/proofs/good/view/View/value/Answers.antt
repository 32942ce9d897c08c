use Rattle.std.proofs.Common.{◌∙◌, sym, ap, List}
use Rattle.wap_base.specs.declared.name.Part.{Part}
use Rattle.wap_tokens.specs.declared.markup.name.AttrName.{AttrName}
use Rattle.wap_deck.specs.good.inside.Starts.{value_in}
use Rattle.wap_deck.proofs.GoodLemmas.HeadLaw.{attrs_here, bare_lacks}
use Rattle.wap_deck.proofs.GoodLemmas.Seen.{attrs_seen, attrs_end, some_first, no_such_value}
use Rattle.wap_deck.proofs.good.view.View.value.Goals as goal

pub returns-in_err-mark : goal.returns-in_err-mark
returns-in_err-mark c =
    absurd (some_first c.self.inside.table.now c.self.inside.levels c.self.inside.bytes.now
    c.self.invariant.lent.read c.in_err-mark.ensures)

pub returns-then-not-has_attributes : goal.returns-then-not-has_attributes
returns-then-not-has_attributes c =
    no_such_value c.self.inside.table.now c.self.inside.levels c.self.inside.bytes.now
    c.self.invariant.lent.read c.args.self.now c.self.view_is c.args.name
    (bare_lacks c.self.inside.bytes.now c.in_ok-mark.mark c.in_ok-mark.attrs.now
    c.in_ok-mark.ensures (sym c.has_attributes.ensures ∙ c.if-not-has_attributes.true)
    c.args.name)

pub returns : goal.returns
returns c =
    let here =
    attrs_here c.self.inside.bytes.now c.in_ok-mark.mark c.in_ok-mark.attrs.now
    c.in_ok-mark.ensures (sym c.has_attributes.ensures ∙ c.if-not-has_attributes.false) in
    c.find_attr.ensures ∙ ap (λ (attrs : List (AttrName × List Part)). value_in c.args.name attrs)
    (attrs_seen c.self.inside.table.now c.self.inside.levels c.self.inside.bytes.now
    c.self.invariant.lent.read c.args.self.now c.self.view_is c.in_ok-mark.attrs.now here)

pub find_attr-requires : goal.find_attr-requires
find_attr-requires c =
    attrs_end c.self.inside.table.now c.self.inside.levels c.self.inside.bytes.now
    c.self.invariant.lent.read c.in_ok-mark.attrs.now
    (attrs_here c.self.inside.bytes.now c.in_ok-mark.mark c.in_ok-mark.attrs.now
    c.in_ok-mark.ensures (sym c.has_attributes.ensures ∙ c.if-not-has_attributes.false))
