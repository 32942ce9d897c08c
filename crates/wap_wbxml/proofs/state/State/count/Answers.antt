use Rattle.std.proofs.Common.{ℕ, List, Ok, sym, ◌∙◌, ap, arith}
use Rattle.wap_tokens.specs.markup.Grammar.{State, table_size}
use Rattle.wap_wbxml.proofs.Names.{counted_fits, counted_over, table_size-append, added}
use Rattle.wap_wbxml.proofs.state.State.count.Goals as goal

pub returns-then-len-self : goal.returns-then-len-self
returns-then-len-self c = λ other.
    rw (← c.self.view_is)
    (counted_over c.args.at _ c.args.name.now c.if-not-self.false
    (sym c.contains.ensures ∙ c.if-contains.false)
    (let size = c.self.invariant in let long = c.if-len-self.true in
    let len = c.len-len.ensures in omega arith))

pub invariant_of-self-2 : goal.invariant_of-self-2
invariant_of-self-2 c =
    let after =
    added c.add.new.names.keys c.self.inside.names.keys c.in_ok-copy.field-0 c.args.name.now
    c.in_ok-add.ensures.ok c.in_ok-copy.ensures (sym c.contains.ensures ∙ c.if-contains.false) in
    let more = ap table_size after ∙ table_size-append c.self.inside.names.keys c.args.name.now in
    let size = c.self.invariant in
    let len = c.len-len.ensures in
    omega arith

pub returns : goal.returns
returns c =
    let after =
    added c.add.new.names.keys c.self.inside.names.keys c.in_ok-copy.field-0 c.args.name.now
    c.in_ok-add.ensures.ok c.in_ok-copy.ensures (sym c.contains.ensures ∙ c.if-contains.false) in
    rw (← c.self.view_is)
    (counted_fits c.args.at _ c.args.name.now c.if-not-self.false
    (sym c.contains.ensures ∙ c.if-contains.false)
    (let size = c.self.invariant in let short = c.if-len-self.false in
    let len = c.len-len.ensures in let range = c.self.ranges in omega arith)
    ∙ ap (λ (names : List
    (List ℕ)). let state : State = record {
      tag_page = c.self.inside.tag_page;
      attribute_page = c.self.inside.attribute_page;
      in_root = c.self.inside.in_root;
      names = names;
    } in Ok state) (sym after))

pub invariant_of-self-in_err-add : goal.invariant_of-self-in_err-add
invariant_of-self-in_err-add c = c.self.invariant ∙ ap table_size (sym c.in_err-add.ensures.err)
