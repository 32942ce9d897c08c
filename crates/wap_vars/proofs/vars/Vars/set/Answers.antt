use Rattle.std.proofs.Common.{◌≡◌, ◌+◌, ◌≤◌, ◌∙◌, ap, refl, sym, true, false}
use Rattle.std.proofs.Common.{cond, List, ℕ, length, Some, Ok, arith}
use Rattle.std.specs.BTreeMap.{BTreeMap}
use Rattle.std.specs.Option.{is_some}
use Rattle.wap_base.specs.Names.{is_name}
use Rattle.wap_base.specs.Utf8.{utf8_len}
use Rattle.wap_vars.specs.declared.limits.TheConstants.{VAR_LIMIT, TEXT_LIMIT}
use Rattle.wap_vars.specs.Variables.{text_of, updated}
use Rattle.wap_vars.proofs.TextLaws.{lookup_by_order}
use Rattle.wap_vars.proofs.SetLaws.{set_ok, set_full, set_seen, vars_updated}
use Rattle.wap_vars.proofs.UpdateLaws.{replaced_updated, updated_here, updated_elsewhere}
use Rattle.wap_vars.proofs.vars.Vars.set.Goals as goal

-- ---- a name that is kept

pub invariant_of-self : goal.invariant_of-self
invariant_of-self c =
    let entries = c.self.inside.texts.entries in
    let new = (c.get_mut.follows.lender c.args.value).entries in
    let w = c.get_mut.follows.holds c.args.value in
    let named : is_name c.args.name.now ≡ true =
    sym c.names_variable.ensures ∙ c.if-not-names_variable.false in
    let short : utf8_len c.args.value ≤ TEXT_LIMIT = omega (arith, c.len-bytes.ensures) in
    let grew : length new ≡ length entries + 0 = omega (arith, w.2) in
    vars_updated entries new c.args.name.now c.args.value
    (Some c.in-Some.text.now) c.self.invariant named short
    (w.0 ∙ replaced_updated entries c.args.name.now c.args.value c.in-Some.text.now
    c.self.invariant.ordered (sym c.in-Some.ensures.value)) w.4 grew (λ _. refl)

pub returns-in-Some-clause-set : goal.returns-in-Some-clause-set
returns-in-Some-clause-set c =
    (c.get_mut.follows.holds c.args.value).0
    ∙ replaced_updated c.self.inside.texts.entries c.args.name.now c.args.value c.in-Some.text.now
    c.self.invariant.ordered (sym c.in-Some.ensures.value)
    ∙ ap (λ (vars : List (List ℕ × List ℕ)). updated vars c.args.name.now c.args.value)
    c.self.view_is

pub returns-in-Some-clause-exact : goal.returns-in-Some-clause-exact
returns-in-Some-clause-exact c =
    let entries = c.self.inside.texts.entries in
    let named : is_name c.args.name.now ≡ true =
    sym c.names_variable.ensures ∙ c.if-not-names_variable.false in
    let short : utf8_len c.args.value ≤ TEXT_LIMIT = omega (arith, c.len-bytes.ensures) in
    let kept : is_some (text_of entries c.args.name.now) ≡ true =
    ap is_some (sym (lookup_by_order c.args.name.now entries) ∙ sym c.in-Some.ensures.value) in
    let new : (c.get_mut.follows.lender c.args.value).entries
    ≡ updated entries c.args.name.now c.args.value = (c.get_mut.follows.holds c.args.value).0
    ∙ replaced_updated entries c.args.name.now c.args.value c.in-Some.text.now
    c.self.invariant.ordered (sym c.in-Some.ensures.value) in
    set_seen entries c.args.self.now c.args.name.now c.args.name.now c.args.value _ c.self.view_is
    refl (set_ok entries c.args.name.now c.args.value named short (λ _. kept) ∙ ap Ok (sym new))

pub returns-in-Some-clause-here : goal.returns-in-Some-clause-here
returns-in-Some-clause-here c =
    ap (λ (vars : List (List ℕ × List ℕ)). text_of vars c.args.name.now)
    ((c.get_mut.follows.holds c.args.value).0
    ∙ replaced_updated c.self.inside.texts.entries c.args.name.now c.args.value c.in-Some.text.now
    c.self.invariant.ordered (sym c.in-Some.ensures.value))
    ∙ updated_here c.self.inside.texts.entries c.args.name.now c.args.value

pub returns-in-Some-clause-elsewhere : goal.returns-in-Some-clause-elsewhere
returns-in-Some-clause-elsewhere c = λ other apart.
    ap (λ (vars : List (List ℕ × List ℕ)). text_of vars other)
    ((c.get_mut.follows.holds c.args.value).0
    ∙ replaced_updated c.self.inside.texts.entries c.args.name.now c.args.value c.in-Some.text.now
    c.self.invariant.ordered (sym c.in-Some.ensures.value))
    ∙ updated_elsewhere c.self.inside.texts.entries c.args.name.now c.args.value other apart
    ∙ ap (λ (vars : List (List ℕ × List ℕ)). text_of vars other) c.self.view_is

-- ---- a new name

pub returns-then-len-ge-VAR_LIMIT-clause-exact : goal.returns-then-len-ge-VAR_LIMIT-clause-exact
returns-then-len-ge-VAR_LIMIT-clause-exact c = λ _.
    let entries = c.self.inside.texts.entries in
    let named : is_name c.args.name.now ≡ true =
    sym c.names_variable.ensures ∙ c.if-not-names_variable.false in
    let short : utf8_len c.args.value ≤ TEXT_LIMIT = omega (arith, c.len-bytes.ensures) in
    let full : VAR_LIMIT ≤ length entries = omega (
      arith,
      c.len.ensures.len,
      ap (λ (m : BTreeMap (List ℕ) (List ℕ)). length m.entries) c.get_mut.follows.holds-at-none,
    ) in
    let new : is_some (text_of entries c.args.name.now) ≡ false =
    ap is_some (sym (lookup_by_order c.args.name.now entries) ∙ sym c.in_default.ensures.value) in
    set_seen entries c.args.self.now c.args.name.now c.args.name.now c.args.value _ c.self.view_is
    refl (set_full entries c.args.name.now c.args.value named short full new)

pub returns-then-len-ge-VAR_LIMIT-clause-full : goal.returns-then-len-ge-VAR_LIMIT-clause-full
returns-then-len-ge-VAR_LIMIT-clause-full c = λ _.
    let entries = c.self.inside.texts.entries in
    let all : length entries ≡ VAR_LIMIT = omega (
      arith,
      c.len.ensures.len,
      ap (λ (m : BTreeMap (List ℕ) (List ℕ)). length m.entries) c.get_mut.follows.holds-at-none,
      c.self.invariant.few,
    ) in (
      ap length (sym c.self.view_is) ∙ all,
      ap (λ (vars : List (List ℕ × List ℕ)). text_of vars c.args.name.now) (sym c.self.view_is)
          ∙ sym (lookup_by_order c.args.name.now entries)
          ∙ sym c.in_default.ensures.value,
    )

pub invariant_of-self-2 : goal.invariant_of-self-2
invariant_of-self-2 c =
    let entries = c.self.inside.texts.entries in
    let same = c.get_mut.follows.holds-at-none in
    let named : is_name c.args.name.now ≡ true =
    sym c.names_variable.ensures ∙ c.if-not-names_variable.false in
    let short : utf8_len c.args.value ≤ TEXT_LIMIT = omega (arith, c.len-bytes.ensures) in
    let new : c.insert.new.self.entries ≡ updated entries c.args.name.now c.args.value =
    c.in_ok-insert.ensures.entries
    ∙ ap
    (λ (m : BTreeMap (List ℕ) (List ℕ)). updated m.entries c.in_ok-copy.field-0 c.args.value) same
    ∙ ap (λ (name : List ℕ). updated entries name c.args.value) c.in_ok-copy.ensures in
    let grew : length c.insert.new.self.entries
    ≡ length entries + cond (is_some c.in_ok-insert.field-0) 0 1 = c.in_ok-insert.ensures.len
    ∙ ap (λ (m : BTreeMap (List ℕ) (List ℕ)).
    length m.entries + cond (is_some c.in_ok-insert.field-0) 0 1) same in
    let kept : VAR_LIMIT ≤ length entries → is_some c.in_ok-insert.field-0 ≡ true =
    λ full. absurd (omega (
      arith,
      full,
      c.len.ensures.len,
      ap (λ (m : BTreeMap (List ℕ) (List ℕ)). length m.entries) c.get_mut.follows.holds-at-none,
    )) in
    vars_updated entries c.insert.new.self.entries c.args.name.now c.args.value
    c.in_ok-insert.field-0 c.self.invariant named short new c.in_ok-insert.ensures.ordered grew kept

pub returns-clause-exact : goal.returns-clause-exact
returns-clause-exact c =
    let entries = c.self.inside.texts.entries in
    let named : is_name c.args.name.now ≡ true =
    sym c.names_variable.ensures ∙ c.if-not-names_variable.false in
    let short : utf8_len c.args.value ≤ TEXT_LIMIT = omega (arith, c.len-bytes.ensures) in
    let new : c.insert.new.self.entries ≡ updated entries c.args.name.now c.args.value =
    c.in_ok-insert.ensures.entries
    ∙ ap (λ (m : BTreeMap (List ℕ) (List ℕ)). updated m.entries c.in_ok-copy.field-0 c.args.value)
    c.get_mut.follows.holds-at-none
    ∙ ap (λ (name : List ℕ). updated entries name c.args.value) c.in_ok-copy.ensures in
    let kept : VAR_LIMIT ≤ length entries → is_some (text_of entries c.args.name.now) ≡ true =
    λ full. absurd (omega (
      arith,
      full,
      c.len.ensures.len,
      ap (λ (m : BTreeMap (List ℕ) (List ℕ)). length m.entries) c.get_mut.follows.holds-at-none,
    )) in
    set_seen entries c.args.self.now c.args.name.now c.args.name.now c.args.value _ c.self.view_is
    refl (set_ok entries c.args.name.now c.args.value named short kept ∙ ap Ok (sym new))

pub returns-clause-here : goal.returns-clause-here
returns-clause-here c =
    ap (λ (vars : List (List ℕ × List ℕ)). text_of vars c.args.name.now)
    (c.in_ok-insert.ensures.entries
    ∙ ap (λ (m : BTreeMap (List ℕ) (List ℕ)). updated m.entries c.in_ok-copy.field-0 c.args.value)
    c.get_mut.follows.holds-at-none
    ∙ ap (λ (name : List ℕ). updated c.self.inside.texts.entries name c.args.value)
    c.in_ok-copy.ensures)
    ∙ updated_here c.self.inside.texts.entries c.args.name.now c.args.value

pub returns-clause-elsewhere : goal.returns-clause-elsewhere
returns-clause-elsewhere c = λ other apart.
    ap (λ (vars : List (List ℕ × List ℕ)). text_of vars other)
    (c.in_ok-insert.ensures.entries
    ∙ ap (λ (m : BTreeMap (List ℕ) (List ℕ)). updated m.entries c.in_ok-copy.field-0 c.args.value)
    c.get_mut.follows.holds-at-none
    ∙ ap (λ (name : List ℕ). updated c.self.inside.texts.entries name c.args.value)
    c.in_ok-copy.ensures)
    ∙ updated_elsewhere c.self.inside.texts.entries c.args.name.now c.args.value other apart
    ∙ ap (λ (vars : List (List ℕ × List ℕ)). text_of vars other) c.self.view_is
