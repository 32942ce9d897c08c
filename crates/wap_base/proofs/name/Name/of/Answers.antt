use Rattle.std.proofs.Common.{◌≡◌, true, refl, sym, ap, ◌∙◌}
use Rattle.std.proofs.lemmas.Result.{err_from_is_err_and}
use Rattle.wap_base.specs.Names.{is_name}
use Rattle.wap_base.proofs.NameLaws.{name-encode}
use Rattle.wap_base.proofs.name.Name.of.Goals as goal

pub returns-then-not-is_name-clause-bad : goal.returns-then-not-is_name-clause-bad
returns-then-not-is_name-clause-bad c = (
  λ _. sym (name-encode c.args.text.now) ∙ ap is_name (sym c.as_str.ensures.bytes
      ∙ sym c.as_bytes.ensures.value) ∙ sym c.is_name.ensures ∙ c.if-not-is_name.true,
  λ _. refl,
)

pub returns-in_err-copy-clause-bad : goal.returns-in_err-copy-clause-bad
returns-in_err-copy-clause-bad c =
    let p = err_from_is_err_and c.from_residual.result c.from_residual.ensures.1 in
    let named : is_name c.args.text.now ≡ true =
    sym (name-encode c.args.text.now)
    ∙ ap is_name (sym c.as_str.ensures.bytes ∙ sym c.as_bytes.ensures.value) ∙ sym c.is_name.ensures
    ∙ c.if-not-is_name.false in
    (λ bad. absurd (cc (p.1, p.2, bad)), λ unnamed. absurd (cc (named, unnamed)))

pub invariant_of-result : goal.invariant_of-result
invariant_of-result c =
    ap is_name c.in_ok-copy.ensures ∙ sym (name-encode c.args.text.now)
    ∙ ap is_name (sym c.as_str.ensures.bytes ∙ sym c.as_bytes.ensures.value) ∙ sym c.is_name.ensures
    ∙ c.if-not-is_name.false

pub returns-clause-bad : goal.returns-clause-bad
returns-clause-bad c =
    let named : is_name c.args.text.now ≡ true =
    sym (name-encode c.args.text.now)
    ∙ ap is_name (sym c.as_str.ensures.bytes ∙ sym c.as_bytes.ensures.value) ∙ sym c.is_name.ensures
    ∙ c.if-not-is_name.false in
    (λ bad. absurd cc, λ unnamed. absurd (cc (named, unnamed)))
