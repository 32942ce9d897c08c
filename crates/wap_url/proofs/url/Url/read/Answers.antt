use Rattle.std.proofs.Common.{sym, ap, ◌∙◌, length, ℕ, List, Option, None}
use Rattle.wap_base.specs.Cuts.{until, onward}
use Rattle.wap_url.specs.declared.fault.UrlFault.TheVariants.{BadChar}
use Rattle.wap_url.specs.UrlParts.{url_of}
use Rattle.wap_url.specs.Calculation.{is_stop, fault_of}
use Rattle.wap_url.proofs.ReadLaws.{is_cut, url_bad, url_fault, url_found, ok_clauses, err_clauses}
use Rattle.wap_url.proofs.SliceLaws.{slices_are}
use Rattle.wap_url.proofs.url.Url.read.Goals as goal

pub returns-then-is_bad : goal.returns-then-is_bad
returns-then-is_bad c =
    let cut =
    is_cut c.args.text.now c.as_str.result.now c.as_bytes.result.now c.cut_at.result.0.now
    c.cut_at.result.1.now c.is_bad.result c.as_bytes.ensures.value c.as_str.ensures.bytes
    c.cut_at.ensures.before c.cut_at.ensures.after c.is_bad.ensures in
    let is =
    url_bad c.args.text.now c.cut_at.result.0.now c.cut_at.result.1.now c.is_bad.result cut
    c.if-is_bad.true in
    let all = err_clauses c.args.text.now (BadChar (length c.cut_at.result.0.now)) is in
    record {
      exact = λ _. is;
      found = tt;
      only = λ u has _. all.only u has;
      refused = λ _. all.refused;
      first = λ f has _. all.first f has;
      normal = tt;
    }

pub returns-in-Some : goal.returns-in-Some
returns-in-Some c =
    let cut =
    is_cut c.args.text.now c.as_str.result.now c.as_bytes.result.now c.cut_at.result.0.now
    c.cut_at.result.1.now c.is_bad.result c.as_bytes.ensures.value c.as_str.ensures.bytes
    c.cut_at.ensures.before c.cut_at.ensures.after c.is_bad.ensures in
    let parts =
    slices_are c.cut_at.result.0.now c.cut_parts-slices.result None
    c.cut_parts-slices.ensures.scheme c.cut_parts-slices.ensures.host
    c.cut_parts-slices.ensures.port c.cut_parts-slices.ensures.path
    c.cut_parts-slices.ensures.query in
    let is =
    url_fault c.args.text.now c.cut_at.result.0.now c.cut_at.result.1.now c.is_bad.result
    c.in-Some.fault cut c.if-is_bad.false
    (ap fault_of (sym parts) ∙ sym c.fault_in.ensures ∙ c.in-Some.is) in
    let all = err_clauses c.args.text.now c.in-Some.fault is in
    record {
      exact = λ _. is;
      found = tt;
      only = λ u has _. all.only u has;
      refused = λ _. all.refused;
      first = λ f has _. all.first f has;
      normal = tt;
    }

pub copy_fragment-requires-clause-good : goal.copy_fragment-requires-clause-good
copy_fragment-requires-clause-good c =
    let cut =
    is_cut c.args.text.now c.as_str.result.now c.as_bytes.result.now c.cut_at.result.0.now
    c.cut_at.result.1.now c.is_bad.result c.as_bytes.ensures.value c.as_str.ensures.bytes
    c.cut_at.ensures.before c.cut_at.ensures.after c.is_bad.ensures in
    sym cut.bad_is ∙ c.if-is_bad.false

pub copy_fragment-requires-clause-before : goal.copy_fragment-requires-clause-before
copy_fragment-requires-clause-before c =
    c.cut_at.ensures.before ∙ ap (until is_stop) (c.as_bytes.ensures.value ∙ c.as_str.ensures.bytes)

pub copy_fragment-requires-clause-after : goal.copy_fragment-requires-clause-after
copy_fragment-requires-clause-after c =
    c.cut_at.ensures.after ∙ ap (onward is_stop) (c.as_bytes.ensures.value ∙ c.as_str.ensures.bytes)

pub returns : goal.returns
returns c =
    let cut =
    is_cut c.args.text.now c.as_str.result.now c.as_bytes.result.now c.cut_at.result.0.now
    c.cut_at.result.1.now c.is_bad.result c.as_bytes.ensures.value c.as_str.ensures.bytes
    c.cut_at.ensures.before c.cut_at.ensures.after c.is_bad.ensures in
    let parts =
    λ (fragment : Option (List ℕ)). slices_are c.cut_at.result.0.now c.cut_parts-slices.result
    fragment c.cut_parts-slices.ensures.scheme c.cut_parts-slices.ensures.host
    c.cut_parts-slices.ensures.port c.cut_parts-slices.ensures.path
    c.cut_parts-slices.ensures.query in
    let is =
    url_found c.args.text.now c.cut_at.result.0.now c.cut_at.result.1.now c.is_bad.result
    c.in_ok-fragment.fragment c.in_ok-url_of.field-0 cut c.if-is_bad.false
    (ap fault_of (sym (parts None)) ∙ sym c.fault_in.ensures ∙ c.in_default.is)
    c.in_ok-fragment.ensures
    (c.in_ok-url_of.ensures ∙ ap url_of (parts c.in_ok-fragment.fragment)) in
    let all = ok_clauses c.args.text.now c.in_ok-url_of.field-0 is in
    record {
      exact = is;
      found = all.found;
      only = all.only;
      refused = tt;
      first = all.first;
      normal = all.normal;
    }
