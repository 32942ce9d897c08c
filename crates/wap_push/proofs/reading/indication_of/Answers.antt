use Rattle.std.proofs.Common.{◌≡◌, ◌∙◌, ap, sym, true, List, Some}
use Rattle.wap_tokens.specs.declared.markup.document.Kid.{Kid}
use Rattle.wap_tokens.specs.declared.markup.document.Attr.{Attr}
use Rattle.wap_push.specs.Fields.{elements_of, created_of}
use Rattle.wap_push.specs.Indications.{is_si, IsBody}
use Rattle.wap_push.specs.Calculation.{body_in}
use Rattle.wap_push.proofs.Readings.{body_found, indication_given, fault_given}
use Rattle.wap_push.proofs.reading.indication_of.Goals as goal

pub returns-clause-indication : goal.returns-clause-indication
returns-clause-indication c =
    let root : is_si c.args.document.now ≡ true =
    sym c.is_tagged.ensures ∙ c.if-not-is_tagged.false in
    let child : IsBody c.args.document.now c.in-Some.body.now =
    body_found c.args.document.now c.in-Some.body.now
    (ap (λ (kids : List Kid). body_in (elements_of kids)) (sym c.as_slice.ensures)
    ∙ sym c.in-Some.ensures) in
    let time : created_of c.in-Some.body.now.attrs ≡ Some c.in-Some-created_of.created =
    ap (λ (attrs : List Attr). created_of attrs) (sym c.as_slice-2.ensures)
    ∙ sym c.in-Some-created_of.ensures in
    indication_given c.args.document.now c.in-Some.body.now c.in-Some-created_of.created root child
    time c.dated.result c.dated.ensures

pub returns-clause-fault : goal.returns-clause-fault
returns-clause-fault c =
    let root : is_si c.args.document.now ≡ true =
    sym c.is_tagged.ensures ∙ c.if-not-is_tagged.false in
    let child : IsBody c.args.document.now c.in-Some.body.now =
    body_found c.args.document.now c.in-Some.body.now
    (ap (λ (kids : List Kid). body_in (elements_of kids)) (sym c.as_slice.ensures)
    ∙ sym c.in-Some.ensures) in
    let time : created_of c.in-Some.body.now.attrs ≡ Some c.in-Some-created_of.created =
    ap (λ (attrs : List Attr). created_of attrs) (sym c.as_slice-2.ensures)
    ∙ sym c.in-Some-created_of.ensures in
    fault_given c.args.document.now c.in-Some.body.now c.in-Some-created_of.created root child
    time c.dated.result c.dated.ensures
