use Rattle.std.proofs.Common.{◌++◌, arith, sym, ◌∙◌, ap, subst}
use Rattle.wap_asm.specs.declared.form.Form.TheVariants.{Op, Jump, Label}
use Rattle.wap_asm.proofs.PassLaws.{settled_few}
use Rattle.wap_asm.proofs.BytesLaws.{op_spelling, jump_spelling, jump_small, form_at, distance_at}
use Rattle.wap_asm.proofs.BytesLaws.{target_small, on_ok_then, form_same}
use Rattle.std.proofs.lemmas.List.{append-nil}
use Rattle.wap_asm.specs.Spellings.{operation_of}
use Rattle.wap_asm.specs.Placing.{instr_bytes, form_bytes, settled}
use Rattle.wap_asm.specs.inside.Passes.{HasSpelling}
use Rattle.wap_asm.proofs.bytes.add_form.Goals as goal

pub add_instr-requires : goal.add_instr-requires
add_instr-requires c =
    let here = form_at c.args.forms.now c.args.i (Op c.in-Op.instr) _ c.requires.within c.in-Op.is
    in
    let spelling = op_spelling c.args.forms.now c.args.i c.in-Op.instr c.requires.placeable here in
    subst (λ op. HasSpelling op c.in-Op.instr.a c.in-Op.instr.b c.in-Op.instr.c)
    (sym c.operation_of.ensures) spelling

pub apart-distance-requires-clause-from : goal.apart-distance-requires-clause-from
apart-distance-requires-clause-from c =
    let here = form_at c.args.forms.now c.args.i (Jump c.in-Jump.name c.in-Jump.field-1) _
    c.requires.within c.in-Jump.is in
    (target_small c.args.forms.now c.args.layout.now.sites.items c.args.layout.now.starts.items
    c.as_slice.result.now c.args.i c.in-Jump.field-1 c.in-Jump.name c.index.result.now
    c.requires.sites
    c.requires.starts c.as_slice.ensures.value here c.index.ensures).0

pub apart-distance-requires-clause-to : goal.apart-distance-requires-clause-to
apart-distance-requires-clause-to c =
    let here = form_at c.args.forms.now c.args.i (Jump c.in-Jump.name c.in-Jump.field-1) _
    c.requires.within c.in-Jump.is in
    (target_small c.args.forms.now c.args.layout.now.sites.items c.args.layout.now.starts.items
    c.as_slice.result.now c.args.i c.in-Jump.field-1 c.in-Jump.name c.index.result.now
    c.requires.sites
    c.requires.starts c.as_slice.ensures.value here c.index.ensures).1

pub apart-distance-requires-clause-few : goal.apart-distance-requires-clause-few
apart-distance-requires-clause-few c =
    let few =
    settled_few c.args.forms.now c.args.layout.now.starts.items c.as_slice.result.now
    c.requires.starts c.as_slice.ensures.value c.requires.few in
    omega (arith, few c.index.result.now.target, few c.args.i)

pub overflow_cast-distance : goal.overflow_cast-distance
overflow_cast-distance c =
    let here = form_at c.args.forms.now c.args.i (Jump c.in-Jump.name c.in-Jump.field-1) _
    c.requires.within c.in-Jump.is in
    let is = distance_at c.args.forms.now c.args.layout.now.sites.items
    c.args.layout.now.starts.items
    c.as_slice.result.now c.args.i c.in-Jump.field-1 c.in-Jump.name c.index.result.now
    c.apart-distance.result
    c.requires.sites c.requires.starts c.as_slice.ensures.value here c.index.ensures
    c.apart-distance.ensures in
    let small = jump_small c.args.forms.now c.args.i c.in-Jump.field-1 c.requires.few in
    omega (arith, is, small)

pub add_instr-requires-in-Jump : goal.add_instr-requires-in-Jump
add_instr-requires-in-Jump c =
    let here = form_at c.args.forms.now c.args.i (Jump c.in-Jump.name c.in-Jump.field-1) _
    c.requires.within c.in-Jump.is in
    let is = distance_at c.args.forms.now c.args.layout.now.sites.items
    c.args.layout.now.starts.items
    c.as_slice.result.now c.args.i c.in-Jump.field-1 c.in-Jump.name c.index.result.now
    c.apart-distance.result
    c.requires.sites c.requires.starts c.as_slice.ensures.value here c.index.ensures
    c.apart-distance.ensures in
    let spelling = jump_spelling c.args.forms.now c.args.i c.in-Jump.field-1 c.in-Jump.name
    c.requires.placeable c.requires.few here in
    subst (λ op. HasSpelling op c.apart-distance.result 0 0) (sym c.operation_of-in-Jump.ensures)
    (subst (λ d. HasSpelling (operation_of c.in-Jump.name) d 0 0) (sym is) spelling)

pub returns-in-Op : goal.returns-in-Op
returns-in-Op c =
    let forms = c.args.forms.now in
    let instr = c.in-Op.instr in
    let here = form_at forms c.args.i (Op instr) _ c.requires.within c.in-Op.is in
    on_ok_then c.add_instr.result c.add_instr.ensures (λ e form there.
    e
    ∙ ap (λ op. c.args.code.now ++ instr_bytes op instr.a instr.b instr.c) c.operation_of.ensures
    ∙ ap (λ f. c.args.code.now ++ form_bytes forms (settled forms) c.args.i f)
    (form_same forms c.args.i (Op instr) form here there))

pub returns-in-Jump : goal.returns-in-Jump
returns-in-Jump c =
    let forms = c.args.forms.now in
    let jump = Jump c.in-Jump.name c.in-Jump.field-1 in
    let here = form_at forms c.args.i jump _ c.requires.within c.in-Jump.is in
    let is = distance_at forms c.args.layout.now.sites.items c.args.layout.now.starts.items
    c.as_slice.result.now c.args.i c.in-Jump.field-1 c.in-Jump.name c.index.result.now
    c.apart-distance.result
    c.requires.sites c.requires.starts c.as_slice.ensures.value here c.index.ensures
    c.apart-distance.ensures in
    on_ok_then c.add_instr-in-Jump.result c.add_instr-in-Jump.ensures (λ e form there.
    e
    ∙ ap (λ op. c.args.code.now ++ instr_bytes op c.apart-distance.result 0 0)
    c.operation_of-in-Jump.ensures
    ∙ ap (λ d. c.args.code.now ++ instr_bytes (operation_of c.in-Jump.name) d 0 0) is
    ∙ ap (λ f. c.args.code.now ++ form_bytes forms (settled forms) c.args.i f)
    (form_same forms c.args.i jump form here there))

pub returns-in-Label : goal.returns-in-Label
returns-in-Label c = λ form there.
    let forms = c.args.forms.now in
    let label = Label c.in-Label.field-0 in
    let here = form_at forms c.args.i label _ c.requires.within c.in-Label.is in
    sym (append-nil c.args.code.now)
    ∙ ap (λ f. c.args.code.now ++ form_bytes forms (settled forms) c.args.i f)
    (form_same forms c.args.i label form here there)
