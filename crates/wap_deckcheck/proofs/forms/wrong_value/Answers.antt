use Rattle.std.proofs.Common.{sym, ap, ◌∙◌}
use Rattle.std.specs.List.{list_all}
use Rattle.std.proofs.lemmas.List.Folds.{list_all-map}
use Rattle.wap_tokens.specs.declared.markup.name.AttrName.{AttrName}
use Rattle.wap_tokens.specs.markup.Good.{Form, all_have}
use Rattle.wap_deckcheck.specs.declared.forms.LentForm.{LentForm}
use Rattle.wap_deckcheck.specs.Forms.{form_of}
use Rattle.wap_deckcheck.proofs.FormsOf.{has_forms_by}
use Rattle.wap_deckcheck.proofs.forms.wrong_value.Goals as goal

pub returns-clause-none : goal.returns-clause-none
returns-clause-none c =
    let has = λ (form : AttrName × Form). all_have form.0 form.1 c.args.node.now in
    c.wrong_in.ensures.none ∙ sym (has_forms_by c.args.node.now
    ∙ ap (list_all has) c.rows_of.ensures.rows
    ∙ list_all-map has (λ (row : AttrName × LentForm). (row.0, form_of row.1))
    c.rows_of.result.now)
