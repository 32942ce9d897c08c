-- Attributes whose values lack a form that they have to be of (WAP-191, section 11).
use Rattle.std.specs.Prelude.{◌≡◌, ℕ, false, List, map, filter, Contains}
use Rattle.std.specs.Borrow.{Bor}
use Rattle.wap_base.specs.declared.name.Part.{Part}
use Rattle.wap_base.specs.declared.rows.Rows.{Rows}
use Rattle.wap_tokens.specs.declared.markup.name.Tag.{Tag}
use Rattle.wap_tokens.specs.declared.markup.name.AttrName.{AttrName}
use Rattle.wap_tokens.specs.markup.Tables.{is_same_tag}
use Rattle.wap_tokens.specs.markup.Trees.{plain_text}
use Rattle.wap_tokens.specs.markup.Good.{Form, words, variable, optional_variable, plain, forms}
use Rattle.wap_tokens.specs.markup.Good.{value_has}
use Rattle.wap_deckcheck.specs.declared.forms.LentForm.{LentForm}
use Rattle.wap_deckcheck.specs.declared.forms.LentForm.TheVariants as lent

-- words that are lent
abbrev pub words_of : List (Bor (List ℕ)) → List (List ℕ)
words_of = map (λ word. word.now)

-- the form that a program hands out
abbrev pub form_of : LentForm → Form
form_of (lent.Words some) = words (words_of some.now)
form_of lent.Variable = variable
form_of lent.OptionalVariable = optional_variable
form_of lent.Plain = plain

-- the attributes that have a form in elements of a tag, each with its form
abbrev pub forms_of : Tag → List (AttrName × Form)
forms_of tag = map (λ form. (form.1, form.2)) (filter (λ form. is_same_tag tag form.0) forms)

-- one of some attributes, one of some forms, which is that of the attribute, and a value that isn't
-- of it
pub record IsWrong (formed : List (AttrName × Form)) (attributes : List (AttrName × Rows Part))
    (attribute : AttrName × Rows Part) (form : Form) : Type 0 where
  pub stands : Contains attributes attribute
  pub has_form : Contains formed (attribute.0, form)
  pub lacks : value_has form (plain_text attribute.1) ≡ false
