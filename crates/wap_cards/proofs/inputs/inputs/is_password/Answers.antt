use Rattle.std.proofs.Common.{refl, codes, ◌≡◌, List, ℕ, subst}
use Rattle.std.specs.Result.{IfOk}
use Rattle.wap_base.proofs.Plain.{chars-plain}
use Rattle.wap_base.specs.Texts.{is_same_text}
use Rattle.wap_tokens.specs.declared.markup.name.AttrName.TheVariants as attrs
use Rattle.wap_tokens.specs.markup.Trees.{value_of}
use Rattle.wap_vars.specs.Filling.{value_text}
use Rattle.wap_cards.proofs.inputs.inputs.is_password.Goals as goal

pub returns : goal.returns
returns c =
    subst (λ (word : List ℕ). IfOk c.is_filled.result (λ is_so.
    is_so ≡ is_same_text word (value_text c.args.vars.now (value_of attrs.Type c.args.input.now))))
    (chars-plain (codes "password") refl) c.is_filled.ensures
