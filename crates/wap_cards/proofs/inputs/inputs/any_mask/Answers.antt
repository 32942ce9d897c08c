use Rattle.std.proofs.Common.{◌≡◌, List, ap, subst, ◌∙◌, refl, codes}
use Rattle.std.specs.Result.{IfOk}
use Rattle.wap_mask.specs.declared.symbol.Symbol.{Symbol}
use Rattle.wap_mask.specs.Grammar.{any_text}
use Rattle.wap_mask.specs.Calculation.{mask_of}
use Rattle.wap_base.proofs.Plain.{chars-plain}
use Rattle.wap_cards.proofs.inputs.inputs.any_mask.Goals as goal

pub returns : goal.returns
returns c =
    let is : mask_of c.in_ok-text.text ≡ any_text =
    ap mask_of (c.in_ok-text.ensures ∙ chars-plain (codes "*M") refl) in
    subst (λ (symbols : List Symbol). IfOk c.read.result (λ mask. mask ≡ symbols))
    is c.read.ensures.exact
