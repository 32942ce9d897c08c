-- constants
use Rattle.std.proofs.Common.{◌≡◌, List, map, ap, sym, ◌∙◌, subst, IfOk}
use Rattle.std.proofs.lemmas.Simd.{map-map}
use Rattle.wap_unit.specs.declared.unit.Constant.{Constant}
use Rattle.wap_meaning.specs.coding.Constants.{Numbers, constant_for}
use Rattle.wap_codegen.specs.declared.pool.content.Content.{Content}
use Rattle.wap_codegen.specs.pool.inside.Contents.{literal_of}
use Rattle.wap_codegen.proofs.pool.numbering.Numbering.constants.Goals as goal

pub returns : goal.returns
returns c =
    let made = λ (content : Content). constant_for (literal_of content) in
    let same : map made c.as_slice.result.now ≡ map constant_for c.args.self.now.pool =
    ap (map made) c.as_slice.ensures.keys
    ∙ sym (map-map constant_for literal_of c.self.inside.pool.keys)
    ∙ ap (λ (numbers : Numbers). map constant_for numbers.pool) c.self.view_is in
    subst (λ (wanted : List Constant).
    IfOk c.constants_of.result (λ constants. constants ≡ wanted)) same c.constants_of.ensures
