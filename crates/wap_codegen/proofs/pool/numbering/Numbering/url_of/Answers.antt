use Rattle.std.proofs.Common.{◌≡◌, ℕ, List, [], ap, ◌∙◌, subst, unwrap_or, IfOk}
use Rattle.wap_meaning.specs.Names.{url_of}
use Rattle.wap_meaning.specs.coding.Constants.{Numbers}
use Rattle.wap_codegen.proofs.PoolLemmas.Numbered.{urled}
use Rattle.wap_codegen.proofs.pool.numbering.Numbering.url_of.Goals as goal

pub returns-in-Some : goal.returns-in-Some
returns-in-Some c =
    let same : c.in-Some.url.now ≡ url_of c.args.unit.now.name c.args.self.now.names.urls =
    ap (λ some. unwrap_or some []) c.in-Some.ensures.value
    ∙ urled c.args.unit.now.name c.self.inside.urls.entries
    ∙ ap (λ (numbers : Numbers). url_of c.args.unit.now.name numbers.names.urls)
    c.self.view_is in
    subst (λ (url : List ℕ). IfOk c.copy.result (λ copy. copy ≡ url)) same c.copy.ensures

pub returns-in-None : goal.returns-in-None
returns-in-None c =
    c.new.ensures
    ∙ ap (λ some. unwrap_or some []) c.in-None.ensures.value
    ∙ urled c.args.unit.now.name c.self.inside.urls.entries
    ∙ ap (λ (numbers : Numbers). url_of c.args.unit.now.name numbers.names.urls)
    c.self.view_is
