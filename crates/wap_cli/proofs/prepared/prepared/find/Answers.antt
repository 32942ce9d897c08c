use Rattle.std.proofs.Common.{ℕ, List, length, Some, sym, ap, ◌∙◌, refl, rules}
use Rattle.std.proofs.lemmas.Fn.{always_returns_same}
use Rattle.std.proofs.lemmas.Option.{slice_get_read}
use Rattle.wap_base.specs.Texts.{text_cmp}
use Rattle.wap_world.specs.declared.site.page.Page.{Page}
use Rattle.wap_cli.proofs.PreparedLemmas.Searching.{answers_rise, at_place, at_gap}
use Rattle.wap_cli.proofs.prepared.prepared.find.Goals as goal

-- the page at the place has the name
pub returns-in-Ok : goal.returns-in-Ok
returns-in-Ok c =
    let pages = c.args.pages.now in
    let name = c.args.name.now in
    let page : List ℕ × Page = c.index-pages-at.result in
    let equal = c.in-Ok.ensures.position (λ page. text_cmp page.0 name)
    (always_returns_same _ _ _ (λ a r f called. search rules)) page in
    ap (λ (e : List ℕ × Page). Some e.1) (sym c.index-pages-at.is)
    ∙ sym (at_place pages c.requires.ascending name c.in-Ok.at page
    (slice_get_read pages (length pages) c.in-Ok.at page refl c.in-Ok.ensures.bound
    c.index-pages-at.is)
    (ap (λ (e : List ℕ × Page). text_cmp e.0 name) c.index-pages-at.is ∙ equal))

-- no page has it
pub returns-in-Err : goal.returns-in-Err
returns-in-Err c =
    let pages = c.args.pages.now in
    let name = c.args.name.now in
    let parts = c.in-Err.ensures.position (λ page. text_cmp page.0 name)
    (always_returns_same _ _ _ (λ a r f called. search rules)) in
    sym (at_gap pages c.requires.ascending name c.in-Err.field-0
    (parts (answers_rise pages c.requires.ascending name)) c.in-Err.ensures.bound)
