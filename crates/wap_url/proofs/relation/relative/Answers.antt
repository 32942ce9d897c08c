use Rattle.std.proofs.Common.{◌≡◌, List, ℕ, subst, sym, rules}
use Rattle.std.proofs.lemmas.Result.{IfOk-weaker}
use Rattle.wap_url.specs.Printing.{text_without_fragment}
use Rattle.wap_url.specs.Relative.{LeadsBack}
use Rattle.wap_url.proofs.BackLaws.{whole_back, leads_back}
use Rattle.wap_url.proofs.relation.relative.Goals as goal

pub returns-then-not-is_same_site-clause-back : goal.returns-then-not-is_same_site-clause-back
returns-then-not-is_same_site-clause-back c =
    let P : List ℕ → Type 0 = λ text. LeadsBack c.args.base.now text c.args.url.now in
    λ page.
    IfOk-weaker c.text_without_fragment.result (λ text. text ≡ text_without_fragment c.args.url.now)
    P (λ text is. subst P (sym is) (whole_back c.args.base.now c.args.url.now page))
    c.text_without_fragment.ensures

text_is : goal.returns-clause-exact
text_is c = search rules

pub returns-clause-exact : goal.returns-clause-exact
returns-clause-exact c = text_is c

pub returns-clause-back : goal.returns-clause-back
returns-clause-back c =
    let P : List ℕ → Type 0 = λ text. LeadsBack c.args.base.now text c.args.url.now in
    λ page. subst P (sym (text_is c)) (leads_back c.args.base.now c.args.url.now page)
