use Rattle.std.proofs.Common.{List, ℕ, subst, sym, arith}
use Rattle.std.proofs.lemmas.Grind.{common_steps}
use Rattle.wap_url.specs.UrlParts.{IsUrl}
use Rattle.wap_url.proofs.NormalLaws.{normal_again}
use Rattle.wap_url.proofs.printing.print.Goals as goal

text_is : goal.returns-clause-exact
text_is c = grind (arith, common_steps)

pub returns-clause-exact : goal.returns-clause-exact
returns-clause-exact c = text_is c

pub returns-clause-again : goal.returns-clause-again
returns-clause-again c =
    let P : List ℕ → Type 0 = λ text. IsUrl text c.args.url.now in
    λ normal. subst P (sym (text_is c)) (normal_again c.args.url.now normal)
