use Rattle.std.proofs.Common.{refl, sym, ◌∙◌}
use Rattle.wap_pages.specs.Judged.{RefusesText}
use Rattle.wap_pages.proofs.judging.judge_text.Goals as goal

pub returns-in-None : goal.returns-in-None
returns-in-None c = (RefusesText.not_text (sym c.in_ok-text.ensures ∙ c.in-None.is), refl)
