use Rattle.wap_base.specs.Texts.{is_same_text}
use Rattle.wap_world.specs.scripting.UnitSites.{unit_pages}
use Rattle.wap_pages.specs.Judged.{judged}
use Rattle.wap_cli.proofs.ResumeLawsLemmas.Cards.{judged_have_cards}
use Rattle.wap_cli.proofs.ResumeLawsLemmas.Stores.{agree_beside, goes_on_over}
use Rattle.wap_cli.proofs.resume_laws.saved_sessions_go_on_over_two_stores.Goals as goal

pub returns : goal.returns
returns c begun contents later name first others parts distinct agree ends whole none unasked =
    goes_on_over (is_same_text name) (unit_pages (judged contents)) (unit_pages (judged later))
    (agree_beside name contents later agree) begun first others parts ends whole none
    (judged_have_cards contents distinct) unasked
