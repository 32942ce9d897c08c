use Rattle.wap_world.specs.scripting.UnitSites.{unit_pages}
use Rattle.wap_pages.specs.Judged.{judged}
use Rattle.wap_cli.proofs.ResumeLemmas.Lasting.{goes_on}
use Rattle.wap_cli.proofs.ResumeLawsLemmas.Cards.{judged_have_cards}
use Rattle.wap_cli.proofs.resume_laws.saved_sessions_go_on_over_stores.Goals as goal

pub returns : goal.returns
returns c begun contents first others parts distinct ends whole none =
    goes_on begun (unit_pages (judged contents)) first others parts ends whole none
    (judged_have_cards contents distinct)
