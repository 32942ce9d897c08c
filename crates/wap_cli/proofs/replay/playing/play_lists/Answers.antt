use Rattle.std.proofs.Common.{ℕ, Vec, ◌≡◌, ap, ◌∙◌}
use Rattle.std.specs.List.{flat_map}
use Rattle.std.specs.declared.alloc.Global.{Global}
use Rattle.std.proofs.lemmas.Result.{IfOk-weaker}
use Rattle.wap_world.specs.scripting.UnitSites.{unit_pages}
use Rattle.wap_cli.specs.browse.Beginning.{begun_with}
use Rattle.wap_cli.specs.Networks.{network_of}
use Rattle.wap_cli.specs.replay.Texts.{replayed}
use Rattle.wap_cli.specs.replay.inside.Jobs.{Stage, text_on}
use Rattle.wap_cli.proofs.PrepareLemmas.Entries.{all_there}
use Rattle.wap_cli.proofs.ReplayLemmas.Transcripts.{texts_are}
use Rattle.wap_cli.proofs.replay.playing.play_lists.Goals as goal

pub returns : goal.returns
returns g c =
    let stage : Stage =
    record { pages = c.args.pages.now; begun = begun_with c.args.begun } in
    let jobs = c.deref.result.now in
    IfOk-weaker c.all_answers.result _ (λ (texts : Vec (Vec ℕ Global) Global).
    flat_map (λ (text : Vec ℕ Global). text.items) texts.items
    ≡ replayed (network_of (unit_pages c.args.pages.now)) (begun_with c.args.begun)
    c.args.lists.items)
    (λ texts same.
    texts_are (text_on stage) jobs texts.items
    (all_there (λ job (text : Vec ℕ Global). text.items ≡ text_on stage job) jobs texts.items
    c.in_ok-answers.answers.items same c.in_ok-answers.ensures)
    ∙ ap (flat_map (text_on stage)) (c.deref.ensures.value ∙ c.in_ok-jobs.ensures))
    c.all_answers.ensures
