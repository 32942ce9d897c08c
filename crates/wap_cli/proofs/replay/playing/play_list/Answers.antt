use Rattle.std.proofs.Common.{ℕ, Bool, List, ◌++◌, ap₂, ◌∙◌}
use Rattle.std.proofs.lemmas.Result.{IfOk-weaker}
use Rattle.wap_layout.specs.buffer.Written.{lines_bytes}
use Rattle.wap_cli.specs.replay.Texts.{header}
use Rattle.wap_cli.proofs.replay.playing.play_list.Goals as goal

pub returns : goal.returns
returns c =
    IfOk-weaker c.text_of.result _ _ (λ text is.
    is
    ∙ ap₂ (λ (b : Bool) (l : List (List ℕ)). header c.args.number b ++ lines_bytes l)
    c.in_ok-list.ensures.ends c.in_ok-list.ensures.lines) c.text_of.ensures
