-- A blank text begins no paragraph.
use Rattle.std.proofs.Common.{sym, ◌∙◌}
use Rattle.wap_mend.proofs.Framing.{gains_blank}
use Rattle.wap_mend.proofs.frame.Frame.add_to_run.Goals as goal

pub returns-then-is_empty : goal.returns-then-is_empty
returns-then-is_empty c =
    gains_blank c.args.notes.now.changes c.args.self.now c.args.parts.now
    (sym c.is_blank_text.ensures ∙ c.if-is_blank_text.true)
