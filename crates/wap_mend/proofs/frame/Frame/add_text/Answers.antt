-- A blank text goes where no text may stand.
use Rattle.std.proofs.Common.{sym, ◌∙◌}
use Rattle.wap_mend.proofs.Framing.{gains_blank}
use Rattle.wap_mend.proofs.frame.Frame.add_text.Goals as goal

pub returns-then-not-has_text : goal.returns-then-not-has_text
returns-then-not-has_text c =
    gains_blank c.args.notes.now.changes c.args.self.now c.args.parts.now
    (sym c.is_blank_text.ensures ∙ c.if-is_blank_text.true)
