-- Scripts that wait for the answer to a dialog. This project's own.
use Rattle.std.specs.Prelude.{List}
use Rattle.wap_base.specs.declared.limits.Limits.{Limits}
use Rattle.wap_url.specs.declared.url.Url.{Url}
use Rattle.wap_execution.specs.declared.dialog.Dialog.{Dialog}
use Rattle.wap_execution.specs.Frames.{Frame}
use Rattle.wap_world.specs.scripting.Waiting.{Waits}

-- the frames that go on within these limits, and the URL of the script that was started
pub record Paused : Type 0 where
  pub limits : Limits
  pub frames : List Frame
  pub base : Url

-- what waits, with its dialog
abbrev pub waits_of : Dialog → Paused → Waits
waits_of dialog paused = record {
  dialog = dialog;
  limits = paused.limits;
  frames = paused.frames;
  base = paused.base;
}
