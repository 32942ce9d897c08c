use Rattle.std.proofs.Common.{◌≡◌, take}
use Rattle.wap_world.specs.Requests.{form_text}
use Rattle.wap_state.proofs.requests.forms.form_text.Given as goal

abbrev pub invariant-loop-place : goal.invariant-loop-place
invariant-loop-place l = l.form ≡ form_text (take l.place l.posts)
