use Rattle.std.proofs.Common.{◌≡◌, ◌≤◌, ◌∙◌, ◌==◌, ap, List, ℕ, [], ◌∷◌}
use Rattle.std.proofs.Common.{length, get_or, refl, arith}
use Rattle.wap_base.specs.Cuts.{begins_with}
use Rattle.wap_url.specs.Characters.{is_slash}
use Rattle.wap_url.proofs.JoinLaws.{begins-encodes}
use Rattle.wap_state.proofs.requests.access.begins_at_root.Goals as goal

first_slash : (bytes : List ℕ) → 1 ≤ length bytes
    → (get_or bytes 0 0 == 47) ≡ begins_with is_slash bytes
first_slash [] some = absurd (omega arith)
first_slash (b ∷ bytes) some = refl

pub returns-in-len1-up : goal.returns-in-len1-up
returns-in-len1-up c =
    first_slash c.as_bytes.result.now c.in-len1-up.len_at_least
    ∙ ap (begins_with is_slash) (c.as_bytes.ensures.value ∙ c.as_str.ensures.bytes)
    ∙ begins-encodes c.args.path.now
