-- What is seen of a source of bytes, and what a read does. This project's own.
use Rattle.std.specs.Prelude.{⊤, ◌≡◌, ℕ, ◌≤◌, ◌==◌, if◌then◌else◌, List, [], ◌++◌, length, take}
use Rattle.std.specs.Prelude.{drop, Result, Ok, Err, IfOk, OnOk, OnErr, ◌<◌, ◌+◌}
use Rattle.wap_devices.specs.declared.fault.Failed.{Failed}

-- what is to come of a source: these bytes, where it holds them, or what nobody knows yet
pub data Coming : Type 0 where
  Left : List ℕ → Coming
  Unknown : Coming

-- these bytes may be what is to come
abbrev pub MayCome : Coming → List ℕ → Type 0
MayCome (Left left) bytes = left ≡ bytes
MayCome Unknown bytes = ⊤

-- a source at a moment
pub record SourceSeen : Type 0 where
  -- all bytes that it gave, in order, and those to come
  pub given : List ℕ
  pub coming : Coming
  -- how often it was read, reported its end, and failed
  pub reads : ℕ
  pub ends : ℕ
  pub faults : ℕ

-- between two moments a source gave these bytes
pub record Gives (bytes : List ℕ) (before after : SourceSeen) : Type 0 where
  pub given : after.given ≡ before.given ++ bytes
  -- whatever may be to come now, these came before it
  pub coming : (rest : List ℕ) → MayCome after.coming rest → MayCome before.coming (bytes ++ rest)

-- from the first moment on these may be its bytes: those that it gave till the second are the first
-- of them, and all of them where it reported its end and nothing need come
pub record MayGive (before after : SourceSeen) (bytes : List ℕ) : Type 0 where
  pub rest : List ℕ
  pub split : before.given ++ bytes ≡ after.given ++ rest
  pub coming : MayCome after.coming rest
  pub ended : before.ends < after.ends → MayCome after.coming [] → rest ≡ []

-- how often a source has reported its end, after a read that answers so
abbrev pub ends_after : ℕ → Result ℕ Failed → ℕ
ends_after ends (Ok count) = if count == 0 then ends + 1 else ends
ends_after ends (Err fault) = ends

-- a read into a buffer, from what the buffer was to what it is
pub record Reads (old new : List ℕ) (before after : SourceSeen) (result : Result ℕ Failed)
    : Type 0 where
  -- the next bytes are the first of the buffer, and its others stay
  pub within : IfOk result (λ count. count ≤ length old)
  pub bytes : IfOk result (λ count. Gives (take count new) before after)
  pub rest : IfOk result (λ count. drop count new ≡ drop count old)
  -- 0 bytes mean the end
  pub end : result ≡ Ok 0 → MayCome after.coming []
  -- a read that failed moved no bytes
  pub unmoved : OnErr result (after.given ≡ before.given)
  pub uncome : OnErr result (after.coming ≡ before.coming)
  pub buffer : OnErr result (new ≡ old)
  pub reads : after.reads ≡ before.reads + 1
  pub ends : after.ends ≡ ends_after before.ends result
  -- it fails only where the count of faults rose, which stays where it answers
  pub counts : before.faults ≤ after.faults
  pub failed : OnErr result (before.faults < after.faults)
  pub steady : OnOk result (after.faults ≡ before.faults)
