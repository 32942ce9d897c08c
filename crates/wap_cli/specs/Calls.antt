-- What reads the calls in fragments of URLs (WAP-193, section 8.3), said by the relation of calls.
-- This project's own.
use Rattle.std.specs.Prelude.{◌≡◌, ℕ, List, Option, Some, None}
use Rattle.wap_parse.specs.declared.invocation.invocation.Invocation.{Invocation}
use Rattle.wap_parse.specs.invocation.Calls.{IsCall}
use Rattle.wap_world.specs.Sites.{Call}

-- a call, as sites have it
abbrev pub as_call : Invocation → Call
as_call one = record { function = one.function; arguments = one.arguments }

-- it reads a fragment that is a call as this call, and any other as none
pub record ReadsCalls (call : List ℕ → Option Call) : Type 0 where
  pub some : (fragment : List ℕ) (one : Invocation) → IsCall fragment one
      → call fragment ≡ Some (as_call one)
  pub none : (fragment : List ℕ) → ((one : Invocation) → ¬ IsCall fragment one)
      → call fragment ≡ None
