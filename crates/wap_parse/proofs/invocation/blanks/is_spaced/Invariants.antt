use Rattle.std.proofs.Common.{◌≡◌, drop}
use Rattle.wap_parse.specs.invocation.Calls.{is_spaced}
use Rattle.wap_parse.proofs.invocation.blanks.is_spaced.Given as goal

-- what is left decides
abbrev pub invariant-loop-token : goal.invariant-loop-token
invariant-loop-token l =
    is_spaced l.src l.at (drop l.token-index l.tokens) ≡ is_spaced l.src 0 l.tokens
