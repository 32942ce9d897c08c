-- What stands where a frame goes on decides what it comes to.
use Rattle.wap_base.specs.declared.limits.Limits.{Limits}
use Rattle.wap_execution.specs.Outcomes.{Hosting}
use Rattle.wap_execution.specs.laws.Settings.{uncounted}
use Rattle.wap_execution.specs.laws.Instructions.{GoesByInstructions}
use Rattle.wap_execution.proofs.LawsLemmas.FrameLaws.{settles, ends_whole, stuck_behind}

-- by what stands there, at the end, and behind it
pub agrees : {S : Type 0} (limits : Limits) (host : Hosting S) → GoesByInstructions limits host
agrees limits host = record {
  inside = λ frame outer turns state within.
      settles (uncounted limits host) frame outer turns state within;
  at_end = λ frame outer turns state at_end.
      ends_whole (uncounted limits host) frame outer turns state at_end;
  behind = λ frame outer turns state past.
      stuck_behind (uncounted limits host) frame outer turns state past;
}
