-- What runs depend on, with and without a count of instructions. This project's own.
use Rattle.std.specs.Prelude.{ℕ, ◌+◌, max, length}
use Rattle.wap_base.specs.declared.limits.Limits.{Limits}
use Rattle.wap_execution.specs.Frames.{code_of}
use Rattle.wap_execution.specs.Outcomes.{Hosting, Setting}

-- where nothing is counted
abbrev pub uncounted : {S : Type 0} → Limits → Hosting S → Setting S
uncounted limits host = record { limits = limits; host = host; tick = λ function state. state }

-- ---- with a count

-- a host's state, how many instructions were done until then, and how many bytes the longest code
-- has among the functions that did them
pub record Counted (S : Type 0) : Type 0 where
  pub state : S
  pub instructions : ℕ
  pub longest : ℕ

-- each instruction is counted, and how long the code is in which it stands
abbrev pub counting : {S : Type 0} → Limits → Hosting S → Setting (Counted S)
counting limits host = record {
  limits = limits;
  host = record {
    external = λ counted caller url name count working.
        let found = host.external counted.state caller url name count working in
        (found.0, record counted { state = found.1 });
    library = λ counted base referer number index arguments.
        let gave = host.library counted.state base referer number index arguments in
        (gave.0, record counted { state = gave.1 });
  };
  tick = λ function counted. record counted {
    instructions = counted.instructions + 1;
    longest = max counted.longest (length (code_of function));
  };
}
