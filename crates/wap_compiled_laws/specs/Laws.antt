-- What holds of the units that programs are compiled to. This project's own.
use Rattle.std.specs.Prelude.{◌≡◌, ℕ, ◌+◌, ◌*◌, ◌≤◌, List, length, Option}
use Rattle.wap_url.specs.declared.url.Url.{Url}
use Rattle.wap_value.specs.declared.value.Value.{Value}
use Rattle.wap_asm.specs.Placing.{wide}
use Rattle.wap_asm.specs.Placed.{ArePlaceable, start, IsPlaced}
use Rattle.wap_grammar.specs.declared.program.program.Function.{Function}
use Rattle.wap_grammar.specs.declared.program.program.Program.{Program}
use Rattle.wap_execution.specs.Running.{Calls}
use Rattle.wap_meaning.specs.Functions.{program_runs, unit_runs}
use Rattle.wap_meaning.specs.Keeping.{GiveNoTurns}
use Rattle.wap_meaning.specs.compiled.Units.{forms_of, compiled_function, compiled}
use Rattle.wap_meaning.specs.compiled.Wide.{function_wide}
use Rattle.wap_meaning.specs.compiled.Accepted.{IsAccepted}
use Rattle.wap_meaning.specs.compiled.Savings.{saved, function_saves}

-- the forms of a function
pub record HasForms (p : Program) (f : Function) : Type 0 where
  -- they may be placed
  pub placeable : ArePlaceable (forms_of p f)
  -- in their longest spellings, and with the bytes that ADD_ASG and SUB_ASG save and those that
  -- statements save, they have as many bytes as the wide size of the function
  pub size : function_wide f ≡ wide (forms_of p f) + saved (forms_of p f) + function_saves f
  -- the statements save no more than three bytes for two that are left
  pub few : function_saves f * 2 ≤ (wide (forms_of p f) + saved (forms_of p f)) * 3

-- the code of a function
pub record HasCode (p : Program) (f : Function) : Type 0 where
  -- it splits into the function's forms, each instruction and jump in the shortest spelling that
  -- has room for its operands, and its jumps lead to their labels
  pub splits : IsPlaced (compiled_function p f).code (forms_of p f) (start (forms_of p f))
  -- it is no longer than the wide size of the function
  pub short : length (compiled_function p f).code ≤ function_wide f

-- each function of an accepted program's unit comes to what the program's comes to, with the same
-- turns and the same state, whatever calls come to that give no turns back
pub record AgreeWithSources (S : Type 0) : Type 0 where
  pub functions : (source : List ℕ) (p : Program) → IsAccepted source p
      → (base : Url) (referer : Option Url) (index : ℕ)
      → (string : ℕ) (call : Calls S) → GiveNoTurns call
      → (arguments : List Value) (turns : ℕ) (state : S)
      → program_runs string call p index arguments turns state
      ≡ unit_runs string call (record {
        unit = compiled p;
        base = base;
        referer = referer;
        index = index;
      }) arguments turns state
