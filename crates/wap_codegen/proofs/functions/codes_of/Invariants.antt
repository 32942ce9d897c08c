use Rattle.std.proofs.Common.{◌≡◌, ◌≤◌, take, map, All}
use Rattle.wap_meaning.specs.compiled.Units.{compiled_function}
use Rattle.wap_meaning.specs.compiled.Wide.{function_wide}
use Rattle.wap_meaning.specs.compiled.Accepted.{most_code}
use Rattle.wap_codegen.specs.inside.Units.{AreNumbersOf}
use Rattle.wap_codegen.proofs.functions.codes_of.Given as goal

-- so many functions have their code, and none of them is too long
abbrev pub invariant-loop-function : goal.invariant-loop-function
invariant-loop-function l = record {
  index : l.index ≡ l.function-index;
  numbers : AreNumbersOf l.program l.numbering;
  codes : l.codes ≡ map (compiled_function l.program)
      (take l.function-index l.program.functions);
  short : All (λ f. function_wide f ≤ most_code)
      (take l.function-index l.program.functions);
}
