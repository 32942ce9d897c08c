use Rattle.std.proofs.Common.{◌≡◌, ◌<◌, ◌^◌, take}
use Rattle.std.specs.List.{sum_by}
use Rattle.wap_meaning.specs.compiled.Savings.{stmt_saves}
use Rattle.wap_codegen.proofs.savings.+savings.Given as goal

-- what so many statements save
abbrev pub invariant-statements_save-loop-statement : goal.invariant-statements_save-loop-statement
invariant-statements_save-loop-statement l =
    sum_by stmt_saves l.statements < 2 ^ 64
    → l.bytes ≡ sum_by stmt_saves (take l.statement-index l.statements)
