use Rattle.std.proofs.Common.{◌≡◌, ◌++◌, drop}
use Rattle.std.specs.List.{filter_map, enumerate_from}
use Rattle.wap_meaning.specs.compiled.Units.{entry_of, entries}
use Rattle.wap_codegen.proofs.names.names_of.Given as goal

-- with the names of the rest all are there
abbrev pub invariant-loop-function : goal.invariant-loop-function
invariant-loop-function l = record {
  index : l.index ≡ l.function-index;
  names : l.names
      ++ filter_map entry_of (enumerate_from l.index (drop l.function-index l.functions))
      ≡ entries l.functions;
}
