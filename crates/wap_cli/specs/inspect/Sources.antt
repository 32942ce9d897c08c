-- What the command on a source writes. This project's own.
use Rattle.std.specs.Prelude.{◌≡◌, ℕ, List}
use Rattle.wap_grammar.specs.declared.program.program.Program.{Program}
use Rattle.wap_unit.specs.Spelling.{spelling}
use Rattle.wap_meaning.specs.compiled.Units.{compiled}
use Rattle.wap_meaning.specs.compiled.Accepted.{IsAccepted}

-- the bytes are the source of a program, and this spells the unit that it is compiled to
abbrev pub IsCompiled : List ℕ → List ℕ → Type 0
IsCompiled bytes text =
    (p : Program) × IsAccepted bytes p × (text ≡ spelling (compiled p))
