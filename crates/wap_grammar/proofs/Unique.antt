-- No tokens are spelled by two programs.
use Rattle.std.proofs.Common.{◌≡◌, ℕ, ◌+◌, List, sym, ◌∙◌, arith}
use Rattle.wap_base.proofs.Choices.{ok_same}
use Rattle.wap_grammar.specs.declared.program.program.Program.{Program}
use Rattle.wap_grammar.specs.declared.lexeme.Lexeme.{Lexeme}
use Rattle.wap_grammar.specs.Programs.{Spells}
use Rattle.wap_grammar.proofs.Whole.{program_again}
use Rattle.wap_grammar.proofs.Below.{program_more}

pub one : (src : List ℕ) (a : List Lexeme) (p q : Program) → Spells src p a → Spells src q a → p ≡ q
one src a p q first second =
    let many = first.0 + second.0 in
    let left = program_more src first.0 many (omega arith) a p
    (program_again src first.0 a p first.1) in
    let right = program_more src second.0 many (omega arith) a q
    (program_again src second.0 a q second.1) in
    ok_same p q (sym left ∙ right)
