-- Statements by the levels that are left for them.
use Rattle.std.proofs.Common.{◌≡◌, ℕ, zero, suc, ◌-◌, ◌<◌, List, ap, arith}
use Rattle.wap_grammar.specs.declared.lexeme.Lexeme.{Lexeme}
use Rattle.wap_grammar.specs.reading.Expressions.{expression_at}
use Rattle.wap_grammar.specs.reading.Statements.{statement_by, statement_at}

pub deeper_statement : (src : List ℕ) (levels : ℕ) (lexemes : List Lexeme) → 0 < levels →
    statement_at src levels lexemes
    ≡ statement_by src (expression_at src (levels - 1)) (statement_at src (levels - 1)) lexemes
unfolding statement_at
deeper_statement src zero lexemes some = absurd (omega arith)
deeper_statement src (suc levels) lexemes some =
    let less : levels ≡ suc levels - 1 = omega arith in
    ap (λ (n : ℕ). statement_by src (expression_at src n) (statement_at src n) lexemes) less
