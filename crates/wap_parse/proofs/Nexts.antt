-- The next statement of a block.
use Rattle.std.proofs.Common.{◌≡◌, Bool, true, false, List, Some, None, Ok, Err, refl, sym}
use Rattle.std.proofs.Common.{ap, ◌∙◌}
use Rattle.wap_grammar.specs.declared.program.statement.Stmt.{Stmt}
use Rattle.wap_grammar.specs.declared.fault.ParseFault.{ParseFault}
use Rattle.wap_grammar.specs.declared.lexeme.Lexeme.{Lexeme}
use Rattle.wap_grammar.specs.declared.word.Sign.TheVariants as sign
use Rattle.wap_grammar.specs.Lexemes.{word_of, is_sign}
use Rattle.wap_grammar.specs.reading.TokenReading.{told}
use Rattle.wap_grammar.specs.reading.Statements.{Statements, next_statement}

module _ (statement : Statements) (rest : List Lexeme) (held : Bool)
    (is : held ≡ is_sign sign.CloseBlock (word_of rest)) where
  pub statement_found : (s : Stmt) (behind : List Lexeme) → held ≡ false →
      statement rest ≡ Ok (s, behind) → next_statement statement rest ≡ Ok (Some s, behind)
  unfolding next_statement
  statement_found s behind so e = rw (sym is ∙ so) (ap (told Some) e)

  pub statement_fault : (fault : ParseFault) → held ≡ false → statement rest ≡ Err fault →
      next_statement statement rest ≡ Err fault
  unfolding next_statement
  statement_fault fault so e = rw (sym is ∙ so) (ap (told Some) e)

  pub no_statement : held ≡ true → next_statement statement rest ≡ Ok (None, rest)
  unfolding next_statement
  no_statement so = rw (sym is ∙ so) refl
