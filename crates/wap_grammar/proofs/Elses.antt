-- What is done else is read as it is spelled.
use Rattle.std.proofs.Common.{Option, Some, None, Ok, refl, sym, ap, inl, inr, arith}
use Rattle.wap_base.proofs.Choices.{chosen}
use Rattle.wap_grammar.specs.declared.program.statement.Stmt.{Stmt}
use Rattle.wap_grammar.specs.declared.word.Sign.TheVariants as signs
use Rattle.wap_grammar.specs.Lexemes.{word_of, is_sign}
use Rattle.wap_grammar.specs.Spellings.{Spelling}
use Rattle.wap_grammar.specs.Statements.{IsElse, without, with_else}
use Rattle.wap_grammar.specs.reading.TokenReading.{span_of, after, told}
use Rattle.wap_grammar.specs.reading.Statements.{Statements, else_at}
use Rattle.wap_grammar.proofs.Firsts.{value_same, told_ok, sign_first}
use Rattle.wap_grammar.proofs.Items.{Reads, Takes, Again, Within}
use Rattle.wap_grammar.proofs.Productions.{Anything}

module _ (Statement : Spelling Stmt) (statement : Statements)
    (reads : Reads Statement Anything statement) where
  abbrev Else : Spelling (Option Stmt)
  Else = IsElse Statement

  -- what is read is spelled
  else_ok : Takes Else (else_at statement)
  unfolding else_at
  else_ok a x b e = elim (chosen (is_sign signs.Else (word_of a)) _ _ (Ok (x, b)) e) [
    | inl so ↦ (
        let found = told_ok Some (statement (after a)) x b so.1 in
        rw (sign_first signs.Else a so.0, sym found.2) (with_else (span_of a) (after a) b found.0
        (reads.takes (after a) found.0 b found.1)))
    | inr so ↦ (
        let same = value_same (None, a) (x, b) so.1 in
        rw (sym same.0, sym same.1) (without a so.0))
  ]

  -- what is spelled is read
  else_again : Again Else Anything (else_at statement)
  unfolding else_at
  else_again a x b (without a' no_else) any = rw no_else refl
  else_again a x b (with_else other c b' s one) any = ap (told Some) (reads.again c s b one tt)

  -- no token comes to what is left
  else_within : Within Else
  else_within a x b (without a' no_else) = omega arith
  else_within a x b (with_else other c b' s one) = omega (arith, reads.within c s b one)

  pub reads_else : Reads Else Anything (else_at statement)
  reads_else = record { takes = else_ok; again = else_again; within = else_within }
