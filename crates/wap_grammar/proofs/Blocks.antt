-- Blocks are read as they are spelled, given the statements in them.
use Rattle.std.proofs.Common.{◌≡◌, ℕ, true, false, List, refl}
use Rattle.wap_grammar.specs.declared.program.statement.Stmt.{Stmt}
use Rattle.wap_grammar.specs.declared.lexeme.Lexeme.{Lexeme}
use Rattle.wap_grammar.specs.declared.word.Sign.TheVariants as signs
use Rattle.wap_grammar.specs.Lexemes.{word_of, is_sign}
use Rattle.wap_grammar.specs.Spellings.{Spelling, Several}
use Rattle.wap_grammar.specs.reading.TokenReading.{items_at}
use Rattle.wap_grammar.specs.reading.Statements.{Statements, next_statement, block_at}
use Rattle.wap_grammar.proofs.Items.{Reads, ReadsItems, Shorter, reads_items}
use Rattle.wap_grammar.proofs.Productions.{Anything, Before, reads_before, reads_each}

-- statements are read as they are spelled; each has a token, and none begins with `}`
pub record ReadsStatements (Statement : Spelling Stmt) (statement : Statements) : Type 0 where
  pub reads : Reads Statement Anything statement
  pub shorter : Shorter Statement
  pub inside : (a : List Lexeme) (s : Stmt) (b : List Lexeme) → Statement a s b →
      is_sign signs.CloseBlock (word_of a) ≡ false

module _ (src : List ℕ) (Statement : Spelling Stmt) (statement : Statements)
    (inmost : ReadsStatements Statement statement) where
  -- ---- blocks

  abbrev Closed : List Lexeme → Type 0
  Closed a = is_sign signs.CloseBlock (word_of a) ≡ true

  next_read : ReadsItems Statement Anything Closed (next_statement statement)
  unfolding next_statement
  next_read = reads_each (λ a. is_sign signs.CloseBlock (word_of a)) statement (λ a. refl)
      (λ a s b no e. inmost.reads.takes a s b e) inmost.reads.again
      (λ a s b is. (inmost.inside a s b is, tt)) (λ b over. (over, tt)) inmost.shorter

  statements : Reads (Several Statement) Closed (items_at (next_statement statement))
  statements = reads_items next_read

  pub reads_block : Reads (Before signs.CloseBlock (Several Statement)) Anything
      (block_at src statement)
  unfolding block_at
  reads_block = reads_before src signs.CloseBlock refl statements (λ span b. refl)
