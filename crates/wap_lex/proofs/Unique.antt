-- A source has one list of tokens, or one first fault.
use Rattle.std.proofs.Common.{◌≡◌, ℕ, List, length, Result, Ok, Err, refl, sym, ◌∙◌, arith}
use Rattle.wap_base.proofs.Choices.{ok_same}
use Rattle.wap_lex.specs.declared.token.Token.{Token}
use Rattle.wap_lex.specs.declared.fault.LexFault.{LexFault}
use Rattle.wap_lex.specs.Tokens.{AreTokens, IsRefused, no_text, stops}
use Rattle.wap_lex.specs.Calculation.{pieces_at}
use Rattle.wap_lex.proofs.Sources.{read_again, read_stops}

module _ (src : List ℕ) where
  abbrev whole : Result (List Token) LexFault
  whole = pieces_at (length src) 0 src

  -- the tokens are what is read
  is_read : (tokens : List Token) → AreTokens src tokens → whole ≡ Ok tokens
  is_read tokens are = read_again 0 src tokens are.lexed (length src) (omega arith)

  pub one_list : (tokens others : List Token) → AreTokens src tokens → AreTokens src others →
      tokens ≡ others
  one_list tokens others these those =
      ok_same tokens others (sym (is_read tokens these) ∙ is_read others those)

  ok_err : (tokens : List Token) (fault : LexFault) →
      ◌≡◌ {A = Result (List Token) LexFault} (Ok tokens) (Err fault) → ⊥
  ok_err tokens fault e = absurd cc

  err_same : (fault other : LexFault) →
      ◌≡◌ {A = Result (List Token) LexFault} (Err fault) (Err other) → fault ≡ other
  err_same fault other e = cc

  pub apart : (tokens : List Token) (fault : LexFault) → AreTokens src tokens →
      IsRefused src fault → ⊥
  apart tokens fault are (no_text none) = none are.text
  apart tokens fault are (stops f text left) =
      ok_err tokens fault
      (sym (is_read tokens are) ∙ read_stops 0 src fault left (length src) (omega arith))

  pub one_fault : (fault other : LexFault) → IsRefused src fault → IsRefused src other →
      fault ≡ other
  one_fault fault other (no_text none) (no_text none') = refl
  one_fault fault other (no_text none) (stops f text left) = absurd (none text)
  one_fault fault other (stops f text left) (no_text none) = absurd (none text)
  one_fault fault other (stops f text left) (stops f' text' left') =
      err_same fault other (sym (read_stops 0 src fault left (length src) (omega arith))
      ∙ read_stops 0 src other left' (length src) (omega arith))
