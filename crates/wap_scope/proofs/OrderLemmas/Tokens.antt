-- The tokens of a source stand one after the other.
use Rattle.std.proofs.Common.{ℕ, suc, ◌+◌, ◌<◌, List, length, Option, Some, None, arith}
use Rattle.wap_lex.specs.declared.token.Kind.{Kind}
use Rattle.wap_lex.specs.declared.token.Token.{Token}
use Rattle.wap_lex.specs.Tokens.{kind_of, token_before, Lexes, ends, piece}
use Rattle.wap_lex.proofs.Longest.{reach}
use Rattle.wap_grammar.specs.Lexemes.{lexemes_of}
use Rattle.wap_scope.proofs.Ordered.{Apart, from_earlier}
use Rattle.wap_scope.proofs.OrderLemmas.Spans.{spans}

-- a token before others that begin where it ends or later
before : (src : List ℕ) (kind : Option Kind) (from to : ℕ) (tokens : List Token) → from < to →
    Apart to (spans (lexemes_of src tokens)) →
    Apart from (spans (lexemes_of src (token_before kind from to tokens)))
before src None from to tokens less up =
    from_earlier from to (spans (lexemes_of src tokens)) (omega (arith, less)) up
before src (Some kind) from to tokens less up =
    let rest = spans (lexemes_of src tokens) in
    (omega arith, from_earlier (suc from) to rest (omega (arith, less)) up)

pub tokens_apart : (src : List ℕ) (at : ℕ) (bytes : List ℕ) (tokens : List Token) →
    Lexes at bytes tokens → Apart at (spans (lexemes_of src tokens))
tokens_apart src at bytes tokens (ends at') = tt
tokens_apart src at bytes tokens' (piece at' shape text more tokens is small left) =
    before src (kind_of shape text) at (at + length text) tokens
    (omega (arith, (reach shape).some text is.fits))
    (tokens_apart src (at + length text) more tokens left)
