-- What is made of a reading, and the sign after it.
use Rattle.std.proofs.Common.{◌≡◌, ℕ, List, Result, Ok, Err, refl}
use Rattle.wap_base.specs.Outcome.{◌>>=◌}
use Rattle.wap_grammar.specs.declared.fault.ParseFault.{ParseFault}
use Rattle.wap_grammar.specs.declared.lexeme.Lexeme.{Lexeme}
use Rattle.wap_grammar.specs.declared.word.Sign.{Sign}
use Rattle.wap_grammar.specs.reading.TokenReading.{told, closed, expect_at}

told_first : {A B : Type 0} (make : A → B) (value : A) (read : Result (List Lexeme) ParseFault) →
    told make (read >>= λ rest. Ok (value, rest)) ≡ (read >>= λ rest. Ok (make value, rest))
told_first make value (Ok rest) = refl
told_first make value (Err fault) = refl

-- it is the same whether it is made before the sign is read or after
pub told_closed : {A B : Type 0} (make : A → B) (src : List ℕ) (s : Sign) (value : A)
    (lexemes : List Lexeme) →
    told make (closed src s (value, lexemes)) ≡ closed src s (make value, lexemes)
told_closed make src s value lexemes = told_first make value (expect_at src s lexemes)
