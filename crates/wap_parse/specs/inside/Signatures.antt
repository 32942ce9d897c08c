-- What stands before a function's statements. This project's own.
use Rattle.std.specs.Prelude.{ℕ, Bool, List, Ok}
use Rattle.wap_base.specs.Outcome.{◌>>=◌}
use Rattle.wap_grammar.specs.declared.program.program.Id.{Id}
use Rattle.wap_grammar.specs.declared.lexeme.Lexeme.{Lexeme}
use Rattle.wap_grammar.specs.declared.word.Sign.TheVariants as sign
use Rattle.wap_grammar.specs.reading.TokenReading.{Reading, expect_at, id_at}
use Rattle.wap_grammar.specs.reading.Programs.{parameters_at, head_at}

-- whether other units may call it, its name and its parameters, up to the `{`
unfoldable pub signature_at : List ℕ → List Lexeme → Reading (Bool × (Id × List Id))
signature_at src lexemes =
    head_at src lexemes >>= λ head.
    id_at src head.1 >>= λ f.
    expect_at src sign.Open f.1 >>= λ rest.
    parameters_at src rest >>= λ ps.
    expect_at src sign.OpenBlock ps.1 >>= λ rest.
    Ok ((head.0, (f.0, ps.0)), rest)
