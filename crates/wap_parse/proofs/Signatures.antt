-- A function by what stands before its statements.
use Rattle.std.proofs.Common.{◌≡◌, ℕ, Bool, List, Result, Ok, Err, refl}
use Rattle.wap_base.specs.Outcome.{◌>>=◌}
use Rattle.wap_grammar.specs.declared.program.program.Id.{Id}
use Rattle.wap_grammar.specs.declared.program.program.Function.{Function}
use Rattle.wap_grammar.specs.declared.program.statement.Stmt.{Stmt}
use Rattle.wap_grammar.specs.declared.fault.ParseFault.{ParseFault}
use Rattle.wap_grammar.specs.declared.lexeme.Lexeme.{Lexeme}
use Rattle.wap_grammar.specs.declared.word.Sign.TheVariants as sign
use Rattle.wap_grammar.specs.reading.TokenReading.{Reading, expect_at, id_at}
use Rattle.wap_grammar.specs.reading.Statements.{Statements, block_at}
use Rattle.wap_grammar.specs.reading.Programs.{parameters_at, tail_at, head_at}
use Rattle.wap_grammar.specs.reading.Programs.{function_of, function_at}
use Rattle.wap_parse.specs.inside.Signatures.{signature_at}

module _ (block : List Lexeme → Reading (List Stmt)) where
  abbrev with_body : (Bool × (Id × List Id)) × List Lexeme → Reading Function
  with_body s = block s.1 >>= λ ss. Ok (function_of s.0.0 s.0.1.0 s.0.1.1 ss.0, tail_at ss.1)

  abbrev signed : Bool → Id → List Id × List Lexeme → List Lexeme →
      Reading (Bool × (Id × List Id))
  signed out f ps rest = Ok ((out, (f, ps.0)), rest)

  by_end : (out : Bool) (f : Id) (ps : List Id × List Lexeme)
      (opened : Result (List Lexeme) ParseFault) →
      (opened >>= λ rest. block rest >>= λ ss. Ok (function_of out f ps.0 ss.0, tail_at ss.1))
      ≡ ((opened >>= signed out f ps) >>= with_body)
  by_end out f ps (Ok rest) = refl
  by_end out f ps (Err fault) = refl

  by_parameters : (two : List Lexeme → Result (List Lexeme) ParseFault) (out : Bool) (f : Id)
      (parameters : Reading (List Id)) →
      (parameters >>= λ ps. two ps.1 >>= λ rest. block rest >>= λ ss.
      Ok (function_of out f ps.0 ss.0, tail_at ss.1))
      ≡ ((parameters >>= λ ps. two ps.1 >>= signed out f ps) >>= with_body)
  by_parameters two out f (Ok ps) = by_end out f ps (two ps.1)
  by_parameters two out f (Err fault) = refl

  by_open : (two : List Lexeme → Result (List Lexeme) ParseFault)
      (parameters : List Lexeme → Reading (List Id)) (out : Bool) (f : Id)
      (opened : Result (List Lexeme) ParseFault) →
      (opened >>= λ rest. parameters rest >>= λ ps. two ps.1 >>= λ rest. block rest >>= λ ss.
      Ok (function_of out f ps.0 ss.0, tail_at ss.1))
      ≡ ((opened >>= λ rest. parameters rest >>= λ ps. two ps.1 >>= signed out f ps) >>= with_body)
  by_open two parameters out f (Ok rest) = by_parameters two out f (parameters rest)
  by_open two parameters out f (Err fault) = refl

  by_name : (one two : List Lexeme → Result (List Lexeme) ParseFault)
      (parameters : List Lexeme → Reading (List Id)) (out : Bool) (name : Reading Id) →
      (name >>= λ f. one f.1 >>= λ rest. parameters rest >>= λ ps. two ps.1 >>= λ rest.
      block rest >>= λ ss. Ok (function_of out f.0 ps.0 ss.0, tail_at ss.1))
      ≡ ((name >>= λ f. one f.1 >>= λ rest. parameters rest >>= λ ps. two ps.1 >>=
      signed out f.0 ps) >>= with_body)
  by_name one two parameters out (Ok f) = by_open two parameters out f.0 (one f.1)
  by_name one two parameters out (Err fault) = refl

  by_head : (one two : List Lexeme → Result (List Lexeme) ParseFault)
      (parameters : List Lexeme → Reading (List Id)) (name : List Lexeme → Reading Id)
      (head : Reading Bool) →
      (head >>= λ h. name h.1 >>= λ f. one f.1 >>= λ rest. parameters rest >>= λ ps.
      two ps.1 >>= λ rest. block rest >>= λ ss. Ok (function_of h.0 f.0 ps.0 ss.0, tail_at ss.1))
      ≡ ((head >>= λ h. name h.1 >>= λ f. one f.1 >>= λ rest. parameters rest >>= λ ps.
      two ps.1 >>= signed h.0 f.0 ps) >>= with_body)
  by_head one two parameters name (Ok h) = by_name one two parameters h.0 (name h.1)
  by_head one two parameters name (Err fault) = refl

pub function_by_signature : (src : List ℕ) (statement : Statements) (lexemes : List Lexeme) →
    function_at src statement lexemes
    ≡ (signature_at src lexemes >>= λ s. block_at src statement s.1 >>= λ ss.
    Ok (function_of s.0.0 s.0.1.0 s.0.1.1 ss.0, tail_at ss.1))
unfolding function_at signature_at
function_by_signature src statement lexemes =
    by_head (block_at src statement) (expect_at src sign.Open)
    (expect_at src sign.OpenBlock) (parameters_at src) (id_at src) (head_at src lexemes)
