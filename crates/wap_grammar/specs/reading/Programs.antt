-- Reading programs from the left. This project's own.
use Rattle.std.specs.Prelude.{ℕ, Bool, true, false, if◌then◌else◌, List, []}
use Rattle.std.specs.Prelude.{◌∷◌, Option, Some, None, Result, Ok}
use Rattle.wap_base.specs.Outcome.{◌>>=◌}
use Rattle.wap_grammar.specs.declared.program.program.Span.{Span}
use Rattle.wap_grammar.specs.declared.program.program.Id.{Id}
use Rattle.wap_grammar.specs.declared.program.program.Use.{Use}
use Rattle.wap_grammar.specs.declared.program.program.Use.TheVariants as pragma
use Rattle.wap_grammar.specs.declared.program.program.Function.{Function}
use Rattle.wap_grammar.specs.declared.program.program.Program.{Program}
use Rattle.wap_grammar.specs.declared.program.statement.Stmt.{Stmt}
use Rattle.wap_grammar.specs.declared.fault.ParseFault.{ParseFault}
use Rattle.wap_grammar.specs.declared.lexeme.Lexeme.{Lexeme}
use Rattle.wap_grammar.specs.declared.word.Sign.{Sign}
use Rattle.wap_grammar.specs.declared.word.Sign.TheVariants as sign
use Rattle.wap_grammar.specs.Lexemes.{word_of, is_sign, is_text}
use Rattle.wap_grammar.specs.Values.{text_of}
use Rattle.wap_grammar.specs.Programs.{from_to}
use Rattle.wap_grammar.specs.reading.TokenReading.{Reading, span_of, after, syntax, told}
use Rattle.wap_grammar.specs.reading.TokenReading.{expect_at, closed, id_at, Next, items_at}
use Rattle.wap_grammar.specs.reading.Statements.{Statements, listed_at, block_at}

unfoldable pub text_at : List ℕ → List Lexeme → Reading (List ℕ)
text_at src lexemes =
    if is_text (word_of lexemes) then Ok (
      text_of src
          (span_of lexemes),
      after lexemes,
    ) else syntax src lexemes

-- ---- pragmas

-- a text after a sign, where the sign stands
unfoldable pub signed_at : List ℕ → Sign → List Lexeme → Reading (Option (List ℕ))
signed_at src s lexemes =
    if is_sign s (word_of lexemes) then told Some (text_at src (after lexemes)) else Ok
    (None, lexemes)

-- a domain and a path, one of them at least
abbrev pub access_by : List ℕ → Option (List ℕ) → Option (List ℕ) → List Lexeme →
    Reading (Option (List ℕ) × Option (List ℕ))
access_by src None None lexemes = syntax src lexemes
access_by src (Some d) None lexemes = Ok ((Some d, None), lexemes)
access_by src None (Some p) lexemes = Ok ((None, Some p), lexemes)
access_by src (Some d) (Some p) lexemes = Ok ((Some d, Some p), lexemes)

unfoldable pub access_at : List ℕ → List Lexeme → Reading (Option (List ℕ) × Option (List ℕ))
access_at src lexemes =
    signed_at src sign.Domain lexemes >>= λ d. signed_at src sign.Path d.1 >>= λ p. access_by src
    d.0 p.0 p.1

unfoldable pub scheme_at : List ℕ → List Lexeme → Reading (Option (List ℕ))
scheme_at src lexemes = if is_text (word_of lexemes) then told Some (text_at src lexemes) else Ok
    (None, lexemes)

unfoldable pub property_at : List ℕ → List Lexeme → Reading (List ℕ × List ℕ × Option (List ℕ))
property_at src lexemes =
    text_at src lexemes >>= λ n. text_at src n.1 >>= λ c. told (λ s. (n.0, c.0, s))
    (scheme_at src c.1)

abbrev pub agent_of : List ℕ × List ℕ × Option (List ℕ) → Use
agent_of property = pragma.Agent property.0 property.1 property.2

abbrev pub note_of : List ℕ × List ℕ × Option (List ℕ) → Use
note_of property = pragma.Note

unfoldable pub url_at : List ℕ → List Lexeme → Reading Use
url_at src lexemes =
    id_at src lexemes >>= λ u. told (pragma.Url u.0) (text_at src u.1 >>= closed src sign.Semicolon)

-- the `;` comes last, and its place with it
unfoldable pub who_at : List ℕ → Span → List Lexeme → Reading Use
who_at src word lexemes =
    access_at src lexemes >>= λ who.
    closed src sign.Semicolon (pragma.Access who.0.0 who.0.1 (from_to word (span_of who.1)), who.1)

unfoldable pub meta_at : List ℕ → List Lexeme → Reading Use
meta_at src lexemes =
    if is_sign sign.NameWord (word_of lexemes) then told note_of (property_at src
    (after lexemes) >>= closed src sign.Semicolon) else
    if is_sign sign.Http (word_of lexemes) then
    (expect_at src sign.Equiv (after lexemes) >>= λ rest. told note_of
    (property_at src rest >>= closed src sign.Semicolon)) else
    (expect_at src sign.User lexemes >>= λ rest.
    expect_at src sign.Agent rest >>= λ rest. told agent_of
    (property_at src rest >>= closed src sign.Semicolon))

-- a pragma after its `use`, whose place is given
unfoldable pub use_at : List ℕ → Span → List Lexeme → Reading Use
use_at src word lexemes =
    if is_sign sign.Url (word_of lexemes) then url_at src (after lexemes) else
    if is_sign sign.Access (word_of lexemes) then who_at src word (after lexemes) else
    (expect_at src sign.Meta lexemes >>= λ rest. meta_at src rest)

unfoldable pub next_use : List ℕ → Next Use
next_use src lexemes =
    if is_sign sign.Use (word_of lexemes) then told Some (use_at src (span_of lexemes)
    (after lexemes)) else Ok (None, lexemes)

-- ---- functions, given the reader of their statements

unfoldable pub parameters_at : List ℕ → List Lexeme → Reading (List Id)
parameters_at src lexemes =
    if is_sign sign.Close (word_of lexemes) then Ok ([], after lexemes) else
    (listed_at (id_at src) lexemes >>= closed src sign.Close)

abbrev pub tail_at : List Lexeme → List Lexeme
tail_at lexemes = if is_sign sign.Semicolon (word_of lexemes) then after lexemes else lexemes

unfoldable pub head_at : List ℕ → List Lexeme → Reading Bool
head_at src lexemes =
    if is_sign sign.Extern (word_of lexemes)
    then (expect_at src sign.Function (after lexemes) >>= λ rest. Ok (true, rest))
    else (expect_at src sign.Function lexemes >>= λ rest. Ok (false, rest))

abbrev pub function_of : Bool → Id → List Id → List Stmt → Function
function_of out f ps ss = record { name = f; external = out; params = ps; body = ss }

unfoldable pub function_at : List ℕ → Statements → List Lexeme → Reading Function
function_at src statement lexemes =
    head_at src lexemes >>= λ head.
    id_at src head.1 >>= λ f.
    expect_at src sign.Open f.1 >>= λ rest.
    parameters_at src rest >>= λ ps.
    expect_at src sign.OpenBlock ps.1 >>= λ rest.
    block_at src statement rest >>= λ ss.
    Ok (function_of head.0 f.0 ps.0 ss.0, tail_at ss.1)

unfoldable pub next_function : List ℕ → Statements → Next Function
next_function src statement [] = Ok (None, [])
next_function src statement (first ∷ rest) = told Some (function_at src statement (first ∷ rest))

-- ---- programs

abbrev pub program_by : List ℕ → List Use → List Function → List Lexeme → Result Program ParseFault
program_by src us [] lexemes = syntax src lexemes
program_by src us (f ∷ fs) [] = Ok (record { uses = us; functions = f ∷ fs })
program_by src us (f ∷ fs) (l ∷ rest) = syntax src (l ∷ rest)

unfoldable pub program_at : List ℕ → Statements → List Lexeme → Result Program ParseFault
program_at src statement lexemes =
    items_at (next_use src) lexemes >>= λ us.
    items_at (next_function src statement) us.1 >>= λ fs. program_by src us.0 fs.0 fs.1
