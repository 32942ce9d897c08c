-- A literal is what an expression is read as that begins with one and may have no parts.
use Rattle.std.proofs.Common.{◌≡◌, ℕ, true, false, List, [], ◌∷◌, Option, Some, None, Ok, Err}
use Rattle.std.proofs.Common.{refl, sym, ap, ◌∙◌}
use Rattle.wap_grammar.specs.declared.program.program.Span.{Span}
use Rattle.wap_grammar.specs.declared.program.expression.Literal.{Literal}
use Rattle.wap_grammar.specs.declared.program.expression.Expr.{Expr}
use Rattle.wap_grammar.specs.declared.program.expression.Expr.TheVariants as expr
use Rattle.wap_grammar.specs.declared.fault.ParseFault.{ParseFault}
use Rattle.wap_grammar.specs.declared.lexeme.Lexeme.{Lexeme}
use Rattle.wap_grammar.specs.declared.word.Word.{Word}
use Rattle.wap_grammar.specs.declared.word.Word.TheVariants as word
use Rattle.wap_grammar.specs.Lexemes.{word_of}
use Rattle.wap_grammar.specs.Values.{literal_of}
use Rattle.wap_grammar.specs.Spellings.{token}
use Rattle.wap_grammar.specs.reading.TokenReading.{Reading, syntax, told, id_at}
use Rattle.wap_grammar.specs.reading.Expressions.{primary_by, primary_at, unary_at, part_at}
use Rattle.wap_grammar.specs.reading.Expressions.{expression_at, named_at, callee_at}
use Rattle.wap_grammar.proofs.Firsts.{value_same}
use Rattle.wap_parse.specs.invocation.Calculation.{literal_by, literal_at}
use Rattle.wap_parse.specs.invocation.inside.Literals.{is_literal}

-- an integer is a literal where it is in range, and else begins no expression
integer_is_read : (src : List ℕ) (span : Span) (x : List Lexeme) (o : Option Literal) →
    primary_by src (expression_at src 0) (token word.Int span ∷ x) o
    ≡ told expr.Lit (literal_by src (token word.Int span ∷ x) o)
unfolding named_at callee_at id_at
integer_is_read src span x (Some l) = refl
integer_is_read src span x None = refl

-- the same of each word that may be a literal
word_is_read : (src : List ℕ) (w : Word) (span : Span) (x : List Lexeme) → is_literal w ≡ true →
    expression_at src 1 0 (token w span ∷ x) ≡ told expr.Lit (literal_at src (token w span ∷ x))
unfolding expression_at part_at unary_at primary_at literal_at literal_of
word_is_read src word.Int span x e = integer_is_read src span x (literal_of src span word.Int)
word_is_read src word.Float span x e = refl
word_is_read src word.Str span x e = refl
word_is_read src word.True span x e = refl
word_is_read src word.False span x e = refl
word_is_read src word.Invalid span x e = refl
word_is_read src (word.Sign s) span x e = absurd cc
word_is_read src w span x e = absurd cc

-- where one comes first
pub literal_is_read : (src : List ℕ) (a : List Lexeme) → is_literal (word_of a) ≡ true →
    expression_at src 1 0 a ≡ told expr.Lit (literal_at src a)
literal_is_read src [] e = absurd cc
literal_is_read src (first ∷ x) e = word_is_read src first.word first.span x e

-- what begins with another word is no literal
no_literal_word : (src : List ℕ) (w : Word) (span : Span) (x : List Lexeme) →
    is_literal w ≡ false → literal_at src (token w span ∷ x) ≡ syntax src (token w span ∷ x)
unfolding literal_at literal_of
no_literal_word src word.Int span x e = absurd cc
no_literal_word src word.Float span x e = absurd cc
no_literal_word src word.Str span x e = absurd cc
no_literal_word src word.True span x e = absurd cc
no_literal_word src word.False span x e = absurd cc
no_literal_word src word.Invalid span x e = absurd cc
no_literal_word src (word.Sign s) span x e = refl
no_literal_word src w span x e = refl

-- where none does
pub no_literal : (src : List ℕ) (a : List Lexeme) → is_literal (word_of a) ≡ false →
    literal_at src a ≡ syntax src a
unfolding literal_at literal_of
no_literal src [] e = refl
no_literal src (first ∷ x) e = no_literal_word src first.word first.span x e

-- what the expression that was read says of the literal
pub literal_told : (r : Reading Literal) (l : Literal) (b : List Lexeme) →
    told expr.Lit r ≡ Ok (expr.Lit l, b) → r ≡ Ok (l, b)
literal_told (Ok x) l b e =
    let same = value_same (expr.Lit x.0, x.1) (expr.Lit l, b) e in
    let inner : x.0 ≡ l = cc in
    ap (λ (m : Literal). Ok (m, x.1)) inner ∙ ap (λ (c : List Lexeme). Ok (l, c)) same.1
literal_told (Err f) l b e = absurd cc

-- a fault is one of the literal
pub fault_told : (r : Reading Literal) (f : ParseFault) → told expr.Lit r ≡ Err f → r ≡ Err f
fault_told (Ok x) f e = absurd cc
fault_told (Err g) f e = cc

-- no other expression is read
pub other_told : (r : Reading Literal) (e : Expr) (b : List Lexeme) →
    told expr.Lit r ≡ Ok (e, b) → (l : Literal) × (e ≡ expr.Lit l)
other_told (Ok x) e b is = (x.0, sym (value_same (expr.Lit x.0, x.1) (e, b) is).0)
other_told (Err f) e b is = absurd cc
