-- The operators of a program's assignments take both values: they stand so in the table of words.
use Rattle.std.proofs.Common.{◌≡◌, ℕ, Bool, true, false, cond, List, [], ◌∷◌}
use Rattle.std.proofs.Common.{Some, refl, subst, unwrap_or}
use Rattle.std.specs.List.{All, AllByRecursion, list_all, flat_map}
use Rattle.std.specs.Map.{lookup}
use Rattle.std.proofs.lemmas.Bool.{and_parts}
use Rattle.std.proofs.lemmas.List.Elements.{All-from_recursion}
use Rattle.wap_value.specs.declared.operator.BinOp.{BinOp}
use Rattle.wap_value.specs.declared.operator.BinOp.TheVariants as bin
use Rattle.wap_value.specs.Binary.{TakesBoth}
use Rattle.wap_base.specs.Texts.{is_same_text}
use Rattle.wap_grammar.specs.declared.program.program.Function.{Function}
use Rattle.wap_grammar.specs.declared.program.program.Program.{Program}
use Rattle.wap_lex.specs.declared.token.Kind.{Kind}
use Rattle.wap_lex.specs.declared.token.Kind.TheVariants as kind
use Rattle.wap_lex.specs.declared.token.Token.{Token}
use Rattle.wap_grammar.specs.declared.lexeme.Lexeme.{Lexeme}
use Rattle.wap_grammar.specs.declared.word.Word.{Word}
use Rattle.wap_grammar.specs.declared.word.Word.TheVariants as word
use Rattle.wap_grammar.specs.Lexemes.{word_rows, word_spelled, word_of_kind, text_in, lexemes_of}
use Rattle.wap_grammar.specs.Programs.{Spells}
use Rattle.wap_meaning.specs.coding.Needs.{Need, Operator}
use Rattle.wap_meaning.specs.needs.Drawn.{use_needs, function_needs, program_needs, HasOperator}
use Rattle.wap_meaning.specs.needs.Drawn.{StandsFor, Drawn, no_more, skip, here}
use Rattle.wap_meaning.proofs.Each.{each_front, each_back}
use Rattle.wap_meaning.proofs.NeedsLemmas.Programs.{drawn}

-- whether an operator takes both values
takes_both : BinOp → Bool
takes_both bin.And = false
takes_both bin.Or = false
takes_both bin.Comma = false
takes_both _ = true

takes : (o : BinOp) → takes_both o ≡ true → TakesBoth o
unfolding takes_both
takes bin.And is = absurd (cc is)
takes bin.Or is = absurd (cc is)
takes bin.Comma is = absurd (cc is)
takes _ is = tt

-- the operator of an assignment does
is_fine : Word → Bool
is_fine (word.Assign (Some o)) = takes_both o
is_fine _ = true

all_fine : list_all (λ (row : List ℕ × Word). is_fine row.1) word_rows ≡ true
unfolding word_rows is_fine takes_both
all_fine = refl

found_fine : (test : List ℕ → Bool) (rows : List (List ℕ × Word))
    → list_all (λ (row : List ℕ × Word). is_fine row.1) rows ≡ true
    → is_fine (unwrap_or (lookup test rows) word.Unused) ≡ true
unfolding is_fine
found_fine test [] all = refl
found_fine test (row ∷ rows) all =
    let both = and_parts (is_fine row.1)
    (list_all (λ (row : List ℕ × Word). is_fine row.1) rows) all in
    by (test row.0) both.0 (found_fine test rows both.1)
  where
    by : (b : Bool) → is_fine row.1 ≡ true
        → is_fine (unwrap_or (lookup test rows) word.Unused) ≡ true
        → is_fine (unwrap_or (cond b (Some row.1) (lookup test rows)) word.Unused) ≡ true
    by true first rest = first
    by false first rest = rest

spelled_fine : (text : List ℕ) → is_fine (word_spelled text) ≡ true
unfolding word_spelled
spelled_fine text = found_fine (is_same_text text) word_rows all_fine

word_fine : (k : Kind) (text : List ℕ) → is_fine (word_of_kind k text) ≡ true
unfolding is_fine
word_fine kind.Reserved text = spelled_fine text
word_fine kind.Mark text = spelled_fine text
word_fine _ text = refl

-- each token of a source
Fine : Lexeme → Type 0
Fine l = is_fine l.word ≡ true

lexemes_fine : (src : List ℕ) (tokens : List Token) → AllByRecursion Fine (lexemes_of src tokens)
unfolding Fine
lexemes_fine src [] = tt
lexemes_fine src (token ∷ tokens) = (
  word_fine token.kind (text_in src (record { from = token.from; to = token.to })),
  lexemes_fine src tokens,
)

-- what is drawn from such tokens
need_fine : (src : List ℕ) (l : Lexeme) (n : Need) → Fine l → StandsFor src l n → HasOperator n
unfolding Fine is_fine
need_fine src l (Operator o) fine is =
    takes o (subst (λ (w : Word). is_fine w ≡ true) is fine)
need_fine src l _ fine is = tt

drawn_fine : (src : List ℕ) (x : List Lexeme) (ns : List Need) (y : List Lexeme)
    → AllByRecursion Fine x → Drawn src x ns y → AllByRecursion HasOperator ns
drawn_fine src x ns y fine (no_more x') = tt
drawn_fine src x' ns y fine (skip l x ns' y' rest) = drawn_fine src x ns y fine.1 rest
drawn_fine src x' ns' y fine (here l n x ns y' is rest) =
    (need_fine src l n fine.0 is, drawn_fine src x ns y fine.1 rest)

-- ---- of each function

each : (P : Need → Type 0) (fs : List Function) → AllByRecursion P (flat_map function_needs fs)
    → AllByRecursion (λ (f : Function). AllByRecursion P (function_needs f)) fs
each P [] all = tt
each P (f ∷ fs) all = (
  each_front P (function_needs f) (flat_map function_needs fs) all,
  each P fs (each_back P (function_needs f) (flat_map function_needs fs) all),
)

pub operators : (src : List ℕ) (tokens : List Token) (p : Program)
    → Spells src p (lexemes_of src tokens)
    → All (λ (f : Function). AllByRecursion HasOperator (function_needs f)) p.functions
operators src tokens p spelled =
    let all = drawn_fine src (lexemes_of src tokens) (program_needs p) [] (lexemes_fine src tokens)
    (drawn src (lexemes_of src tokens) p spelled) in
    All-from_recursion (λ (f : Function). AllByRecursion HasOperator (function_needs f)) p.functions
    (each HasOperator p.functions
    (each_back HasOperator (flat_map use_needs p.uses) (flat_map function_needs p.functions) all))
