-- The names of a program stand among the tokens that spell it, and so they ascend.
use Rattle.std.proofs.Common.{◌≡◌, ℕ, false, List, [], ◌∷◌, ◌++◌, map, Option, refl, ap, ◌∙◌}
use Rattle.std.proofs.Common.{AllPairs}
use Rattle.std.proofs.lemmas.Grind.{flat_map-append}
use Rattle.std.proofs.lemmas.List.Folds.{flat_map-map}
use Rattle.std.specs.List.{flat_map}
use Rattle.wap_grammar.specs.declared.program.program.Span.{Span}
use Rattle.wap_grammar.specs.declared.program.program.Id.{Id}
use Rattle.wap_grammar.specs.declared.program.program.Program.{Program}
use Rattle.wap_grammar.specs.declared.program.statement.Stmt.{Stmt}
use Rattle.wap_lex.specs.declared.token.Token.{Token}
use Rattle.wap_lex.specs.Tokens.{AreTokens}
use Rattle.wap_grammar.specs.declared.lexeme.Lexeme.{Lexeme}
use Rattle.wap_grammar.specs.Lexemes.{lexemes_of}
use Rattle.wap_grammar.specs.Spellings.{Spelling}
use Rattle.wap_grammar.specs.Statements.{IsStatement}
use Rattle.wap_grammar.specs.Programs.{IsAccess, IsProperty, IsUse}
use Rattle.wap_grammar.specs.Programs.{IsFunction, Spells}
use Rattle.wap_grammar.specs.Programs as formed
use Rattle.wap_scope.specs.Names.{Declares, mentions}
use Rattle.wap_scope.specs.Places.{mention_places, use_places, function_places, places}
use Rattle.wap_scope.specs.Places.{IsLeftOf, ComesBefore}
use Rattle.wap_scope.specs.Faults.{faults}
use Rattle.wap_scope.proofs.Ordered.{pairs_apart, ordered}
use Rattle.wap_scope.specs.Among.{StandAmong, no_more}
use Rattle.wap_scope.proofs.AmongLemmas.Rows.{over, at, same, up_to, past, Finds}
use Rattle.wap_scope.proofs.AmongLemmas.Functions.{finds_function, finds_program}
use Rattle.wap_scope.proofs.OrderLemmas.Spans.{BeginsAt, places_apart}
use Rattle.wap_scope.proofs.OrderLemmas.Tokens.{tokens_apart}
use Rattle.wap_scope.proofs.OrderLemmas.Says.{flat_flat, stmt_places, said_places, finds_stmt}

-- ---- pragmas

passes_access : (src : List ℕ) (x : List Lexeme) (a : Option (List ℕ) × Option (List ℕ))
    (y : List Lexeme) → IsAccess src x a y → StandAmong BeginsAt x [] y
passes_access src x' a y (formed.both first d second p x) = over (over (over (over (no_more y))))
passes_access src x' a y _ = over (over (no_more y))

passes_property : (src : List ℕ) (x : List Lexeme) (a : List ℕ × List ℕ × Option (List ℕ))
    (y : List Lexeme) → IsProperty src x a y → StandAmong BeginsAt x [] y
passes_property src x' a y (formed.plain n c x) = over (over (no_more y))
passes_property src x' a y (formed.schemed n c s x) = over (over (over (no_more y)))

finds_use : (src : List ℕ) → Finds BeginsAt use_places (IsUse src)
finds_use src x' p y (formed.url word kind u t end x) =
    over (over (up_to (at refl) (over (over (no_more y)))))
finds_use src x' p y (formed.access word kind end x y' d path is) =
    up_to (at refl) (over (past (passes_access src x (d, path) _ is)))
finds_use src x' p y (formed.name_meta word kind of end x y' n c s is) =
    over (over (over (past (passes_property src x (n, c, s) _ is))))
finds_use src x' p y (formed.http_equiv word kind http equiv end x y' n c s is) =
    over (over (over (over (past (passes_property src x (n, c, s) _ is)))))
finds_use src x' p y (formed.user_agent word kind user agent end x y' n c s is) =
    over (over (over (over (past (passes_property src x (n, c, s) _ is)))))

-- ---- functions

-- where the names of a function's parameters and statements stand
said_by_function : (ps : List Id) (ss : List Stmt) →
    said_places (map Declares ps ++ flat_map (λ s. mentions s false) ss)
    ≡ flat_map (λ (v : Id). v.span ∷ []) ps ++ flat_map (stmt_places false) ss
said_by_function ps ss =
    flat_map-append mention_places (map Declares ps) (flat_map (λ (s : Stmt). mentions s false) ss)
    ∙ ap (λ (first : List Span). first
    ++ said_places (flat_map (λ (s : Stmt). mentions s false) ss))
    (flat_map-map mention_places Declares ps)
    ∙ ap (λ (rest : List Span). flat_map (λ (v : Id). v.span ∷ []) ps ++ rest)
    (flat_flat mention_places (λ (s : Stmt). mentions s false) ss)

module _ (src : List ℕ) (Statement : Spelling Stmt)
    (statement : Finds BeginsAt (stmt_places false) Statement) where
  finds_names : Finds BeginsAt function_places (IsFunction src Statement)
  finds_names x f y is =
      same (ap (λ (names : List Span). f.name.span ∷ names) (said_by_function f.params f.body))
      (finds_function src (λ v. v.span ∷ []) (λ f x. at refl) (stmt_places false) Statement
      statement x f y is)

-- ---- programs of sources

pub names_apart : (src : List ℕ) (tokens : List Token) (p : Program) → AreTokens src tokens →
    Spells src p (lexemes_of src tokens) → AllPairs IsLeftOf (places p)
names_apart src tokens p are (levels, spelled) =
    pairs_apart 0 (places p)
    (places_apart (lexemes_of src tokens) (places p) []
    (finds_program src (IsStatement src levels) use_places function_places (finds_use src)
    (finds_names src (IsStatement src levels) (finds_stmt src levels))
    (lexemes_of src tokens) p spelled) 0 (tokens_apart src 0 src tokens are.lexed))

pub faults_ordered : (src : List ℕ) (tokens : List Token) (p : Program) → AreTokens src tokens →
    Spells src p (lexemes_of src tokens) → AllPairs ComesBefore (faults p)
faults_ordered src tokens p are spelled = ordered p (names_apart src tokens p are spelled)
