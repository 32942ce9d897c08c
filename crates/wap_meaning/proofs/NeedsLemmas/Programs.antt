-- What a program needs is drawn from the tokens that spell it.
use Rattle.std.proofs.Common.{◌≡◌, ℕ, Bool, List, [], ◌∷◌, ◌++◌, Option, refl, sym, ap}
use Rattle.std.specs.List.{flat_map}
use Rattle.wap_grammar.specs.declared.program.program.Span.{Span}
use Rattle.wap_grammar.specs.declared.program.program.Id.{Id}
use Rattle.wap_grammar.specs.declared.program.program.Program.{Program}
use Rattle.wap_grammar.specs.declared.program.statement.Stmt.{Stmt}
use Rattle.wap_grammar.specs.declared.program.expression.Literal.TheVariants.{Str}
use Rattle.wap_grammar.specs.declared.lexeme.Lexeme.{Lexeme}
use Rattle.wap_grammar.specs.Values.{text_of, literal_of}
use Rattle.wap_grammar.specs.Spellings.{Spelling}
use Rattle.wap_grammar.specs.Statements.{IsStatement}
use Rattle.wap_grammar.specs.Programs.{text, IsAccess, IsProperty, IsUse, IsHead, IsFunction}
use Rattle.wap_grammar.specs.Programs.{Spells}
use Rattle.wap_grammar.specs.Programs as formed
use Rattle.wap_scope.proofs.AmongLemmas.Rows.{over, same, past, drops}
use Rattle.wap_scope.proofs.AmongLemmas.Functions.{finds_function, finds_program}
use Rattle.wap_scope.proofs.AmongLemmas.Functions as functions
use Rattle.wap_meaning.specs.coding.Needs.{Need, Constant, stmt_needs}
use Rattle.wap_meaning.specs.needs.Drawn.{text_needs, use_needs, function_needs, program_needs}
use Rattle.wap_meaning.specs.needs.Drawn.{Drawn, no_more, here}
use Rattle.wap_meaning.proofs.NeedsLemmas.Drawing.{Draws}
use Rattle.wap_meaning.proofs.NeedsLemmas.Statements.{draws_statement}

module _ (src : List ℕ) where
  -- ---- pragmas

  -- a text
  reads : (t : Span) {x : List Lexeme} {ns : List Need} {y : List Lexeme} → Drawn src x ns y →
      Drawn src (text t ∷ x) (Constant (Str (text_of src t)) ∷ ns) y
  unfolding literal_of
  reads t drawn = here _ _ _ _ _ refl drawn

  -- who may call
  abbrev access_needs : Option (List ℕ) × Option (List ℕ) → List Need
  access_needs a = text_needs a.0 ++ text_needs a.1

  draws_access : Draws src access_needs (IsAccess src)
  draws_access x' a y (formed.domain word d x) = over (reads d (no_more y))
  draws_access x' a y (formed.path word p x) = over (reads p (no_more y))
  draws_access x' a y (formed.both first d second p x) =
      over (reads d (over (reads p (no_more y))))

  -- a property
  abbrev property_needs : List ℕ × List ℕ × Option (List ℕ) → List Need
  property_needs a = Constant (Str a.0) ∷ Constant (Str a.1) ∷ text_needs a.2

  draws_property : Draws src property_needs (IsProperty src)
  draws_property x' a y (formed.plain n c x) = reads n (reads c (no_more y))
  draws_property x' a y (formed.schemed n c s x) = reads n (reads c (reads s (no_more y)))

  pub draws_use : Draws src use_needs (IsUse src)
  draws_use x' p y (formed.url word kind u t end x) =
      over (over (over (reads t (over (no_more y)))))
  draws_use x' p y (formed.access word kind end x y' d path is) =
      over (over (past (draws_access x (d, path) _ is)))
  draws_use x' p y (formed.name_meta word kind of end x y' n c s is) =
      over (over (over (past (drops (draws_property x (n, c, s) _ is)))))
  draws_use x' p y (formed.http_equiv word kind http equiv end x y' n c s is) =
      over (over (over (over (past (drops (draws_property x (n, c, s) _ is))))))
  draws_use x' p y (formed.user_agent word kind user agent end x y' n c s is) =
      over (over (over (over (past (draws_property x (n, c, s) _ is)))))

  -- ---- functions

  pub passes_head : (x : List Lexeme) (out : Bool) (y : List Lexeme) → IsHead x out y →
      Drawn src x [] y
  passes_head x out y head = functions.passes_head x out y head

  -- nothing is drawn from names
  nothing : (ps : List Id) → flat_map {A = Need} (λ (v : Id). []) ps ≡ []
  nothing [] = refl
  nothing (p ∷ ps) = nothing ps

  module _ (Statement : Spelling Stmt) (statement : Draws src stmt_needs Statement) where
    pub draws_function : Draws src function_needs (IsFunction src Statement)
    draws_function x f y is =
        same (sym (ap (λ (ns : List Need). ns ++ flat_map stmt_needs f.body) (nothing f.params)))
        (finds_function src (λ v. []) (λ f x. over (no_more x)) stmt_needs Statement statement x f y
        is)

  -- ---- programs of sources

  pub drawn : (lexemes : List Lexeme) (p : Program) → Spells src p lexemes →
      Drawn src lexemes (program_needs p) []
  drawn lexemes p (levels, spelled) =
      let Statement = IsStatement src levels in
      finds_program src Statement use_needs function_needs draws_use
      (draws_function Statement (draws_statement src levels)) lexemes p spelled
