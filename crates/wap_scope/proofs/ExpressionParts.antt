-- Walks over expressions, by their parts.
use Rattle.std.proofs.Common.{◌≡◌, ℕ, Bool, List, [], ◌∷◌, ◌++◌, length, map}
use Rattle.std.proofs.Common.{Option, Result, Ok, refl, ap, ◌∙◌}
use Rattle.std.specs.List.{flat_map}
use Rattle.std.proofs.lemmas.List.{map-append}
use Rattle.wap_base.specs.Outcome.{◌>>=◌}
use Rattle.wap_value.specs.declared.operator.BinOp.{BinOp}
use Rattle.wap_value.specs.declared.operator.UnOp.{UnOp}
use Rattle.wap_grammar.specs.declared.program.program.Id.{Id}
use Rattle.wap_grammar.specs.declared.program.expression.Literal.{Literal}
use Rattle.wap_grammar.specs.declared.program.expression.Expr.{Expr}
use Rattle.wap_grammar.specs.declared.program.expression.Expr.TheVariants as expr
use Rattle.wap_scope.specs.declared.fault.ScopeFault.{ScopeFault}
use Rattle.wap_scope.specs.Names.{Reference, Variable, Local, External, Library}
use Rattle.wap_scope.specs.Names.{Mention, Refers, references, refers}
use Rattle.wap_scope.specs.Faults.{Scope}
use Rattle.wap_scope.specs.inside.Walks.{mention_at, walked, walked_each}
use Rattle.wap_scope.proofs.Walking.{bind_end, bind_same, walked-append}
use Rattle.wap_scope.proofs.Walking.{walked-flat, walked-flat_last}
use Rattle.wap_scope.proofs.TreeNames.{of_literal, of_variable, of_assignment, of_step, of_unary}
use Rattle.wap_scope.proofs.TreeNames.{of_chain, of_choice, of_local, of_external, of_library}

refers_flat : {X : Type 0} (of : X → List Reference) (xs : List X) →
    map Refers (flat_map of xs) ≡ flat_map (λ x. map Refers (of x)) xs
refers_flat of [] = refl
refers_flat of (x ∷ xs) =
    map-append Refers (of x) (flat_map of xs)
    ∙ ap (λ rest. map Refers (of x) ++ rest) (refers_flat of xs)

module _ (scope : Scope) (known : List (List ℕ)) (e : Expr) where
  abbrev Known : Type 0
  Known = Result (List (List ℕ)) ScopeFault

  abbrev one : Reference → Known
  one r = mention_at scope known (Refers r)

  abbrev whole : Known
  whole = walked scope known (refers e)

  by : (some : List Reference) → references e ≡ some → whole ≡ walked scope known (map Refers some)
  by some is = ap (λ (some : List Reference). walked scope known (map Refers some)) is

  pub literal_parts : (l : Literal) → e ≡ expr.Lit l → whole ≡ Ok known
  literal_parts l is = by [] (ap references is ∙ of_literal l)

  pub variable_parts : (v : Id) → e ≡ expr.Var v → whole ≡ one (Variable v)
  variable_parts v is =
      by (Variable v ∷ []) (ap references is ∙ of_variable v) ∙ bind_end (one (Variable v))

  pub step_parts : (v : Id) (up before : Bool) → e ≡ expr.Step v up before →
      whole ≡ one (Variable v)
  step_parts v up before is =
      by (Variable v ∷ []) (ap references is ∙ of_step v up before) ∙ bind_end (one (Variable v))

  pub assignment_parts : (v : Id) (o : Option BinOp) (value : Expr) → e ≡ expr.Assign v o value →
      whole ≡ (one (Variable v) >>= (λ known. walked scope known (refers value)))
  assignment_parts v o value is =
      by (Variable v ∷ references value) (ap references is ∙ of_assignment v o value)

  pub unary_parts : (o : UnOp) (operand : Expr) → e ≡ expr.Unary o operand →
      whole ≡ walked scope known (refers operand)
  unary_parts o operand is = by (references operand) (ap references is ∙ of_unary o operand)

  pub chain_parts : (first : Expr) (pairs : List (BinOp × Expr)) → e ≡ expr.Chain first pairs →
      whole ≡ (walked scope known (refers first) >>=
      (λ known. walked_each scope (λ pair. refers pair.1) known pairs))
  chain_parts first pairs is =
      let rest = flat_map (λ (pair : BinOp × Expr). references pair.1) pairs in
      by (references first ++ rest) (ap references is ∙ of_chain first pairs)
      ∙ ap (walked scope known) (map-append Refers (references first) rest
      ∙ ap (λ (ms : List Mention). refers first ++ ms)
      (refers_flat (λ (pair : BinOp × Expr). references pair.1) pairs))
      ∙ walked-flat_last scope (λ (pair : BinOp × Expr). refers pair.1) known (refers first) pairs

  pub choice_parts : (c first second : Expr) → e ≡ expr.Cond c first second →
      whole ≡ (walked scope known (refers c) >>= (λ known. walked scope known (refers first) >>=
      (λ known. walked scope known (refers second))))
  choice_parts c first second is =
      by (references c ++ (references first ++ references second))
      (ap references is ∙ of_choice c first second)
      ∙ ap (walked scope known)
      (map-append Refers (references c) (references first ++ references second)
      ∙ ap (λ (ms : List Mention). refers c ++ ms)
      (map-append Refers (references first) (references second)))
      ∙ walked-append scope known (refers c) (refers first ++ refers second)
      ∙ bind_same (walked scope known (refers c))
      (λ (k : List (List ℕ)). walked scope k (refers first ++ refers second))
      (λ (k : List (List ℕ)). walked scope k (refers first) >>=
      (λ (k : List (List ℕ)). walked scope k (refers second)))
      (λ k. walked-append scope k (refers first) (refers second))

  -- what is called, and then the arguments
  called : (r : Reference) (es : List Expr) → references e ≡ r ∷ flat_map references es →
      whole ≡ (one r >>= (λ known. walked_each scope refers known es))
  called r es is =
      by (r ∷ flat_map references es) is
      ∙ bind_same (one r)
      (λ (k : List (List ℕ)). walked scope k (map Refers (flat_map references es)))
      (λ (k : List (List ℕ)). walked_each scope refers k es)
      (λ k. ap (walked scope k) (refers_flat references es) ∙ walked-flat scope refers k es)

  pub local_parts : (f : Id) (es : List Expr) → e ≡ expr.Call f es →
      whole ≡ (one (Local f (length es)) >>= (λ known. walked_each scope refers known es))
  local_parts f es is = called (Local f (length es)) es (ap references is ∙ of_local f es)

  pub external_parts : (unit f : Id) (es : List Expr) → e ≡ expr.External unit f es →
      whole ≡ (one (External unit f (length es)) >>= (λ known. walked_each scope refers known es))
  external_parts unit f es is =
      called (External unit f (length es)) es (ap references is ∙ of_external unit f es)

  pub library_parts : (library f : Id) (es : List Expr) → e ≡ expr.Library library f es →
      whole ≡ (one (Library library f (length es)) >>=
      (λ known. walked_each scope refers known es))
  library_parts library f es is =
      called (Library library f (length es)) es (ap references is ∙ of_library library f es)
