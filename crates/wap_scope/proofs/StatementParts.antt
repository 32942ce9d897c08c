-- Walks over statements, by their parts.
use Rattle.std.proofs.Common.{◌≡◌, ℕ, Bool, true, List, [], ◌∷◌, ◌++◌}
use Rattle.std.proofs.Common.{Option, Some, None, Result, Ok, ap, ◌∙◌}
use Rattle.std.specs.List.{flat_map}
use Rattle.wap_base.specs.Outcome.{◌>>=◌}
use Rattle.wap_grammar.specs.declared.program.program.Span.{Span}
use Rattle.wap_grammar.specs.declared.program.program.Id.{Id}
use Rattle.wap_grammar.specs.declared.program.expression.Expr.{Expr}
use Rattle.wap_grammar.specs.declared.program.statement.Stmt.{Stmt}
use Rattle.wap_grammar.specs.declared.program.statement.Stmt.TheVariants as stmt
use Rattle.wap_scope.specs.declared.fault.ScopeFault.{ScopeFault}
use Rattle.wap_scope.specs.Names.{Mention, Jumps, refers, refers_if, declares, mentions}
use Rattle.wap_scope.specs.Faults.{Scope}
use Rattle.wap_scope.specs.inside.Walks.{mention_at, walked, walked_each}
use Rattle.wap_scope.proofs.Walking.{bind_end, bind_same, walked-append, walked-flat}
use Rattle.wap_scope.proofs.TreeNames.{of_empty, of_value, of_block, of_variables, of_if, of_else}
use Rattle.wap_scope.proofs.TreeNames.{of_while, of_for, of_break, of_continue, of_return}

module _ (scope : Scope) (known : List (List ℕ)) (s : Stmt) (inside : Bool) where
  abbrev Known : Type 0
  Known = Result (List (List ℕ)) ScopeFault

  abbrev of : List Mention → List (List ℕ) → Known
  of ms known = walked scope known ms

  abbrev whole : Known
  whole = of (mentions s inside) known

  by : (other : Stmt) (ms : List Mention) → s ≡ other → mentions other inside ≡ ms →
      whole ≡ of ms known
  by other ms is says =
      ap (λ (ms : List Mention). of ms known) (ap (λ (s : Stmt). mentions s inside) is ∙ says)

  pub empty_parts : s ≡ stmt.Empty → whole ≡ Ok known
  empty_parts is = by stmt.Empty [] is (of_empty inside)

  pub value_parts : (e : Expr) → s ≡ stmt.Expr e → whole ≡ of (refers e) known
  value_parts e is = by (stmt.Expr e) (refers e) is (of_value inside e)

  pub block_parts : (ss : List Stmt) → s ≡ stmt.Block ss →
      whole ≡ walked_each scope (λ s. mentions s inside) known ss
  block_parts ss is =
      by (stmt.Block ss) (flat_map (λ (s : Stmt). mentions s inside) ss) is (of_block inside ss)
      ∙ walked-flat scope (λ (s : Stmt). mentions s inside) known ss

  pub variables_parts : (pairs : List (Id × Option Expr)) → s ≡ stmt.Vars pairs →
      whole ≡ walked_each scope declares known pairs
  variables_parts pairs is =
      by (stmt.Vars pairs) (flat_map declares pairs) is (of_variables inside pairs)
      ∙ walked-flat scope declares known pairs

  -- what is done else
  abbrev other_of : Option Stmt → List Mention
  other_of None = []
  other_of (Some other) = mentions other inside

  if_of : (c : Expr) (body : Stmt) (other : Option Stmt) → mentions (stmt.If c body other) inside
      ≡ refers c ++ (mentions body inside ++ other_of other)
  if_of c body None = of_if inside c body
  if_of c body (Some other) = of_else inside c body other

  pub if_parts : (c : Expr) (body : Stmt) (other : Option Stmt) → s ≡ stmt.If c body other →
      whole ≡ (of (refers c) known >>= (λ known. of (mentions body inside) known >>=
      of (other_of other)))
  if_parts c body other is =
      by (stmt.If c body other) (refers c ++ (mentions body inside ++ other_of other)) is
      (if_of c body other)
      ∙ walked-append scope known (refers c) (mentions body inside ++ other_of other)
      ∙ bind_same (of (refers c) known) (of (mentions body inside ++ other_of other))
      (λ (k : List (List ℕ)). of (mentions body inside) k >>= of (other_of other))
      (λ k. walked-append scope k (mentions body inside) (other_of other))

  pub while_parts : (c : Expr) (body : Stmt) → s ≡ stmt.While c body →
      whole ≡ (of (refers c) known >>= of (mentions body true))
  while_parts c body is =
      by (stmt.While c body) (refers c ++ mentions body true) is (of_while inside c body)
      ∙ walked-append scope known (refers c) (mentions body true)

  pub for_parts : (first : Stmt) (c update : Option Expr) (body : Stmt) →
      s ≡ stmt.For first c update body →
      whole ≡ (of (mentions first inside) known >>= (λ known. of (refers_if c) known >>=
      (λ known. of (refers_if update) known >>= of (mentions body true))))
  for_parts first c update body is =
      let last = mentions body true in
      by (stmt.For first c update body)
      (mentions first inside ++ (refers_if c ++ (refers_if update ++ last))) is
      (of_for inside first c update body)
      ∙ walked-append scope known (mentions first inside)
      (refers_if c ++ (refers_if update ++ last))
      ∙ bind_same (of (mentions first inside) known)
      (of (refers_if c ++ (refers_if update ++ last)))
      (λ (k : List (List ℕ)). of (refers_if c) k >>= (λ (k : List (List ℕ)).
      of (refers_if update) k >>= of last)) (λ k.
      walked-append scope k (refers_if c) (refers_if update ++ last)
      ∙ bind_same (of (refers_if c) k) (of (refers_if update ++ last))
      (λ (k : List (List ℕ)). of (refers_if update) k >>= of last)
      (λ k. walked-append scope k (refers_if update) last))

  pub break_parts : (word : Span) → s ≡ stmt.Break word →
      whole ≡ mention_at scope known (Jumps word inside)
  break_parts word is =
      by (stmt.Break word) (Jumps word inside ∷ []) is (of_break inside word)
      ∙ bind_end (mention_at scope known (Jumps word inside))

  pub continue_parts : (word : Span) → s ≡ stmt.Continue word →
      whole ≡ mention_at scope known (Jumps word inside)
  continue_parts word is =
      by (stmt.Continue word) (Jumps word inside ∷ []) is (of_continue inside word)
      ∙ bind_end (mention_at scope known (Jumps word inside))

  pub return_parts : (e : Option Expr) → s ≡ stmt.Return e → whole ≡ of (refers_if e) known
  return_parts e is = by (stmt.Return e) (refers_if e) is (of_return inside e)
