-- What holds of the pieces of code holds of the code of each statement, by induction on trees: it
-- leaves the operands as they were, and costs what the wide size says but for what it saves; and
-- what the statement needs is met.
use Rattle.std.proofs.Common.{ℕ, ◌+◌, Bool, true, false, List, [], ◌∷◌, ◌++◌, Some, None, refl}
use Rattle.std.proofs.Common.{sym, ap, subst, arith, map}
use Rattle.std.specs.List.{AllByRecursion, flat_map, sum, sum_by}
use Rattle.std.proofs.lemmas.List.Sums.{sum_by-cons}
use Rattle.wap_unit.specs.declared.row.OpName.TheVariants as op
use Rattle.wap_asm.specs.Spellings.{operation_of, longest}
use Rattle.wap_asm.specs.Placing.{wide_size}
use Rattle.wap_grammar.specs.declared.program.statement.Stmt.{Stmt, roll-Stmt, map-Stmt}
use Rattle.wap_grammar.specs.declared.program.statement.Stmt.TheOpen.{Stmt-F}
use Rattle.wap_grammar.specs.declared.program.statement.Stmt.TheFolds.{fold-roll-Stmt, ind-Stmt}
use Rattle.wap_scope.specs.Names.{Mention, refers, refers_if, mentions_by, mentions}
use Rattle.wap_meaning.specs.coding.Coded.{Coded, all_code}
use Rattle.wap_meaning.specs.coding.Statements.{stmt_code_by, stmt_code}
use Rattle.wap_meaning.specs.coding.Needs.{Need, expr_needs, optional_needs, stmt_needs_by}
use Rattle.wap_meaning.specs.coding.Needs.{stmt_needs}
use Rattle.wap_meaning.specs.compiled.Wide.{expr_wide, stmt_wide_by, stmt_wide}
use Rattle.wap_meaning.specs.compiled.Savings.{stmt_saves_by, stmt_saves}
use Rattle.wap_compiled_laws.proofs.Induction.Pieces.{Setting}
use Rattle.wap_compiled_laws.proofs.Induction.Known.{front, behind, Met, none_met, both_met}
use Rattle.wap_compiled_laws.proofs.Induction.Expressions.{of_expr}
use Rattle.wap_compiled_laws.proofs.Induction.Effects.{Stated, known_of, Rests, exactly, rests_same}
use Rattle.wap_compiled_laws.proofs.Induction.Effects.{rests_both, whole_rests, variables_rest}
use Rattle.wap_compiled_laws.proofs.Induction.Effects.{update_rests, loop_rests}

module _ (here : Setting) where
  open here use {numbers, Needed, Said, pieces}

  -- where it is known, what a statement needs is met, and it holds of its code
  abbrev Claim : Stmt → Type 0
  Claim s = (inside : Bool) → Stated here (stmt_needs s) (mentions s inside)
      → Met here (stmt_needs s)
      × Rests here inside (stmt_code numbers s) (stmt_saves s) (stmt_wide s)

  -- a statement of which it does
  abbrev Part : Type 0
  Part = (s : Stmt) × Claim s

  -- the statements
  abbrev trees : List Part → List Stmt
  trees ss = map (λ (s : Part). s.0) ss

  -- statements in order
  block_rests : (inside : Bool) (ss : List Part)
      → Stated here (flat_map (λ (needs : List Need). needs) (map stmt_needs (trees ss)))
      (flat_map (λ (s : Bool → List Mention). s inside) (map mentions (trees ss)))
      → Met here (flat_map (λ (needs : List Need). needs) (map stmt_needs (trees ss)))
      × Rests here inside (all_code (map (stmt_code numbers) (trees ss)))
      (sum (map stmt_saves (trees ss))) (sum (map stmt_wide (trees ss)))
  block_rests inside [] stated = (none_met here, exactly here pieces.none)
  block_rests inside (s ∷ ss) stated =
      let one = s.1 inside (front here _ _ stated) in
      let rest = block_rests inside ss
      (behind here (stmt_needs s.0) (mentions s.0 inside) stated) in (
        both_met here one.0 rest.0,
        rests_same here
            (sym (sum_by-cons (λ (n : ℕ). n) (stmt_saves s.0) (map stmt_saves (trees ss))))
            (sym (sum_by-cons (λ (n : ℕ). n) (stmt_wide s.0) (map stmt_wide (trees ss))))
            (rests_both here one.1 rest.1),
      )

  -- it holds of a statement by its parts
  abbrev Layer : Stmt-F Stmt → Type 0
  Layer x = (inside : Bool)
      → Stated here (stmt_needs_by (map-Stmt Stmt (List Need) stmt_needs x))
      (mentions_by (map-Stmt Stmt (Bool → List Mention) mentions x) inside)
      → Met here (stmt_needs_by (map-Stmt Stmt (List Need) stmt_needs x))
      × Rests here inside (stmt_code_by numbers (map-Stmt Stmt Coded (stmt_code numbers) x))
      (stmt_saves_by (map-Stmt Stmt ℕ stmt_saves x)) (stmt_wide_by (map-Stmt Stmt ℕ stmt_wide x))

  -- a statement of which it holds by its parts
  rolled : (x : Stmt-F Stmt) → Layer x → Claim (roll-Stmt x)
  unfolding stmt_code stmt_needs mentions stmt_saves stmt_wide
  rolled x layer inside stated =
      let needs = fold-roll-Stmt (List Need) stmt_needs_by x in
      let part = layer inside (record {
        given = subst (AllByRecursion Needed) needs stated.given;
        said = subst (AllByRecursion Said) (ap (λ (m : Bool → List Mention). m inside)
            (fold-roll-Stmt (Bool → List Mention) mentions_by x)) stated.said;
      }) in (
        subst (Met here) (sym needs) part.0,
        subst (λ (coded : Coded).
            Rests here inside coded (stmt_saves (roll-Stmt x)) (stmt_wide (roll-Stmt x)))
            (sym (fold-roll-Stmt Coded (stmt_code_by numbers) x))
            (rests_same here (sym (fold-roll-Stmt ℕ stmt_saves_by x))
            (sym (fold-roll-Stmt ℕ stmt_wide_by x)) part.1),
      )

  -- every construct
  layers : (y : Stmt-F Part) → Layer (map-Stmt Part Stmt (λ s. s.0) y)
  unfolding wide_size operation_of longest
  layers Stmt-F.Empty inside stated = (none_met here, exactly here pieces.none)
  layers (Stmt-F.Expr e) inside stated = whole_rests here inside e (known_of here e stated)
  layers (Stmt-F.Block ss) inside stated = block_rests inside ss stated
  layers (Stmt-F.Vars pairs) inside stated =
      let all = variables_rest here inside pairs stated in (all.0, exactly here all.1)
  layers (Stmt-F.If c s None) inside stated =
      let test = of_expr here c inside (known_of here c (front here _ _ stated)) in
      let body = s.1 inside (front here [] [] (behind here (expr_needs c) (refers c) stated)) in (
        both_met here test.0 (both_met here body.0 (none_met here)),
        record {
          size = expr_wide c + (body.1.size + 3);
          holds = pieces.both (test.1 0) (pieces.branch body.1.holds);
          whole = omega (arith, body.1.whole);
          few = omega (arith, body.1.few);
        },
      )
  layers (Stmt-F.If c s (Some other)) inside stated =
      let rest = behind here (expr_needs c) (refers c) stated in
      let test = of_expr here c inside (known_of here c (front here _ _ stated)) in
      let one = s.1 inside (front here (stmt_needs other.0) (mentions other.0 inside) rest) in
      let two = other.1 inside (behind here (stmt_needs s.0) (mentions s.0 inside) rest) in (
        both_met here test.0 (both_met here one.0 two.0),
        record {
          size = expr_wide c + (one.1.size + two.1.size + 6);
          holds = pieces.both (test.1 0) (pieces.either one.1.holds two.1.holds);
          whole = omega (arith, one.1.whole, two.1.whole);
          few = omega (arith, one.1.few, two.1.few);
        },
      )
  layers (Stmt-F.While c s) inside stated =
      let body = s.1 true (behind here (expr_needs c) (refers c) stated) in
      let loop = loop_rests here inside (Some c) (front here _ _ stated) body.1
      (exactly here pieces.none) in
      (both_met here loop.0 body.0, rests_same here (omega arith) (omega arith) loop.1)
  layers (Stmt-F.For first c update s) inside stated =
      let after_first = behind here (stmt_needs first.0) (mentions first.0 inside) stated in
      let after_test = behind here (optional_needs c) (refers_if c) after_first in
      let begins = first.1 inside (front here _ _ stated) in
      let updates = update_rests here inside update (front here _ _ after_test) in
      let body = s.1 true (behind here (optional_needs update) (refers_if update) after_test) in
      let loop = loop_rests here inside c (front here _ _ after_first) body.1 updates.1 in (
        both_met here begins.0 (both_met here loop.0 (both_met here updates.0 body.0)),
        rests_same here (omega arith) (omega arith) (rests_both here begins.1 loop.1),
      )
  layers (Stmt-F.Break word) inside stated =
      (none_met here, exactly here (pieces.break_out stated.said.0))
  layers (Stmt-F.Continue word) inside stated =
      (none_met here, exactly here (pieces.next_turn stated.said.0))
  layers (Stmt-F.Return None) inside stated =
      (none_met here, exactly here (pieces.leaving op.ReturnEs 0 refl))
  layers (Stmt-F.Return (Some e)) inside stated =
      let part = of_expr here e inside (known_of here e stated) in
      (part.0, exactly here (pieces.both (part.1 0) (pieces.leaving op.Return 0 refl)))

  -- every statement
  of_stmt : (s : Stmt) → Claim s
  of_stmt = ind-Stmt Claim (λ x y is. subst (λ x. Claim (roll-Stmt x)) is
      (rolled (map-Stmt Part Stmt (λ s. s.0) y) (layers y)))

  -- the statements of a function
  pub of_body : (ss : List Stmt) → AllByRecursion Needed (flat_map stmt_needs ss)
      → AllByRecursion Said (flat_map (λ (s : Stmt). mentions s false) ss)
      → Met here (flat_map stmt_needs ss)
      × Rests here false (all_code (map (stmt_code numbers) ss)) (sum_by stmt_saves ss)
      (sum_by stmt_wide ss)
  of_body [] given said = (none_met here, exactly here pieces.none)
  of_body (s ∷ ss) given said =
      let needs = flat_map stmt_needs ss in
      let says = flat_map (λ (s : Stmt). mentions s false) ss in
      let stated : Stated here (stmt_needs s ++ needs) (mentions s false ++ says) =
      record { given = given; said = said } in
      let after = behind here (stmt_needs s) (mentions s false) stated in
      let one = of_stmt s false (front here needs says stated) in
      let rest = of_body ss after.given after.said in (
        both_met here one.0 rest.0,
        rests_same here (sym (sum_by-cons stmt_saves s ss)) (sym (sum_by-cons stmt_wide s ss))
            (rests_both here one.1 rest.1),
      )
