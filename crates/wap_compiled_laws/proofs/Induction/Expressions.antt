-- What holds of the pieces of code holds of the code of each expression, by induction on trees: it
-- leaves one operand more, and costs its wide size; and what the expression needs is met.
use Rattle.std.proofs.Common.{ℕ, suc, ◌+◌, Bool, List, [], ◌∷◌, ◌++◌, length, Some, None}
use Rattle.std.proofs.Common.{refl, sym, ap, ◌∙◌, subst, arith, map}
use Rattle.std.specs.List.{flat_map, sum, sum_by}
use Rattle.std.proofs.lemmas.List.Sums.{sum_by-cons}
use Rattle.wap_value.specs.declared.operator.BinOp.{BinOp}
use Rattle.wap_grammar.specs.declared.program.expression.Expr.{Expr, roll-Expr, map-Expr}
use Rattle.wap_grammar.specs.declared.program.expression.Expr.TheOpen.{Expr-F}
use Rattle.wap_grammar.specs.declared.program.expression.Expr.TheFolds.{fold-roll-Expr, ind-Expr}
use Rattle.wap_scope.specs.Names.{Reference, Local as called, External, Library as supplied}
use Rattle.wap_scope.specs.Names.{references, Refers}
use Rattle.wap_meaning.specs.Names.{function_at, numbers_of}
use Rattle.wap_meaning.specs.coding.Coded.{Coded, ◌⨾◌, all_code}
use Rattle.wap_meaning.specs.coding.Constants.{text_number, url_number}
use Rattle.wap_meaning.specs.coding.Needs.{Need, Operator, Variable, Local, Other, Library, IsMet}
use Rattle.wap_meaning.specs.coding.Needs.{expr_needs_by, expr_needs}
use Rattle.wap_meaning.specs.coding.Expressions.{joined_code, chain_code, expr_code_by, expr_code}
use Rattle.wap_meaning.specs.compiled.Wide.{binary_wide, expr_wide_by, expr_wide}
use Rattle.wap_compiled_laws.proofs.Induction.Pieces.{higher, Setting}
use Rattle.wap_compiled_laws.proofs.Induction.Known.{Known, front, behind, Met, none_met, both_met}
use Rattle.wap_compiled_laws.proofs.Induction.Known.{Named, KnownOf, KnownBy, unrolled}
use Rattle.wap_compiled_laws.proofs.Induction.Parts.{as_many, same, Gives, literal_met}
use Rattle.wap_compiled_laws.proofs.Induction.Parts.{literal_gives, unary_holds, binary_holds}
use Rattle.wap_compiled_laws.proofs.Induction.Parts.{joined_holds, load_gives, kept_holds}
use Rattle.wap_compiled_laws.proofs.Induction.Parts.{step_gives}

module _ (here : Setting) where
  open here use {unit, numbers, Said, meets, P, pieces}

  -- what is known of some expressions
  abbrev KnownAs : List Need → List Reference → Type 0
  KnownAs = Known here (Named here)

  -- what is known of an expression and of what follows is known of the expression
  known_front : (e : Expr) (needs : List Need) (names : List Reference)
      → KnownAs (expr_needs e ++ needs) (references e ++ names) → KnownOf here e
  known_front e needs names = front here needs names

  -- and of what follows
  known_back : (e : Expr) {needs : List Need} {names : List Reference}
      → KnownAs (expr_needs e ++ needs) (references e ++ names) → KnownAs needs names
  known_back e = behind here (expr_needs e) (references e)

  -- where it is known, what an expression needs is met, and it holds of its code
  abbrev Claim : Expr → Type 0
  Claim e = (inside : Bool) → KnownOf here e
      → Met here (expr_needs e) × Gives here inside (expr_code numbers e) (expr_wide e)

  -- an expression of which it does
  abbrev Part : Type 0
  Part = (e : Expr) × Claim e

  -- ---- chains

  -- the operands of a chain
  abbrev operands_of : List (BinOp × Part) → List (BinOp × Expr)
  operands_of pairs = map (λ (pair : BinOp × Part). (pair.0, pair.1.0)) pairs

  -- what they need
  abbrev operand_needs : List (BinOp × Part) → List Need
  operand_needs pairs = flat_map (λ (pair : BinOp × List Need). pair.1)
      (map (λ (pair : BinOp × Expr). (pair.0, expr_needs pair.1)) (operands_of pairs))

  -- what they name
  abbrev operand_names : List (BinOp × Part) → List Reference
  operand_names pairs = flat_map (λ (pair : BinOp × List Reference). pair.1)
      (map (λ (pair : BinOp × Expr). (pair.0, references pair.1)) (operands_of pairs))

  -- how many bytes an operator adds with its operand
  abbrev pair_wide : BinOp × ℕ → ℕ
  pair_wide pair = binary_wide pair.0 + pair.1

  -- their sizes
  abbrev sizes_of : List (BinOp × Part) → List (BinOp × ℕ)
  sizes_of pairs = map (λ (pair : BinOp × Expr). (pair.0, expr_wide pair.1)) (operands_of pairs)

  -- operators of one precedence
  chain_gives : {inside : Bool} (first : Coded) {n : ℕ} → Gives here inside first n
      → (pairs : List (BinOp × Part)) → KnownAs (operand_needs pairs) (operand_names pairs)
      → Met here (operand_needs pairs) × Gives here inside (chain_code first
      (map (λ (pair : BinOp × Expr). (pair.0, expr_code numbers pair.1)) (operands_of pairs)))
      (n + sum_by pair_wide (sizes_of pairs))
  chain_gives first firsts [] known = (none_met here, λ x. same here (omega arith) (firsts x))
  chain_gives {inside} first firsts (pair ∷ pairs) known =
      let e = pair.1.0 in
      let part = pair.1.1 inside (known_front e _ _ known) in
      let next = first ⨾ joined_code pair.0 (expr_code numbers e) in
      let rest = chain_gives next (λ x. pieces.both (firsts x) (joined_holds here pair.0 part.1))
      pairs (known_back e known) in (
        both_met here part.0 rest.0,
        λ x. same here
            (omega (arith, sum_by-cons pair_wide (pair.0, expr_wide e) (sizes_of pairs)))
            (rest.1 x),
      )

  -- ---- calls

  -- arguments
  abbrev trees : List Part → List Expr
  trees es = map (λ (e : Part). e.0) es

  -- what they need
  abbrev all_needs : List Part → List Need
  all_needs es = flat_map (λ (ns : List Need). ns) (map expr_needs (trees es))

  -- what they name
  abbrev all_names : List Part → List Reference
  all_names es = flat_map (λ (rs : List Reference). rs) (map references (trees es))

  -- their codes
  abbrev codes_of : List Part → List Coded
  codes_of es = map (expr_code numbers) (trees es)

  -- arguments leave as many operands as they are
  all_hold : {inside : Bool} (es : List Part) → KnownAs (all_needs es) (all_names es)
      → Met here (all_needs es) × ((x : ℕ) → P inside (all_code (codes_of es)) x
      (higher (length (codes_of es)) x) (sum (map expr_wide (trees es))))
  all_hold [] known = (none_met here, λ x. pieces.none)
  all_hold {inside} (e ∷ es) known =
      let part = e.1 inside (known_front e.0 _ _ known) in
      let rest = all_hold {inside = inside} es (known_back e.0 known) in (
        both_met here part.0 rest.0,
        λ x. same here
            (sym (sum_by-cons (λ (n : ℕ). n) (expr_wide e.0) (map expr_wide (trees es))))
            (pieces.both (part.1 x) (rest.1 (suc x))),
      )

  -- a call takes them
  call_gives : {inside : Bool} {need : Need} (es : List Part) {call : Coded} {n : ℕ}
      → KnownAs (all_needs es) (all_names es) → IsMet unit numbers need
      → ((x : ℕ) → P inside call (higher (length (codes_of es)) x) (suc x) n)
      → Met here (need ∷ all_needs es) × Gives here inside (all_code (codes_of es) ⨾ call)
      (sum (map expr_wide (trees es)) + n)
  call_gives es known there calls =
      let all = all_hold es known in
      (record { met = (there, all.0.met) }, λ x. pieces.both (all.1 x) (calls x))

  -- what a call names is said with as many as it needs
  said_of : {X : Type 0} (make : ℕ → Reference) (f : Expr → X) (es : List Expr)
      → Said (Refers (make (length (map references es))))
      → Said (Refers (make (length (map f es))))
  said_of make f es =
      subst (λ (n : ℕ). Said (Refers (make n))) (as_many references f es)

  -- ---- expressions

  -- it holds of an expression by its parts
  abbrev Layer : Expr-F Expr → Type 0
  Layer x = (inside : Bool) → KnownBy here x
      → Met here (expr_needs_by (map-Expr Expr (List Need) expr_needs x))
      × Gives here inside (expr_code_by numbers (map-Expr Expr Coded (expr_code numbers) x))
      (expr_wide_by (map-Expr Expr ℕ expr_wide x))

  -- an expression of which it holds by its parts
  rolled : (x : Expr-F Expr) → Layer x → Claim (roll-Expr x)
  unfolding expr_needs expr_code expr_wide
  rolled x layer inside known =
      let part = layer inside (unrolled here x refl known) in (
        subst (Met here) (sym (fold-roll-Expr (List Need) expr_needs_by x)) part.0,
        λ n. subst (λ (coded : Coded). P inside coded n (suc n) (expr_wide (roll-Expr x)))
            (sym (fold-roll-Expr Coded (expr_code_by numbers) x))
            (same here (sym (fold-roll-Expr ℕ expr_wide_by x)) (part.1 n)),
      )

  -- every construct
  layers : (y : Expr-F Part) → Layer (map-Expr Part Expr (λ e. e.0) y)
  layers (Expr-F.Lit l) inside known =
      let met = literal_met here l known.given in (record { met = met }, literal_gives here l met)
  layers (Expr-F.Var v) inside known =
      let there = meets (Variable v) known.given.0 known.said.0 in
      (record { met = (there, tt) }, load_gives here there)
  layers (Expr-F.Assign v None e) inside known =
      let there = meets (Variable v) known.given.0 known.said.0 in
      let part = e.1 inside (record { given = known.given.1; said = known.said.1 }) in (
        record { met = (there, part.0.met) },
        λ x. pieces.both (part.1 x) (kept_holds here there),
      )
  layers (Expr-F.Assign v (Some binop) e) inside known =
      let there = meets (Variable v) known.given.0 known.said.0 in
      let takes = meets (Operator binop) known.given.1.0 tt in
      let part = e.1 inside (record { given = known.given.1.1; said = known.said.1 }) in (
        record { met = (there, (takes, part.0.met)) },
        λ x. same here (omega arith) (pieces.both (load_gives here there x)
            (pieces.both (part.1 (suc x))
            (pieces.both (binary_holds here binop takes) (kept_holds here there)))),
      )
  layers (Expr-F.Step v up prefix) inside known =
      let there = meets (Variable v) known.given.0 known.said.0 in
      (record { met = (there, tt) }, step_gives here up prefix there)
  layers (Expr-F.Unary unop e) inside known =
      let part = e.1 inside known in
      (part.0, λ x. pieces.both (part.1 x) (unary_holds here unop))
  layers (Expr-F.Chain e pairs) inside known =
      let first = e.1 inside (known_front e.0 _ _ known) in
      let rest = chain_gives (expr_code numbers e.0) first.1 pairs (known_back e.0 known) in
      (both_met here first.0 rest.0, rest.1)
  layers (Expr-F.Cond c first second) inside known =
      let rest = known_back c.0 known in
      let test = c.1 inside (known_front c.0 (expr_needs first.0 ++ expr_needs second.0)
      (references first.0 ++ references second.0) known) in
      let one = first.1 inside
      (known_front first.0 (expr_needs second.0) (references second.0) rest) in
      let two = second.1 inside (known_back first.0 rest) in (
        both_met here test.0 (both_met here one.0 two.0),
        λ x. same here (omega arith)
            (pieces.both (test.1 x) (pieces.either (one.1 x) (two.1 x))),
      )
  layers (Expr-F.Call f es) inside known =
      let there = meets (Local f (length (map expr_needs (trees es)))) known.given.0
      (said_of (called f) expr_needs (trees es) known.said.0) in
      call_gives es (record { given = known.given.1; said = known.said.1 }) there
      (λ x. pieces.local_op (function_at numbers.names f) x
      (there ∙ ap Some (as_many expr_needs (expr_code numbers) (trees es))))
  layers (Expr-F.External u f es) inside known =
      let there = meets (Other u f) known.given.0 tt in
      call_gives es (record { given = known.given.1; said = known.said.1 }) there
      (λ x. pieces.other_op (url_number numbers u) (text_number numbers f.name) x there.0 there.1
      (said_of (External u f) (expr_code numbers) (trees es) known.said.0))
  layers (Expr-F.Library l f es) inside known =
      let there = meets (Library l f (length (map expr_needs (trees es)))) known.given.0
      (said_of (supplied l f) expr_needs (trees es) known.said.0) in
      call_gives es (record { given = known.given.1; said = known.said.1 }) there
      (λ x. pieces.library_op (numbers_of l f).1 (numbers_of l f).0 x
      (there ∙ ap Some (as_many expr_needs (expr_code numbers) (trees es))))

  -- every expression
  pub of_expr : (e : Expr) → Claim e
  of_expr = ind-Expr Claim (λ x y is. subst (λ x. Claim (roll-Expr x)) is
      (rolled (map-Expr Part Expr (λ e. e.0) y) (layers y)))
