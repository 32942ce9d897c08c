-- Each expression and its code agree.
use Rattle.std.proofs.Common.{◌≡◌, ℕ, Bool, true, false, cond, ℤ, ◌-ℤ◌, List, [], ◌∷◌}
use Rattle.std.proofs.Common.{◌++◌, length, Option, Some, None, Result, Ok, Err, map, refl, sym, ap}
use Rattle.std.proofs.Common.{◌∙◌, subst, arith, pos, negsuc, option_and_then, add-zero}
use Rattle.std.specs.List.{flat_map}
use Rattle.std.proofs.lemmas.Bool.{le-ltb, le-leb}
use Rattle.wap_base.specs.Utf8.{utf8_len}
use Rattle.wap_value.specs.declared.value.Value.{Value}
use Rattle.wap_value.specs.declared.value.Value.TheVariants.{Int, Bool as Boolean, Str, Invalid}
use Rattle.wap_value.specs.declared.fault.ValueFault.{ValueFault}
use Rattle.wap_value.specs.declared.fault.ValueFault.TheVariants.{TooLong}
use Rattle.wap_value.specs.declared.operator.UnOp.{UnOp}
use Rattle.wap_value.specs.declared.operator.BinOp.{BinOp}
use Rattle.wap_value.specs.Unary.{unary_of}
use Rattle.wap_value.specs.Binary.{on_integers}
use Rattle.wap_value.specs.Integer.{in_range}
use Rattle.wap_value.specs.Conversion.{integer_of, integer_value}
use Rattle.wap_value.specs.TooLong.{kept_within}
use Rattle.wap_grammar.specs.declared.program.expression.Literal.{Literal}
use Rattle.wap_grammar.specs.declared.program.expression.Expr.{Expr, roll-Expr, map-Expr}
use Rattle.wap_grammar.specs.declared.program.expression.Expr.TheOpen.{Expr-F}
use Rattle.wap_grammar.specs.declared.program.expression.Expr.TheFolds.{fold-roll-Expr, ind-Expr}
use Rattle.wap_execution.specs.Frames.{constant_at}
use Rattle.wap_execution.specs.Effects.{onward, effect_of, Called}
use Rattle.wap_meaning.specs.SourceParts.{Does, ◌>>=◌, give, kept, kept_by, calling}
use Rattle.wap_meaning.specs.Names.{variable_at, callee_local, callee_external, callee_library}
use Rattle.wap_meaning.specs.Expressions.{value_of, Around, eval_by, eval, joined, chained, each_of}
use Rattle.wap_asm.specs.declared.form.Form.TheVariants.{Op}
use Rattle.wap_meaning.specs.coding.Coded.{Coded, one, ◌⨾◌, instr, with_operand}
use Rattle.wap_meaning.specs.coding.Constants.{Numbers, text_number, url_number}
use Rattle.wap_meaning.specs.coding.Expressions.{literal_code, unary_code, expr_code_by, expr_code}
use Rattle.wap_meaning.specs.coding.Needs.{Need, IsMet, AreMet, literal_needs, expr_needs_by}
use Rattle.wap_meaning.specs.coding.Needs.{expr_needs}
use Rattle.wap_meaning.proofs.Each.{each_front, each_back}
use Rattle.wap_compiled_laws.proofs.Induction.Parts.{as_many}
use Rattle.wap_compiled_laws.proofs.Pieces.Pieces.{Site, onto, Piece, both, op_piece}
use Rattle.wap_compiled_laws.proofs.Pieces.Instructions.{as_is, pushed, kept_settles, load_piece}
use Rattle.wap_compiled_laws.proofs.Pieces.Instructions.{unary_piece, binary_piece}
use Rattle.wap_compiled_laws.proofs.Pieces.Assignments.{piece_same, assigned_piece, changed_piece}
use Rattle.wap_compiled_laws.proofs.Pieces.Assignments.{local_piece, library_piece, external_piece}
use Rattle.wap_compiled_laws.proofs.Pieces.Assignments.{popped, above, as_other}
use Rattle.wap_compiled_laws.proofs.Expressions.Agreeing.{Agrees, cond_agrees, step_agrees}
use Rattle.wap_compiled_laws.proofs.Expressions.Agreeing.{agrees_joined, all_given, turned}
use Rattle.wap_meaning.proofs.KeepingParts.{give_keeps, kept_keeps, calling_keeps}
use Rattle.wap_value.specs.declared.operator.UnOp.TheVariants as un
use Rattle.wap_value.specs.declared.operator.BinOp.TheVariants as bin
use Rattle.wap_unit.specs.declared.row.OpName.TheVariants as op
use Rattle.wap_grammar.specs.declared.program.expression.Literal.TheVariants as literal
use Rattle.wap_asm.specs.declared.form.Form.{Form}
use Rattle.wap_meaning.specs.coding.Coded.{Exits, all_code}
use Rattle.wap_meaning.specs.coding.Expressions.{chain_code}
use Rattle.wap_compiled_laws.proofs.Pieces.Pieces.{empty_piece, in_turn}
use Rattle.std.proofs.lemmas.Grind.{common_steps}

module _ {S : Type 0} (site : Site S) (numbers : Numbers) where
  -- what parts depend on at a site
  abbrev pub around : Around S
  around = record { string = site.string; names = numbers.names; call = site.call }

  -- the site's unit has what is needed
  abbrev pub Met : List Need → Type 0
  Met = AreMet site.function.unit numbers

  -- what meets two lists of needs meets the first
  pub met_front : (some other : List Need) → Met (some ++ other) → Met some
  met_front = each_front (IsMet site.function.unit numbers)

  -- and the second
  pub met_back : (some other : List Need) → Met (some ++ other) → Met other
  met_back = each_back (IsMet site.function.unit numbers)

  -- ---- literals

  -- a literal that is a constant
  constant_agrees : {index : ℕ} {v : Value} → constant_at site.function.unit index ≡ Some v
      → Agrees site (kept site.string v) (with_operand op.LoadConst index)
  unfolding effect_of
  constant_agrees {v} is =
      op_piece site (kept_keeps site.string v)
      (λ exits place i other variables operands turns state.
      rw is (kept_settles site (kept_within site.string v)
      (λ v. onward (site.pos i) variables (v ∷ operands))
      (λ v variables turns state. onto site pushed exits i operands v variables turns state)
      (λ v. refl)))

  -- the empty text is never too long
  empty_kept : kept_within site.string (Str []) ≡ Ok (Str [])
  empty_kept = ap (λ (b : Bool). cond b (Err (TooLong (utf8_len []))) (Ok (Str [])))
      (le-ltb site.string 0 (omega arith))

  -- every literal
  literal_agrees : (l : Literal) → Met (literal_needs l)
      → Agrees site (kept site.string (value_of l)) (literal_code numbers l)
  unfolding effect_of
  literal_agrees (literal.Int number) met = constant_agrees met.0
  literal_agrees (literal.Str []) met =
      op_piece site (kept_keeps site.string (Str []))
      (λ exits place i other variables operands turns state. rw empty_kept refl)
  literal_agrees (literal.Str (c ∷ cs)) met = constant_agrees met.0
  literal_agrees (literal.Bool true) met =
      op_piece site (give_keeps (Boolean true))
      (λ exits place i other variables operands turns state. refl)
  literal_agrees (literal.Bool false) met =
      op_piece site (give_keeps (Boolean false))
      (λ exits place i other variables operands turns state. refl)
  literal_agrees _ met =
      op_piece site (give_keeps Invalid)
      (λ exits place i other variables operands turns state. refl)

  -- ---- operators of one operand

  -- a value that is no String is never too long
  integer_kept : (o : Option ℤ) → kept_within site.string (integer_value o) ≡ Ok (integer_value o)
  integer_kept None = refl
  integer_kept (Some z) = refl

  -- an integer less 0 is itself
  less_nothing : (z : ℤ) → z -ℤ pos 0 ≡ z
  less_nothing z = grind (arith, common_steps, pos, add-zero, negsuc, le-leb)

  -- `+` as `- 0`
  plus_is : (o : Option ℤ)
      → kept_within site.string (on_integers bin.Sub o (Some (pos 0)))
      ≡ Ok (integer_value (option_and_then (λ z. in_range z) o))
  plus_is o = grind (arith, common_steps, integer_kept, pos, less_nothing)

  -- `+` as `- 0`
  plus_piece : (v : Value)
      → Piece site (give (unary_of un.Plus v)) (unary_code un.Plus) (pushed v) (onto site pushed)
  unfolding effect_of
  plus_piece v =
      piece_same site (λ variables turns state. ap (λ (k : Result Value ValueFault). kept_by k
      variables turns state) (plus_is (integer_of v)))
      (both site {does = give (Int (pos 0))} Invalid (op_piece site (give_keeps (Int (pos 0)))
      (λ exits place i other variables operands turns state. refl))
      (λ z. binary_piece site op.Sub bin.Sub v z refl))

  -- every operator of one operand
  unary_code_piece : (unop : UnOp) (v : Value)
      → Piece site (give (unary_of unop v)) (unary_code unop) (pushed v) (onto site pushed)
  unary_code_piece un.Plus v = plus_piece v
  unary_code_piece _ v = unary_piece site refl

  -- an operator and its operand
  unary_agrees : (unop : UnOp) {does : Does Value S} {coded : Coded} → Agrees site does coded
      → Agrees site (does >>= λ v. give (unary_of unop v)) (coded ⨾ unary_code unop)
  unary_agrees unop agrees = both site Invalid agrees (unary_code_piece unop)

  -- ---- expressions

  -- where its needs are met, an expression and its code agree
  abbrev Claim : Expr → Type 0
  Claim e = Met (expr_needs e) → Agrees site (eval around e) (expr_code numbers e)

  -- an expression of which it is so
  abbrev Part : Type 0
  Part = (e : Expr) × Claim e

  -- an expression agrees by its parts
  abbrev Layer : Expr-F Expr → Type 0
  Layer x =
      Met (expr_needs_by (map-Expr Expr (List Need) expr_needs x))
      → Agrees site (eval_by around (map-Expr Expr (Does Value S) (eval around) x))
      (expr_code_by numbers (map-Expr Expr Coded (expr_code numbers) x))

  -- an expression that agrees by its parts agrees
  rolled : (x : Expr-F Expr) → Layer x → Claim (roll-Expr x)
  unfolding eval expr_code expr_needs
  rolled x layer met =
      subst (λ does. Agrees site does (expr_code numbers (roll-Expr x)))
      (sym (fold-roll-Expr (Does Value S) (eval_by around) x))
      (subst (λ coded. Agrees site (eval_by around (map-Expr Expr (Does Value S) (eval around) x))
      coded)
      (sym (fold-roll-Expr Coded (expr_code_by numbers) x))
      (layer (subst Met (fold-roll-Expr (List Need) expr_needs_by x) met)))

  -- the operands of a chain
  abbrev operands_of : List (BinOp × Part) → List (BinOp × Expr)
  operands_of pairs = map (λ (pair : BinOp × Part). (pair.0, pair.1.0)) pairs

  -- operators of one precedence
  chain_agrees : (first : Does Value S) {one : Coded} → Agrees site first one
      → (pairs : List (BinOp × Part))
      → Met (flat_map (λ (pair : BinOp × List Need). pair.1)
      (map (λ (pair : BinOp × Expr). (pair.0, expr_needs pair.1)) (operands_of pairs)))
      → Agrees site (chained site.string first
      (map (λ (pair : BinOp × Expr). (pair.0, eval around pair.1)) (operands_of pairs)))
      (chain_code one
      (map (λ (pair : BinOp × Expr). (pair.0, expr_code numbers pair.1)) (operands_of pairs)))
  chain_agrees first agrees [] met = agrees
  chain_agrees first agrees (pair ∷ pairs) met =
      let e = pair.1.0 in
      chain_agrees (first >>= λ left. joined site.string pair.0 left (eval around e))
      (agrees_joined site pair.0 agrees (pair.1.1 (met_front (expr_needs e) _ met))) pairs (met_back
      (expr_needs e) _ met)

  -- arguments
  abbrev trees : List Part → List Expr
  trees es = map (λ (e : Part). e.0) es

  -- what arguments mean
  abbrev evals : List Part → List (Does Value S)
  evals es = map (eval around) (trees es)

  -- their codes
  abbrev codes : List Part → List Coded
  codes es = map (expr_code numbers) (trees es)

  -- arguments are pushed from left to right
  all_piece : (es : List Part)
      → Met (flat_map (λ (needs : List Need). needs) (map expr_needs (trees es)))
      → Piece site (each_of (evals es)) (all_code (codes es)) as_is (onto site popped)
  all_piece [] met = empty_piece site (λ exits i operands variables turns state. refl)
  all_piece (e ∷ es) met =
      both site Invalid (e.1 (met_front (expr_needs e.0) _ met))
      (λ v. as_other site popped (turned site v) (above site popped
      (all_piece es (met_back (expr_needs e.0) _ met))))

  -- a call, behind its arguments
  call_agrees : (callee : Called) (es : List Part) {form : Exits → ℕ → Form}
      → Met (flat_map (λ (needs : List Need). needs) (map expr_needs (trees es)))
      → ((vs : List Value) → length vs ≡ length (evals es)
      → Piece site (calling site.call callee vs) (one form) (popped vs) (onto site pushed))
      → Agrees site (each_of (evals es) >>= λ vs. calling site.call callee vs)
      (all_code (codes es) ⨾ one form)
  call_agrees callee es {form} met calls =
      in_turn site (λ vs. calling site.call callee vs) (one form) (all_piece es met)
      (all_given site (evals es)) (λ exits i. refl)
      (λ vs. calling_keeps site.call site.falls callee vs) (λ vs many. (calls vs many).follows)

  -- every construct
  layers : (y : Expr-F Part) → Layer (map-Expr Part Expr (λ e. e.0) y)
  layers (Expr-F.Lit l) met = literal_agrees l met
  layers (Expr-F.Var v) met = load_piece site
  layers (Expr-F.Assign v None e) met =
      assigned_piece site (variable_at numbers.names v) (e.1 met.1)
  layers (Expr-F.Assign v (Some binop) e) met = changed_piece site binop met.1.0 (e.1 met.1.1)
  layers (Expr-F.Step v up prefix) met =
      step_agrees site (variable_at numbers.names v) up prefix
  layers (Expr-F.Unary unop e) met = unary_agrees unop (e.1 met)
  layers (Expr-F.Chain e pairs) met =
      chain_agrees (eval around e.0) (e.1 (met_front (expr_needs e.0) _ met)) pairs
      (met_back (expr_needs e.0) _ met)
  layers (Expr-F.Cond c first second) met =
      let rest = met_back (expr_needs c.0) (expr_needs first.0 ++ expr_needs second.0) met in
      cond_agrees site
      (c.1 (met_front (expr_needs c.0) (expr_needs first.0 ++ expr_needs second.0) met))
      (first.1 (met_front (expr_needs first.0) (expr_needs second.0) rest))
      (second.1 (met_back (expr_needs first.0) (expr_needs second.0) rest))
  layers (Expr-F.Call f es) met =
      call_agrees (callee_local numbers.names f) es met.1 (λ vs many. local_piece site vs
      (met.0 ∙ ap Some (as_many expr_needs (eval around) (trees es) ∙ sym many)))
  layers (Expr-F.External unit f es) met =
      call_agrees (callee_external numbers.names unit f) es met.1 (λ vs many. subst (λ (n : ℕ).
      Piece site (calling site.call (callee_external numbers.names unit f) vs)
      (one (λ exits at. Op (instr op.CallUrl (url_number numbers unit) (text_number numbers f.name)
      n))) (popped vs) (onto site pushed))
      (many ∙ as_many (eval around) (expr_code numbers) (trees es))
      (external_piece site vs met.0.0 met.0.1))
  layers (Expr-F.Library l f es) met =
      call_agrees (callee_library l f) es met.1 (λ vs many. library_piece site vs
      (met.0 ∙ ap Some (as_many expr_needs (eval around) (trees es) ∙ sym many)))

  -- every expression and its code agree
  pub agrees : (e : Expr) → Claim e
  agrees = ind-Expr Claim (λ x y is. subst (λ x. Claim (roll-Expr x)) is
      (rolled (map-Expr Part Expr (λ e. e.0) y) (layers y)))
