-- Expressions and their code agree, by the ways in which they are made.
use Rattle.std.proofs.Common.{◌≡◌, ℕ, suc, Bool, true, false, List, [], ◌∷◌, length}
use Rattle.std.proofs.Common.{refl, ap, append_assoc}
use Rattle.std.specs.Prelude.{if◌then◌else◌}
use Rattle.std.proofs.lemmas.List.{reverse-append}
use Rattle.wap_value.specs.declared.value.Value.{Value}
use Rattle.wap_value.specs.declared.value.Value.TheVariants.{Invalid}
use Rattle.wap_value.specs.declared.operator.BinOp.{BinOp}
use Rattle.wap_value.specs.Binary.{binary_of}
use Rattle.wap_execution.specs.declared.action.Action.TheVariants.{Binary}
use Rattle.wap_execution.specs.Actions.{action_of}
use Rattle.wap_execution.specs.Effects.{jumps_at}
use Rattle.wap_meaning.specs.SourceParts.{Does, ◌>>=◌, give, kept}
use Rattle.wap_meaning.specs.Expressions.{stepped, step_of, each_of, joined}
use Rattle.wap_meaning.specs.coding.Coded.{Coded, ◌⨾◌, plain}
use Rattle.wap_meaning.specs.coding.Expressions.{binary_name, joined_code, cond_code, step_code}
use Rattle.wap_meaning.proofs.Following.{Gave, gave_any, from_gave}
use Rattle.wap_compiled_laws.proofs.Pieces.Pieces.{Site, onto, Piece, both}
use Rattle.wap_compiled_laws.proofs.Pieces.Instructions.{as_is, pushed, binary_piece, pop_piece}
use Rattle.wap_compiled_laws.proofs.Pieces.Jumps.{onto_shifts, branches_piece}
use Rattle.wap_compiled_laws.proofs.Pieces.Shorts.{short_piece}
use Rattle.wap_compiled_laws.proofs.Pieces.Assignments.{above, prefix_piece, postfix_piece, popped}
use Rattle.wap_value.specs.declared.operator.BinOp.TheVariants as bin
use Rattle.std.proofs.Common.{arith}
use Rattle.std.proofs.lemmas.Grind.{common_steps}

module _ {S : Type 0} (site : Site S) where
  -- a part and its code agree
  abbrev pub Agrees : Does Value S → Coded → Type 0
  Agrees does coded = Piece site does coded as_is (onto site pushed)

  -- ---- chains

  -- what stands behind the left operand
  abbrev Joins : Value → Does Value S → Coded → Type 0
  Joins left does coded = Piece site does coded (pushed left) (onto site pushed)

  -- an operator that takes both operands
  binary_joins : (binop : BinOp) {left : Value} {right : Does Value S} {second : Coded}
      → action_of (binary_name binop) ≡ Binary binop → Agrees right second
      → Joins left (right >>= λ v. kept site.string (binary_of binop left v))
      (second ⨾ plain (binary_name binop))
  binary_joins binop {left} acts agrees =
      both site Invalid (above site pushed agrees)
      (λ v. binary_piece site (binary_name binop) binop left v acts)

  -- every operator and the operand on its right
  joins : (binop : BinOp) {left : Value} {right : Does Value S} {second : Coded}
      → Agrees right second
      → Joins left (joined site.string binop left right) (joined_code binop second)
  joins bin.And agrees = short_piece site refl agrees
  joins bin.Or agrees = short_piece site refl agrees
  joins bin.Comma {left} agrees = both site left (pop_piece site) (λ _. agrees)
  joins binop agrees = binary_joins binop refl agrees

  -- two operands and their operator
  pub agrees_joined : (binop : BinOp) {first : Does Value S} {one : Coded} {second : Does Value S}
      {two : Coded} → Agrees first one → Agrees second two
      → Agrees (first >>= λ left. joined site.string binop left second)
      (one ⨾ joined_code binop two)
  agrees_joined binop ones twos = both site Invalid ones (λ left. joins binop twos)

  -- ---- arguments

  -- there are as many arguments as parts
  pub all_given : (parts : List (Does Value S)) (variables : List Value) (turns : ℕ) (state : S)
      → Gave (λ (vs : List Value) after left. length vs ≡ length parts)
      (each_of parts variables turns state)
  all_given [] variables turns state = refl
  all_given (does ∷ parts) variables turns state =
      from_gave (λ (v : Value) after left. Unit {0})
      (λ vs after left. length vs ≡ length (does ∷ parts)) (does variables turns state)
      (λ v. each_of parts >>= λ vs. give (v ∷ vs)) (gave_any (does variables turns state))
      (λ v one two three _.
      from_gave (λ vs after left. length vs ≡ length parts)
      (λ vs after left. length vs ≡ length (does ∷ parts))
      (each_of parts one two three) (λ vs. give (v ∷ vs)) (all_given parts one two three)
      (λ vs _ _ _ is. ap suc is))

  -- the first argument is below those after it
  pub turned : (v : Value) (vs operands : List Value)
      → popped vs (v ∷ operands) ≡ popped (v ∷ vs) operands
  turned v vs operands = grind (arith, common_steps, reverse-append, append_assoc)

  -- ---- the rest

  -- a condition with two branches
  pub cond_agrees : {c first second : Does Value S} {one two three : Coded} → Agrees c one
      → Agrees first two → Agrees second three
      → Agrees (c >>= λ v. if jumps_at v then second else first) (cond_code one two three)
  cond_agrees ones twos threes =
      both site Invalid ones (λ v. branches_piece site (onto_shifts site pushed) twos threes)

  -- a step
  pub step_agrees : (index : ℕ) (up prefix : Bool)
      → Agrees (stepped index (step_of up) prefix) (step_code index up prefix)
  step_agrees index true true = prefix_piece site refl
  step_agrees index false true = prefix_piece site refl
  step_agrees index true false = postfix_piece site refl
  step_agrees index false false = postfix_piece site refl
