-- What branches, short-circuits, loops and exits cost, by the pieces that they are made of.
use Rattle.std.proofs.Common.{◌≡◌, ℕ, ◌+◌, Bool, true, false, Some, None, refl, arith}
use Rattle.wap_unit.specs.declared.row.OpName.{OpName}
use Rattle.wap_asm.specs.Spellings.{operation_of, longest}
use Rattle.wap_asm.specs.Placing.{wide_size}
use Rattle.wap_meaning.specs.coding.Coded.{Exits, Coded, one, plain}
use Rattle.wap_meaning.specs.coding.Expressions.{short_code}
use Rattle.wap_meaning.specs.coding.Statements.{branch_code, exit_form, loop_code}
use Rattle.wap_compiled_laws.proofs.Pieces.Sizes.{branches}
use Rattle.wap_compiled_laws.proofs.CodeSizes.Costs.{Fits, cost, Allowed, costs_one, costs_op}
use Rattle.wap_compiled_laws.proofs.CodeSizes.Costs.{Costs, costs_label, costs_before, costs_within}
use Rattle.wap_compiled_laws.proofs.CodeSizes.Costs.{costs_both, costs_same, costs_over, costs_test}

-- `break` and `continue` jump in a loop
pub costs_exit : (inside : Bool) (which : ℕ × ℕ → ℕ) → inside ≡ true
    → Costs inside (one (λ exits at. exit_form exits which)) 3
unfolding wide_size operation_of longest
costs_exit false which is = absurd (cc is)
costs_exit true which is =
    costs_one true (λ exits i. fits exits) (λ exits i allowed. by exits allowed)
  where
    fits : (exits : Exits) → Fits (exit_form exits which)
    fits None = refl
    fits (Some labels) = tt

    by : (exits : Exits) → Allowed true exits → cost (exit_form exits which) ≡ 3
    by None allowed = absurd allowed
    by (Some labels) allowed = refl

module _ (inside : Bool) where
  -- two branches
  pub costs_either : {first second : Coded} {m n : ℕ} → Costs inside first m → Costs inside second n
      → Costs inside (branches first second) (m + n + 6)
  costs_either {first} {second} firsts seconds =
      costs_same inside (omega arith) (costs_both inside (costs_test inside (first.size + 1))
      (costs_both inside firsts (costs_both inside (costs_over inside (1 + second.size))
      (costs_both inside (costs_label inside) (costs_both inside seconds (costs_label inside))))))

  -- one branch
  pub costs_branch : (body : Coded) (n : ℕ) → Costs inside body n
      → Costs inside (branch_code body) (n + 3)
  costs_branch body n costs =
      costs_same inside (omega arith) (costs_both inside (costs_test inside body.size)
      (costs_both inside costs (costs_label inside)))

  -- a short-circuit
  pub costs_short : {name : OpName} {second : Coded} {n : ℕ} → Costs inside (plain name) 1
      → Costs inside second n → Costs inside (short_code name second) (5 + n)
  unfolding wide_size operation_of longest
  costs_short {second} first costs =
      costs_same inside (omega arith) (costs_both inside first
      (costs_both inside (costs_test inside (second.size + 1)) (costs_both inside costs
      (costs_both inside (costs_op inside refl refl) (costs_label inside)))))

  -- a loop
  pub costs_loop : {test : ℕ → Coded} {body update : Coded} {l m n : ℕ}
      → ((over : ℕ) → Costs inside (test over) l) → Costs true body m → Costs inside update n
      → Costs inside (loop_code test body update) (m + n + (l + 3))
  costs_loop {test} {body} {update} tests bodies updates =
      let over = body.size + (update.size + 2) in
      let back = 1 + (test over).size + body.size + 1 + update.size in
      costs_same inside (omega arith) (costs_both inside (costs_label inside)
      (costs_both inside (tests over) (costs_both inside (costs_within inside over body.size bodies)
      (costs_both inside (costs_label inside)
      (costs_both inside updates (costs_both inside (costs_before inside back)
      (costs_label inside)))))))
