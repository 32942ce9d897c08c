-- Operands of chains and arguments that are added one after the other.
use Rattle.std.proofs.Common.{◌≡◌, ℕ, ◌+◌, ◌<◌, List, [], ◌∷◌, ◌++◌, length, map, set, drop, get_or}
use Rattle.std.proofs.Common.{◌≤◌, Result, Ok, Err, OnOk, drop_of_length-le}
use Rattle.std.proofs.Common.{Option, Some, None, refl, sym, ap, ◌∙◌, subst, arith, append-nil}
use Rattle.std.proofs.lemmas.List.{length_push, at_drop_more}
use Rattle.wap_value.specs.declared.operator.BinOp.{BinOp}
use Rattle.wap_unit.specs.declared.row.OpName.TheVariants as op
use Rattle.wap_asm.specs.declared.form.Form.{Form}
use Rattle.wap_asm.specs.declared.form.Form.TheVariants.{Jump}
use Rattle.wap_grammar.specs.declared.program.expression.Expr.{Expr}
use Rattle.wap_meaning.specs.coding.Coded.{Exits, Coded, ◌⨾◌, all_code, label}
use Rattle.wap_meaning.specs.coding.Constants.{Numbers}
use Rattle.wap_meaning.specs.coding.Expressions.{expr_code, chain_code, joined_code, assigned_code}
use Rattle.wap_meaning.specs.coding.Expressions.{cond_code}
use Rattle.wap_codegen.specs.declared.emission.operators.Joint.{Joint}
use Rattle.wap_codegen.specs.declared.emission.operators.Joint.TheVariants as joint
use Rattle.wap_codegen.specs.emission.inside.Adding.{Adds, Extends}
use Rattle.wap_codegen.specs.emission.inside.Operands.{before_code, after_code, joint_code, Begins}
use Rattle.wap_codegen.specs.emission.inside.Operands.{Ends, coded, Leaves, LeavesOperands, Chains}
use Rattle.wap_codegen.proofs.EmissionLemmas.Extending.{adds_both, adds_empty, adds_jump}

-- forms that are added behind the same forms
pub adds_behind : (coded : Coded) (exits : Exits) (old other new : List Form) → old ≡ other
    → Adds coded exits old new → Adds coded exits other new
adds_behind coded exits old other new same is =
    subst (λ (forms : List Form). Adds coded exits forms new) same is

-- and up to the same forms
pub adds_up_to : (coded : Coded) (exits : Exits) (old new other : List Form) → new ≡ other
    → Adds coded exits old new → Adds coded exits old other
adds_up_to coded exits old new other same is =
    subst (λ (forms : List Form). Adds coded exits old forms) same is

-- the same code
pub adds_same : {one other : Coded} {exits : Exits} {old new : List Form} → one ≡ other
    → Adds one exits old new → Adds other exits old new
adds_same {exits} {old} {new} = subst (λ (coded : Coded). Adds coded exits old new)

-- the same code, in whatever loop
pub extends_same : {one other : Coded} {old new : List Form} → one ≡ other → Extends one old new
    → Extends other old new
extends_same same adds exits = adds_same same (adds exits)

-- one part after the other, in whatever loop
pub extends_both : {first second : Coded} {old middle new : List Form} → Extends first old middle
    → Extends second middle new → Extends (first ⨾ second) old new
extends_both one two exits = adds_both (one exits) (two exits)

-- an operand, by how its operator joins it
pub operand_adds : (join : Joint) (second : Coded) (old begun behind new : List Form) (jump : ℕ)
    → Begins join old begun jump → Extends second begun behind → Ends join jump behind new
    → Extends (joint_code join second) old new
operand_adds (joint.Short name) second old begun behind new jump begins adds ends exits =
    let opened = begins.2 in
    let long : length begun ≡ length begins.0 + 1 =
    ap length opened ∙ length_push begins.0 (Jump op.TjumpFw 0) in
    let counts : length behind + 1 ≡ length begins.0 + 1 + (second.size + 1) =
    omega (arith, (adds exits).sized, long) in
    adds_both (begins.1 exits)
    (adds_jump op.TjumpFw (second.size + 1) (length behind + 1) (omega arith) opened
    (adds_both (adds exits) (ends.1 exits)) counts
    (ends.2 ∙ ap (λ n. set ends.0 n (Jump op.TjumpFw (length behind + 1))) begins.3))
operand_adds joint.Drops second old begun behind new jump begins adds ends exits =
    adds_both (begins exits) (adds_up_to second exits begun behind new (sym ends) (adds exits))
operand_adds (joint.Both name) second old begun behind new jump begins adds ends exits =
    adds_both (adds_behind second exits begun old behind begins (adds exits)) (ends exits)

-- ---- lists

-- one item more
pub leaves_more : {X : Type 0} (f : X → Coded) (exits : Exits) (xs : List X) (i : ℕ) (x : X)
    (old here next : List Form) → i < length xs → x ≡ get_or xs i x
    → Leaves f exits xs i old here → Adds (f x) exits here next
    → Leaves f exits xs (i + 1) old next
leaves_more f exits xs i x old here next within is leaves adds last more =
    leaves last (adds_same (ap (λ y. f y ⨾ all_code (map f (drop (i + 1) xs))) is
    ∙ sym (at_drop_more (λ ys. all_code (map f ys)) xs i x within))
    (adds_both adds more))

-- one operand more
pub operands_more : (numbers : Numbers) (operands : List (BinOp × Expr)) (i : ℕ)
    (operand : BinOp × Expr) (old here next : List Form) → i < length operands
    → operand ≡ get_or operands i operand → LeavesOperands numbers operands i old here
    → Extends (joined_code operand.0 (expr_code numbers operand.1)) here next
    → LeavesOperands numbers operands (i + 1) old next
operands_more numbers operands i operand old here next within is leaves adds first exits before at =
    let found = leaves first exits before at in (
      found.0 ⨾ joined_code operand.0 (expr_code numbers operand.1),
      adds_both found.1 (adds exits),
      ap (λ (one : BinOp × Expr). chain_code (found.0 ⨾ joined_code one.0 (expr_code numbers one.1))
          (coded numbers (drop (i + 1) operands))) is
          ∙ sym (at_drop_more (λ ys. chain_code found.0 (coded numbers ys)) operands i operand
          within)
          ∙ found.2,
    )

-- ---- assignments

-- the right side, between what stands before it and behind it
pub assignment_adds : (variable : ℕ) (operator : Option BinOp) (right : Coded) (exits : Exits)
    (old begun behind new : List Form) → Adds (before_code variable operator) exits old begun
    → Adds right exits begun behind → Adds (after_code variable operator) exits behind new
    → Adds (assigned_code variable operator right) exits old new
assignment_adds variable None right exits old begun behind new before adds after =
    let same : begun ≡ old = before.forms ∙ append-nil old in
    adds_behind (assigned_code variable None right) exits begun old new same (adds_both adds after)
assignment_adds variable (Some operator) right exits old begun behind new before adds after =
    adds_both before (adds_both adds after)

-- no item more
pub leaves_none : {X : Type 0} (f : X → Coded) (exits : Exits) (xs : List X) (i : ℕ)
    (old here : List Form) → length xs ≤ i → Leaves f exits xs i old here
    → Adds (all_code (map f xs)) exits old here
leaves_none f exits xs i old here past leaves =
    leaves here (adds_same (ap (λ ys. all_code (map f ys)) (sym (drop_of_length-le xs past)))
    (adds_empty exits here here refl))

-- ---- what the last call of several adds, where it succeeds

pub after_assignment : {E : Type 0} (variable : ℕ) (operator : Option BinOp) (right : Coded)
    (old begun behind new : List Form) (r : Result (Unit {0}) E)
    → Extends (before_code variable operator) old begun → Extends right begun behind
    → OnOk r (Extends (after_code variable operator) behind new)
    → OnOk r (Extends (assigned_code variable operator right) old new)
after_assignment variable operator right old begun behind new (Ok x) before adds after =
    λ exits. assignment_adds variable operator right exits old begun behind new (before exits)
    (adds exits) (after exits)
after_assignment variable operator right old begun behind new (Err e) before adds after = tt

pub after_chain : {E : Type 0} (numbers : Numbers) (first : Coded)
    (operands : List (BinOp × Expr)) (old middle new : List Form) (r : Result (Unit {0}) E)
    → Extends first old middle → OnOk r (Chains numbers operands middle new)
    → OnOk r (Extends (chain_code first (coded numbers operands)) old new)
after_chain numbers first operands old middle new (Ok x) adds chains =
    λ exits. chains first exits old (adds exits)
after_chain numbers first operands old middle new (Err e) adds chains = tt

-- ---- conditions

-- a condition, and a branch for each answer
pub cond_adds : {c first second : Coded} {exits : Exits}
    {old tested begun chosen over behind labelled ended closed new : List Form}
    {test jump other end : ℕ}
    → Adds c exits old tested → begun ≡ tested ++ Jump op.TjumpFw 0 ∷ [] → test ≡ length tested
    → Adds first exits begun chosen → over ≡ chosen ++ Jump op.JumpFw 0 ∷ [] → jump ≡ length chosen
    → Adds label exits over behind → other ≡ length over
    → Adds second exits behind labelled → Adds label exits labelled ended
    → end ≡ length labelled → closed ≡ set ended jump (Jump op.JumpFw end)
    → new ≡ set closed test (Jump op.TjumpFw other)
    → Adds (cond_code c first second) exits old new
cond_adds {first} {second} {tested} {begun} {chosen} {over} {ended} {closed} {other} {end} one opens
    tests two leaps jumps three others four five ends closes last =
    let begun_long : length begun ≡ length tested + 1 =
    ap length opens ∙ length_push tested (Jump op.TjumpFw 0) in
    let over_long : length over ≡ length chosen + 1 =
    ap length leaps ∙ length_push chosen (Jump op.JumpFw 0) in
    let counts : end ≡ length chosen + 1 + (1 + second.size) =
    omega (arith, three.sized, four.sized, over_long, ends) in
    let others : other ≡ length tested + 1 + (first.size + 1) =
    omega (arith, others, two.sized, over_long, begun_long) in
    adds_both one
    (adds_jump op.TjumpFw (first.size + 1) other (omega arith) opens
    (adds_both two
    (adds_jump op.JumpFw (1 + second.size) end (omega arith) leaps
    (adds_both three (adds_both four five)) counts
    (closes ∙ ap (λ n. set ended n (Jump op.JumpFw end)) jumps)))
    others
    (last ∙ ap (λ n. set closed n (Jump op.TjumpFw other)) tests))
