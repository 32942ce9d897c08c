-- How many forms there are in branches, short-circuits and loops: as many as the code says.
use Rattle.std.proofs.Common.{ℕ, ◌+◌, Some, refl}
use Rattle.wap_unit.specs.declared.row.OpName.{OpName}
use Rattle.wap_unit.specs.declared.row.OpName.TheVariants as op
use Rattle.wap_meaning.specs.coding.Coded.{Coded, ◌⨾◌, plain, label, jump_over, jump_before, within}
use Rattle.wap_meaning.specs.coding.Expressions.{short_code}
use Rattle.wap_meaning.specs.coding.Statements.{branch_code, loop_code}
use Rattle.wap_compiled_laws.proofs.Pieces.Pieces.{Sized, sized_both}

-- the code after a condition: a jump to what is done where it doesn't hold
abbrev pub branches : Coded → Coded → Coded
branches first second =
    jump_over op.TjumpFw (first.size + 1) ⨾ first ⨾ jump_over op.JumpFw (1 + second.size) ⨾
    label ⨾ second ⨾ label

-- two branches
pub sized_branches : (first second : Coded) → Sized first → Sized second
    → Sized (branches first second)
sized_branches first second ones twos =
    sized_both (jump_over op.TjumpFw (first.size + 1))
    (first ⨾ jump_over op.JumpFw (1 + second.size) ⨾ label ⨾ second ⨾ label)
    (λ exits i. refl)
    (sized_both first (jump_over op.JumpFw (1 + second.size) ⨾ label ⨾ second ⨾ label) ones
    (sized_both (jump_over op.JumpFw (1 + second.size)) (label ⨾ second ⨾ label)
    (λ exits i. refl)
    (sized_both label (second ⨾ label) (λ exits i. refl)
    (sized_both second label twos (λ exits i. refl)))))

-- one branch
pub sized_branch : (body : Coded) → Sized body → Sized (branch_code body)
sized_branch body sized =
    sized_both (jump_over op.TjumpFw body.size) (body ⨾ label) (λ exits i. refl)
    (sized_both body label sized (λ exits i. refl))

-- a short-circuit
pub sized_short : (name : OpName) (second : Coded) → Sized second
    → Sized (short_code name second)
sized_short name second sized =
    sized_both (plain name) (jump_over op.TjumpFw (second.size + 1) ⨾ second ⨾ plain op.Tobool ⨾
    label) (λ exits i. refl)
    (sized_both (jump_over op.TjumpFw (second.size + 1)) (second ⨾ plain op.Tobool ⨾ label)
    (λ exits i. refl)
    (sized_both second (plain op.Tobool ⨾ label) sized (λ exits i. refl)))

-- a loop
pub sized_loop : (test : ℕ → Coded) (body update : Coded) → ((count : ℕ) → Sized (test count))
    → Sized body → Sized update → Sized (loop_code test body update)
sized_loop test body update tests bodies updates =
    let past : ℕ = body.size + (update.size + 2) in
    let far : ℕ = 1 + (test past).size + body.size + 1 + update.size in
    let last : Coded = jump_before op.JumpBw far ⨾ label in
    sized_both label (test past ⨾ within past body.size body ⨾ label ⨾ update ⨾ last)
    (λ exits i. refl)
    (sized_both (test past) (within past body.size body ⨾ label ⨾ update ⨾ last) (tests past)
    (sized_both (within past body.size body) (label ⨾ update ⨾ last)
    (λ exits i. bodies (Some (i + past, i + body.size)) i)
    (sized_both label (update ⨾ last) (λ exits i. refl)
    (sized_both update last updates (λ exits i. refl)))))
