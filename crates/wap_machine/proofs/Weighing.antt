-- All machines are light.
use Rattle.std.proofs.Common.{◌≡◌, ℕ, ◌+◌, ◌-◌, ◌*◌, ◌^◌, ◌<◌, ◌≤◌, List, [], ◌∷◌}
use Rattle.std.proofs.Common.{◌++◌, length, reverse, sym, subst, arith}
use Rattle.std.specs.List.{AllByRecursion}
use Rattle.std.proofs.lemmas.List.{reverse-append}
use Rattle.wap_base.specs.declared.limits.TheConstants.{MOST_DEPTH}
use Rattle.wap_execution.specs.Frames.{Frame, code_of}
use Rattle.wap_machine.specs.Standing.{Stands}
use Rattle.wap_machine.specs.inside.Weights.{weight, heavy}
use Rattle.wap_machine.proofs.Ready.{code_is, code_small}

one_light : (frame : Frame) (coming : ℕ) → Stands frame coming
    → length (code_of frame.function) - frame.place + 1 ≤ 2 ^ 32
one_light frame coming stands =
    let small : length stands.code.code < 2 ^ 32 =
    code_small frame.function stands.code stands.spelled stands.found in
    let code : length (code_of frame.function) < 2 ^ 32 =
    subst (λ (l : List ℕ). length l < 2 ^ 32) (sym (code_is frame coming stands)) small in
    omega arith

all_light : (outer : List Frame) → AllByRecursion (λ other. Stands other 1) outer
    → weight outer ≤ length outer * 2 ^ 32
all_light [] all = omega arith
all_light (frame ∷ outer) all =
    let one = one_light frame 1 all.0 in
    let more = all_light outer all.1 in
    omega arith

pub light : (frame : Frame) (coming : ℕ) (outer : List Frame) → Stands frame coming
    → AllByRecursion (λ other. Stands other 1) outer → length outer < MOST_DEPTH
    → weight (frame ∷ outer) < heavy
light frame coming outer stands others few =
    let one = one_light frame coming stands in
    let more = all_light outer others in
    omega arith

pub turned : (outer : List Frame) (frame : Frame)
    → reverse (outer ++ frame ∷ []) ≡ frame ∷ reverse outer
turned outer frame = reverse-append outer (frame ∷ [])
