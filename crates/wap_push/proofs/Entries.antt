-- The entries of an inbox, winner by winner.
use Rattle.std.proofs.Common.{◌≡◌, ℕ, suc, ◌+◌, ◌-◌, ◌≤◌, Bool, true, false, cond}
use Rattle.std.proofs.Common.{List, [], ◌∷◌, length, refl, ap, ◌∙◌, arith}
use Rattle.wap_push.specs.declared.indication.Indication.{Indication}
use Rattle.wap_push.specs.Inbox.{is_kept, inbox_of}

pub kept : (w : Indication) (ws : List Indication) → is_kept w ≡ true
    → inbox_of (w ∷ ws) ≡ w ∷ inbox_of ws
kept w ws is = ap (λ (b : Bool). cond b (w ∷ inbox_of ws) (inbox_of ws)) is

pub passed : (w : Indication) (ws : List Indication) → is_kept w ≡ false
    → inbox_of (w ∷ ws) ≡ inbox_of ws
passed w ws is = ap (λ (b : Bool). cond b (w ∷ inbox_of ws) (inbox_of ws)) is

one_more : (w : Indication) (ws : List Indication) (b : Bool) → is_kept w ≡ b
    → length (inbox_of ws) ≤ length ws → length (inbox_of (w ∷ ws)) ≤ length (w ∷ ws)
one_more w ws true is rest =
    let same : length (inbox_of (w ∷ ws)) ≡ length (w ∷ inbox_of ws) = ap length (kept w ws is) in
    omega arith
one_more w ws false is rest =
    let same : length (inbox_of (w ∷ ws)) ≡ length (inbox_of ws) = ap length (passed w ws is) in
    omega arith

-- no more entries than winners
pub at_most : (ws : List Indication) → length (inbox_of ws) ≤ length ws
at_most [] = omega arith
at_most (w ∷ ws) = one_more w ws (is_kept w) refl (at_most ws)

-- what is left to count after a winner that isn't in the inbox
pub step_passed : (all left less : ℕ) (winners rest : List Indication) (w : Indication)
    → winners ≡ w ∷ rest → is_kept w ≡ false
    → left + length (inbox_of winners) ≡ all + length winners → less ≡ left - 1
    → less + length (inbox_of rest) ≡ all + length rest
step_passed all left less winners rest w is out so_far one_less =
    let same : length (inbox_of winners) ≡ length (inbox_of rest) =
    ap (λ (ws : List Indication). length (inbox_of ws)) is ∙ ap length (passed w rest out) in
    let long : length winners ≡ suc (length rest) = ap length is in
    let few : length (inbox_of rest) ≤ length rest = at_most rest in
    omega arith
