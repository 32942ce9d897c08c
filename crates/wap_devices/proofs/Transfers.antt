-- What moves between a buffer and a device, piece by piece.
use Rattle.std.proofs.Common.{◌≡◌, ℕ, ◌+◌, ◌≤◌, List, [], ◌++◌, length, take, drop}
use Rattle.std.proofs.Common.{sym, ap, ◌∙◌, append_assoc, arith}
use Rattle.std.proofs.lemmas.List.{take_at, take-append-drop, take-take, drop-take, length-take}
use Rattle.std.proofs.lemmas.List.{drop-drop, append-nil}
use Rattle.wap_devices.specs.Transfer.{Appends}

-- one piece after another is the two together
pub Appends-then : (a b c x y : List ℕ) → Appends a b x → Appends b c y → Appends a c (x ++ y)
Appends-then a b c x y first second =
    second ∙ ap (λ (l : List ℕ). l ++ y) first ∙ append_assoc a x y

-- no bytes are none more
pub Appends-nil : (a : List ℕ) → Appends a a []
Appends-nil a = sym (append-nil a)

-- what was given, and what a read takes, is what is given then
pub given : (at count : ℕ) (bytes : List ℕ)
    → take (at + count) bytes ≡ take at bytes ++ take count (drop at bytes)
given at count bytes =
    sym (take-append-drop at (take (at + count) bytes))
    ∙ ap (λ (l : List ℕ). l ++ drop at (take (at + count) bytes))
    (take-take at (at + count) bytes (omega arith))
    ∙ ap (λ (l : List ℕ). take at bytes ++ l) (drop-take at count bytes)

-- what was left is what a read took to the beginning of a buffer, and what is left now
pub taken : (bytes rest : List ℕ) (at count : ℕ) → count ≤ length (drop at bytes)
    → drop at bytes ≡ take count (take count (drop at bytes) ++ rest) ++ drop (at + count) bytes
taken bytes rest at count within =
    let left = drop at bytes in
    let so_long : length (take count left) ≡ count = omega (arith, length-take count left) in
    sym (take-append-drop count left)
    ∙ ap (λ (l : List ℕ). l ++ drop count left) (sym (take_at (take count left) rest count so_long))
    ∙ ap (λ (l : List ℕ). take count (take count left ++ rest) ++ l) (drop-drop count at bytes)
