-- Numbers in a format.
use Rattle.std.proofs.Common.{◌≡◌, ℕ, ◌<◌, ◌≤◌, Some, None, sym, ◌∙◌, inl, inr}
use Rattle.std.proofs.lemmas.Bool.{cases_lt, le-leb, lt-leb, cond-true, cond-false}
use Rattle.wap_libs.specs.FormatReading.{up_to_65535}

pub within_65535 : (n : ℕ) → n ≤ 65535 → Some n ≡ up_to_65535 n
within_65535 n small = sym (cond-true _ (Some n) None (le-leb n 65535 small))

pub past_65535 : (n : ℕ) → 65535 < n → None ≡ up_to_65535 n
past_65535 n large = sym (cond-false _ (Some n) None (lt-leb n 65535 large))

pub up_to-Some : (n m : ℕ) → Some m ≡ up_to_65535 n → (m ≡ n) × (n ≤ 65535)
up_to-Some n m is = elim (cases_lt 65535 n) [
  | inl large ↦ absurd (let none : Some m ≡ None = is ∙ sym (past_65535 n large) in cc)
  | inr small ↦ let some : Some m ≡ Some n = is ∙ sym (within_65535 n small) in (cc, small)
]

pub up_to-None : (n : ℕ) → None ≡ up_to_65535 n → 65535 < n
up_to-None n is = elim (cases_lt 65535 n) [
  | inl large ↦ large
  | inr small ↦ absurd (let some : None ≡ Some n = is ∙ sym (within_65535 n small) in cc)
]
