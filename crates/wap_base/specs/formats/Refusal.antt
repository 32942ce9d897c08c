-- Why bytes aren't such: each refusal speaks of the length of the whole input, of the bytes that
-- are left of it after whole items, and of a fault; the place of the first byte that is left is the
-- difference of the lengths. This project's own.
use Rattle.std.specs.Prelude.{◌≡◌, ℕ, ◌-◌, ◌<◌, ◌⊎◌, Bool, true, false, List, [], ◌++◌, length}
use Rattle.std.specs.Prelude.{Option, None}
use Rattle.wap_base.specs.Numbers.{EndsInside, IsTooLong}
use Rattle.wap_base.specs.formats.Sequences.{IsRowAfter}

-- the length of the input, what is left of it, and the fault
abbrev pub Refusal : Type 0 → Type 1
Refusal E = ℕ → List ℕ → E → Type 0

-- ---- what an item may lack

-- nothing is refused
abbrev pub Never : {E : Type 0} → Refusal E
Never end left found = ⊥

-- nothing is left where a byte has to stand
abbrev pub LacksByte : {E : Type 0} → (ℕ → E) → Refusal E
LacksByte short end left found = (left ≡ []) × (found ≡ short end)

-- fewer bytes are left than have to follow
abbrev pub LacksBytes : {E : Type 0} → (ℕ → E) → ℕ → Refusal E
LacksBytes short size end left found = (length left < size) × (found ≡ short end)

-- no number stands here: the input ends inside it, or it is too long
abbrev pub RefusesNumber : {E : Type 0} → (ℕ → E) → (ℕ → E) → Refusal E
RefusesNumber short too_long end left found =
    (EndsInside left × (found ≡ short end))
    ⊎ (IsTooLong left × (found ≡ too_long (end - length left)))

-- ---- one item after the other

-- a whole item, after which the next one is refused
pub record Behind {E A : Type 0} (Is : List ℕ → A → Type 0) (Next : A → Refusal E) (end : ℕ)
    (left : List ℕ) (found : E) : Type 0 where
  pub value : A
  pub front : List ℕ
  pub rest : List ℕ
  pub split : left ≡ front ++ rest
  pub whole : Is front value
  pub refused : Next value end rest found

-- the first item is refused, or the next one after it
abbrev pub RefusesInTurn : {E A : Type 0} → Refusal E → (List ℕ → A → Type 0) → (A → Refusal E)
    → Refusal E
RefusesInTurn First Is Next end left found = First end left found ⊎ Behind Is Next end left found

-- a test isn't passed, or it is and what follows is refused
abbrev pub RefusesUnless : {E : Type 0} → Bool → E → Refusal E → Refusal E
RefusesUnless test failed Next end left found =
    ((test ≡ false) × (found ≡ failed)) ⊎ ((test ≡ true) × Next end left found)

-- the value is refused, or doesn't pass a test; the fault is at its place
abbrev pub RefusesPassing : {E A : Type 0} → (A → Bool) → (ℕ → E) → (List ℕ → A → Type 0)
    → Refusal E → Refusal E
RefusesPassing test failed Is Refuses end left found =
    RefusesInTurn Refuses Is
    (λ x last rest other. (test x ≡ false) × (other ≡ failed (end - length left))) end left found

-- the value is refused, or nothing is made of it; the fault is at its place
abbrev pub RefusesMadeIf : {E A B : Type 0} → (A → Option B) → (ℕ → E) → (List ℕ → A → Type 0)
    → Refusal E → Refusal E
RefusesMadeIf make failed Is Refuses end left found =
    RefusesInTurn Refuses Is
    (λ x last rest other. (make x ≡ None) × (other ≡ failed (end - length left))) end left found

-- some whole things, fewer than there have to be, and then one that is refused
pub record RefusesRowAfter {E A : Type 0} (count : ℕ) (Is : List A → List ℕ → A → Type 0)
    (Refuses : List A → Refusal E) (before : List A) (end : ℕ) (left : List ℕ) (found : E) :
    Type 0 where
  pub whole : List A
  pub front : List ℕ
  pub rest : List ℕ
  pub split : left ≡ front ++ rest
  pub row : IsRowAfter Is before front whole
  pub fewer : length whole < count
  pub refused : Refuses (before ++ whole) end rest found

-- the same, where no thing minds those before it
abbrev pub RefusesRow : {E A : Type 0} → ℕ → (List ℕ → A → Type 0) → Refusal E → Refusal E
RefusesRow count Is Refuses = RefusesRowAfter count (λ before. Is) (λ before. Refuses) []
