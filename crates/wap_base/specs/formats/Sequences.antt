-- Bytes that stand for one thing after another. This project's own.
use Rattle.std.specs.Prelude.{◌≡◌, ℕ, Bool, true, List, [], ◌∷◌, ◌++◌, length, Option, Some}

-- a prefix of the bytes is such, and what follows it is such
pub record InTurn (First Second : List ℕ → Type 0) (bytes : List ℕ) : Type 0 where
  pub front : List ℕ
  pub back : List ℕ
  pub split : bytes ≡ front ++ back
  pub first : First front
  pub second : Second back

-- a value, and after it what has to follow this value
abbrev pub Then : {A : Type 0} → (List ℕ → A → Type 0) → (A → List ℕ → Type 0) → List ℕ → Type 0
Then {A = A} Is Next bytes = (x : A) × InTurn (λ front. Is front x) (Next x) bytes

-- one byte
abbrev pub IsByte : List ℕ → ℕ → Type 0
IsByte bytes byte = bytes ≡ byte ∷ []

-- this byte, and what follows it
abbrev pub After : ℕ → (List ℕ → Type 0) → List ℕ → Type 0
After byte Is bytes = (rest : List ℕ) × (bytes ≡ byte ∷ rest) × Is rest

-- so many bytes
abbrev pub AreBytes : ℕ → List ℕ → List ℕ → Type 0
AreBytes size bytes content = (bytes ≡ content) × (length content ≡ size)

-- such a value, where it passes a test
abbrev pub Passing : {A : Type 0} → (A → Bool) → (List ℕ → A → Type 0) → List ℕ → A → Type 0
Passing test Is bytes x = Is bytes x × (test x ≡ true)

-- what is made of such a value
abbrev pub Made : {A B : Type 0} → (A → B) → (List ℕ → A → Type 0) → List ℕ → B → Type 0
Made {A = A} make Is bytes y = (x : A) × Is bytes x × (y ≡ make x)

-- what is made of such a value, where something is
abbrev pub MadeIf : {A B : Type 0} → (A → Option B) → (List ℕ → A → Type 0) → List ℕ → B → Type 0
MadeIf {A = A} make Is bytes y = (x : A) × Is bytes x × (make x ≡ Some y)

-- these things, one after the other
abbrev pub IsRow : {A : Type 0} → (List ℕ → A → Type 0) → List ℕ → List A → Type 0
IsRow Is bytes [] = bytes ≡ []
IsRow Is bytes (x ∷ xs) = InTurn (λ front. Is front x) (λ back. IsRow Is back xs) bytes

-- things one after the other, each such a thing after those before it
abbrev pub IsRowAfter : {A : Type 0} → (List A → List ℕ → A → Type 0) → List A → List ℕ → List A
    → Type 0
IsRowAfter Is before bytes [] = bytes ≡ []
IsRowAfter Is before bytes (x ∷ xs) =
    InTurn (λ front. Is before front x) (λ back. IsRowAfter Is (before ++ x ∷ []) back xs) bytes

-- so many things one after the other
abbrev pub AreMany : {A : Type 0} → (List A → List ℕ → A → Type 0) → ℕ → List ℕ → List A → Type 0
AreMany Is count bytes xs = IsRowAfter Is [] bytes xs × (length xs ≡ count)
