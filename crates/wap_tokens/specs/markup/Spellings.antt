-- How what bytes spell is put together. Bytes are whole lists: all of them spell the value, and no
-- others do. This project's own.
use Rattle.std.specs.Prelude.{◌≡◌, ℕ, Bool, true, false, List, [], ◌∷◌, ◌++◌}

-- one part, and after it another one, which may depend on what the first one says
pub record Then {A B : Type 0} (First : List ℕ → A → Type 0) (Next : A → List ℕ → B → Type 0)
    (bytes : List ℕ)
    (b : B) : Type 0 where
  pub front : List ℕ
  pub rest : List ℕ
  pub spelled : bytes ≡ front ++ rest
  pub a : A
  pub first : First front a
  pub next : Next a rest b

-- a value made of what bytes spell
pub record Told {A B : Type 0} (make : A → B) (Is : List ℕ → A → Type 0) (bytes : List ℕ)
    (b : B) : Type 0 where
  pub a : A
  pub is : Is bytes a
  pub made : b ≡ make a

-- no bytes, which stand for this
abbrev pub Given : {A : Type 0} → A → List ℕ → A → Type 0
Given x bytes y = (bytes ≡ []) × (y ≡ x)

-- nothing
abbrev pub Never : {A : Type 0} → List ℕ → A → Type 0
Never bytes x = ⊥

-- a list where there is one, or none
abbrev pub When : {A S : Type 0} → Bool → S → (S → List ℕ → List A × S → Type 0) → List ℕ
    → List A × S → Type 0
When true before Is = Is before
When false before Is = Given ([], before)

-- any number of items one after the other; each begins with the state in which the one before it
-- ends
pub data Many {A S : Type 0} (Is : S → List ℕ → A × S → Type 0) : S → List ℕ → List A
    → S → Type 0 where
  none : (state : S) → Many Is state [] [] state
  more : (before : S) (front : List ℕ) (item : A) (between : S) (rest : List ℕ)
      (items : List A) (after : S)
      → Is before front (item, between) → Many Is between rest items after
      → Many Is before (front ++ rest) (item ∷ items) after

-- the same with the items and the last state in a pair
abbrev pub ManyOf : {A S : Type 0} → (S → List ℕ → A × S → Type 0) → S → List ℕ
    → List A × S → Type 0
ManyOf Is before bytes x = Many Is before bytes x.0 x.1

-- the same, and a byte after them
pub record Ended {A S : Type 0} (byte : ℕ) (Is : S → List ℕ → A × S → Type 0) (before : S)
    (bytes : List ℕ)
    (x : List A × S) : Type 0 where
  pub front : List ℕ
  pub spelled : bytes ≡ front ++ (byte ∷ [])
  pub items : Many Is before front x.0 x.1
