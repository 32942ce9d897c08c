-- How what is refused is put together from what is spelled and what is refused in its parts. This
-- project's own.
use Rattle.std.specs.Prelude.{◌≡◌, ℕ, ◌⊎◌, List, ◌++◌}
use Rattle.wap_wbxml.specs.declared.fault.DocFault.{DocFault}

-- which bytes are refused, and how; whatever stands after what can't stand there doesn't count
abbrev pub Refusal : Type 1
Refusal = List ℕ → DocFault → Type 0

-- nothing is refused
abbrev pub NotRefused : Refusal
NotRefused bytes fault = ⊥

-- one way or another
abbrev pub EitherRefused : Refusal → Refusal → Refusal
EitherRefused First Second bytes fault = First bytes fault ⊎ Second bytes fault

-- a whole part, which goes on no further, and after it what is refused there
pub record BehindWhole {A : Type 0} (Is : List ℕ → A → Type 0) (Ends : A → List ℕ → Type 0)
    (Refused : A → Refusal)
    (bytes : List ℕ) (fault : DocFault) : Type 0 where
  pub front : List ℕ
  pub rest : List ℕ
  pub spelled : bytes ≡ front ++ rest
  pub a : A
  pub is : Is front a
  pub ends : Ends a rest
  pub refused : Refused a rest fault

-- what follows doesn't matter
abbrev pub Anything : {A : Type 0} → A → List ℕ → Type 0
Anything a rest = Unit {0}

-- a whole part, and after it what is refused there
abbrev pub Behind : {A : Type 0} → (List ℕ → A → Type 0) → (A → Refusal) → Refusal
Behind Is = BehindWhole Is Anything

-- a first part is refused, or the second one after it
abbrev pub RefusedThen : {A : Type 0} → (List ℕ → A → Type 0) → Refusal → (A → Refusal) → Refusal
RefusedThen Is First Next = EitherRefused First (Behind Is Next)

-- some whole items, each of which goes on no further, and after them an item that is refused
pub data RefusedAmong {A S : Type 0} (Is : S → List ℕ → A × S → Type 0)
    (Ends : A × S → List ℕ → Type 0)
    (Refused : S → Refusal) : S → List ℕ → DocFault → Type 0 where
  here : (state : S) (bytes : List ℕ) (fault : DocFault) → Refused state bytes fault
      → RefusedAmong Is Ends Refused state bytes fault
  later : (before : S) (front : List ℕ) (item : A) (between : S) (rest : List ℕ) (fault : DocFault)
      → Is before front (item, between) → Ends (item, between) rest
      → RefusedAmong Is Ends Refused between rest fault
      → RefusedAmong Is Ends Refused before (front ++ rest) fault
