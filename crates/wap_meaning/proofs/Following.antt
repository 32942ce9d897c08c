-- Parts that come one after the other: what they come to, and what they keep.
use Rattle.std.proofs.Common.{◌≡◌, ℕ, ◌≤◌, List, length, refl, ◌∙◌, le_trans}
use Rattle.wap_value.specs.declared.value.Value.{Value}
use Rattle.wap_execution.specs.Outcomes.{Ended}
use Rattle.wap_meaning.specs.SourceParts.{Came, gave, over, Does, from, ◌>>=◌, done}
use Rattle.wap_meaning.specs.Keeping.{Lessens, Keeps}

-- ---- what they come to

-- a part and what follows it are done where the part is done by what follows
pub from_done : {A B S : Type 0} (came : Came A S) (next : A → Does B S)
    (middle : A → List Value → ℕ → S → Ended S) (end : B → List Value → ℕ → S → Ended S)
    → ((a : A) (variables : List Value) (turns : ℕ) (state : S)
    → middle a variables turns state ≡ done (next a variables turns state) end)
    → done came middle ≡ done (from came next) end
from_done (gave a variables turns state) next middle end nexts = nexts a variables turns state
from_done (over ended) next middle end nexts = refl

-- ends that are the same are the same behind a part
pub done_same : {A S : Type 0} (came : Came A S)
    (some other : A → List Value → ℕ → S → Ended S)
    → ((a : A) (variables : List Value) (turns : ℕ) (state : S)
    → some a variables turns state ≡ other a variables turns state)
    → done came some ≡ done came other
done_same (gave a variables turns state) some other same = same a variables turns state
done_same (over ended) some other same = refl

-- ---- facts of what a part gives

-- what a part gives, and the variables and the turns that it leaves, are so
abbrev pub Gave : {A S : Type 0} → (A → List Value → ℕ → Type 0) → Came A S → Type 0
Gave P (gave a variables turns state) = P a variables turns
Gave P (over ended) = Unit {0}

-- two facts at once
pub gave_both : {A S : Type 0} (P Q : A → List Value → ℕ → Type 0) (came : Came A S)
    → Gave P came → Gave Q came
    → Gave (λ a variables turns. P a variables turns × Q a variables turns) came
gave_both P Q (gave a variables turns state) one two = (one, two)
gave_both P Q (over ended) one two = tt

-- anything may be given
pub gave_any : {A S : Type 0} (came : Came A S) → Gave (λ a variables left. Unit {0}) came
gave_any (gave a variables turns state) = tt
gave_any (over ended) = tt

-- as `from_done`, where what the part gives has a property
pub from_done_where : {A B S : Type 0} (P : A → List Value → ℕ → Type 0) (came : Came A S)
    (next : A → Does B S)
    (middle : A → List Value → ℕ → S → Ended S) (end : B → List Value → ℕ → S → Ended S)
    → Gave P came
    → ((a : A) (variables : List Value) (turns : ℕ) (state : S) → P a variables turns
    → middle a variables turns state ≡ done (next a variables turns state) end)
    → done came middle ≡ done (from came next) end
from_done_where P (gave a variables turns state) next middle end gives nexts =
    nexts a variables turns state gives
from_done_where P (over ended) next middle end gives nexts = refl

-- what follows a part has a property by that of what the part gives
pub from_gave : {A B S : Type 0} (P : A → List Value → ℕ → Type 0)
    (Q : B → List Value → ℕ → Type 0) (came : Came A S)
    (next : A → Does B S) → Gave P came
    → ((a : A) (variables : List Value) (turns : ℕ) (state : S) → P a variables turns
    → Gave Q (next a variables turns state))
    → Gave Q (from came next)
from_gave P Q (gave a variables turns state) next gives nexts = nexts a variables turns state gives
from_gave P Q (over ended) next gives nexts = tt

-- ---- what they keep

-- no more turns are left, and as many variables
pub lessened : {A S : Type 0} (before : List Value) (most : ℕ) (came : Came A S)
    → Lessens before most came
    → Gave (λ (a : A) variables left. (left ≤ most) × (length variables ≡ length before)) came
lessened before most (gave a variables turns state) less = less
lessened before most (over ended) less = tt

-- what keeps to fewer turns keeps to more
lessens_more : {A S : Type 0} (came : Came A S) (one two : List Value) (some other : ℕ)
    → some ≤ other → length one ≡ length two → Lessens one some came → Lessens two other came
lessens_more (gave a variables turns state) one two some other less same more =
    (le_trans more.0 less, more.1 ∙ same)
lessens_more (over ended) one two some other less same more = le_trans more less

-- what follows a part that keeps them keeps them
from_lessens : {A B S : Type 0} (before : List Value) (most : ℕ) (came : Came A S)
    (next : A → Does B S) → Lessens before most came
    → ((a : A) (variables : List Value) (turns : ℕ) (state : S)
    → Lessens variables turns (next a variables turns state))
    → Lessens before most (from came next)
from_lessens before most (gave a variables turns state) next less nexts =
    lessens_more (next a variables turns state) variables before turns most less.0 less.1
    (nexts a variables turns state)
from_lessens before most (over ended) next less nexts = less

-- two parts that keep them keep them together
pub keeps_both : {A B S : Type 0} (does : Does A S) (next : A → Does B S) → Keeps does
    → ((a : A) → Keeps (next a)) → Keeps (does >>= next)
keeps_both does next one two variables turns state =
    from_lessens variables turns (does variables turns state) next (one variables turns state) two
