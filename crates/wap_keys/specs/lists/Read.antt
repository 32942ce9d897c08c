-- Lists of keys whose bytes are taken from a source. This project's own.
use Rattle.std.specs.Prelude.{◌≡◌, ◌≢◌, ℕ, ◌+◌, ◌≤◌, List, [], length, Result, IfOk, OnErr, ◌<◌}
use Rattle.wap_base.specs.declared.fault.NoMemory.{NoMemory}
use Rattle.wap_devices.specs.Sources.{SourceSeen, Gives, MayGive}
use Rattle.wap_base.specs.declared.key.Key.{Key}
use Rattle.wap_keys.specs.declared.limits.TheConstants.{KEYS_LIMIT}
use Rattle.wap_keys.specs.declared.fault.KeyFault.TheVariants as key
use Rattle.wap_keys.specs.declared.ending.Ending.{Ending}
use Rattle.wap_keys.specs.declared.ending.Ending.TheVariants.{End, BadKey, TooManyKeys, ReadFault}
use Rattle.wap_keys.specs.Read.{TakesAtMost, TakesSome, TakesAtOnce, GivesEnd, EndsAtMostOnce}
use Rattle.wap_keys.specs.lists.Lists.{all_of, lists_at, lists_of}

-- the last read began where no line of the bytes before it is refused: it gave what ends the lists,
-- be it bytes, the end, or a fault
pub record IsJustOver (before after : SourceSeen) : Type 0 where
  -- those bytes, and the source as it stood then
  pub earlier : List ℕ
  pub between : SourceSeen
  pub some : TakesSome earlier before between
  pub unrefused : (lists_at ReadFault earlier).ending ≡ ReadFault
  -- what that read gave
  pub piece : List ℕ
  pub last : TakesAtOnce piece between after

-- lists that were read, from a source before to the source after, and how they came to an end
pub record AreRead (before after : SourceSeen) (lists : List (List Key)) (ending : Ending) : Type 0
  where
    -- all bytes that the source may give end so, unless it failed
    pub ending_is : ending ≢ ReadFault
        → (bytes : List ℕ) → MayGive before after bytes → (lists_of bytes).ending ≡ ending
    -- at their end all are there, and the source gave its end
    pub all : ending ≡ End
        → (bytes : List ℕ) → MayGive before after bytes → all_of (lists_of bytes) ≡ lists
    pub none_left : ending ≡ End → GivesEnd before after
    -- else none are given
    pub none : ending ≢ End → lists ≡ []
    -- of too many bytes one more is taken than counts
    pub too_many : ending ≡ TooManyKeys
        → (bytes : List ℕ) × (length bytes ≡ KEYS_LIMIT + 1) × Gives bytes before after
    -- no read begins once a line is refused
    pub prompt : IsJustOver before after
    -- the source failed where the ending says so, and only there
    pub failed : ending ≡ ReadFault → before.faults < after.faults
    -- and no line of the bytes that it had given by then is refused
    pub given : ending ≡ ReadFault → (taken : List ℕ) × Gives taken before after
        × ((lists_at ReadFault taken).ending ≡ ReadFault)
    pub steady : ending ≢ ReadFault → after.faults ≡ before.faults
    -- out of memory is no fault of a line
    pub of_line : (line : ℕ) → ending ≢ BadKey line key.NoMemory

-- a call that reads lists
pub record ReadsLists {A : Type 0} (lists_in : A → List (List Key)) (before after : SourceSeen)
    (result : Result (A × Ending) NoMemory) : Type 0 where
  pub read : IfOk result (λ read. AreRead before after (lists_in read.0) read.1)
  -- however it ends
  pub unread : OnErr result (after.faults ≡ before.faults)
  pub few : TakesAtMost (KEYS_LIMIT + 1) before after
  pub counts : before.faults ≤ after.faults
  pub end_once : EndsAtMostOnce before after
