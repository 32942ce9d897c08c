-- A reader of keys, call by call. This project's own.
use Rattle.std.specs.Prelude.{◌≡◌, ℕ, ◌+◌, ◌-◌, ◌≤◌, ◌<◌, Bool, true, false, if◌then◌else◌}
use Rattle.std.specs.Prelude.{List, [], ◌∷◌, ◌++◌, length, Result, Ok, Err}
use Rattle.wap_base.specs.declared.fault.NoMemory.{NoMemory}
use Rattle.wap_devices.specs.Sources.{SourceSeen, MayCome, Gives}
use Rattle.wap_base.specs.declared.key.Key.{Key}
use Rattle.wap_keys.specs.declared.limits.TheConstants.{KEYS_LIMIT}
use Rattle.wap_keys.specs.declared.ending.Ending.{Ending}
use Rattle.wap_keys.specs.declared.ending.Ending.TheVariants.{End, BadKey, TooManyKeys, ReadFault}
use Rattle.wap_keys.specs.declared.ending.Next.{Next}
use Rattle.wap_keys.specs.declared.ending.Next.TheVariants as next
use Rattle.wap_keys.specs.declared.ending.Step.{Step}
use Rattle.wap_keys.specs.declared.ending.Step.TheVariants as step
use Rattle.wap_keys.specs.Lines.{KeysOf, Meaning, content_key, lines_of, said_from, said_at}
use Rattle.wap_keys.specs.Read.{TakesSome, IsJustRead, IsPromptBy, HasGivenBy, IsReadBy}

-- ---- a reader

-- a reader: bytes that were taken and whose lines aren't read yet, the number of the first of these
-- lines, how many bytes were taken in all, and whether the source gave its end
pub record Reading : Type 0 where
  pub unread : List ℕ
  pub number : ℕ
  pub count : ℕ
  pub over : Bool

-- some keys, and then others
abbrev pub keys_then : {A : Type 0} → List A → KeysOf A → KeysOf A
keys_then keys others = record { keys = keys ++ others.keys; ending = others.ending }

-- what a reader is to say yet, if these bytes and this ending follow
abbrev pub said_yet : {A : Type 0} → Meaning A → Reading → Ending → List ℕ → KeysOf A
said_yet meaning reader ending rest =
    said_from meaning ending reader.number (lines_of (reader.unread ++ rest))

-- and nothing where the source gave its end
abbrev pub said_then : {A : Type 0} → Meaning A → Reading → Ending → List ℕ → KeysOf A
said_then meaning reader ending rest =
    if reader.over then record { keys = []; ending = ending }
    else said_yet meaning reader ending rest

-- how often a source has reported its end that had reported it so often at first
abbrev pub ends_known : Reading → ℕ → ℕ
ends_known reader ends = if reader.over then ends + 1 else ends

-- these bytes were taken from a source, and the reader has said these keys of them: with what it is
-- to say yet they are all
pub record HasReadBy {A : Type 0} (meaning : Meaning A) (start now : SourceSeen) (taken : List ℕ)
    (keys : List A) (reader : Reading) : Type 0 where
  pub takes : Gives taken start now
  pub counted : length taken ≡ reader.count
  pub few : reader.count ≤ KEYS_LIMIT
  pub some : reader.over ≡ false → TakesSome taken start now
  pub prompt : IsPromptBy meaning start now taken keys
  pub just : reader.over ≡ true → IsJustRead meaning start now taken keys
  pub says : (ending : Ending) (rest : List ℕ) → (reader.over ≡ true → (ending ≡ End) × (rest ≡ []))
      → said_at meaning ending (taken ++ rest)
      ≡ keys_then keys (said_then meaning reader ending rest)
  pub ended : reader.over ≡ true → MayCome now.coming []
  pub ends : now.ends ≡ ends_known reader start.ends
  pub steady : now.faults ≡ start.faults

-- ---- a call

-- after an answer: a key is one of those that were said, and no read began since the one that gave
-- the end of its line; or the keys were read to their end
abbrev pub AnswersAt : {A : Type 0} → Meaning A → SourceSeen → SourceSeen → List ℕ → List A
    → Reading → Step A → Type 0
AnswersAt meaning start now taken keys reader (step.Said key) =
    HasReadBy meaning start now taken (keys ++ key ∷ []) reader
    × IsJustRead meaning start now taken keys
AnswersAt meaning start now taken keys reader (step.Ended ending) =
    IsReadBy meaning start now taken keys ending

-- whatever was read before, a call goes on from it
abbrev pub AnswersBy : {A : Type 0} → Meaning A → SourceSeen → SourceSeen → Reading → Reading
    → Step A → Type 0
AnswersBy {A} meaning before after old new answer =
    (start : SourceSeen) (taken : List ℕ) (keys : List A)
    → HasReadBy meaning start before taken keys old
    → (more : List ℕ) × AnswersAt meaning start after (taken ++ more) keys new answer

-- or a call gives up, and the bytes that it took are lost
abbrev pub GivesUpBy : {A : Type 0} → Meaning A → SourceSeen → SourceSeen → Reading → Type 0
GivesUpBy {A} meaning before after old =
    (start : SourceSeen) (taken : List ℕ) (keys : List A)
    → HasReadBy meaning start before taken keys old
    → (more : List ℕ) × HasGivenBy meaning start after (taken ++ more) keys

-- the source's count of faults rises where the answer says that it failed, and else stays
abbrev pub CountsAt : {A : Type 0} → ℕ → ℕ → Step A → Type 0
CountsAt before after (step.Said key) = after ≡ before
CountsAt before after (step.Ended End) = after ≡ before
CountsAt before after (step.Ended (BadKey line fault)) = after ≡ before
CountsAt before after (step.Ended TooManyKeys) = after ≡ before
CountsAt before after (step.Ended ReadFault) = before < after

-- how many bytes may be read yet
abbrev pub room : Reading → ℕ
room reader = KEYS_LIMIT - reader.count + length reader.unread

-- each key takes some bytes
abbrev pub FallsAt : {A : Type 0} → Reading → Reading → Step A → Type 0
FallsAt old new (step.Said key) = room new < room old
FallsAt old new (step.Ended ending) = Unit {0}

-- ---- by key lines

abbrev pub HasRead : SourceSeen → SourceSeen → List ℕ → List Key → Reading → Type 0
HasRead = HasReadBy content_key

abbrev pub as_step : Next → Step Key
as_step (next.Key key) = step.Said key
as_step (next.Ended ending) = step.Ended ending

abbrev pub Answers : SourceSeen → SourceSeen → Reading → Reading → Next → Type 0
Answers before after old new answer = AnswersBy content_key before after old new (as_step answer)

abbrev pub GivesUp : SourceSeen → SourceSeen → Reading → Type 0
GivesUp = GivesUpBy content_key

abbrev pub Falls : Reading → Reading → Next → Type 0
Falls old new answer = FallsAt old new (as_step answer)

abbrev pub CountsFaults : ℕ → ℕ → Result Next NoMemory → Type 0
CountsFaults before after (Ok answer) = CountsAt before after (as_step answer)
CountsFaults before after (Err lost) = after ≡ before
