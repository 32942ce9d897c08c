-- Lines that are taken from a reader, and bytes that are read after them. This project's own.
use Rattle.std.specs.Prelude.{◌≡◌, ◌≢◌, ℕ, ◌+◌, ◌-◌, ◌<◌, ◌≤◌, true, false, List, [], ◌++◌, length}
use Rattle.std.specs.Prelude.{take, drop, Option, Some, None, Result, Ok, Err}
use Rattle.wap_devices.specs.Sources.{SourceSeen, MayCome, Reads}
use Rattle.wap_devices.specs.declared.fault.Failed.{Failed}
use Rattle.wap_keys.specs.declared.limits.TheConstants.{KEYS_LIMIT, LINE_LIMIT}
use Rattle.wap_keys.specs.declared.fault.KeyFault.{KeyFault}
use Rattle.wap_keys.specs.declared.fault.KeyFault.TheVariants.{NoMemory}
use Rattle.wap_keys.specs.declared.ending.Ending.{Ending}
use Rattle.wap_keys.specs.declared.ending.Ending.TheVariants.{End, BadKey}
use Rattle.wap_keys.specs.declared.ending.Step.{Step}
use Rattle.wap_keys.specs.declared.ending.Step.TheVariants as step
use Rattle.wap_keys.specs.declared.reader.Taken.{Taken}
use Rattle.wap_keys.specs.declared.reader.Taken.TheVariants as taken
use Rattle.wap_keys.specs.declared.reader.More.{More}
use Rattle.wap_keys.specs.declared.reader.More.TheVariants as more
use Rattle.wap_keys.specs.Lines.{Meaning, key_before}
use Rattle.wap_keys.specs.Prefixes.{is_unended}
use Rattle.wap_keys.specs.Read.{TakesAtOnce}
use Rattle.wap_keys.specs.KeyReaders.{Reading, said_yet, room, HasReadBy, AnswersBy, GivesUpBy}
use Rattle.wap_keys.specs.KeyReaders.{CountsAt, FallsAt}

-- ---- lines

-- the same bytes were taken, and fewer of them aren't read yet
abbrev pub Advances : Reading → Reading → Type 0
Advances old new =
    (new.count ≡ old.count) × (new.over ≡ old.over) × (length new.unread < length old.unread)

-- the first line that isn't read yet says this, whatever follows
abbrev pub TakesSaid : {A : Type 0} → Meaning A → Reading → Reading → Result (Option A) KeyFault
    → Type 0
TakesSaid meaning old new (Ok key) =
    Advances old new
    × ((ending : Ending) (rest : List ℕ) → said_yet meaning old ending rest
    ≡ key_before old.number (Ok key) (said_yet meaning new ending rest))
TakesSaid meaning old new (Err fault) =
    (fault ≢ NoMemory) × (new.over ≡ old.over)
    × ((ending : Ending) (rest : List ℕ) → said_yet meaning old ending rest
    ≡ record { keys = []; ending = BadKey old.number fault })

-- or the line is only begun
abbrev pub TakesLine : {A : Type 0} → Meaning A → Reading → Reading → Taken A → Type 0
TakesLine meaning old new taken.Begun =
    (is_unended old.unread ≡ true) × (length old.unread ≤ LINE_LIMIT) × (new ≡ old)
TakesLine meaning old new (taken.Line said) = TakesSaid meaning old new said

-- what a line comes to, if it says something
abbrev pub turn_of : {A : Type 0} → ℕ → Result (Option A) KeyFault → Option (Step A)
turn_of number (Ok None) = None
turn_of number (Ok (Some key)) = Some (step.Said key)
turn_of number (Err fault) = Some (step.Ended (BadKey number fault))

-- the last line, or the end
abbrev pub or_end : {A : Type 0} → Option (Step A) → Step A
or_end None = step.Ended End
or_end (Some answer) = answer

-- ---- bytes

-- the next bytes are read into so long a prefix of a buffer
pub record ReadsPrefix (room : ℕ) (old new : List ℕ) (before after : SourceSeen)
    (result : Result ℕ Failed) : Type 0 where
  pub reads : Reads (take room old) (take room new) before after result
  pub rest : drop room new ≡ drop room old
  pub len : length new ≡ length old

-- a piece is read
pub record ReadsPiece (before after : SourceSeen) (old new : Reading) : Type 0 where
  pub piece : List ℕ
  pub takes : TakesAtOnce piece before after
  pub some : 0 < length piece
  pub few : old.count + length piece ≤ KEYS_LIMIT
  pub reader
      : new ≡ record old { unread = old.unread ++ piece; count = old.count + length piece }
  pub steady : after.faults ≡ before.faults

-- or the source gives its end
pub record ReadsEnd (before after : SourceSeen) (old new : Reading) : Type 0 where
  pub none : MayCome after.coming []
  pub takes : TakesAtOnce [] before after
  pub reader : new ≡ record old { over = true }
  pub ends : after.ends ≡ before.ends + 1
  pub steady : after.faults ≡ before.faults

-- or a byte past the limit is read
pub record ReadsPast (before after : SourceSeen) (old : Reading) : Type 0 where
  pub piece : List ℕ
  pub takes : TakesAtOnce piece before after
  pub one : length piece ≡ 1
  pub full : old.count ≡ KEYS_LIMIT
  pub steady : after.faults ≡ before.faults

-- or the source fails
pub record FailsToRead (before after : SourceSeen) : Type 0 where
  pub takes : TakesAtOnce [] before after
  pub ends : after.ends ≡ before.ends
  pub counts : before.faults ≤ after.faults
  pub rose : before.faults < after.faults

-- what a read comes to
abbrev pub ReadsMore : SourceSeen → SourceSeen → Reading → Reading → More → Type 0
ReadsMore before after old new more.Piece = ReadsPiece before after old new
ReadsMore before after old new more.AtEnd = ReadsEnd before after old new
ReadsMore before after old new more.Past = ReadsPast before after old
ReadsMore before after old new more.Failed = FailsToRead before after

-- out of memory: some bytes were taken, and are lost
pub record LosesPiece (before after : SourceSeen) (old : Reading) : Type 0 where
  pub piece : List ℕ
  pub takes : TakesAtOnce piece before after
  pub few : old.count + length piece ≤ KEYS_LIMIT + 1
  pub ends : after.ends ≡ before.ends
  pub steady : after.faults ≡ before.faults

-- ---- turns

-- a reader of an unfinished line, which isn't too long, and whose source hasn't given its end
pub record IsOpen (reader : Reading) : Type 0 where
  pub goes_on : reader.over ≡ false
  pub unended : is_unended reader.unread ≡ true
  pub short : length reader.unread ≤ LINE_LIMIT

-- all that was read before is read now
abbrev pub Keeps : {A : Type 0} → Meaning A → SourceSeen → SourceSeen → Reading → Reading → Type 0
Keeps {A} meaning before now old reader =
    (start : SourceSeen) (taken : List ℕ) (keys : List A)
    → HasReadBy meaning start before taken keys old
    → (piece : List ℕ) × HasReadBy meaning start now (taken ++ piece) keys reader

-- a reader goes on: fewer bytes are to be read, and the source didn't fail
pub record GoesOn {A : Type 0} (meaning : Meaning A) (before after : SourceSeen)
    (old new : Reading) : Type 0 where
  pub keeps : Keeps meaning before after old new
  pub few : room new ≤ room old
  pub nearer : room new + (KEYS_LIMIT - new.count) < room old + (KEYS_LIMIT - old.count)
  pub steady : after.faults ≡ before.faults

-- or it answers
pub record Steps {A : Type 0} (meaning : Meaning A) (before after : SourceSeen)
    (old new : Reading) (answer : Step A) : Type 0 where
  pub answers : AnswersBy meaning before after old new answer
  pub falls : FallsAt old new answer
  pub counts : CountsAt before.faults after.faults answer

abbrev pub Turns : {A : Type 0} → Meaning A → SourceSeen → SourceSeen → Reading → Reading
    → Option (Step A) → Type 0
Turns meaning before after old new None = GoesOn meaning before after old new
Turns meaning before after old new (Some answer) = Steps meaning before after old new answer

-- or memory runs out
pub record Loses {A : Type 0} (meaning : Meaning A) (before after : SourceSeen) (old : Reading)
    : Type 0 where
  pub gives_up : GivesUpBy meaning before after old
  pub steady : after.faults ≡ before.faults
