-- Keys whose bytes are taken from a source. This project's own.
use Rattle.std.specs.Prelude.{◌≡◌, ◌≢◌, ◌⊎◌, ℕ, ◌+◌, ◌<◌, ◌≤◌, Bool, nat_lt}
use Rattle.std.specs.Prelude.{if◌then◌else◌, List, [], ◌∷◌, ◌++◌, length, take}
use Rattle.wap_devices.specs.Sources.{SourceSeen, MayCome, Gives, MayGive}
use Rattle.wap_base.specs.declared.key.Key.{Key}
use Rattle.wap_keys.specs.declared.limits.TheConstants.{KEYS_LIMIT, PIECE_LIMIT}
use Rattle.wap_keys.specs.declared.fault.KeyFault.TheVariants.{NoMemory}
use Rattle.wap_keys.specs.declared.ending.Ending.{Ending}
use Rattle.wap_keys.specs.declared.ending.Ending.TheVariants.{End, BadKey, TooManyKeys, ReadFault}
use Rattle.wap_keys.specs.Lines.{KeysOf, Meaning, content_key, said_at, said_of, keys_at}

-- ---- what a source gave

-- these bytes were taken from a source in reads that each gave some of them
pub record TakesSome (bytes : List ℕ) (before after : SourceSeen) : Type 0 where
  pub takes : Gives bytes before after
  pub least : before.reads ≤ after.reads
  pub most : after.reads ≤ before.reads + length bytes
  -- none of them met the end, and none failed
  pub ends : after.ends ≡ before.ends
  pub faults : after.faults ≡ before.faults

-- they were taken in one read, which met the end, or failed, where there are none
pub record TakesAtOnce (bytes : List ℕ) (before after : SourceSeen) : Type 0 where
  pub takes : Gives bytes before after
  pub short : length bytes ≤ PIECE_LIMIT
  pub reads : after.reads ≡ before.reads + 1
  pub ends : 0 < length bytes → after.ends ≡ before.ends

-- at most so many bytes were taken
abbrev pub TakesAtMost : ℕ → SourceSeen → SourceSeen → Type 0
TakesAtMost most before after =
    (bytes : List ℕ) × (length bytes ≤ most) × Gives bytes before after

-- whether a count rose
abbrev pub rose : ℕ → ℕ → Bool
rose = nat_lt

-- the source gave its end, and nothing may be to come
pub record GivesEnd (before after : SourceSeen) : Type 0 where
  pub none : MayCome after.coming []
  pub ends : after.ends ≡ before.ends + 1

-- it gave its end once, or not at all
abbrev pub EndsAtMostOnce : SourceSeen → SourceSeen → Type 0
EndsAtMostOnce before after = (after.ends ≡ before.ends) ⊎ GivesEnd before after

-- ---- the keys of bytes that were taken

-- the keys are the first of these
abbrev pub AreFirst : {A : Type 0} → List A → List A → Type 0
AreFirst {A} keys all = (others : List A) × (all ≡ keys ++ others)

-- what there is after bytes that were taken: the end, where the source gave it, or bytes to come
abbrev pub ending_after : Bool → Ending
ending_after ended = if ended then End else ReadFault

-- the keys of the whole lines among bytes that were taken: of those that a line feed ends, and of
-- the last one too where the source gave its end
abbrev pub said_among : {A : Type 0} → Meaning A → Bool → List ℕ → List A
said_among meaning ended taken = (said_at meaning (ending_after ended) taken).keys

-- of the bytes that were taken the last read gave the last; before it their whole lines were key
-- lines, none was too long already, and they said no more than the first of these keys
pub record IsJustRead {A : Type 0} (meaning : Meaning A) (start now : SourceSeen) (taken : List ℕ)
    (keys : List A) : Type 0 where
  -- the bytes before the last read, and the source as it stood then
  pub earlier : List ℕ
  pub between : SourceSeen
  pub before : TakesSome earlier start between
  -- what their lines said
  pub said : List A
  pub says : said_at meaning ReadFault earlier ≡ record { keys = said; ending = ReadFault }
  pub first : AreFirst said keys
  -- what that read gave
  pub piece : List ℕ
  pub last : TakesAtOnce piece between now
  pub split : taken ≡ earlier ++ piece

-- nothing was read, and so no key was given
pub record IsUnread {A : Type 0} (start now : SourceSeen) (taken : List ℕ) (keys : List A) : Type 0
  where
    pub stays : now ≡ start
    pub none_taken : taken ≡ []
    pub none_given : keys ≡ []

-- nothing was read; or when the last read began, each key that was there was among these, and no
-- line that is no key line was there, were it only begun and too long already: no key waits for a
-- read
abbrev pub IsPromptBy : {A : Type 0} → Meaning A → SourceSeen → SourceSeen → List ℕ → List A
    → Type 0
IsPromptBy meaning start now taken keys =
    IsUnread start now taken keys ⊎ IsJustRead meaning start now taken keys

-- the bytes were taken, and the keys are the first that their whole lines say, and the first of all
pub record HasGivenBy {A : Type 0} (meaning : Meaning A) (start now : SourceSeen) (taken : List ℕ)
    (keys : List A) : Type 0 where
  pub takes : Gives taken start now
  pub few : length taken ≤ KEYS_LIMIT + 1
  pub prompt : IsPromptBy meaning start now taken keys
  pub first : AreFirst keys (said_among meaning (rose start.ends now.ends) taken)
  pub of_all : (bytes : List ℕ) → MayGive start now bytes
      → AreFirst keys (said_of meaning bytes).keys
  pub end_once : EndsAtMostOnce start now

-- some bytes were taken, and some keys were given of them
abbrev pub GivesSomeBy : {A : Type 0} → Meaning A → SourceSeen → SourceSeen → Type 0
GivesSomeBy {A} meaning start now =
    (taken : List ℕ) × (keys : List A) × HasGivenBy meaning start now taken keys

-- ---- keys that were read to their end

-- a line among the bytes is no key line, whatever follows; or the source gave its end, and the last
-- line is none, which no line feed ends
abbrev pub IsBad : {A : Type 0} → Meaning A → SourceSeen → SourceSeen → List ℕ → KeysOf A → Type 0
IsBad meaning start now taken bad =
    ((ending : Ending) (rest : List ℕ) → said_at meaning ending (taken ++ rest) ≡ bad)
    ⊎ (GivesEnd start now × (said_at meaning End taken ≡ bad))

-- how the keys of bytes that were taken came to an end: with the source, by a bad line, by one byte
-- past the limit, or as the source failed
abbrev pub EndsBy : {A : Type 0} → Meaning A → SourceSeen → SourceSeen → List ℕ → List A → Ending
    → Type 0
EndsBy meaning start now taken keys End =
    GivesEnd start now × (length taken ≤ KEYS_LIMIT)
    × (said_at meaning End taken ≡ record { keys = keys; ending = End })
EndsBy meaning start now taken keys (BadKey line fault) =
    (fault ≢ NoMemory) × (length taken ≤ KEYS_LIMIT)
    × IsBad meaning start now taken (record { keys = keys; ending = BadKey line fault })
EndsBy meaning start now taken keys TooManyKeys =
    (length taken ≡ KEYS_LIMIT + 1)
    × (said_at meaning TooManyKeys (take KEYS_LIMIT taken)
    ≡ record { keys = keys; ending = TooManyKeys })
EndsBy meaning start now taken keys ReadFault =
    (length taken ≤ KEYS_LIMIT)
    × (said_at meaning ReadFault taken ≡ record { keys = keys; ending = ReadFault })

-- the keys were read to their end
pub record IsReadBy {A : Type 0} (meaning : Meaning A) (start now : SourceSeen) (taken : List ℕ)
    (keys : List A) (ending : Ending) : Type 0 where
  pub given : HasGivenBy meaning start now taken keys
  pub just : IsJustRead meaning start now taken keys
  pub ends : EndsBy meaning start now taken keys ending

-- some bytes were taken, and so the keys were read to their end
abbrev pub ReadsToBy : {A : Type 0} → Meaning A → SourceSeen → SourceSeen → List A → Ending
    → Type 0
ReadsToBy meaning start now keys ending =
    (taken : List ℕ) × IsReadBy meaning start now taken keys ending

-- ---- by key lines

-- no key was given; or no read began since the one that gave the end of the line of the last, its
-- line feed or the end of all bytes
abbrev pub IsAtLast : SourceSeen → SourceSeen → List ℕ → List Key → Type 0
IsAtLast start now taken keys =
    IsUnread start now taken keys
    ⊎ ((others : List Key) × (last : Key) × (keys ≡ others ++ last ∷ [])
    × IsJustRead content_key start now taken others)

abbrev pub HasGiven : SourceSeen → SourceSeen → List ℕ → List Key → Type 0
HasGiven = HasGivenBy content_key

abbrev pub GivesSome : SourceSeen → SourceSeen → Type 0
GivesSome = GivesSomeBy content_key

abbrev pub IsRead : SourceSeen → SourceSeen → List ℕ → List Key → Ending → Type 0
IsRead = IsReadBy content_key

abbrev pub ReadsTo : SourceSeen → SourceSeen → List Key → Ending → Type 0
ReadsTo = ReadsToBy content_key

-- these are the keys of the whole lines that were taken
pub record IsReadBefore (keys : List Key) (start now : SourceSeen) : Type 0 where
  pub taken : List ℕ
  pub takes : Gives taken start now
  pub said : keys_at ReadFault taken ≡ record { keys = keys; ending = ReadFault }
