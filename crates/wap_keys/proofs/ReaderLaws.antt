-- What a reader has said of the bytes that it took.
use Rattle.std.proofs.Common.{◌≡◌, ℕ, zero, suc, ◌+◌, ◌-◌, ◌<◌, ◌≤◌, take, Bool, true, false}
use Rattle.std.proofs.Common.{cond, List, [], ◌∷◌, ◌++◌, length}
use Rattle.std.proofs.Common.{refl, sym, ap, ◌∙◌, inl, inr, append_assoc, arith}
use Rattle.std.specs.Prelude.{nat_lt}
use Rattle.std.proofs.Math.Seq.{take-append-add}
use Rattle.std.proofs.lemmas.Bool.{le-ltb, lt-ltb}
use Rattle.std.proofs.lemmas.List.{append-nil, length-append}
use Rattle.wap_devices.specs.Sources.{SourceSeen, MayCome}
use Rattle.wap_base.specs.declared.key.Key.{Key}
use Rattle.wap_keys.specs.declared.limits.TheConstants.{KEYS_LIMIT}
use Rattle.wap_keys.specs.declared.ending.Ending.{Ending}
use Rattle.wap_keys.specs.declared.ending.Ending.TheVariants.{End, TooManyKeys, ReadFault}
use Rattle.wap_keys.specs.Lines.{KeysOf, Meaning, is_end, lines_of, said_from, said_at, said_of}
use Rattle.wap_keys.specs.Read.{TakesSome, TakesAtOnce, EndsAtMostOnce, rose, ending_after}
use Rattle.wap_keys.specs.Read.{AreFirst, IsJustRead, IsPromptBy, HasGivenBy, HasGiven, said_among}
use Rattle.wap_keys.specs.KeyReaders.{Reading, keys_then, said_yet, said_then}
use Rattle.wap_keys.specs.KeyReaders.{HasReadBy, HasRead, GivesUpBy, GivesUp}
use Rattle.wap_keys.specs.inside.Taking.{LosesPiece, IsOpen}
use Rattle.wap_keys.proofs.LineLaws.{cut_line}
use Rattle.wap_keys.proofs.GivingLaws.{gives_none, gives_both, may_split, none_to_come}

-- ---- in how many reads

pub some_none : (seen : SourceSeen) → TakesSome [] seen seen
some_none seen = record {
  takes = gives_none seen seen refl refl;
  least = omega arith;
  most = omega arith;
  ends = refl;
  faults = refl;
}

-- one read more that gives some
pub some_both : {start now last : SourceSeen} {taken piece : List ℕ} → TakesSome taken start now
    → TakesAtOnce piece now last → 0 < length piece → last.faults ≡ now.faults
    → TakesSome (taken ++ piece) start last
some_both {start} {now} {last} {taken} {piece} first second some steady = record {
  takes = gives_both start now last taken piece first.takes second.takes;
  least = omega (arith, first.least, second.reads);
  most = omega (arith, first.most, second.reads, some, length-append taken piece);
  ends = second.ends some ∙ first.ends;
  faults = steady ∙ first.faults;
}

-- ---- keys, and no others

pub no_more : {A : Type 0} (keys : List A) (ending : Ending)
    → keys_then keys (record { keys = []; ending = ending })
    ≡ record { keys = keys; ending = ending }
no_more {A} keys ending =
    ap (λ (all : List A). record { keys = all; ending = ending }) (append-nil keys)

-- ---- of all bytes

-- how bytes end of which those up to the limit count
abbrev pub ending_past : List ℕ → Ending
ending_past bytes = cond (nat_lt KEYS_LIMIT (length bytes)) TooManyKeys End

take_none : (n : ℕ) → take {A = ℕ} n [] ≡ []
take_none zero = refl
take_none (suc n) = refl

-- of all bytes those up to the limit count
pub all_by : {A : Type 0} (meaning : Meaning A) (taken rest : List ℕ) → length taken ≤ KEYS_LIMIT
    → said_of meaning (taken ++ rest) ≡ said_at meaning (ending_past (taken ++ rest))
    (taken ++ take (KEYS_LIMIT - length taken) rest)
unfolding said_of
all_by meaning taken rest few =
    let n = KEYS_LIMIT - length taken in
    let all : KEYS_LIMIT ≡ length taken + n = omega (arith, few) in
    ap (said_at meaning (ending_past (taken ++ rest)))
    (ap (λ (count : ℕ). take count (taken ++ rest)) all ∙ take-append-add taken rest n)

-- where no byte is left none follows, up to the limit
pub none_follows : (taken rest : List ℕ) → length taken ≤ KEYS_LIMIT → rest ≡ []
    → (ending_past (taken ++ rest) ≡ End) × (take (KEYS_LIMIT - length taken) rest ≡ [])
none_follows taken rest few none = (
  ap (λ (l : List ℕ). ending_past (taken ++ l)) none ∙ ap (λ (b : Bool). cond b TooManyKeys End)
      (le-ltb KEYS_LIMIT (length (taken ++ [])) (omega (arith, few, length-append taken []))),
  ap (take (KEYS_LIMIT - length taken)) none ∙ take_none (KEYS_LIMIT - length taken),
)

-- the source gives its end once at most
once_by : (start now : SourceSeen) (over : Bool)
    → now.ends ≡ cond over (start.ends + 1) start.ends
    → (over ≡ true → MayCome now.coming []) → EndsAtMostOnce start now
once_by start now true ends none = inr (record { none = none refl; ends = ends })
once_by start now false ends none = inl ends

-- and once at most after no time at all
once_more : (start now last : SourceSeen) → now.ends ≡ start.ends → EndsAtMostOnce now last
    → EndsAtMostOnce start last
once_more start now last same (inl none) = inl (none ∙ same)
once_more start now last same (inr end) =
    inr (record { none = end.none; ends = end.ends ∙ ap (λ (n : ℕ). n + 1) same })

-- ---- of what was read

module _ {A : Type 0} {meaning : Meaning A} {start now : SourceSeen} {taken : List ℕ}
    {keys : List A} {reader : Reading} (read : HasReadBy meaning start now taken keys reader) where
  few_taken : length taken ≤ KEYS_LIMIT
  few_taken = omega (arith, read.counted, read.few)

  -- the source of a reader that is over gave its end
  pub over_ends : reader.over ≡ true → now.ends ≡ start.ends + 1
  over_ends over = rw over at read.ends

  -- what was said is the first of what the whole lines say
  first_by : AreFirst keys (said_among meaning (rose start.ends now.ends) taken)
  first_by =
      let ending = ending_after (rose start.ends now.ends) in (
        (said_then meaning reader ending []).keys,
        ap (λ (l : List ℕ). (said_at meaning ending l).keys) (sym (append-nil taken))
            ∙ ap (λ (all : KeysOf A). all.keys)
            (read.says ending [] (λ over. (
              ap ending_after (lt-ltb start.ends now.ends (omega (arith, over_ends over))),
              refl,
            ))),
      )

  -- and the first of what all bytes say
  of_all_by : (bytes rest : List ℕ) → bytes ≡ taken ++ rest → (reader.over ≡ true → rest ≡ [])
      → AreFirst keys (said_of meaning bytes).keys
  of_all_by bytes rest is ended =
      let ending = ending_past (taken ++ rest) in
      let more = take (KEYS_LIMIT - length taken) rest in (
        (said_then meaning reader ending more).keys,
        ap (λ (all : KeysOf A). all.keys) (ap (said_of meaning) is
            ∙ all_by meaning taken rest few_taken
            ∙ read.says ending more (λ over. none_follows taken rest few_taken (ended over))),
      )

  -- a reader's bytes were taken
  pub given_by : HasGivenBy meaning start now taken keys
  given_by = record {
    takes = read.takes;
    few = omega (arith, few_taken);
    prompt = read.prompt;
    first = first_by;
    of_all = λ bytes may.
        of_all_by bytes may.rest (may_split start now taken bytes read.takes may)
        (λ over. none_to_come start now bytes may
        (record { none = read.ended over; ends = over_ends over }));
    end_once = once_by start now reader.over read.ends read.ended;
  }

  -- ---- where its source hasn't given its end

  -- all keys are what it has said and what it has yet to say
  pub said_open : reader.over ≡ false → (ending : Ending) (rest : List ℕ)
      → said_at meaning ending (taken ++ rest)
      ≡ keys_then keys (said_yet meaning reader ending rest)
  said_open goes_on ending rest = rw goes_on at (read.says ending rest (λ over. absurd cc))

  -- an unfinished line says nothing
  pub cut_open : IsOpen reader → (ending : Ending) → is_end ending ≡ false
      → said_at meaning ending (taken ++ []) ≡ record { keys = keys; ending = ending }
  cut_open is_open ending cut =
      said_open is_open.goes_on ending []
      ∙ ap (λ (l : List ℕ). keys_then keys (said_from meaning ending reader.number (lines_of l)))
      (append-nil reader.unread)
      ∙ ap (keys_then keys)
      (cut_line meaning ending reader.number reader.unread cut is_open.unended is_open.short)
      ∙ no_more keys ending

  -- ---- more bytes are taken after an unfinished line

  module _ {last : SourceSeen} {piece : List ℕ} (is_open : IsOpen reader)
      (takes : TakesAtOnce piece now last) where
    -- all that was said was said before them
    pub next_just : IsJustRead meaning start last (taken ++ piece) keys
    next_just = record {
      earlier = taken;
      between = now;
      before = read.some is_open.goes_on;
      said = keys;
      says =
          ap (said_at meaning ReadFault) (sym (append-nil taken)) ∙ cut_open is_open ReadFault refl;
      first = ([], sym (append-nil keys));
      piece = piece;
      last = takes;
      split = refl;
    }

    -- no key of them was said yet
    pub given_more : reader.count + length piece ≤ KEYS_LIMIT + 1 → EndsAtMostOnce now last
        → HasGivenBy meaning start last (taken ++ piece) keys
    given_more few once =
        let all_taken = gives_both start now last taken piece read.takes takes.takes in
        record {
          takes = all_taken;
          few = omega (arith, length-append taken piece, read.counted, few);
          prompt = inr next_just;
          first =
              let ending = ending_after (rose start.ends last.ends) in (
                (said_yet meaning reader ending piece).keys,
                ap (λ (all : KeysOf A). all.keys) (said_open is_open.goes_on ending piece),
              );
          of_all = λ bytes may.
              of_all_by bytes (piece ++ may.rest)
              (may_split start last (taken ++ piece) bytes all_taken may
              ∙ append_assoc taken piece may.rest)
              (λ over. absurd (let both : ⊥ = cc (is_open.goes_on, over) in both));
          end_once =
              once_more start now last (rw is_open.goes_on at read.ends) once;
        }

-- ---- nothing was read

none_prompt : {A : Type 0} (meaning : Meaning A) (seen : SourceSeen)
    → IsPromptBy meaning seen seen [] []
none_prompt meaning seen = inl (record { stays = refl; none_taken = refl; none_given = refl })

-- a reader that has read nothing is to say all keys
pub begun_by : {A : Type 0} (meaning : Meaning A) (seen : SourceSeen) (unread : List ℕ)
    → unread ≡ [] → HasReadBy meaning seen seen [] []
    (record { unread = unread; number = 1; count = 0; over = false })
unfolding said_at
begun_by meaning seen unread none = record {
  takes = gives_none seen seen refl refl;
  counted = refl;
  few = omega arith;
  some = λ goes_on. some_none seen;
  prompt = none_prompt meaning seen;
  just = λ over. absurd cc;
  says = λ ending rest _.
      ap (λ (l : List ℕ). said_from meaning ending 1 (lines_of (l ++ rest))) (sym none);
  ended = λ over. absurd cc;
  ends = refl;
  steady = refl;
}

-- ---- a key of the last read

-- a key more was said
pub more_just : {A : Type 0} {meaning : Meaning A} {start now : SourceSeen} {taken : List ℕ}
    {keys : List A} (key : A) → IsJustRead meaning start now taken keys
    → IsJustRead meaning start now taken (keys ++ key ∷ [])
more_just {keys = keys} key just = record {
  earlier = just.earlier;
  between = just.between;
  before = just.before;
  said = just.said;
  says = just.says;
  first = (
    just.first.0 ++ key ∷ [],
    ap (λ l. l ++ key ∷ []) just.first.1 ∙ append_assoc just.said just.first.0 (key ∷ []),
  );
  piece = just.piece;
  last = just.last;
  split = just.split;
}

-- no bytes say no keys
no_keys : {A : Type 0} (meaning : Meaning A)
    → said_at meaning ReadFault [] ≡ record { keys = []; ending = ReadFault }
unfolding said_at
no_keys meaning = refl

-- where the bytes say more something was read
pub just_by : {A : Type 0} {meaning : Meaning A} {start now : SourceSeen} {taken : List ℕ}
    {keys : List A} → IsPromptBy meaning start now taken keys
    → (said_at meaning ReadFault (taken ++ []) ≡ record { keys = keys; ending = ReadFault } → ⊥)
    → IsJustRead meaning start now taken keys
just_by (inr just) other = just
just_by {A} {meaning} (inl none) other =
    absurd (other (ap (λ (l : List ℕ). said_at meaning ReadFault (l ++ [])) none.none_taken
    ∙ no_keys meaning
    ∙ ap (λ (all : List A). record { keys = all; ending = ReadFault }) (sym none.none_given)))

-- ---- giving up

-- before anything was read
pub gives_up_by : {A : Type 0} (meaning : Meaning A) (seen : SourceSeen) (reader : Reading)
    → GivesUpBy meaning seen seen reader
gives_up_by meaning seen reader start taken keys read = ([], rw append-nil (given_by read))

-- as a piece is lost
pub lost : {A : Type 0} (meaning : Meaning A) (now last : SourceSeen) (old : Reading) → IsOpen old
    → LosesPiece now last old → GivesUpBy meaning now last old
lost meaning now last old is_open loses start taken keys read = (
  loses.piece,
  given_more read is_open loses.takes loses.few (inl loses.ends),
)

-- ---- by key lines

pub begun : (seen : SourceSeen) (unread : List ℕ) → unread ≡ []
    → HasRead seen seen [] [] (record { unread = unread; number = 1; count = 0; over = false })
begun = begun_by _

pub given_of : (start now : SourceSeen) (taken : List ℕ) (keys : List Key) (reader : Reading)
    → HasRead start now taken keys reader → HasGiven start now taken keys
given_of start now taken keys reader read = given_by read

pub gives_up_at_once : (seen : SourceSeen) (reader : Reading) → GivesUp seen seen reader
gives_up_at_once = gives_up_by _
