-- A reader's turns, one after the other.
use Rattle.std.proofs.Common.{◌≡◌, ◌≢◌, ℕ, ◌+◌, ◌<◌, ◌≤◌, true, false, List, []}
use Rattle.std.proofs.Common.{◌∷◌, ◌++◌, length, take, Option, Some, None, Result, Ok, Err, refl}
use Rattle.std.proofs.Common.{sym, ap, subst, ◌∙◌, append_assoc, inl, inr, arith}
use Rattle.std.proofs.Math.Seq.{take-length}
use Rattle.std.proofs.lemmas.List.{append-nil, length-append, take-append-le}
use Rattle.wap_devices.specs.Sources.{SourceSeen}
use Rattle.wap_keys.specs.declared.limits.TheConstants.{KEYS_LIMIT}
use Rattle.wap_keys.specs.declared.fault.KeyFault.{KeyFault}
use Rattle.wap_keys.specs.declared.fault.KeyFault.TheVariants.{NoMemory}
use Rattle.wap_keys.specs.declared.ending.Ending.{Ending}
use Rattle.wap_keys.specs.declared.ending.Ending.TheVariants.{End, BadKey, TooManyKeys, ReadFault}
use Rattle.wap_keys.specs.declared.ending.Step.{Step}
use Rattle.wap_keys.specs.declared.ending.Step.TheVariants as step
use Rattle.wap_keys.specs.Lines.{KeysOf, Meaning, lines_of, key_before, said_from, said_at}
use Rattle.wap_keys.specs.Read.{IsPromptBy, IsJustRead, GivesEnd, HasGivenBy, IsReadBy, ReadsToBy}
use Rattle.wap_keys.specs.KeyReaders.{Reading, keys_then, said_yet, HasReadBy, AnswersAt}
use Rattle.wap_keys.specs.KeyReaders.{AnswersBy, GivesUpBy, CountsAt, FallsAt, room}
use Rattle.wap_keys.specs.inside.Taking.{TakesSaid, ReadsPiece, ReadsEnd, ReadsPast, FailsToRead}
use Rattle.wap_keys.specs.inside.Taking.{turn_of, or_end, Keeps, IsOpen, GoesOn, Steps, Turns}
use Rattle.wap_keys.proofs.LineLaws.{last_line_says}
use Rattle.wap_keys.proofs.GivingLaws.{gives_both}
use Rattle.wap_keys.proofs.ReaderLaws.{no_more, said_open, cut_open, over_ends, given_by, some_both}
use Rattle.wap_keys.proofs.ReaderLaws.{given_more, next_just, more_just, just_by}

-- ---- a whole line is taken

-- the key that it says, if it says one
abbrev key_in : {A : Type 0} → Option A → List A
key_in None = []
key_in (Some key) = key ∷ []

-- it was said before what follows
then_said : {A : Type 0} (number : ℕ) (keys : List A) (said : Option A) (others : KeysOf A)
    → keys_then keys (key_before number (Ok said) others) ≡ keys_then (keys ++ key_in said) others
then_said number keys None others =
    ap (λ keys. keys_then keys others) (sym (append-nil keys))
then_said {A} number keys (Some key) others =
    ap (λ (all : List A). record { keys = all; ending = others.ending })
    (sym (append_assoc keys (key ∷ []) others.keys))

-- more keys aren't as many
no_fewer : {A : Type 0} (keys others : List A) (key : A) → keys ++ key ∷ others ≡ keys → ⊥
no_fewer keys others key same =
    absurd (omega (arith, ap length same, length-append keys (key ∷ others)))

-- a line that is refused is no fault of the source
bad_differs : (number : ℕ) (fault : KeyFault) → BadKey number fault ≡ ReadFault → ⊥
bad_differs number fault same = cc

module _ {A : Type 0} {meaning : Meaning A} {now : SourceSeen} {old new : Reading}
    (goes_on : old.over ≡ false) where
  -- what was said is said then
  line_read : {start : SourceSeen} {taken : List ℕ} {keys : List A} (said : Option A)
      → TakesSaid meaning old new (Ok said) → HasReadBy meaning start now taken keys old
      → IsPromptBy meaning start now taken (keys ++ key_in said)
      → HasReadBy meaning start now taken (keys ++ key_in said) new
  line_read {start} {taken} {keys} said ((count, over, fewer), says) read prompt =
      let still : new.over ≡ false = over ∙ goes_on in
      record {
        takes = read.takes;
        counted = read.counted ∙ sym count;
        few = omega (arith, read.few, count);
        some = λ _. read.some goes_on;
        prompt = prompt;
        just = λ is_over. absurd (let both : ⊥ = cc in both);
        says = λ ending rest _.
            rw still (said_open read goes_on ending rest ∙ ap (keys_then keys) (says ending rest)
            ∙ then_said old.number keys said (said_yet meaning new ending rest));
        ended = λ is_over. absurd (let both : ⊥ = cc in both);
        ends = rw still (rw goes_on at read.ends);
        steady = read.steady;
      }

  -- it says nothing
  line_goes : TakesSaid meaning old new (Ok None) → GoesOn meaning now now old new
  line_goes takes = record {
    keeps = λ start taken keys read.
        let said = line_read None takes read (rw append-nil read.prompt) in
        ([], rw append-nil (rw append-nil at said));
    few = omega (arith, takes.0.0, takes.0.2);
    nearer = omega (arith, takes.0.0, takes.0.2);
    steady = refl;
  }

  -- it says a key
  line_says : (key : A) → TakesSaid meaning old new (Ok (Some key))
      → Steps meaning now now old new (step.Said key)
  line_says key takes = record {
    answers = λ start taken keys read.
        let just : IsJustRead meaning start now taken keys =
        just_by read.prompt (λ same. no_fewer keys (said_yet meaning new ReadFault []).keys key
        (ap (λ (all : KeysOf A). all.keys) (sym (said_open read goes_on ReadFault []
        ∙ ap (keys_then keys) (takes.1 ReadFault [])) ∙ same))) in
        ([], rw append-nil (line_read (Some key) takes read (inr (more_just key just)), just));
    falls = omega (arith, takes.0.0, takes.0.2);
    counts = refl;
  }

  -- it is no key line
  line_bad : (fault : KeyFault) → TakesSaid meaning old new (Err fault)
      → Steps meaning now now old new (step.Ended (BadKey old.number fault))
  line_bad fault (known, over, says) = record {
    answers = λ start taken keys read.
        let bad : (ending : Ending) (rest : List ℕ) → said_at meaning ending (taken ++ rest)
        ≡ record { keys = keys; ending = BadKey old.number fault } =
        λ ending rest.
        said_open read goes_on ending rest ∙ ap (keys_then keys) (says ending rest)
        ∙ no_more keys (BadKey old.number fault) in
        let so : IsReadBy meaning start now taken keys (BadKey old.number fault) = record {
          given = given_by read;
          just = just_by read.prompt (λ same. bad_differs old.number fault
              (ap (λ (all : KeysOf A). all.ending) (sym (bad ReadFault []) ∙ same)));
          ends = (known, omega (arith, read.counted, read.few), inl bad);
        } in
        ([], rw append-nil so);
    falls = tt;
    counts = refl;
  }

-- whatever it says
pub line_turns : {A : Type 0} (meaning : Meaning A) (now : SourceSeen) (old new : Reading)
    → old.over ≡ false → (said : Result (Option A) KeyFault) → TakesSaid meaning old new said
    → Turns meaning now now old new (turn_of old.number said)
line_turns meaning now old new goes_on (Ok None) takes = line_goes goes_on takes
line_turns meaning now old new goes_on (Ok (Some key)) takes = line_says goes_on key takes
line_turns meaning now old new goes_on (Err fault) takes = line_bad goes_on fault takes

-- ---- more is read after a line that is only begun

-- the bytes up to the limit are those that were there before the one past it
prefix_of_all : (taken piece : List ℕ) → length taken ≡ KEYS_LIMIT
    → take KEYS_LIMIT (taken ++ piece) ≡ taken ++ []
prefix_of_all taken piece full =
    ap (λ (n : ℕ). take n (taken ++ piece)) (sym full)
    ∙ take-append-le (length taken) taken piece (omega arith)
    ∙ take-length taken ∙ sym (append-nil taken)

-- a line doesn't say both nothing and a key
none_some : {A : Type 0} (said : Result (Option A) KeyFault) (key : A) → said ≡ Ok None
    → said ≡ Ok (Some key) → ⊥
none_some said key none some = cc

-- so a key is said by some bytes
some_unread : {A : Type 0} (meaning : Meaning A) → meaning [] ≡ Ok None → (unread : List ℕ)
    (key : A) → meaning unread ≡ Ok (Some key) → 0 < length unread
some_unread meaning empty [] key is = absurd (none_some (meaning []) key empty is)
some_unread meaning empty (c ∷ cs) key is = omega arith

-- and the last line leaves fewer
last_falls : {A : Type 0} (meaning : Meaning A) → meaning [] ≡ Ok None → (old : Reading)
    (said : Result (Option A) KeyFault) → meaning old.unread ≡ said
    → FallsAt old (record old { over = true; unread = [] }) (or_end (turn_of old.number said))
last_falls meaning empty old (Ok None) says = tt
last_falls meaning empty old (Ok (Some key)) says =
    omega (arith, some_unread meaning empty old.unread key says)
last_falls meaning empty old (Err fault) says = tt

-- nor is what it comes to a fault of the source
last_counts : {A : Type 0} (before after number : ℕ) (said : Result (Option A) KeyFault)
    → after ≡ before → CountsAt before after (or_end (turn_of number said))
last_counts before after number (Ok None) is = is
last_counts before after number (Ok (Some key)) is = is
last_counts before after number (Err fault) is = is

module _ {A : Type 0} {meaning : Meaning A} {now last : SourceSeen} {old : Reading}
    (is_open : IsOpen old) where
  -- what a piece says is said after it
  pub piece_goes : (new : Reading) → ReadsPiece now last old new → GoesOn meaning now last old new
  piece_goes new reads =
      let piece = reads.piece in
      let unread = ap (λ (r : Reading). length r.unread) reads.reader in
      let count = ap (λ (r : Reading). r.count) reads.reader in
      let after : Reading =
      record old { unread = old.unread ++ piece; count = old.count + length piece } in
      record {
        keeps = λ start taken keys read.
            let goes : HasReadBy meaning start last (taken ++ piece) keys after = record {
              takes = gives_both start now last taken piece read.takes reads.takes.takes;
              counted = omega (arith, length-append taken piece, read.counted);
              few = reads.few;
              some = λ _.
                  some_both (read.some is_open.goes_on) reads.takes reads.some reads.steady;
              prompt = inr (next_just read is_open reads.takes);
              just = λ over. absurd (let both : ⊥ = cc (is_open.goes_on) in both);
              says = λ ending rest _.
                  rw is_open.goes_on (ap (said_at meaning ending) (append_assoc taken piece rest)
                  ∙ said_open read is_open.goes_on ending (piece ++ rest)
                  ∙ ap (λ (l : List ℕ).
                  keys_then keys (said_from meaning ending old.number (lines_of l)))
                  (sym (append_assoc old.unread piece rest)));
              ended = λ over. absurd (let both : ⊥ = cc (is_open.goes_on) in both);
              ends = reads.takes.ends reads.some ∙ read.ends;
              steady = reads.steady ∙ read.steady;
            } in (
              piece,
              subst (HasReadBy meaning start last (taken ++ piece) keys) (sym reads.reader)
                  goes,
            );
        few = omega (arith, unread, count, reads.few, length-append old.unread piece);
        nearer =
            omega (arith, unread, count, reads.few, reads.some, length-append old.unread piece);
        steady = reads.steady;
      }

  -- there is a byte past the limit
  pub past_steps : (new : Reading) → ReadsPast now last old
      → Steps meaning now last old new (step.Ended TooManyKeys)
  past_steps new reads =
      let piece = reads.piece in
      record {
        answers = λ start taken keys read. (
          piece,
          record {
            given = given_more read is_open reads.takes (omega (arith, reads.one, reads.full))
                (inl (reads.takes.ends (omega (arith, reads.one))));
            just = next_just read is_open reads.takes;
            ends = (
              omega (arith, length-append taken piece, read.counted, reads.full, reads.one),
              ap (said_at meaning TooManyKeys)
                  (prefix_of_all taken piece (read.counted ∙ reads.full))
                  ∙ cut_open read is_open TooManyKeys refl,
            );
          },
        );
        falls = tt;
        counts = reads.steady;
      }

  -- the source fails
  pub fault_steps : (new : Reading) → FailsToRead now last
      → Steps meaning now last old new (step.Ended ReadFault)
  fault_steps new fails =
      record {
        answers = λ start taken keys read. (
          [],
          record {
            given = given_more read is_open fails.takes (omega (arith, read.few))
                (inl fails.ends);
            just = next_just read is_open fails.takes;
            ends = (
              omega (arith, length-append taken [], read.counted, read.few),
              cut_open read is_open ReadFault refl,
            );
          },
        );
        falls = tt;
        counts = fails.rose;
      }

  -- ---- the last line

  module _ (ended : Reading) (reads : ReadsEnd now last old ended) where
    -- no bytes more were taken
    end_given : {start : SourceSeen} {taken : List ℕ} {keys : List A}
        → HasReadBy meaning start now taken keys old
        → HasGivenBy meaning start last (taken ++ []) keys
    end_given read =
        given_more read is_open reads.takes (omega (arith, read.few))
        (inr (record { none = reads.none; ends = reads.ends }))

    -- of which memory may run out
    pub end_gives_up : GivesUpBy meaning now last old
    end_gives_up start taken keys read = ([], end_given read)

    module _ (empty : meaning [] ≡ Ok None) (new : Reading)
        (closed : new ≡ record old { over = true; unread = [] }) where
      module _ {start : SourceSeen} {taken : List ℕ} {keys : List A}
          (read : HasReadBy meaning start now taken keys old) where
        end : GivesEnd start last
        end = record {
          none = reads.none;
          ends = reads.ends ∙ ap (λ (n : ℕ). n + 1) (rw is_open.goes_on at read.ends);
        }

        few : length (taken ++ []) ≤ KEYS_LIMIT
        few = omega (arith, length-append taken [], read.counted, read.few)

        -- it says what its content comes to
        last_says : (said : Result (Option A) KeyFault) → meaning old.unread ≡ said
            → said_at meaning End (taken ++ []) ≡ keys_then keys
            (key_before old.number said (record { keys = []; ending = End }))
        last_says said says =
            said_open read is_open.goes_on End []
            ∙ ap (λ (l : List ℕ). keys_then keys (said_from meaning End old.number (lines_of l)))
            (append-nil old.unread)
            ∙ ap (keys_then keys)
            (last_line_says meaning old.number old.unread empty is_open.unended is_open.short)
            ∙ ap (λ (said : Result (Option A) KeyFault).
            keys_then keys (key_before old.number said (record { keys = []; ending = End }))) says

      -- nothing, or a key, or it is no key line
      last_answers : (said : Result (Option A) KeyFault) → meaning old.unread ≡ said
          → said ≢ Err NoMemory → AnswersBy meaning now last old
          (record old { over = true; unread = [] }) (or_end (turn_of old.number said))
      last_answers (Ok None) says known start taken keys read = (
        [],
        record {
          given = end_given read;
          just = next_just read is_open reads.takes;
          ends = (end read, few read, last_says read (Ok None) says ∙ no_more keys End);
        },
      )
      last_answers (Err fault) says known start taken keys read = (
        [],
        record {
          given = end_given read;
          just = next_just read is_open reads.takes;
          ends = (
            λ lost. known (ap Err lost),
            few read,
            inr (
              end read,
              last_says read (Err fault) says ∙ no_more keys (BadKey old.number fault),
            ),
          );
        },
      )
      last_answers (Ok (Some key)) says known start taken keys read =
          let just = next_just read is_open reads.takes in
          let has : HasReadBy meaning start last (taken ++ []) (keys ++ key ∷ [])
          (record old { over = true; unread = [] }) = record {
            takes = (end_given read).takes;
            counted = omega (arith, read.counted, length-append taken []);
            few = read.few;
            some = λ goes_on. absurd cc;
            prompt = inr (more_just key just);
            just = λ _. more_just key just;
            says = λ ending rest nothing_follows.
                let (is_end_, is_none) = nothing_follows refl in
                ap (λ (e : Ending). said_at meaning e ((taken ++ []) ++ rest)) is_end_
                ∙ ap (λ (l : List ℕ). said_at meaning End ((taken ++ []) ++ l)) is_none
                ∙ ap (said_at meaning End) (append-nil (taken ++ []))
                ∙ last_says read (Ok (Some key)) says
                ∙ sym (no_more (keys ++ key ∷ []) End)
                ∙ ap (λ (e : Ending).
                keys_then (keys ++ key ∷ []) (record { keys = []; ending = e }))
                (sym is_end_);
            ended = λ _. reads.none;
            ends = (end read).ends;
            steady = reads.steady ∙ read.steady;
          } in
          ([], (has, just))

      -- what the last line comes to is answered
      pub end_steps : meaning old.unread ≢ Err NoMemory
          → Steps meaning now last old new (or_end (turn_of old.number (meaning old.unread)))
      end_steps known =
          subst (λ (r : Reading).
          Steps meaning now last old r (or_end (turn_of old.number (meaning old.unread))))
          (sym closed) (record {
            answers = last_answers (meaning old.unread) refl known;
            falls = last_falls meaning empty old (meaning old.unread) refl;
            counts = last_counts now.faults last.faults old.number (meaning old.unread)
                reads.steady;
          })

      -- as it is taken
      pub end_turns : (answer : Step A)
          → answer ≡ or_end (turn_of ended.number (meaning ended.unread))
          → meaning ended.unread ≢ Err NoMemory → Steps meaning now last old new answer
      end_turns answer said known =
          subst (Steps meaning now last old new)
          (sym (said ∙ ap (λ (r : Reading). or_end (turn_of r.number (meaning r.unread)))
          reads.reader))
          (end_steps (subst (λ (r : Reading). meaning r.unread ≢ Err NoMemory) reads.reader known))

-- ---- the source gave its end before

pub over_steps : {A : Type 0} (meaning : Meaning A) (now : SourceSeen) (old : Reading)
    → old.over ≡ true → Steps meaning now now old old (step.Ended End)
over_steps meaning now old over = record {
  answers = λ start taken keys read.
      let so : IsReadBy meaning start now taken keys End = record {
        given = given_by read;
        just = read.just over;
        ends = (
          record { none = read.ended over; ends = over_ends read over },
          omega (arith, read.counted, read.few),
          ap (said_at meaning End) (sym (append-nil taken))
              ∙ rw over at (read.says End [] (λ _. (refl, refl))) ∙ no_more keys End,
        );
      } in
      ([], rw append-nil so);
  falls = tt;
  counts = refl;
}

-- ---- turn after turn

then_falls : {A : Type 0} (old reader new : Reading) (answer : Step A) → room reader ≤ room old
    → FallsAt reader new answer → FallsAt old new answer
then_falls old reader new (step.Said key) less falls = omega (arith, less, falls)
then_falls old reader new (step.Ended ending) less falls = tt

-- no turn is left
pub none_left : {A : Type 0} (turn : Option A) → ((answer : A) → turn ≢ Some answer) → turn ≡ None
none_left None none = refl
none_left (Some answer) none = absurd (none answer refl)

module _ {A : Type 0} {meaning : Meaning A} {before now last : SourceSeen} {old reader : Reading}
    (first : Keeps meaning before now old reader) where
  pub keeps_then : {new : Reading} → Keeps meaning now last reader new
      → Keeps meaning before last old new
  keeps_then {new} second start taken keys read =
      let (piece, has) = first start taken keys read in
      let (more, goes) = second start (taken ++ piece) keys has in (
        piece ++ more,
        subst (λ (l : List ℕ). HasReadBy meaning start last l keys new)
            (append_assoc taken piece more) goes,
      )

  pub then_gives_up : GivesUpBy meaning now last reader → GivesUpBy meaning before last old
  then_gives_up second start taken keys read =
      let (piece, has) = first start taken keys read in
      let (more, goes) = second start (taken ++ piece) keys has in (
        piece ++ more,
        subst (λ (l : List ℕ). HasGivenBy meaning start last l keys)
            (append_assoc taken piece more) goes,
      )

  pub then_steps : {new : Reading} {answer : Step A} → room reader ≤ room old
      → now.faults ≡ before.faults → Steps meaning now last reader new answer
      → Steps meaning before last old new answer
  then_steps {new} {answer} few steady steps = record {
    answers = λ start taken keys read.
        let (piece, has) = first start taken keys read in
        let (more, goes) = steps.answers start (taken ++ piece) keys has in (
          piece ++ more,
          subst (λ (l : List ℕ). AnswersAt meaning start last l keys new answer)
              (append_assoc taken piece more) goes,
        );
    falls = then_falls old reader new answer few steps.falls;
    counts = subst (λ (n : ℕ). CountsAt n last.faults answer) steady steps.counts;
  }

-- ---- after all that was read

module _ {A : Type 0} {meaning : Meaning A} {start now last : SourceSeen} {keys : List A}
    {old : Reading} (has : (taken : List ℕ) × HasReadBy meaning start now taken keys old) where
  -- a key more was read
  pub then_read : {new : Reading} (key : A) → Steps meaning now last old new (step.Said key)
      → (taken : List ℕ) × HasReadBy meaning start last taken (keys ++ key ∷ []) new
  then_read key steps =
      let (more, (read, just)) = steps.answers start has.0 keys has.1 in (has.0 ++ more, read)

  -- the keys were read to their end
  pub then_ended : {new : Reading} (ending : Ending)
      → Steps meaning now last old new (step.Ended ending)
      → ReadsToBy meaning start last keys ending
  then_ended ending steps =
      let (more, read) = steps.answers start has.0 keys has.1 in (has.0 ++ more, read)

  -- memory ran out
  pub then_lost : GivesUpBy meaning now last old
      → (taken : List ℕ) × HasGivenBy meaning start last taken keys
  then_lost gives = let (more, given) = gives start has.0 keys has.1 in (has.0 ++ more, given)
