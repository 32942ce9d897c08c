-- Keys that were read to their end, and the bytes that their source may give.
use Rattle.std.proofs.Common.{◌≡◌, ◌≢◌, ℕ, ◌+◌, ◌-◌, ◌≤◌, Bool, cond, List, [], ◌++◌, length, take}
use Rattle.std.proofs.Common.{refl, ap, subst, ◌∙◌, inl, inr, arith}
use Rattle.std.proofs.lemmas.Bool.{lt-ltb}
use Rattle.std.proofs.lemmas.List.{append-nil, length-append, take-append-le}
use Rattle.wap_devices.specs.Sources.{SourceSeen, MayGive}
use Rattle.wap_base.specs.declared.key.Key.{Key}
use Rattle.wap_keys.specs.declared.limits.TheConstants.{KEYS_LIMIT}
use Rattle.wap_keys.specs.declared.ending.Ending.{Ending}
use Rattle.wap_keys.specs.declared.ending.Ending.TheVariants.{End, BadKey, TooManyKeys, ReadFault}
use Rattle.wap_keys.specs.Lines.{KeysOf, Meaning, said_at, said_of, keys_of}
use Rattle.wap_keys.specs.Read.{IsReadBefore, IsBad, EndsBy, IsReadBy, IsRead}
use Rattle.wap_keys.proofs.GivingLaws.{may_split, none_to_come}
use Rattle.wap_keys.proofs.ReaderLaws.{ending_past, all_by, none_follows}

module _ {A : Type 0} (meaning : Meaning A) where
  -- what holds where nothing follows
  end_here : (bytes taken rest : List ℕ) (all : KeysOf A) → bytes ≡ taken ++ rest
      → length taken ≤ KEYS_LIMIT → rest ≡ [] → said_at meaning End taken ≡ all
      → said_of meaning bytes ≡ all
  end_here bytes taken rest all is few none ends =
      let follows = none_follows taken rest few none in
      ap (said_of meaning) is
      ∙ all_by meaning taken rest few
      ∙ ap (λ (ending : Ending).
      said_at meaning ending (taken ++ take (KEYS_LIMIT - length taken) rest)) follows.0
      ∙ ap (λ (l : List ℕ). said_at meaning End (taken ++ l)) follows.1
      ∙ ap (said_at meaning End) (append-nil taken)
      ∙ ends

  -- what holds where nothing that follows matters
  bad_here : (start now : SourceSeen) (bytes taken : List ℕ) (all : KeysOf A)
      (may : MayGive start now bytes) → bytes ≡ taken ++ may.rest
      → length taken ≤ KEYS_LIMIT → IsBad meaning start now taken all → said_of meaning bytes ≡ all
  bad_here start now bytes taken all may is few (inl so) =
      ap (said_of meaning) is ∙ all_by meaning taken may.rest few
      ∙ so (ending_past (taken ++ may.rest)) (take (KEYS_LIMIT - length taken) may.rest)
  bad_here start now bytes taken all may is few (inr (end, ends)) =
      end_here bytes taken may.rest all is few (none_to_come start now bytes may end) ends

  -- what holds where a byte past the limit was taken
  past_by : (taken rest : List ℕ) → length taken ≡ KEYS_LIMIT + 1
      → said_of meaning (taken ++ rest) ≡ said_at meaning TooManyKeys (take KEYS_LIMIT taken)
  unfolding said_of
  past_by taken rest many =
      ap (λ (b : Bool). said_at meaning (cond b TooManyKeys End) (take KEYS_LIMIT (taken ++ rest)))
      (lt-ltb KEYS_LIMIT (length (taken ++ rest)) (omega (arith, many, length-append taken rest)))
      ∙ ap (said_at meaning TooManyKeys)
      (take-append-le KEYS_LIMIT taken rest (omega (arith, many)))

  known_by : (start now : SourceSeen) (bytes taken : List ℕ) (keys : List A) (ending : Ending)
      (may : MayGive start now bytes) → bytes ≡ taken ++ may.rest
      → EndsBy meaning start now taken keys ending → ending ≢ ReadFault
      → said_of meaning bytes ≡ record { keys = keys; ending = ending }
  known_by start now bytes taken keys End may is (end, few, ends) no_fault =
      end_here bytes taken may.rest (record { keys = keys; ending = End }) is few
      (none_to_come start now bytes may end) ends
  known_by start now bytes taken keys (BadKey line fault) may is (known, few, bad) no_fault =
      bad_here start now bytes taken (record { keys = keys; ending = BadKey line fault }) may is
      few bad
  known_by start now bytes taken keys TooManyKeys may is (many, ends) no_fault =
      ap (said_of meaning) is ∙ past_by taken may.rest many ∙ ends
  known_by start now bytes taken keys ReadFault may is ends no_fault = absurd (no_fault refl)

-- unless the source failed, the keys are those of all bytes
pub said_known : {A : Type 0} {meaning : Meaning A} {start now : SourceSeen} {taken : List ℕ}
    {keys : List A} {ending : Ending} → IsReadBy meaning start now taken keys ending
    → ending ≢ ReadFault → (bytes : List ℕ) → MayGive start now bytes
    → said_of meaning bytes ≡ record { keys = keys; ending = ending }
said_known {A} {meaning} {start} {now} {taken} {keys} {ending} read no_fault bytes may =
    known_by meaning start now bytes taken keys ending may
    (may_split start now taken bytes read.given.takes may) read.ends no_fault

-- by key lines
pub known_of : (start now : SourceSeen) (taken : List ℕ) (keys : List Key) (ending : Ending)
    → IsRead start now taken keys ending → ending ≢ ReadFault
    → (bytes : List ℕ) → MayGive start now bytes
    → keys_of bytes ≡ record { keys = keys; ending = ending }
known_of start now taken keys ending read = said_known read

-- where it failed, those of the whole lines that were taken
pub before_of : (start now : SourceSeen) (taken : List ℕ) (keys : List Key) (ending : Ending)
    → IsRead start now taken keys ending → ending ≡ ReadFault → IsReadBefore keys start now
before_of start now taken keys ending read fault = record {
  taken = taken;
  takes = read.given.takes;
  said = (subst (EndsBy _ start now taken keys) fault read.ends).1;
}
