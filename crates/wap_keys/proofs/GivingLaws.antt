-- What a source gave between two moments, and which bytes it may give.
use Rattle.std.proofs.Common.{◌≡◌, ℕ, List, [], ◌++◌, length, drop, refl, sym, ap, ◌∙◌, subst}
use Rattle.std.proofs.Common.{append_assoc, arith}
use Rattle.std.proofs.lemmas.List.{append-nil, drop_at}
use Rattle.wap_devices.specs.Sources.{SourceSeen, Coming, Left, Unknown, MayCome, Gives, MayGive}
use Rattle.wap_devices.proofs.Transfers.{Appends-then}
use Rattle.wap_keys.specs.Read.{GivesEnd}

-- ---- what it gave

-- nothing was given
pub gives_none : (before after : SourceSeen) → after.given ≡ before.given
    → after.coming ≡ before.coming → Gives [] before after
gives_none before after given coming = record {
  given = given ∙ sym (append-nil before.given);
  coming = λ rest may. subst (λ (c : Coming). MayCome c rest) coming may;
}

-- one piece after another is the two together
pub gives_both : (start now last : SourceSeen) (taken piece : List ℕ) → Gives taken start now
    → Gives piece now last → Gives (taken ++ piece) start last
gives_both start now last taken piece first second = record {
  given = Appends-then start.given now.given last.given taken piece first.given second.given;
  coming = λ rest may.
      subst (MayCome start.coming) (sym (append_assoc taken piece rest))
      (first.coming (piece ++ rest) (second.coming rest may));
}

-- ---- what it may give

-- what follows the same bytes is the same
same_after : (before xs ys : List ℕ) → before ++ xs ≡ before ++ ys → xs ≡ ys
same_after before xs ys same =
    sym (drop_at before xs (length before) refl)
    ∙ ap (drop (length before)) same
    ∙ drop_at before ys (length before) refl

-- what a source may give is what it gave, and what may be to come
pub may_split : (start now : SourceSeen) (taken bytes : List ℕ) → Gives taken start now
    → (may : MayGive start now bytes) → bytes ≡ taken ++ may.rest
may_split start now taken bytes gives may =
    same_after start.given bytes (taken ++ may.rest)
    (may.split ∙ ap (λ (l : List ℕ). l ++ may.rest) gives.given
    ∙ append_assoc start.given taken may.rest)

-- nothing is to come of a source that gave its end
pub none_to_come : (start now : SourceSeen) (bytes : List ℕ) (may : MayGive start now bytes)
    → GivesEnd start now → may.rest ≡ []
none_to_come start now bytes may end = may.ended (omega (arith, end.ends)) end.none

-- ---- a source that holds its bytes

held_by : (taken bytes rest : List ℕ) (before after : SourceSeen) → Gives taken before after
    → before.coming ≡ Left bytes → MayCome after.coming rest
    → (MayCome after.coming [] → rest ≡ []) → MayGive before after bytes
held_by taken bytes rest before after gives held may none = record {
  rest = rest;
  split =
      ap (λ (l : List ℕ). before.given ++ l)
      (subst (λ (c : Coming). MayCome c (taken ++ rest)) held (gives.coming rest may))
      ∙ sym (append_assoc before.given taken rest)
      ∙ ap (λ (l : List ℕ). l ++ rest) (sym gives.given);
  coming = may;
  ended = λ rose. none;
}

held_as : (taken bytes : List ℕ) (before after : SourceSeen) (coming : Coming)
    → after.coming ≡ coming → Gives taken before after → before.coming ≡ Left bytes
    → MayGive before after bytes
held_as taken bytes before after (Left left) is gives held =
    held_by taken bytes left before after gives held
    (subst (λ (c : Coming). MayCome c left) (sym is) refl)
    (subst (λ (c : Coming). MayCome c []) is)
held_as taken bytes before after Unknown is gives held =
    held_by taken bytes [] before after gives held
    (subst (λ (c : Coming). MayCome c []) (sym is) tt) (λ none. refl)

-- it may give them
pub held_gives : (taken bytes : List ℕ) (before after : SourceSeen) → Gives taken before after
    → before.coming ≡ Left bytes → MayGive before after bytes
held_gives taken bytes before after gives held =
    held_as taken bytes before after after.coming refl gives held
