-- The winner of an identifier is the one that the relation says.
use Rattle.std.proofs.Common.{◌≡◌, ℕ, ◌≤◌, ◌<◌, Bool, true, false, cond, List, [], ◌∷◌, ◌++◌}
use Rattle.std.proofs.Common.{Option, Some, None, refl, ap, sym, subst, ◌∙◌, nat_le, arith}
use Rattle.std.specs.List.{AllByRecursion, filter}
use Rattle.std.proofs.lemmas.Bool.{leb-true, leb-false}
use Rattle.wap_push.specs.declared.indication.Indication.{Indication}
use Rattle.wap_push.specs.Inbox.{is_of, later, latest, winner_of, IsWinner}

module _ (id : List ℕ) where
  abbrev NoneOf : List Indication → Type 0
  NoneOf pushes = AllByRecursion (λ (p : Indication). is_of id p ≡ true → ⊥) pushes

  abbrev UpTo : ℕ → List Indication → Type 0
  UpTo time pushes =
      AllByRecursion (λ (p : Indication). is_of id p ≡ true → p.created ≤ time) pushes

  abbrev Below : ℕ → List Indication → Type 0
  Below time pushes =
      AllByRecursion (λ (p : Indication). is_of id p ≡ true → p.created < time) pushes

  -- the winner with a push of this identifier before the others, and with one of another
  pub own_first : (p : Indication) (ps : List Indication) → is_of id p ≡ true
      → winner_of (p ∷ ps) id ≡ Some (later p (winner_of ps id))
  own_first p ps is =
      ap (λ (b : Bool). latest (cond b (p ∷ filter (is_of id) ps) (filter (is_of id) ps))) is

  pub other_first : (p : Indication) (ps : List Indication) → is_of id p ≡ false
      → winner_of (p ∷ ps) id ≡ winner_of ps id
  other_first p ps is =
      ap (λ (b : Bool). latest (cond b (p ∷ filter (is_of id) ps) (filter (is_of id) ps))) is

  -- the same after one push more before the others
  none_at : (p : Indication) (ps : List Indication) (b : Bool) → is_of id p ≡ b
      → (winner_of ps id ≡ None → NoneOf ps) → winner_of (p ∷ ps) id ≡ None → NoneOf (p ∷ ps)
  none_at p ps true is rest found = absurd (cc (own_first p ps is, found))
  none_at p ps false is rest found =
      ((λ own. absurd (cc (own, is))), rest (sym (other_first p ps is) ∙ found))

  -- where there is no winner there is no push
  none : (ps : List Indication) → winner_of ps id ≡ None → NoneOf ps
  none [] is = tt
  none (p ∷ ps) is = none_at p ps (is_of id p) refl (none ps) is

  -- where there is no push of the identifier, all were made before any time
  below_none : (time : ℕ) (ps : List Indication) → NoneOf ps → Below time ps
  below_none time [] absent = tt
  below_none time (p ∷ ps) absent =
      ((λ own. absurd (absent.0 own)), below_none time ps absent.1)

  -- what was made before a time was made before a later one
  below_later : (time more : ℕ) (ps : List Indication) → time ≤ more → Below time ps
      → Below more ps
  below_later time more [] up below = tt
  below_later time more (p ∷ ps) up below = (
    (λ own. let under : p.created < time = below.0 own in omega arith),
    below_later time more ps up below.1,
  )

  -- around a winner that was made before another time all were
  below_all : (time : ℕ) (before after : List Indication) (w : Indication) → w.created < time
      → UpTo w.created before → Below w.created after → Below time (before ++ w ∷ after)
  below_all time [] after w less up below =
      ((λ own. less), below_later w.created time after (omega arith) below)
  below_all time (p ∷ ps) after w less up below = (
    (λ own. let under : p.created ≤ w.created = up.0 own in omega arith),
    below_all time ps after w less up.1 below,
  )

  -- a first push wins that was made after all others
  first_wins : (p : Indication) (ps : List Indication) → is_of id p ≡ true → Below p.created ps
      → IsWinner (p ∷ ps) id p
  first_wins p ps is below = record {
    before = [];
    after = ps;
    spelled = refl;
    own = is;
    not_later = tt;
    earlier = below;
  }

  -- a winner stays one after a push before the others that wasn't made later
  after_one : (p : Indication) (ps : List Indication) (w : Indication) → IsWinner ps id w
      → (is_of id p ≡ true → p.created ≤ w.created) → IsWinner (p ∷ ps) id w
  after_one p ps w is up = record {
    before = p ∷ is.before;
    after = is.after;
    spelled = ap (λ (rest : List Indication). p ∷ rest) is.spelled;
    own = is.own;
    not_later = (up, is.not_later);
    earlier = is.earlier;
  }

  -- of a push and the winner of the others, the later one wins
  two : (p : Indication) (ps : List Indication) (w : Indication) (b : Bool)
      → nat_le p.created w.created ≡ b → is_of id p ≡ true → IsWinner ps id w
      → IsWinner (p ∷ ps) id (cond b w p)
  two p ps w true up is won = after_one p ps w won (λ own. leb-true p.created w.created up)
  two p ps w false up is won =
      let less : w.created < p.created = leb-false p.created w.created up in
      first_wins p ps is (subst (Below p.created) (sym won.spelled)
      (below_all p.created won.before won.after w less won.not_later won.earlier))

  -- after a push of the identifier, by the winner of the others
  own_at : (p : Indication) (ps : List Indication) (o : Option Indication) → winner_of ps id ≡ o
      → is_of id p ≡ true → ((w : Indication) → winner_of ps id ≡ Some w → IsWinner ps id w)
      → IsWinner (p ∷ ps) id (later p o)
  own_at p ps None o_is is rest =
      first_wins p ps is (below_none p.created ps (none ps o_is))
  own_at p ps (Some w) o_is is rest =
      two p ps w (nat_le p.created w.created) refl is (rest w o_is)

  -- after a push of this identifier or another
  push_at : (p : Indication) (ps : List Indication) (b : Bool) → is_of id p ≡ b
      → ((w : Indication) → winner_of ps id ≡ Some w → IsWinner ps id w)
      → (w : Indication) → winner_of (p ∷ ps) id ≡ Some w → IsWinner (p ∷ ps) id w
  push_at p ps true is rest w found =
      let same : later p (winner_of ps id) ≡ w = cc (own_first p ps is, found) in
      subst (IsWinner (p ∷ ps) id) same (own_at p ps (winner_of ps id) refl is rest)
  push_at p ps false is rest w found =
      after_one p ps w (rest w (sym (other_first p ps is) ∙ found)) (λ own. absurd (cc (own, is)))

  -- the winner that is calculated
  wins : (ps : List Indication) (w : Indication) → winner_of ps id ≡ Some w → IsWinner ps id w
  wins [] w found = absurd (cc found)
  wins (p ∷ ps) w found = push_at p ps (is_of id p) refl (wins ps) w found

-- the winner of an identifier
pub winner_found : (pushes : List Indication) (id : List ℕ) (winner : Indication)
    → winner_of pushes id ≡ Some winner → IsWinner pushes id winner
winner_found pushes id winner found = wins id pushes winner found

-- and where there is none
pub none_found : (pushes : List Indication) (id : List ℕ) → winner_of pushes id ≡ None
    → AllByRecursion (λ (p : Indication). is_of id p ≡ true → ⊥) pushes
none_found pushes id found = none id pushes found
