-- The winners after one more push.
use Rattle.std.proofs.Common.{◌≡◌, ℕ, ◌<◌, Bool, true, false, cond, List, [], ◌∷◌, ◌++◌}
use Rattle.std.proofs.Common.{Option, Some, None, refl, ap, sym, subst, ◌∙◌, nat_lt, arith}
use Rattle.std.specs.Prelude.{find, IsTrue, ◌↔◌}
use Rattle.std.specs.List.{AllByRecursion}
use Rattle.std.specs.List.Sorted.{IsStrictlySortedBy}
use Rattle.std.specs.BTreeMap.{is_at, insert_entry}
use Rattle.std.specs.Map.{lookup, keys_of, values_of}
use Rattle.std.specs.Cmp.Lexicographic.{texts_ties, bytes_decides, nat_list_eq_equiv}
use Rattle.std.proofs.lemmas.Bool.{ltb-true, ltb-false, le-leb, lt-leb}
use Rattle.wap_base.specs.Texts.{text_cmp}
use Rattle.wap_push.specs.declared.indication.Indication.{Indication}
use Rattle.wap_push.specs.Inbox.{is_of, winner_of, HaveWinners, alerts, IsAlert}
use Rattle.wap_push.specs.inside.Keyed.{Entry, IsUnder, AreKeyed, loses}
use Rattle.wap_push.proofs.Latest.{after, winner_here, winner_elsewhere}
use Rattle.wap_push.proofs.Keys.{found_by_id, ids_are_keys, keyed_with}

-- a winner that was made later stays
pub stays_winner : (winner more : Indication) → nat_lt more.created winner.created ≡ true
    → after (Some winner) more ≡ winner
stays_winner winner more later_is =
    ap (λ (b : Bool). cond b more winner)
    (lt-leb winner.created more.created (ltb-true more.created winner.created later_is))

-- a push that doesn't lose wins
pub won_over : (found : Option Indication) (more : Indication) → loses more found ≡ false
    → after found more ≡ more
won_over None more not_lost = refl
won_over (Some winner) more not_lost =
    ap (λ (b : Bool). cond b more winner)
    (le-leb winner.created more.created (ltb-false more.created winner.created not_lost))

-- the same identifier
same_id : (id : List ℕ) (more : Indication) → is_of id more ≡ true → id ≡ more.id
same_id id more is = (bytes_decides id more.id).0 is

own_id : (more : Indication) → is_of more.id more ≡ true
own_id more = (bytes_decides more.id more.id).1 refl

itself : (n : ℕ) → n < n → ⊥
itself n less = absurd (omega arith)

-- ---- a push that loses

lost_at : (pushes winners : List Indication) (more winner : Indication) (id : List ℕ) (b : Bool)
    → is_of id more ≡ b → HaveWinners pushes winners
    → find (is_of more.id) winners ≡ Some winner
    → nat_lt more.created winner.created ≡ true
    → find (is_of id) winners ≡ winner_of (pushes ++ more ∷ []) id
lost_at pushes winners more winner id true is have there late =
    let here : find (is_of id) winners ≡ Some winner =
    ap (λ (id : List ℕ). find (is_of id) winners) (same_id id more is) ∙ there in
    here ∙ ap Some (sym (stays_winner winner more late))
    ∙ ap (λ (found : Option Indication). Some (after found more)) (sym here ∙ have.each id)
    ∙ sym (winner_here pushes more id is)
lost_at pushes winners more winner id false is have there late =
    have.each id ∙ sym (winner_elsewhere pushes more id is)

lost_to : (pushes winners : List Indication) (more : Indication) (found : Option Indication)
    → HaveWinners pushes winners → find (is_of more.id) winners ≡ found → loses more found ≡ true
    → HaveWinners (pushes ++ more ∷ []) winners
lost_to pushes winners more None have there late = absurd (cc late)
lost_to pushes winners more (Some winner) have there late = record {
  ordered = have.ordered;
  each = λ id. lost_at pushes winners more winner id (is_of id more) refl have there late;
}

pub late_push : (pushes winners : List Indication) (more : Indication) → HaveWinners pushes winners
    → loses more (find (is_of more.id) winners) ≡ true → HaveWinners (pushes ++ more ∷ []) winners
late_push pushes winners more have late =
    lost_to pushes winners more (find (is_of more.id) winners) have refl late

not_alert_to : (pushes winners : List Indication) (more : Indication) (found : Option Indication)
    → HaveWinners pushes winners → find (is_of more.id) winners ≡ found → loses more found ≡ true
    → winner_of (pushes ++ more ∷ []) more.id ≡ Some more → ⊥
not_alert_to pushes winners more None have there late wins = absurd (cc late)
not_alert_to pushes winners more (Some winner) have there late wins =
    let now : winner_of (pushes ++ more ∷ []) more.id ≡ Some winner =
    sym (lost_at pushes winners more winner more.id true (own_id more) have there late) ∙ there in
    let same : winner ≡ more = cc (now, wins) in
    let less : more.created < winner.created =
    ltb-true more.created winner.created late in
    itself more.created (subst (λ (w : Indication). more.created < w.created) same less)

pub not_alert : (pushes winners : List Indication) (more : Indication) → HaveWinners pushes winners
    → loses more (find (is_of more.id) winners) ≡ true → IsAlert (pushes ++ more ∷ []) more → ⊥
not_alert pushes winners more have late alert =
    not_alert_to pushes winners more (find (is_of more.id) winners) have refl late alert.wins

-- ---- a push that wins

won_at : (pushes winners new : List Indication) (more : Indication) (id : List ℕ) (b : Bool)
    → is_of id more ≡ b → HaveWinners pushes winners
    → loses more (find (is_of more.id) winners) ≡ false
    → find (is_of id) new ≡ cond b (Some more) (find (is_of id) winners)
    → find (is_of id) new ≡ winner_of (pushes ++ more ∷ []) id
won_at pushes winners new more id true is have not_lost put =
    let same : winner_of pushes id ≡ find (is_of more.id) winners =
    sym (have.each id) ∙ ap (λ (id : List ℕ). find (is_of id) winners) (same_id id more is) in
    put ∙ ap Some (sym (won_over (find (is_of more.id) winners) more not_lost))
    ∙ ap (λ (found : Option Indication). Some (after found more)) (sym same)
    ∙ sym (winner_here pushes more id is)
won_at pushes winners new more id false is have not_lost put =
    put ∙ have.each id ∙ sym (winner_elsewhere pushes more id is)

-- the entries after one more push have the winners
pub won : (pushes : List Indication) (entries new : List Entry) (more : Indication)
    → HaveWinners pushes (values_of entries) → AllByRecursion IsUnder entries
    → AllByRecursion IsUnder new → IsStrictlySortedBy text_cmp (keys_of new)
    → loses more (find (is_of more.id) (values_of entries)) ≡ false
    → ((id : List ℕ) → lookup (is_at (text_cmp id)) new
    ≡ cond (is_at (text_cmp more.id) id) (Some more) (lookup (is_at (text_cmp id)) entries))
    → HaveWinners (pushes ++ more ∷ []) (values_of new)
won pushes entries new more have keyed new_keyed ordered not_lost put = record {
  ordered = subst (IsStrictlySortedBy text_cmp) (ids_are_keys new new_keyed) ordered;
  each = λ id.
      won_at pushes (values_of entries) (values_of new) more id (is_of id more) refl have not_lost
      (sym (found_by_id id new new_keyed) ∙ put id
      ∙ ap (λ (b : Bool). cond b (Some more) (lookup (is_at (text_cmp id)) entries))
      (sym (texts_ties more.id id) ∙ nat_list_eq_equiv.symm more.id id)
      ∙ ap (λ (found : Option Indication). cond (is_of id more) (Some more) found)
      (found_by_id id entries keyed));
}

won_now : (pushes winners : List Indication) (more : Indication) → HaveWinners pushes winners
    → loses more (find (is_of more.id) winners) ≡ false
    → winner_of (pushes ++ more ∷ []) more.id ≡ Some more
won_now pushes winners more have not_lost =
    winner_here pushes more more.id (own_id more)
    ∙ ap (λ (found : Option Indication). Some (after found more)) (sym (have.each more.id))
    ∙ ap Some (won_over (find (is_of more.id) winners) more not_lost)

-- a push that wins is shown where it is to be met like this
pub alert_where : (pushes winners : List Indication) (more : Indication) (alert : Bool)
    → HaveWinners pushes winners → loses more (find (is_of more.id) winners) ≡ false
    → alert ≡ alerts more.action → IsTrue alert ↔ IsAlert (pushes ++ more ∷ []) more
alert_where pushes winners more alert have not_lost is = (
  λ so. record { wins = won_now pushes winners more have not_lost; shown = sym is ∙ so },
  λ alert. is ∙ alert.shown,
)

-- ---- a map after one more push

-- what a map has after one more push is under identifiers
pub keyed_after : (entries new : List Entry) (more : Indication) (key : List ℕ) → AreKeyed entries
    → key ≡ more.id → new ≡ insert_entry text_cmp entries key more
    → IsStrictlySortedBy text_cmp (keys_of new) → AreKeyed new
keyed_after entries new more key are under is ordered = record {
  ordered = ordered;
  keyed =
      subst (λ (all : List Entry). AllByRecursion IsUnder all) (sym is)
      (keyed_with key more under entries are.keyed);
}

-- what a map has after one more push that doesn't lose are the winners
pub winners_after : (pushes seen : List Indication) (entries new : List Entry) (more : Indication)
    (key : List ℕ) → values_of entries ≡ seen → AreKeyed entries → key ≡ more.id
    → new ≡ insert_entry text_cmp entries key more → IsStrictlySortedBy text_cmp (keys_of new)
    → ((id : List ℕ) → lookup (is_at (text_cmp id)) new
    ≡ cond (is_at (text_cmp key) id) (Some more) (lookup (is_at (text_cmp id)) entries))
    → loses more (find (is_of more.id) seen) ≡ false → HaveWinners pushes seen
    → HaveWinners (pushes ++ more ∷ []) (values_of new)
winners_after pushes seen entries new more key seen_is are under is ordered put not_lost have =
    won pushes entries new more (subst (HaveWinners pushes) (sym seen_is) have) are.keyed
    (keyed_after entries new more key are under is ordered).keyed ordered
    (ap (λ (all : List Indication). loses more (find (is_of more.id) all)) seen_is ∙ not_lost)
    (λ id. put id
    ∙ ap (λ (k : List ℕ). cond (is_at (text_cmp k) id) (Some more)
    (lookup (is_at (text_cmp id)) entries)) under)
