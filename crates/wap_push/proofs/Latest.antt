-- The latest of some indications, after one more push.
use Rattle.std.proofs.Common.{◌≡◌, ℕ, ◌≤◌, ◌<◌, Bool, true, false, cond, List, [], ◌∷◌, ◌++◌}
use Rattle.std.proofs.Common.{Option, Some, None, refl, ap, sym, ◌∙◌, nat_le, arith}
use Rattle.std.specs.List.{filter}
use Rattle.std.proofs.lemmas.Bool.{leb-true, leb-false, le-leb, lt-leb}
use Rattle.std.proofs.lemmas.List.Elements.{filter-append}
use Rattle.std.proofs.lemmas.List.{append-nil}
use Rattle.wap_push.specs.declared.indication.Indication.{Indication}
use Rattle.wap_push.specs.Inbox.{is_of, later, latest, winner_of}

-- the winner after one more push of its identifier
abbrev pub after : Option Indication → Indication → Indication
after None more = more
after (Some winner) more = later winner (Some more)

-- three in a row, by which of them were made no later than which
chosen : (p q r : Indication) (pq qr pr : Bool) → nat_le p.created q.created ≡ pq
    → nat_le q.created r.created ≡ qr → nat_le p.created r.created ≡ pr
    → later p (Some (cond qr r q)) ≡ later (cond pq q p) (Some r)
chosen p q r true true true pq_is qr_is pr_is =
    ap (λ (b : Bool). cond b r p) pr_is ∙ sym (ap (λ (b : Bool). cond b r q) qr_is)
chosen p q r true true false pq_is qr_is pr_is =
    let below : p.created ≤ q.created = leb-true p.created q.created pq_is in
    let above : q.created ≤ r.created = leb-true q.created r.created qr_is in
    let all : nat_le p.created r.created ≡ true = le-leb p.created r.created (omega arith) in
    absurd (cc (all, pr_is))
chosen p q r true false pr pq_is qr_is pr_is =
    ap (λ (b : Bool). cond b q p) pq_is ∙ sym (ap (λ (b : Bool). cond b r q) qr_is)
chosen p q r false true pr pq_is qr_is pr_is = refl
chosen p q r false false true pq_is qr_is pr_is =
    let below : q.created < p.created = leb-false p.created q.created pq_is in
    let above : r.created < q.created = leb-false q.created r.created qr_is in
    let all : nat_le p.created r.created ≡ false = lt-leb p.created r.created (omega arith) in
    absurd (cc (all, pr_is))
chosen p q r false false false pq_is qr_is pr_is =
    ap (λ (b : Bool). cond b q p) pq_is ∙ sym (ap (λ (b : Bool). cond b r p) pr_is)

taken : (p : Indication) (rest : Option Indication) (more : Indication)
    → later p (Some (after rest more)) ≡ after (Some (later p rest)) more
taken p None more = refl
taken p (Some q) more =
    chosen p q more (nat_le p.created q.created) (nat_le q.created more.created)
    (nat_le p.created more.created) refl refl refl

pub latest-push : (pushes : List Indication) (more : Indication)
    → latest (pushes ++ more ∷ []) ≡ Some (after (latest pushes) more)
latest-push [] more = refl
latest-push (p ∷ pushes) more =
    ap (λ (rest : Option Indication). Some (later p rest)) (latest-push pushes more)
    ∙ ap Some (taken p (latest pushes) more)

chosen_list : (pushes : List Indication) (more : Indication) (b : Bool) (id : List ℕ)
    → is_of id more ≡ b → filter (is_of id) (more ∷ []) ≡ cond b (more ∷ []) []
chosen_list pushes more b id is = ap (λ (b : Bool). cond b (more ∷ []) []) is

-- the winner of the identifier of one more push
pub winner_here : (pushes : List Indication) (more : Indication) (id : List ℕ)
    → is_of id more ≡ true
    → winner_of (pushes ++ more ∷ []) id ≡ Some (after (winner_of pushes id) more)
winner_here pushes more id is =
    ap latest (filter-append (is_of id) pushes (more ∷ [])
    ∙ ap (λ (rest : List Indication). filter (is_of id) pushes ++ rest)
    (chosen_list pushes more true id is))
    ∙ latest-push (filter (is_of id) pushes) more

-- the winner of another identifier
pub winner_elsewhere : (pushes : List Indication) (more : Indication) (id : List ℕ)
    → is_of id more ≡ false → winner_of (pushes ++ more ∷ []) id ≡ winner_of pushes id
winner_elsewhere pushes more id is =
    ap latest (filter-append (is_of id) pushes (more ∷ [])
    ∙ ap (λ (rest : List Indication). filter (is_of id) pushes ++ rest)
    (chosen_list pushes more false id is)
    ∙ append-nil (filter (is_of id) pushes))
