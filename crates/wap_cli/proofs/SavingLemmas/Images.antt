-- What saving parts comes to, as one reading.
use Rattle.std.proofs.Common.{◌≡◌, ◌↔◌, ◌∙◌, ℕ, Bool, true, false, cond, List, refl}
use Rattle.std.proofs.Common.{sym, ap, Result, Ok, Err}
use Rattle.std.specs.Prelude.{IfOk}
use Rattle.wap_base.specs.Outcome.{Meets}
use Rattle.wap_image.specs.declared.context_parts.parts.ContextParts.{ContextParts}
use Rattle.wap_image.specs.declared.context_parts.fault.SaveFault.{SaveFault}
use Rattle.wap_image.specs.declared.context_parts.fault.SaveFault.TheVariants.{Drawn, Card}
use Rattle.wap_image.specs.declared.context_parts.fault.SaveFault.TheVariants.{NoMemory}
use Rattle.wap_image.specs.Items.{is_drawn}
use Rattle.wap_image.specs.Rules.{are_short}
use Rattle.wap_image.specs.Spelling.{spelling}
use Rattle.wap_cli.specs.saving.Saving.{image_of}

abbrev Answer : Type 0
Answer = Result (List ℕ) SaveFault

by_tests : (drawn short : Bool) (bytes : List ℕ) (result : Answer)
    → IfOk result (λ found. found ≡ bytes) → (result ≡ Err Drawn) ↔ (drawn ≡ false)
    → (result ≡ Err Card) ↔ ((drawn ≡ true) × (short ≡ false))
    → Meets NoMemory (λ found. found) result
    (cond drawn (cond short (Ok bytes) (Err Card)) (Err Drawn))
by_tests true true bytes (Ok found) spelled is_so card = ap Ok (sym spelled)
by_tests true false bytes (Ok found) spelled is_so card =
    absurd (let e = card.1 (refl, refl) in cc e)
by_tests false short bytes (Ok found) spelled is_so card =
    absurd (let e = is_so.1 refl in cc e)
by_tests drawn short bytes (Err Drawn) spelled is_so card = λ known.
    ap (λ b. cond b (cond short (Ok bytes) (Err Card)) (Err Drawn)) (is_so.0 refl)
by_tests drawn short bytes (Err Card) spelled is_so card = λ known.
    let both = card.0 refl in
    ap (λ b. cond b (cond short (Ok bytes) (Err Card)) (Err Drawn)) both.0
    ∙ ap (λ (b : Bool). cond {A = Answer} b (Ok bytes) (Err Card)) both.1
by_tests drawn short bytes (Err NoMemory) spelled is_so card = λ known. absurd (known refl)

pub image_meets : (parts : ContextParts) (budget : ℕ) (result : Answer)
    → IfOk result (λ found. found ≡ spelling parts budget)
    → (result ≡ Err Drawn) ↔ (is_drawn parts.drawn ≡ false)
    → (result ≡ Err Card) ↔ ((is_drawn parts.drawn ≡ true) × (are_short parts ≡ false))
    → Meets NoMemory (λ found. found) result (image_of parts budget)
image_meets parts budget result spelled drawn card =
    by_tests (is_drawn parts.drawn) (are_short parts) (spelling parts budget) result spelled drawn
    card

drawn_is : (drawn : Bool) (bytes : List ℕ)
    → (◌≡◌ {A = Answer} (Ok bytes) (Err Drawn)) ↔ (drawn ≡ false) → drawn ≡ true
drawn_is true bytes is_so = refl
drawn_is false bytes is_so = absurd (let e = is_so.1 refl in cc e)

-- what is so where all words are counted is so of what was saved
pub whole_if : (drawn : Bool) (result : Answer) (P Q : Type 0)
    → (result ≡ Err Drawn) ↔ (drawn ≡ false) → (P → drawn ≡ true → Q)
    → IfOk result (λ bytes. P → Q)
whole_if drawn (Ok bytes) P Q is_so whole = λ p. whole p (drawn_is drawn bytes is_so)
whole_if drawn (Err fault) P Q is_so whole = tt
