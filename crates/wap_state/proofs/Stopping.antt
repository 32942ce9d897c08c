-- Sets that were stopped because memory ran out: the first of them stand.
use Rattle.std.proofs.Common.{◌≡◌, ℕ, List, [], ◌∷◌, ◌++◌, length, take, refl, sym, ap, subst, ◌∙◌}
use Rattle.std.proofs.Common.{ap₂, append_assoc}
use Rattle.wap_vars.specs.declared.fault.VarFault.{VarFault}
use Rattle.wap_vars.specs.Variables.{Variables}
use Rattle.wap_tokens.specs.declared.markup.deck.Node.{Node}
use Rattle.wap_cardrules.specs.Fields.{fields_of}
use Rattle.wap_cardrules.specs.Values.{Pairs}
use Rattle.wap_cardrules.specs.Setting.{set_one, set_all, set_each, default, defaults}
use Rattle.wap_cards.specs.inputs.Stopped.{FirstStand, DefaultsStand}
use Rattle.wap_cards.proofs.InputsLemmas.Orders.{set_after, first_stands}
use Rattle.wap_world.specs.World.{World}
use Rattle.wap_world.specs.declared.timer.Timer.{Timer}
use Rattle.wap_world.specs.declared.timer.Timer.TheVariants.{NotStarted, Running, Off, Expired}
use Rattle.wap_world.specs.Timers.{timer_started}

-- ---- sets in order

module _ (pairs done items left : Pairs) (name text : List ℕ) (split : pairs ≡ done ++ items) where
  -- one more is set
  pub split_next : items ≡ (name, text) ∷ left → pairs ≡ (done ++ (name, text) ∷ []) ++ left
  split_next next =
      split ∙ ap (λ (rest : Pairs). done ++ rest) next
      ∙ sym (append_assoc done ((name, text) ∷ []) left)

  pub stands_next : (vars before now : Variables) → before ≡ (set_all vars done).vars
      → now ≡ (set_one before (name, text)).vars
      → now ≡ (set_all vars (done ++ (name, text) ∷ [])).vars
  stands_next vars before now is set =
      set ∙ ap (λ (v : Variables). (set_one v (name, text)).vars) is
      ∙ sym (set_after vars done ((name, text) ∷ []))

  -- and what was refused goes on
  pub refused_next : (before now : Variables) (refused more whole : List VarFault)
      → items ≡ (name, text) ∷ left → now ≡ (set_one before (name, text)).vars
      → more ≡ refused ++ (set_one before (name, text)).refused
      → refused ++ (set_all before items).refused ≡ whole
      → more ++ (set_all now left).refused ≡ whole
  refused_next before now refused more whole next set adds goes_on =
      ap₂ (λ (all : List VarFault) (vars : Variables). all ++ (set_all vars left).refused) adds set
      ∙ append_assoc refused (set_one before (name, text)).refused
      (set_all (set_one before (name, text)).vars left).refused
      ∙ sym (ap (λ (rest : Pairs). refused ++ (set_all before rest).refused) next) ∙ goes_on

  -- none more is
  pub stopped_there : (vars before now : Variables) → before ≡ (set_all vars done).vars
      → now ≡ before → FirstStand vars pairs now
  stopped_there vars before now is kept =
      subst (λ (all : Pairs). FirstStand vars all now) (sym split)
      (first_stands vars now done items (kept ∙ is))

-- ---- defaults

take_whole : (fields : List Node) → take (length fields) fields ≡ fields
take_whole [] = refl
take_whole (field ∷ fields) = ap (λ (rest : List Node). field ∷ rest) (take_whole fields)

-- all of them stand
pub defaults_stand : (vars now : Variables) (card : Node) → now ≡ (defaults vars card).vars
    → DefaultsStand vars card now
defaults_stand vars now card is = (
  length (fields_of card),
  (
    0,
    is ∙ ap (λ (fields : List Node). (set_each default vars fields).vars)
        (sym (take_whole (fields_of card))),
  ),
)

-- a timer that starts leaves the variables
pub started_vars : (timer : Timer) (card : Node) (world : World)
    → (timer_started timer card world).vars ≡ world.vars
started_vars NotStarted card world = refl
started_vars (Running time) card world = refl
started_vars Off card world = refl
started_vars Expired card world = refl
