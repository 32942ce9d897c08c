-- Defaults, field by field.
use Rattle.std.proofs.Common.{◌≡◌, ℕ, ◌+◌, ◌<◌, Bool, true, false, cond, List, [], ◌∷◌, ◌++◌}
use Rattle.std.proofs.Common.{length, take, get_or, Option, Some, None}
use Rattle.std.proofs.Common.{slice_get, refl, sym, ap, subst, ◌∙◌, append_assoc}
use Rattle.std.specs.Option.{option_and_then, option_map_or}
use Rattle.std.proofs.lemmas.Option.{slice_get-get_or}
use Rattle.wap_cardrules.specs.Fields.{fields_of}
use Rattle.wap_cards.specs.inputs.Stopped.{FirstStand, default_sets, DefaultsStand}
use Rattle.std.proofs.lemmas.List.{append-nil, take_more}
use Rattle.wap_tokens.specs.declared.markup.deck.Node.{Node}
use Rattle.wap_tokens.specs.declared.markup.name.AttrName.TheVariants as attrs
use Rattle.wap_vars.specs.Variables.{Variables, removed}
use Rattle.wap_cardrules.specs.Values.{value_if}
use Rattle.wap_cardrules.specs.Inputs.{input_variable, takes}
use Rattle.wap_cardrules.specs.Setting.{set_one, accepted, default_text, set_each, default}
use Rattle.wap_cards.specs.inputs.inside.Defaults.{if_taken, taken_value, set_or_unset}

by_taken : (vars : Variables) (input : Node) (value : List ℕ) (is_taken : Bool)
    → cond is_taken (set_one vars (input_variable input, value))
    (accepted (removed vars (input_variable input)))
    ≡ set_or_unset vars (input_variable input) (cond is_taken (Some value) None)
by_taken vars input value true = refl
by_taken vars input value false = refl

by_value : (vars : Variables) (input : Node) (found : Option (List ℕ))
    → default_text vars input found
    ≡ set_or_unset vars (input_variable input) (option_and_then (if_taken vars input) found)
by_value vars input None = refl
by_value vars input (Some value) = by_taken vars input value (takes vars input value)

pub default_by : (vars : Variables) (input : Node)
    → default_text vars input (value_if vars attrs.Value input)
    ≡ set_or_unset vars (input_variable input) (taken_value vars input)
default_by vars input = by_value vars input (value_if vars attrs.Value input)

-- ---- one more field

each_vars : (vars : Variables) (fields : List Node) (field : Node)
    → (set_each default vars (fields ++ field ∷ [])).vars
    ≡ (default (set_each default vars fields).vars field).vars
each_vars vars [] field = refl
each_vars vars (first ∷ fields) field = each_vars (default vars first).vars fields field

each_refused : (vars : Variables) (fields : List Node) (field : Node)
    → (set_each default vars (fields ++ field ∷ [])).refused
    ≡ (set_each default vars fields).refused
    ++ (default (set_each default vars fields).vars field).refused
each_refused vars [] field = append-nil (default vars field).refused
each_refused vars (first ∷ fields) field =
    ap (λ more. (default vars first).refused ++ more)
    (each_refused (default vars first).vars fields field)
    ∙ sym (append_assoc (default vars first).refused
    (set_each default (default vars first).vars fields).refused
    (default (set_each default (default vars first).vars fields).vars field).refused)

module _ (vars : Variables) (fields : List Node) (i : ℕ) (field : Node) (within : i < length fields)
    (is : field ≡ get_or fields i field) where
  taken : take (i + 1) fields ≡ take i fields ++ field ∷ []
  taken = take_more fields i field within ∙ ap (λ (one : Node). take i fields ++ one ∷ []) (sym is)

  pub vars_next : (set_each default vars (take (i + 1) fields)).vars
      ≡ (default (set_each default vars (take i fields)).vars field).vars
  vars_next =
      ap (λ (fields : List Node). (set_each default vars fields).vars) taken
      ∙ each_vars vars (take i fields) field

  pub refused_next : (set_each default vars (take (i + 1) fields)).refused
      ≡ (set_each default vars (take i fields)).refused
      ++ (default (set_each default vars (take i fields)).vars field).refused
  refused_next =
      ap (λ (fields : List Node). (set_each default vars fields).refused) taken
      ∙ each_refused vars (take i fields) field

-- where it stops at a field, the defaults of those before it stand
pub stopped_at : (vars now before : Variables) (card : Node) (fields : List Node) (i : ℕ)
    (field : Node) → fields ≡ fields_of card → i < length fields → field ≡ get_or fields i field
    → before ≡ (set_each default vars (take i fields)).vars
    → FirstStand before (default_sets before field) now → DefaultsStand vars card now
stopped_at vars now before card fields i field all within is same first =
    let found : slice_get fields i ≡ Some field =
    slice_get-get_or fields i field within ∙ ap (λ (one : Node). Some one) (sym is) in
    let here : FirstStand before (option_map_or (default_sets before) (slice_get fields i) []) now =
    subst (λ (one : Option Node).
    FirstStand before (option_map_or (default_sets before) one []) now) (sym found) first in
    let there : FirstStand (set_each default vars (take i fields)).vars (option_map_or
    (default_sets (set_each default vars (take i fields)).vars) (slice_get fields i) []) now =
    subst (λ (b : Variables).
    FirstStand b (option_map_or (default_sets b) (slice_get fields i) []) now) same here in (
      i,
      subst (λ (fs : List Node). FirstStand (set_each default vars (take i fs)).vars (option_map_or
          (default_sets (set_each default vars (take i fs)).vars) (slice_get fs i) []) now)
          all there,
    )
