-- Sets that were stopped because memory ran out: the first of them may stand, and nothing else
-- changed. This project's own.
use Rattle.std.specs.Prelude.{◌≡◌, ℕ, take, if◌then◌else◌, slice_get, List, []}
use Rattle.std.specs.Option.{option_map_or}
use Rattle.wap_tokens.specs.declared.markup.deck.Node.{Node}
use Rattle.wap_tokens.specs.declared.markup.name.Tag.TheVariants as tags
use Rattle.wap_tokens.specs.markup.Tables.{is_same_tag}
use Rattle.wap_vars.specs.Variables.{Variables}
use Rattle.wap_cardrules.specs.Fields.{fields_of, field_with}
use Rattle.wap_cardrules.specs.Selects.{choice_of, choice_with}
use Rattle.wap_cardrules.specs.Setting.{set_all, set_each, default, choice_sets}

-- some first of these sets stand
abbrev pub FirstStand : Variables → List (List ℕ × List ℕ) → Variables → Type 0
FirstStand vars sets now = (count : ℕ) × (now ≡ (set_all vars (take count sets)).vars)

-- the sets of a select by default; an input has one set at most
abbrev pub default_sets : Variables → Node → List (List ℕ × List ℕ)
default_sets vars field =
    if is_same_tag field.tag tags.Select then choice_sets vars field (choice_of vars field) else []

-- the defaults of some first fields stand, and some first sets of the next
abbrev pub DefaultsStand : Variables → Node → Variables → Type 0
DefaultsStand vars card now = (count : ℕ) × (
    let before = (set_each default vars (take count (fields_of card))).vars in
    FirstStand before
    (option_map_or (default_sets before) (slice_get (fields_of card) count) []) now)

-- the sets of a choice
abbrev pub chosen_sets : Variables → ℕ → Node → List (List ℕ × List ℕ)
chosen_sets vars m select = choice_sets vars select (choice_with select (choice_of vars select) m)

-- some first sets of a choice stand, where there is a select of this number
abbrev pub ChoiceStands : Variables → Node → ℕ → ℕ → Variables → Type 0
ChoiceStands vars card n m now =
    FirstStand vars (option_map_or (chosen_sets vars m) (field_with tags.Select card n) []) now
