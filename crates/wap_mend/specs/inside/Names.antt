-- How often names stand, and which are taken: a name stands no more often than it is taken. This
-- project's own.
use Rattle.std.specs.Prelude.{ℕ, ◌+◌, ◌≤◌, Bool, true, false}
use Rattle.std.specs.Prelude.{if◌then◌else◌, List, [], ◌∷◌, ◌++◌, Option, None}
use Rattle.std.specs.List.{list_any}
use Rattle.std.specs.Option.{option_to_list, option_and_then}
use Rattle.wap_base.specs.declared.name.Part.{Part}
use Rattle.wap_base.specs.Texts.{is_same_text}
use Rattle.wap_tokens.specs.declared.markup.deck.Node.{Node}
use Rattle.wap_tokens.specs.declared.markup.name.AttrName.{AttrName}
use Rattle.wap_tokens.specs.declared.markup.name.AttrName.TheVariants as attrs
use Rattle.wap_tokens.specs.declared.markup.name.Tag.TheVariants as tags
use Rattle.wap_tokens.specs.markup.Tables.{is_same_tag}
use Rattle.wap_tokens.specs.markup.Trees.{plain_text}
use Rattle.wap_tokens.specs.markup.Good.{first_of}
use Rattle.wap_deckcheck.specs.Places.{own_name, names_among}
use Rattle.wap_mend.specs.inside.Building.{Kept, value_among}

-- how often a text stands among others
abbrev pub times : List ℕ → List (List ℕ) → ℕ
times text [] = 0
times text (other ∷ others) = (if is_same_text text other then 1 else 0) + times text others

-- once where a text is taken
abbrev pub once_if : Bool → ℕ
once_if true = 1
once_if false = 0

abbrev pub taken : List ℕ → List (List ℕ) → ℕ
taken text texts = once_if (list_any (is_same_text text) texts)

-- the names of the dos in an element, its own among them
abbrev pub names_with : ℕ → Node → List (List ℕ)
names_with levels node = option_to_list (own_name true node) ++ names_among true levels node.kids

-- the name of a do by its attributes, or else its type
abbrev pub name_among : List (AttrName × List Part) → Option (List ℕ)
name_among rows =
    option_and_then plain_text
    (first_of (value_among attrs.Name rows) (value_among attrs.Type rows))

-- that of an element, if it is a do
abbrev pub own_name_of : Kept → Option (List ℕ)
own_name_of kept = if is_same_tag kept.tag tags.Do then name_among kept.rows else None

-- at most these names are added
abbrev pub Adds : List (List ℕ) → List (List ℕ) → List (List ℕ) → Type 0
Adds old new more = (text : List ℕ) → times text new ≤ times text old + times text more

-- names that are added were free, and are taken
abbrev pub Takes : List (List ℕ) → List (List ℕ) → List (List ℕ) → List (List ℕ) → Type 0
Takes names_before names_after old new =
    (text : List ℕ) →
    times text new + taken text names_before ≤ times text old + taken text names_after
