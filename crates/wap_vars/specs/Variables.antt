-- The variables of a browser (WAP-191, section 10.3): texts under names, seen as the pairs of a
-- name and its text in ascending order of names.
use Rattle.std.specs.Prelude.{◌≡◌, ◌≤◌, ℕ, true, List, length, Option}
use Rattle.std.specs.List.{All}
use Rattle.std.specs.List.Sorted.{IsStrictlySortedBy}
use Rattle.std.specs.Map.{keys_of, values_of, lookup, remove_entry}
use Rattle.std.specs.BTreeMap.{insert_entry}
use Rattle.wap_base.specs.Names.{is_name}
use Rattle.wap_base.specs.Texts.{is_same_text, text_cmp}
use Rattle.wap_base.specs.Utf8.{utf8_len}
use Rattle.wap_vars.specs.declared.limits.TheConstants.{VAR_LIMIT, TEXT_LIMIT}

-- pairs of a name and its text
abbrev pub Variables : Type 0
Variables = List (List ℕ × List ℕ)

-- the text under the name, where one is set
abbrev pub text_of : Variables → List ℕ → Option (List ℕ)
text_of vars name = lookup (is_same_text name) vars

-- with the text under the name, in place of the one that was there; a new name goes to its place
-- in the order
abbrev pub updated : Variables → List ℕ → List ℕ → Variables
updated vars name text = insert_entry text_cmp vars name text

-- without the name and its text
abbrev pub removed : Variables → List ℕ → Variables
removed vars name = remove_entry (is_same_text name) vars

-- each name stands once, and before those that follow it in the order of characters
abbrev pub AreInOrder : Variables → Type 0
AreInOrder vars = IsStrictlySortedBy text_cmp (keys_of vars)

-- what is true of all variables that are kept; the two limits are this project's own
pub record AreVars (vars : Variables) : Type 0 where
  pub ordered : AreInOrder vars
  pub named : All (λ (name : List ℕ). is_name name ≡ true) (keys_of vars)
  pub few : length vars ≤ VAR_LIMIT
  pub short : All (λ (text : List ℕ). utf8_len text ≤ TEXT_LIMIT) (values_of vars)
