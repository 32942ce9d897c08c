-- The names and codes of indications (WAP-167, section 8.3), as this crate's tables list them. The
-- codes are those of page 0; no other page has any. All these texts are of US-ASCII, so their bytes
-- are their characters.
use Rattle.std.specs.Prelude.{ℕ, Bool, ◌==◌, nat_eq, if◌then◌else◌, map, List, Option, None}
use Rattle.std.specs.Map.{lookup}
use Rattle.wap_base.specs.Texts.{is_same_text}
use Rattle.wap_tokens.specs.declared.markup.document.Token.{Token}
use Rattle.wap_tokens.specs.declared.markup.document.Token.TheVariants.{Code, Literal}
use Rattle.wap_push.specs.declared.indication.Action.{Action}
use Rattle.wap_push.specs.declared.names.PushTag.{PushTag}
use Rattle.wap_push.specs.declared.names.PushField.{PushField}
use Rattle.wap_push.specs.declared.tables.TheConstants.{PUSH_TAGS, PUSH_STARTS, PUSH_VALUES}
use Rattle.wap_push.specs.declared.tables.TheConstants.{PUSH_ACTIONS}
use Rattle.wap_push.specs.contracts.names.PushTag as tags
use Rattle.wap_push.specs.contracts.names.PushField as fields
use denote.Enum.Bare.{sameb}

-- ---- elements

-- whether two tags are the same
abbrev pub is_same_tag : PushTag → PushTag → Bool
is_same_tag = sameb tags.the_type

-- the tag of a token: a name of the string table is none
abbrev pub tag_in : ℕ → Token → Option PushTag
tag_in page (Code code) = if page == 0 then lookup (nat_eq code) PUSH_TAGS else None
tag_in page (Literal name) = None

-- ---- starts of attributes: an attribute, and the text with which its value begins

-- whether two attributes are the same
abbrev pub is_same_field : PushField → PushField → Bool
is_same_field = sameb fields.the_type

-- an attribute, and the text with which its value begins
abbrev pub Start : Type 0
Start = PushField × List ℕ

-- the starts by their codes, as the program's table lists them
unfoldable pub start_rows : List (ℕ × Start)
start_rows = map (λ row. (row.0, (row.1, row.2.now))) PUSH_STARTS

-- what a token starts: a name of the string table starts nothing
abbrev pub start_in : ℕ → Token → Option Start
start_in page (Code code) = if page == 0 then lookup (nat_eq code) start_rows else None
start_in page (Literal name) = None

-- ---- parts of values, and the values of `action`

-- the texts of parts of values by their codes, as the program's table lists them
unfoldable pub value_rows : List (ℕ × List ℕ)
value_rows = map (λ row. (row.0, row.1.now)) PUSH_VALUES

-- the text of a code on a page
abbrev pub value_of : ℕ → ℕ → Option (List ℕ)
value_of page code = if page == 0 then lookup (nat_eq code) value_rows else None

-- the values of `action`, as the program's table lists them
unfoldable pub action_rows : List (List ℕ × Action)
action_rows = map (λ row. (row.0.now, row.1)) PUSH_ACTIONS

-- what a value of `action` says
abbrev pub action_named : List ℕ → Option Action
action_named text = lookup (is_same_text text) action_rows
