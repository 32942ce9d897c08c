-- What the items of an image may be, one by one. This project's own; names of variables are those
-- of WAP-191, section 10.3.1.
use Rattle.std.specs.Prelude.{ℕ, Bool, true, false, ◌&&◌, ◌||◌, ◌==◌, not, nat_lt, nat_le}
use Rattle.std.specs.Prelude.{if◌then◌else◌, List, [], ◌∷◌, codes, Option, Some, None}
use Rattle.std.specs.Prelude.{Result, Ok, Err, is_some}
use Rattle.std.specs.Option.{option_map_or}
use Rattle.std.specs.Ordering.{is_lt}
use Rattle.wap_base.specs.Count.{greatest_count}
use Rattle.wap_base.specs.Names.{is_name}
use Rattle.wap_base.specs.Texts.{is_same_text, text_cmp}
use Rattle.wap_base.specs.declared.limits.TheConstants.{LEAST_STRING, MOST_STRING, LEAST_HISTORY}
use Rattle.wap_base.specs.declared.limits.TheConstants.{MOST_HISTORY, LEAST_DEPTH, MOST_DEPTH}
use Rattle.wap_vars.specs.declared.limits.TheConstants.{VAR_LIMIT, TEXT_LIMIT}
use Rattle.wap_url.specs.declared.url.Url.{Url}
use Rattle.wap_url.specs.declared.fault.UrlFault.{UrlFault}
use Rattle.wap_url.specs.Calculation.{url_at}
use Rattle.wap_url.specs.Printing.{printed}
use Rattle.wap_image.specs.declared.context_parts.parts.SavedTimer.{SavedTimer}
use Rattle.wap_image.specs.declared.context_parts.parts.SavedTimer.TheVariants.{NotStarted, Running}
use Rattle.wap_image.specs.declared.context_parts.parts.SavedTimer.TheVariants.{Off}
use Rattle.wap_image.specs.declared.kind.TimerKind.{TimerKind}
use Rattle.wap_image.specs.declared.kind.TimerKind.TheVariants as kind
use Rattle.wap_image.specs.declared.kind.TheConstants.{LETTER_W, LETTER_I, FORMAT, NOT_STARTED}
use Rattle.wap_image.specs.declared.kind.TheConstants.{RUNNING, OFF}

-- ---- numbers

-- the bytes with which an image begins: two letters, and the number of the format
abbrev pub head : List ℕ
head = LETTER_W ∷ LETTER_I ∷ FORMAT ∷ []

abbrev pub is_head : List ℕ → Bool
is_head bytes = is_same_text bytes head

-- so many words were drawn: fewer than are counted at most
abbrev pub is_drawn : ℕ → Bool
is_drawn words = nat_lt words greatest_count

-- each key has some turns
abbrev pub is_budget : ℕ → Bool
is_budget turns = nat_lt 0 turns

-- limits that may be chosen
abbrev pub is_string_limit : ℕ → Bool
is_string_limit bytes = nat_le LEAST_STRING bytes && nat_le bytes MOST_STRING

abbrev pub is_history_limit : ℕ → Bool
is_history_limit entries = nat_le LEAST_HISTORY entries && nat_le entries MOST_HISTORY

abbrev pub is_depth_limit : ℕ → Bool
is_depth_limit calls = nat_le LEAST_DEPTH calls && nat_le calls MOST_DEPTH

-- ---- timers

-- what a timer is that begins with this byte
abbrev pub timer_kind : ℕ → Option TimerKind
timer_kind byte =
    if byte == NOT_STARTED then Some kind.NotStarted
    else if byte == RUNNING then Some kind.Running
    else if byte == OFF then Some kind.Off
    else None

-- a timer that runs has some time left
abbrev pub is_time_left : ℕ → Bool
is_time_left tenths = nat_lt 0 tenths

abbrev pub is_not_started : SavedTimer → Bool
is_not_started NotStarted = true
is_not_started (Running tenths) = false
is_not_started Off = false

-- ---- variables

-- as many variables as are kept
abbrev pub is_variable_count : ℕ → Bool
is_variable_count count = nat_le count VAR_LIMIT

-- as many bytes as a variable's text has
abbrev pub is_value_length : ℕ → Bool
is_value_length bytes = nat_le bytes TEXT_LIMIT

-- the name comes after that of the last of these variables, if there are some
abbrev pub is_after : List (List ℕ × List ℕ) → List ℕ → Bool
is_after [] name = true
is_after (variable ∷ []) name = is_lt (text_cmp variable.0 name)
is_after (variable ∷ next ∷ variables) name = is_after (next ∷ variables) name

-- the name that a variable may have after these
abbrev pub is_next_name : List (List ℕ × List ℕ) → List ℕ → Bool
is_next_name before name = is_name name && is_after before name

-- ---- entries

-- as many entries as the limit allows, and one at least where the timer has started
abbrev pub is_entry_count : ℕ → SavedTimer → ℕ → Bool
is_entry_count limit timer count = nat_le count limit && (is_not_started timer || nat_lt 0 count)

-- the scheme of the web
abbrev pub http : List ℕ
http = codes "http"

-- a URL of http with a host and without a fragment
abbrev pub is_entry : Url → Bool
is_entry url =
    option_map_or (λ scheme. is_same_text scheme http) url.scheme false
    && (is_some url.host && not (is_some url.fragment))

-- a text that is read as such a URL, which is written so
abbrev pub is_text_of : List ℕ → Result Url UrlFault → Bool
is_text_of text (Ok url) = is_entry url && is_same_text (printed url) text
is_text_of text (Err fault) = false

abbrev pub is_entry_text : List ℕ → Bool
is_entry_text text = is_text_of text (url_at text)
