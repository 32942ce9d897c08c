-- Reading an image from the left, with the first fault that is met.
use Rattle.std.specs.Prelude.{ℕ, ◌-◌, nat_lt, if◌then◌else◌, List, [], length, Result, Ok, Err}
use Rattle.std.specs.Int.{w64, from_be_bytes}
use Rattle.wap_base.specs.Outcome.{◌>>=◌}
use Rattle.wap_base.specs.Charsets.{text_in}
use Rattle.wap_base.specs.declared.charset.Charset.TheVariants.{Utf8}
use Rattle.wap_base.specs.declared.limits.Limits.{Limits}
use Rattle.wap_image.specs.declared.context_parts.fault.ImageFault.{ImageFault}
use Rattle.wap_image.specs.declared.context_parts.fault.ImageFault.TheVariants as fault
use Rattle.wap_image.specs.declared.context_parts.parts.SavedTimer.{SavedTimer}
use Rattle.wap_image.specs.declared.context_parts.parts.SavedTimer.TheVariants.{NotStarted, Running}
use Rattle.wap_image.specs.declared.context_parts.parts.SavedTimer.TheVariants.{Off}
use Rattle.wap_image.specs.declared.kind.TimerKind.{TimerKind}
use Rattle.wap_image.specs.declared.kind.TimerKind.TheVariants as kind
use Rattle.wap_image.specs.Items.{is_head, is_drawn, is_budget, is_string_limit, is_history_limit}
use Rattle.wap_image.specs.Items.{is_depth_limit, timer_kind, is_time_left, is_variable_count}
use Rattle.wap_image.specs.Items.{is_value_length, is_next_name, is_entry_count, is_entry_text}
use Rattle.wap_image.specs.Images.{Saved, saved_of}
use Rattle.wap_base.specs.formats.ByteReading.{in_turn, given, passing, made, made_if, many, row_at}
use Rattle.wap_image.specs.inside.ByteReading.{Reader, byte_at, taken_at, number_at}

-- bytes after their number, and a text of them
unfoldable pub sized_at : Reader ℕ → Reader (List ℕ)
sized_at size_at = in_turn size_at taken_at

unfoldable pub text_at : Reader ℕ → Reader (List ℕ)
text_at size_at = made_if (text_in Utf8) fault.Text (sized_at size_at)

unfoldable pub head_at : Reader (List ℕ)
head_at = passing is_head (λ at. fault.Head) (taken_at 3)

unfoldable pub drawn_at : Reader ℕ
drawn_at = passing is_drawn fault.Range (made (from_be_bytes w64) (taken_at 8))

unfoldable pub budget_at : Reader ℕ
budget_at = passing is_budget fault.Range number_at

unfoldable pub string_limit_at : Reader ℕ
string_limit_at = passing is_string_limit fault.Range number_at

unfoldable pub history_limit_at : Reader ℕ
history_limit_at = passing is_history_limit fault.Range byte_at

unfoldable pub depth_limit_at : Reader ℕ
depth_limit_at = passing is_depth_limit fault.Range byte_at

unfoldable pub limits_at : Reader Limits
limits_at =
    in_turn string_limit_at (λ string.
    in_turn history_limit_at (λ history.
    made (λ depth. record { string = string; history = history; depth = depth }) depth_limit_at))

unfoldable pub time_left_at : Reader ℕ
time_left_at = passing is_time_left fault.Range number_at

unfoldable pub timer_of_at : TimerKind → Reader SavedTimer
timer_of_at kind.NotStarted = given NotStarted
timer_of_at kind.Running = made Running time_left_at
timer_of_at kind.Off = given Off

unfoldable pub timer_kind_at : Reader TimerKind
timer_kind_at = made_if timer_kind fault.Range byte_at

unfoldable pub timer_at : Reader SavedTimer
timer_at = in_turn timer_kind_at timer_of_at

unfoldable pub name_at : List (List ℕ × List ℕ) → Reader (List ℕ)
name_at before = passing (is_next_name before) fault.Name (text_at number_at)

unfoldable pub value_length_at : Reader ℕ
value_length_at = passing is_value_length fault.Range number_at

unfoldable pub variable_at : List (List ℕ × List ℕ) → Reader (List ℕ × List ℕ)
variable_at before =
    in_turn (name_at before) (λ name. made (λ value. (name, value)) (text_at value_length_at))

unfoldable pub variable_count_at : Reader ℕ
variable_count_at = passing is_variable_count fault.Range number_at

unfoldable pub variables_at : Reader (List (List ℕ × List ℕ))
variables_at = in_turn variable_count_at (λ count. many variable_at count [])

unfoldable pub url_at : Reader (List ℕ)
url_at = passing is_entry_text fault.Url (text_at number_at)

unfoldable pub entry_at : Reader (List ℕ × ℕ)
entry_at = in_turn url_at (λ url. made (λ card. (url, card)) number_at)

unfoldable pub entry_count_at : Limits → SavedTimer → Reader ℕ
entry_count_at limits timer = passing (is_entry_count limits.history timer) fault.Range byte_at

unfoldable pub entries_at : Limits → SavedTimer → Reader (List (List ℕ × ℕ))
entries_at limits timer =
    in_turn (entry_count_at limits timer) (row_at entry_at)

-- the items after the numbers
unfoldable pub lists_at : ℕ → ℕ → ℕ → ℕ → Reader Saved
lists_at seed start drawn budget =
    in_turn limits_at (λ limits.
    in_turn timer_at (λ timer.
    in_turn variables_at (λ vars.
    made (saved_of seed start drawn budget limits timer vars) (entries_at limits timer))))

-- all items
unfoldable pub items_at : Reader Saved
items_at =
    in_turn head_at (λ head.
    in_turn number_at (λ seed.
    in_turn number_at (λ start.
    in_turn drawn_at (λ drawn.
    in_turn budget_at (lists_at seed start drawn)))))

-- nothing may follow
abbrev pub ended : ℕ → Saved × List ℕ → Result Saved ImageFault
ended end read =
    if nat_lt 0 (length read.1) then Err (fault.Rest (end - length read.1)) else Ok read.0

unfoldable pub image_at : List ℕ → Result Saved ImageFault
image_at bytes = items_at (length bytes) bytes >>= ended (length bytes)
