-- The items of an image are read as the relation has them, and refused as the refusal has them.
use Rattle.std.proofs.Common.{ℕ, List}
use Rattle.std.specs.Int.{w64, from_be_bytes}
use Rattle.wap_base.specs.Charsets.{text_in}
use Rattle.wap_base.specs.Numbers.{IsMb}
use Rattle.wap_base.specs.declared.charset.Charset.TheVariants.{Utf8}
use Rattle.wap_base.specs.declared.limits.Limits.{Limits}
use Rattle.wap_image.specs.declared.context_parts.fault.ImageFault.TheVariants as fault
use Rattle.wap_image.specs.declared.context_parts.parts.SavedTimer.{SavedTimer}
use Rattle.wap_image.specs.declared.context_parts.parts.SavedTimer.TheVariants.{NotStarted, Running}
use Rattle.wap_image.specs.declared.context_parts.parts.SavedTimer.TheVariants.{Off}
use Rattle.wap_image.specs.declared.kind.TimerKind.{TimerKind}
use Rattle.wap_image.specs.declared.kind.TimerKind.TheVariants as kind
use Rattle.wap_base.specs.formats.Sequences.{IsByte, AreBytes}
use Rattle.wap_image.specs.Items.{is_head, is_drawn, is_budget, is_string_limit, is_history_limit}
use Rattle.wap_image.specs.Items.{is_depth_limit, timer_kind, is_time_left, is_variable_count}
use Rattle.wap_image.specs.Items.{is_value_length, is_next_name, is_entry_count, is_entry_text}
use Rattle.wap_image.specs.Images.{IsText, IsHead, IsDrawn, IsBudget, AreLimits, IsTimerOf, IsTimer}
use Rattle.wap_image.specs.Images.{IsVariable, AreVariables, IsEntry, AreEntries, IsImage, saved_of}
use Rattle.wap_image.specs.Refusal.{Refusal, RefusesText, RefusesHead, RefusesDrawn, RefusesRange}
use Rattle.wap_image.specs.Refusal.{RefusesLimits, RefusesTimerOf, RefusesTimer}
use Rattle.wap_image.specs.Refusal.{RefusesVariable, RefusesVariables, RefusesEntry, RefusesEntries}
use Rattle.wap_image.specs.Refusal.{RefusesItems, RefusesNumber, LacksByte, LacksBytes}
use Rattle.wap_image.specs.inside.ByteReading.{Reader, byte_at, taken_at, number_at}
use Rattle.wap_image.specs.inside.ImageReading.{sized_at, text_at, head_at, drawn_at, budget_at}
use Rattle.wap_image.specs.inside.ImageReading.{string_limit_at, history_limit_at, depth_limit_at}
use Rattle.wap_image.specs.inside.ImageReading.{limits_at, time_left_at, timer_of_at, timer_kind_at}
use Rattle.wap_image.specs.inside.ImageReading.{timer_at, name_at, value_length_at, variable_at}
use Rattle.wap_image.specs.inside.ImageReading.{variable_count_at, variables_at, url_at, entry_at}
use Rattle.wap_image.specs.inside.ImageReading.{entry_count_at, entries_at, lists_at, items_at}
use Rattle.wap_base.proofs.formats.Readers.{Reads, reads_in_turn, reads_given, reads_passing}
use Rattle.wap_base.proofs.formats.Readers.{reads_made, reads_made_if}
use Rattle.wap_base.proofs.formats.Steps
use Rattle.wap_base.proofs.formats.Rows.{reads_many}

-- ---- the steps, with an image's faults

-- one byte
reads_byte : Reads byte_at IsByte LacksByte
reads_byte = Steps.reads_byte fault.Short

-- so many bytes
reads_taken : (size : ℕ) → Reads (taken_at size) (AreBytes size) (LacksBytes size)
reads_taken = Steps.reads_taken fault.Short

-- one number
reads_number : Reads number_at IsMb RefusesNumber
reads_number = Steps.reads_number fault.Short fault.Number

-- ---- texts

-- a text after the number of its bytes
reads_text : {size_at : Reader ℕ} {IsSize : List ℕ → ℕ → Type 0} {RefusesSize : Refusal}
    → Reads size_at IsSize RefusesSize
    → Reads (text_at size_at) (IsText IsSize) (RefusesText IsSize RefusesSize)
unfolding text_at sized_at
reads_text size = reads_made_if (text_in Utf8) fault.Text (reads_in_turn size reads_taken)

-- ---- what stands at the beginning

-- the three bytes with which an image begins
reads_head : Reads head_at IsHead RefusesHead
unfolding head_at
reads_head = reads_passing is_head (λ at. fault.Head) (reads_taken 3)

-- how many words were drawn
reads_drawn : Reads drawn_at IsDrawn RefusesDrawn
unfolding drawn_at
reads_drawn = reads_passing is_drawn fault.Range (reads_made (reads_taken 8) (from_be_bytes w64))

-- the turns of a key
reads_budget : Reads budget_at IsBudget (RefusesRange is_budget)
unfolding budget_at
reads_budget = reads_passing is_budget fault.Range reads_number

-- the limits
reads_limits : Reads limits_at AreLimits RefusesLimits
unfolding limits_at string_limit_at history_limit_at depth_limit_at
reads_limits =
    reads_in_turn (reads_passing is_string_limit fault.Range reads_number) (λ string.
    reads_in_turn (reads_passing is_history_limit fault.Range reads_byte) (λ history.
    reads_made (reads_passing is_depth_limit fault.Range reads_byte)
    (λ depth. record { string = string; history = history; depth = depth })))

-- ---- timers

-- what follows the byte of a kind
reads_timer_of : (kind : TimerKind)
    → Reads (timer_of_at kind) (IsTimerOf kind) (RefusesTimerOf kind)
unfolding timer_of_at time_left_at
reads_timer_of kind.NotStarted = reads_given NotStarted
reads_timer_of kind.Running =
    reads_made (reads_passing is_time_left fault.Range reads_number) Running
reads_timer_of kind.Off = reads_given Off

-- a timer
reads_timer : Reads timer_at IsTimer RefusesTimer
unfolding timer_at timer_kind_at
reads_timer = reads_in_turn (reads_made_if timer_kind fault.Range reads_byte) reads_timer_of

-- ---- variables

-- a variable after others
reads_variable : (before : List (List ℕ × List ℕ))
    → Reads (variable_at before) (IsVariable before) (RefusesVariable before)
unfolding variable_at name_at value_length_at
reads_variable before =
    reads_in_turn (reads_passing (is_next_name before) fault.Name (reads_text reads_number))
    (λ name.
    reads_made (reads_text (reads_passing is_value_length fault.Range reads_number))
    (λ value. (name, value)))

-- all variables
reads_variables : Reads variables_at AreVariables RefusesVariables
unfolding variables_at variable_count_at
reads_variables =
    reads_in_turn (reads_passing is_variable_count fault.Range reads_number)
    (λ count. reads_many reads_variable count)

-- ---- entries

-- an entry
reads_entry : Reads entry_at IsEntry RefusesEntry
unfolding entry_at url_at
reads_entry =
    reads_in_turn (reads_passing is_entry_text fault.Url (reads_text reads_number))
    (λ url. reads_made reads_number (λ card. (url, card)))

-- all entries
reads_entries : (limits : Limits) (timer : SavedTimer)
    → Reads (entries_at limits timer) (AreEntries limits timer) (RefusesEntries limits timer)
unfolding entries_at entry_count_at
reads_entries limits timer =
    reads_in_turn (reads_passing (is_entry_count limits.history timer) fault.Range reads_byte)
    (λ count. reads_many (λ before. reads_entry) count)

-- ---- images

-- all items
pub reads_items : Reads items_at IsImage RefusesItems
unfolding items_at lists_at IsImage
reads_items =
    reads_in_turn reads_head (λ head.
    reads_in_turn reads_number (λ seed.
    reads_in_turn reads_number (λ start.
    reads_in_turn reads_drawn (λ drawn.
    reads_in_turn reads_budget (λ budget.
    reads_in_turn reads_limits (λ limits.
    reads_in_turn reads_timer (λ timer.
    reads_in_turn reads_variables (λ vars.
    reads_made (reads_entries limits timer)
    (saved_of seed start drawn budget limits timer vars)))))))))
