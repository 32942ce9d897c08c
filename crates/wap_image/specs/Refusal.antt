-- Why bytes are no image: a prefix of whole items, and then an item that can't stand there. Each
-- refusal speaks of the length of the whole input, of the bytes that are left of it after whole
-- items, and of a fault; the place of the first byte that is left is the difference of the lengths.
-- This project's own.
use Rattle.std.specs.Prelude.{◌≡◌, ℕ, ◌-◌, ◌<◌, Bool, List, [], ◌++◌, length}
use Rattle.std.specs.Int.{w64, from_be_bytes}
use Rattle.wap_base.specs.Charsets.{text_in}
use Rattle.wap_base.specs.Numbers.{IsMb}
use Rattle.wap_base.specs.declared.charset.Charset.TheVariants.{Utf8}
use Rattle.wap_base.specs.declared.limits.Limits.{Limits}
use Rattle.wap_image.specs.declared.context_parts.fault.ImageFault.{ImageFault}
use Rattle.wap_image.specs.declared.context_parts.fault.ImageFault.TheVariants as fault
use Rattle.wap_image.specs.declared.context_parts.parts.SavedTimer.{SavedTimer}
use Rattle.wap_image.specs.declared.kind.TimerKind.{TimerKind}
use Rattle.wap_image.specs.declared.kind.TimerKind.TheVariants as kind
use Rattle.wap_base.specs.formats.Sequences.{IsByte, AreBytes, Passing, Made, MadeIf}
use Rattle.wap_base.specs.formats.Refusal as formats
use Rattle.wap_base.specs.formats.Refusal.{Never}
pub use Rattle.wap_base.specs.formats.Refusal.{RefusesInTurn, RefusesPassing, RefusesMadeIf}
pub use Rattle.wap_base.specs.formats.Refusal.{RefusesRowAfter as RefusesRow}
use Rattle.wap_image.specs.Items.{is_head, is_drawn, is_budget, is_string_limit, is_history_limit}
use Rattle.wap_image.specs.Items.{is_depth_limit, timer_kind, is_time_left, is_variable_count}
use Rattle.wap_image.specs.Items.{is_value_length, is_next_name, is_entry_count, is_entry_text}
use Rattle.wap_image.specs.Images.{IsSized, IsText, IsHead, IsDrawn, IsBudget, AreLimits, IsTimer}
use Rattle.wap_image.specs.Images.{IsNextName, IsVariable, AreVariables, IsEntry, Saved, IsImage}

-- the length of the input, what is left of it, and the fault
abbrev pub Refusal : Type 1
Refusal = formats.Refusal ImageFault

-- ---- what an item may lack

-- nothing is left where a byte has to stand
abbrev pub LacksByte : Refusal
LacksByte = formats.LacksByte fault.Short

-- fewer bytes are left than have to follow
abbrev pub LacksBytes : ℕ → Refusal
LacksBytes = formats.LacksBytes fault.Short

-- no number stands here: the input ends inside it, or it is too long
abbrev pub RefusesNumber : Refusal
RefusesNumber = formats.RefusesNumber fault.Short fault.Number

-- ---- texts

-- no text after the number of its bytes, which may be refused so
abbrev pub RefusesText : (List ℕ → ℕ → Type 0) → Refusal → Refusal
RefusesText IsSize RefusesSize =
    RefusesMadeIf (text_in Utf8) fault.Text (IsSized IsSize)
    (RefusesInTurn RefusesSize IsSize LacksBytes)

-- ---- items

abbrev pub RefusesHead : Refusal
RefusesHead = RefusesPassing is_head (λ at. fault.Head) (AreBytes 3) (LacksBytes 3)

abbrev pub RefusesDrawn : Refusal
RefusesDrawn =
    RefusesPassing is_drawn fault.Range (Made (from_be_bytes w64) (AreBytes 8)) (LacksBytes 8)

-- a number that isn't one of these
abbrev pub RefusesRange : (ℕ → Bool) → Refusal
RefusesRange test = RefusesPassing test fault.Range IsMb RefusesNumber

-- a byte that isn't one of these
abbrev pub RefusesByte : (ℕ → Bool) → Refusal
RefusesByte test = RefusesPassing test fault.Range IsByte LacksByte

abbrev pub RefusesLimits : Refusal
RefusesLimits =
    RefusesInTurn (RefusesRange is_string_limit) (Passing is_string_limit IsMb) (λ string.
    RefusesInTurn (RefusesByte is_history_limit) (Passing is_history_limit IsByte) (λ history.
    RefusesByte is_depth_limit))

abbrev pub RefusesTimerOf : TimerKind → Refusal
RefusesTimerOf kind.NotStarted = Never
RefusesTimerOf kind.Running = RefusesRange is_time_left
RefusesTimerOf kind.Off = Never

abbrev pub RefusesTimer : Refusal
RefusesTimer =
    RefusesInTurn (RefusesMadeIf timer_kind fault.Range IsByte LacksByte) (MadeIf timer_kind IsByte)
    RefusesTimerOf

-- ---- variables

abbrev pub RefusesName : List (List ℕ × List ℕ) → Refusal
RefusesName before =
    RefusesPassing (is_next_name before) fault.Name (IsText IsMb) (RefusesText IsMb RefusesNumber)

abbrev pub RefusesVariable : List (List ℕ × List ℕ) → Refusal
RefusesVariable before =
    RefusesInTurn (RefusesName before) (IsNextName before) (λ name.
    RefusesText (Passing is_value_length IsMb) (RefusesRange is_value_length))

abbrev pub RefusesVariables : Refusal
RefusesVariables =
    RefusesInTurn (RefusesRange is_variable_count) (Passing is_variable_count IsMb) (λ count.
    RefusesRow count IsVariable RefusesVariable [])

-- ---- entries

abbrev pub RefusesEntry : Refusal
RefusesEntry =
    RefusesInTurn
    (RefusesPassing is_entry_text fault.Url (IsText IsMb) (RefusesText IsMb RefusesNumber))
    (Passing is_entry_text (IsText IsMb)) (λ url. RefusesNumber)

abbrev pub RefusesEntries : Limits → SavedTimer → Refusal
RefusesEntries limits timer =
    RefusesInTurn (RefusesByte (is_entry_count limits.history timer))
    (Passing (is_entry_count limits.history timer) IsByte)
    (λ count. RefusesRow count (λ before. IsEntry) (λ before. RefusesEntry) [])

-- ---- images

-- no items stand here, one after the other
abbrev pub RefusesItems : Refusal
RefusesItems =
    RefusesInTurn RefusesHead IsHead (λ head.
    RefusesInTurn RefusesNumber IsMb (λ seed.
    RefusesInTurn RefusesNumber IsMb (λ start.
    RefusesInTurn RefusesDrawn IsDrawn (λ drawn.
    RefusesInTurn (RefusesRange is_budget) IsBudget (λ budget.
    RefusesInTurn RefusesLimits AreLimits (λ limits.
    RefusesInTurn RefusesTimer IsTimer (λ timer.
    RefusesInTurn RefusesVariables AreVariables (λ vars. RefusesEntries limits timer))))))))

-- the first thing in the bytes that no image can have there, and its place: an item, or what
-- follows a whole image
pub data IsRefused (bytes : List ℕ) (found : ImageFault) : Type 0 where
  inside : RefusesItems (length bytes) bytes found → IsRefused bytes found
  beyond : (saved : Saved) (prefix rest : List ℕ) → bytes ≡ prefix ++ rest → IsImage prefix saved
      → 0 < length rest → found ≡ fault.Rest (length bytes - length rest) → IsRefused bytes found
