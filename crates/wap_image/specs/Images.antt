-- Images of contexts: which bytes are which parts, item by item. This project's own.
use Rattle.std.specs.Prelude.{◌≡◌, ℕ, List, []}
use Rattle.std.specs.Int.{w64, from_be_bytes}
use Rattle.wap_base.specs.Charsets.{text_in}
use Rattle.wap_base.specs.Numbers.{IsMb}
use Rattle.wap_base.specs.declared.charset.Charset.TheVariants.{Utf8}
use Rattle.wap_base.specs.declared.limits.Limits.{Limits}
use Rattle.wap_image.specs.declared.context_parts.parts.ContextParts.{ContextParts}
use Rattle.wap_image.specs.declared.context_parts.parts.SavedTimer.{SavedTimer}
use Rattle.wap_image.specs.declared.context_parts.parts.SavedTimer.TheVariants.{NotStarted, Running}
use Rattle.wap_image.specs.declared.context_parts.parts.SavedTimer.TheVariants.{Off}
use Rattle.wap_image.specs.declared.kind.TimerKind.{TimerKind}
use Rattle.wap_image.specs.declared.kind.TimerKind.TheVariants as kind
use Rattle.wap_base.specs.formats.Sequences.{Then, IsByte, AreBytes, Passing, Made, MadeIf, AreMany}
use Rattle.wap_image.specs.Items.{is_head, is_drawn, is_budget, is_string_limit, is_history_limit}
use Rattle.wap_image.specs.Items.{is_depth_limit, timer_kind, is_time_left, is_variable_count}
use Rattle.wap_image.specs.Items.{is_value_length, is_next_name, is_entry_count, is_entry_text}

-- ---- texts

-- bytes after their number, which is one of these
abbrev pub IsSized : (List ℕ → ℕ → Type 0) → List ℕ → List ℕ → Type 0
IsSized IsSize bytes content = Then IsSize (λ size rest. AreBytes size rest content) bytes

-- a text in UTF-8 after the number of its bytes
abbrev pub IsText : (List ℕ → ℕ → Type 0) → List ℕ → List ℕ → Type 0
IsText IsSize = MadeIf (text_in Utf8) (IsSized IsSize)

-- ---- what stands at the beginning

-- the three bytes with which an image begins
abbrev pub IsHead : List ℕ → List ℕ → Type 0
IsHead = Passing is_head (AreBytes 3)

-- how many words were drawn: eight bytes, the most significant first
abbrev pub IsDrawn : List ℕ → ℕ → Type 0
IsDrawn = Passing is_drawn (Made (from_be_bytes w64) (AreBytes 8))

-- the turns of a key
abbrev pub IsBudget : List ℕ → ℕ → Type 0
IsBudget = Passing is_budget IsMb

-- the limits of strings, of the history and of calls
abbrev pub AreLimits : List ℕ → Limits → Type 0
AreLimits bytes limits =
    Then (Passing is_string_limit IsMb) (λ string.
    Then (Passing is_history_limit IsByte) (λ history rest.
    Made (λ depth. record { string = string; history = history; depth = depth })
    (Passing is_depth_limit IsByte) rest limits)) bytes

-- ---- timers

-- what follows the byte of a timer's kind
abbrev pub IsTimerOf : TimerKind → List ℕ → SavedTimer → Type 0
IsTimerOf kind.NotStarted bytes timer = (bytes ≡ []) × (timer ≡ NotStarted)
IsTimerOf kind.Running bytes timer = Made Running (Passing is_time_left IsMb) bytes timer
IsTimerOf kind.Off bytes timer = (bytes ≡ []) × (timer ≡ Off)

-- the byte of its kind, and for one that runs the tenths that are left
abbrev pub IsTimer : List ℕ → SavedTimer → Type 0
IsTimer bytes timer = Then (MadeIf timer_kind IsByte) (λ kind rest. IsTimerOf kind rest timer) bytes

-- ---- variables

-- the name of a variable after these
abbrev pub IsNextName : List (List ℕ × List ℕ) → List ℕ → List ℕ → Type 0
IsNextName before = Passing (is_next_name before) (IsText IsMb)

-- the text of a variable
abbrev pub IsValue : List ℕ → List ℕ → Type 0
IsValue = IsText (Passing is_value_length IsMb)

-- a variable after these: its name, and its text
abbrev pub IsVariable : List (List ℕ × List ℕ) → List ℕ → List ℕ × List ℕ → Type 0
IsVariable before bytes variable =
    Then (IsNextName before) (λ name rest. Made (λ value. (name, value)) IsValue rest variable)
    bytes

-- how many variables there are, and the variables in the order of their names
abbrev pub AreVariables : List ℕ → List (List ℕ × List ℕ) → Type 0
AreVariables bytes variables =
    Then (Passing is_variable_count IsMb) (λ count rest. AreMany IsVariable count rest variables)
    bytes

-- ---- entries

-- an entry of the history: its URL as it is written, and the number of its card
abbrev pub IsEntry : List ℕ → List ℕ × ℕ → Type 0
IsEntry bytes entry =
    Then (Passing is_entry_text (IsText IsMb))
    (λ url rest. Made (λ card. (url, card)) IsMb rest entry) bytes

-- how many entries there are, and the entries
abbrev pub AreEntries : Limits → SavedTimer → List ℕ → List (List ℕ × ℕ) → Type 0
AreEntries limits timer bytes entries =
    Then (Passing (is_entry_count limits.history timer) IsByte)
    (λ count rest. AreMany (λ before. IsEntry) count rest entries) bytes

-- ---- images

-- the parts of a context, and the turns of a key
abbrev pub Saved : Type 0
Saved = ContextParts × ℕ

-- parts and turns by what they hold
abbrev pub saved_of : ℕ → ℕ → ℕ → ℕ → Limits → SavedTimer → List (List ℕ × List ℕ)
    → List (List ℕ × ℕ) → Saved
saved_of seed start drawn budget limits timer vars history = (
  record {
    vars = vars;
    history = history;
    timer = timer;
    seed = seed;
    start = start;
    drawn = drawn;
    limits = limits;
  },
  budget,
)

-- the bytes are the image of these parts with these turns: the items, one after the other
unfoldable pub IsImage : List ℕ → Saved → Type 0
IsImage bytes saved =
    Then IsHead (λ head.
    Then IsMb (λ seed.
    Then IsMb (λ start.
    Then IsDrawn (λ drawn.
    Then IsBudget (λ budget.
    Then AreLimits (λ limits.
    Then IsTimer (λ timer.
    Then AreVariables (λ vars rest.
    Made (saved_of seed start drawn budget limits timer vars) (AreEntries limits timer) rest
    saved)))))))) bytes
