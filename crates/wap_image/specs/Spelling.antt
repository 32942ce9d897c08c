-- The one spelling that is written for the parts of a context: the shortest numbers. This project's
-- own.
use Rattle.std.specs.Prelude.{ℕ, List, [], ◌∷◌, ◌++◌, length, encode_utf8_all}
use Rattle.std.specs.List.{flat_map}
use Rattle.std.specs.Int.{w64, to_be_bytes}
use Rattle.wap_base.specs.Numbers.{mb_spelling}
use Rattle.wap_base.specs.declared.limits.Limits.{Limits}
use Rattle.wap_image.specs.declared.context_parts.parts.ContextParts.{ContextParts}
use Rattle.wap_image.specs.declared.context_parts.parts.SavedTimer.{SavedTimer}
use Rattle.wap_image.specs.declared.context_parts.parts.SavedTimer.TheVariants.{NotStarted, Running}
use Rattle.wap_image.specs.declared.context_parts.parts.SavedTimer.TheVariants.{Off}
use Rattle.wap_image.specs.declared.kind.TheConstants.{NOT_STARTED, RUNNING, OFF}
use Rattle.wap_image.specs.Items.{head}

-- the number of its bytes in UTF-8, and these
abbrev pub text_spelling : List ℕ → List ℕ
text_spelling text = mb_spelling (length (encode_utf8_all text)) ++ encode_utf8_all text

abbrev pub limits_spelling : Limits → List ℕ
limits_spelling limits = mb_spelling limits.string ++ limits.history ∷ limits.depth ∷ []

-- the byte of its kind, and the tenths that are left
abbrev pub timer_spelling : SavedTimer → List ℕ
timer_spelling NotStarted = NOT_STARTED ∷ []
timer_spelling (Running tenths) = RUNNING ∷ mb_spelling tenths
timer_spelling Off = OFF ∷ []

-- a name and a text
abbrev pub variable_spelling : List ℕ × List ℕ → List ℕ
variable_spelling variable = text_spelling variable.0 ++ text_spelling variable.1

-- a URL and the number of a card
abbrev pub entry_spelling : List ℕ × ℕ → List ℕ
entry_spelling entry = text_spelling entry.0 ++ mb_spelling entry.1

-- their number, and the variables
abbrev pub variables_spelling : List (List ℕ × List ℕ) → List ℕ
variables_spelling variables =
    mb_spelling (length variables) ++ flat_map variable_spelling variables

-- their number in one byte, and the entries
abbrev pub entries_spelling : List (List ℕ × ℕ) → List ℕ
entries_spelling entries = length entries ∷ flat_map entry_spelling entries

-- the items, one after the other
unfoldable pub spelling : ContextParts → ℕ → List ℕ
spelling parts budget =
    head
    ++ (mb_spelling parts.seed
    ++ (mb_spelling parts.start
    ++ (to_be_bytes w64 parts.drawn
    ++ (mb_spelling budget
    ++ (limits_spelling parts.limits
    ++ (timer_spelling parts.timer
    ++ (variables_spelling parts.vars ++ entries_spelling parts.history)))))))
