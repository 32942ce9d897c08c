-- Which parts of a context are saved, but for how long their texts and how great their numbers are.
-- This project's own.
use Rattle.std.specs.Prelude.{◌≡◌, ℕ, ◌<◌, ◌≤◌, ◌^◌, true, Bool, nat_lt, ◌&&◌, List, [], length}
use Rattle.std.specs.Prelude.{encode_utf8_all}
use Rattle.std.specs.List.{AllByRecursion, list_all}
use Rattle.wap_base.specs.Limits.{AreInRange}
use Rattle.wap_vars.specs.Variables.{AreVars}
use Rattle.wap_image.specs.declared.context_parts.parts.ContextParts.{ContextParts}
use Rattle.wap_image.specs.declared.context_parts.parts.SavedTimer.TheVariants.{NotStarted, Running}
use Rattle.wap_image.specs.Items.{is_drawn, is_entry_text}

-- the parts of a context at rest: the limits may be chosen, variables are as they are kept, the
-- history has no more entries than its limit, each with a URL as it is written, and a timer runs
-- with some time left, and has started only where there is a card
pub record AreParts (parts : ContextParts) : Type 0 where
  pub limits : AreInRange parts.limits
  pub vars : AreVars parts.vars
  pub few : length parts.history ≤ parts.limits.history
  pub urls : AllByRecursion (λ entry. is_entry_text entry.0 ≡ true) parts.history
  pub runs : (tenths : ℕ) → parts.timer ≡ Running tenths → 0 < tenths
  pub started : parts.history ≡ [] → parts.timer ≡ NotStarted

-- a number of four bytes, and a text whose length in UTF-8 is one
abbrev pub is_short_number : ℕ → Bool
is_short_number number = nat_lt number (2 ^ 32)

abbrev pub is_short_text : List ℕ → Bool
is_short_text text = is_short_number (length (encode_utf8_all text))

-- the name of a variable, whose text is never longer
abbrev pub is_short_variable : List ℕ × List ℕ → Bool
is_short_variable variable = is_short_text variable.0

-- the URL of an entry and the number of its card
abbrev pub is_short_entry : List ℕ × ℕ → Bool
is_short_entry entry = is_short_text entry.0 && is_short_number entry.1

-- all lengths and numbers are written in four bytes
abbrev pub are_short : ContextParts → Bool
are_short parts =
    list_all is_short_variable parts.vars && list_all is_short_entry parts.history

-- parts and turns of which there is an image
pub record MayBeSaved (parts : ContextParts) (budget : ℕ) : Type 0 where
  pub rules : AreParts parts
  pub turns : 0 < budget
  pub drawn : is_drawn parts.drawn ≡ true
  pub short : are_short parts ≡ true
