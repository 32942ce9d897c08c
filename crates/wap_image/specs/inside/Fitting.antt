-- How long texts and how great numbers may be so that they can be written, and texts of characters.
use Rattle.std.specs.Prelude.{◌≡◌, ⊤, ℕ, ◌<◌, ◌^◌, true, List, length, encode_utf8_all}
use Rattle.std.specs.List.{AllByRecursion}
use Rattle.std.specs.Str.{all_scalars}
use Rattle.wap_image.specs.declared.context_parts.parts.ContextParts.{ContextParts}
use Rattle.wap_image.specs.declared.context_parts.parts.SavedTimer.{SavedTimer}
use Rattle.wap_image.specs.declared.context_parts.parts.SavedTimer.TheVariants.{NotStarted, Running}
use Rattle.wap_image.specs.declared.context_parts.parts.SavedTimer.TheVariants.{Off}

-- the length of a text is written in four bytes
abbrev pub FitsText : List ℕ → Type 0
FitsText text = length (encode_utf8_all text) < 2 ^ 32

pub record FitsVariable (variable : List ℕ × List ℕ) : Type 0 where
  pub name : FitsText variable.0
  pub value : FitsText variable.1

pub record FitsEntry (entry : List ℕ × ℕ) : Type 0 where
  pub url : FitsText entry.0
  pub card : entry.1 < 2 ^ 32

pub record FitsParts (parts : ContextParts) : Type 0 where
  pub few_vars : length parts.vars < 2 ^ 32
  pub few : length parts.history < 2 ^ 8
  pub vars : AllByRecursion FitsVariable parts.vars
  pub history : AllByRecursion FitsEntry parts.history

-- the time that is left to a timer is written in five bytes at most
abbrev pub FitsTimer : SavedTimer → Type 0
FitsTimer NotStarted = ⊤
FitsTimer (Running tenths) = tenths < 2 ^ 32
FitsTimer Off = ⊤

-- texts of characters, as those are that programs have
pub record OfVariable (variable : List ℕ × List ℕ) : Type 0 where
  pub name : all_scalars variable.0 ≡ true
  pub value : all_scalars variable.1 ≡ true

abbrev pub OfEntry : List ℕ × ℕ → Type 0
OfEntry entry = all_scalars entry.0 ≡ true
