-- Why a text is no URL, and where: the faults and their order are this project's own.
use Rattle.std.specs.Prelude.{◌≡◌, ℕ, Some, true, false, List, ◌∷◌, ◌++◌, length}
use Rattle.std.specs.List.{list_all}
use Rattle.wap_url.specs.declared.fault.UrlFault.{UrlFault}
use Rattle.wap_url.specs.declared.fault.UrlFault.TheVariants.{BadChar, BadScheme, BadHost}
use Rattle.wap_url.specs.declared.fault.UrlFault.TheVariants.{BadPort, NoMemory}
use Rattle.wap_url.specs.UrlParts.{Parts, IsSplit}
use Rattle.wap_url.specs.Calculation.{fault_of}
use Rattle.wap_url.specs.Characters.{is_allowed, is_hash}

-- The first character before the fragment that may not stand there. Those before it are of
-- US-ASCII, so their number is its byte offset.
pub record HasBadChar (text : List ℕ) (at : ℕ) : Type 0 where
  pub before : List ℕ
  pub bad : ℕ
  pub after : List ℕ
  pub text_is : text ≡ before ++ bad ∷ after
  pub allowed : list_all is_allowed before ≡ true
  pub not_allowed : is_allowed bad ≡ false
  pub no_fragment : is_hash bad ≡ false
  pub at_is : at ≡ length before

-- The text has this fault, and none that is reported before it.
abbrev pub IsRefused : List ℕ → UrlFault → Type 0
IsRefused text (BadChar at) = HasBadChar text at
IsRefused text BadScheme = (p : Parts) × IsSplit text p × (fault_of p ≡ Some BadScheme)
IsRefused text BadHost = (p : Parts) × IsSplit text p × (fault_of p ≡ Some BadHost)
IsRefused text BadPort = (p : Parts) × IsSplit text p × (fault_of p ≡ Some BadPort)
IsRefused text NoMemory = ⊥
