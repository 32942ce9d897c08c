-- How large a page may be. This project's own.
use Rattle.std.specs.Prelude.{ℕ, ◌<◌, List, length}
use Rattle.wap_devices.specs.declared.store.TheConstants.{PAGE_LIMIT}
use Rattle.wap_devices.specs.declared.store.Fetched.{Fetched}
use Rattle.wap_devices.specs.declared.store.Fetched.TheVariants.{Found, Missing}

-- the bytes are few enough for a page
abbrev pub IsPage : List ℕ → Type 0
IsPage bytes = length bytes < PAGE_LIMIT

-- a page that is found is small
abbrev pub IsSmall : Fetched → Type 0
IsSmall (Found bytes) = IsPage bytes
IsSmall Missing = Unit {0}
