-- What a store that holds pages answers. This project's own.
use Rattle.std.specs.Prelude.{ℕ, List, Option, Some, None}
use Rattle.wap_base.specs.Contents.{Contents, page_named}
use Rattle.wap_devices.specs.declared.store.Fetched.{Fetched}
use Rattle.wap_devices.specs.declared.store.Fetched.TheVariants.{Found, Missing}

-- for the bytes of a page, or for none
abbrev pub answer_of : Option (List ℕ) → Fetched
answer_of (Some bytes) = Found bytes
answer_of None = Missing

-- for a name
abbrev pub answer_for : List ℕ → Contents → Fetched
answer_for name pages = answer_of (page_named name pages)
