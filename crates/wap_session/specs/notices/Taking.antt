-- What an entry of an inbox is, by the winners that it has. This project's own.
use Rattle.std.specs.Prelude.{ℕ, List, Option}
use Rattle.std.specs.Option.{option_and_then}
use Rattle.wap_push.specs.declared.indication.Indication.{Indication}
use Rattle.wap_push.specs.Inbox.{inbox_of, entry_at}

-- the URL of an entry of these winners by its number, if there is such an entry and it has one
abbrev pub url_in : List Indication → ℕ → Option (List ℕ)
url_in winners number = option_and_then (λ entry. entry.href) (entry_at (inbox_of winners) number)
