-- What a store holds: pages by their names. This project's own.
use Rattle.std.specs.Prelude.{ℕ, List, Option}
use Rattle.std.specs.Map.{keys_of, lookup}
use Rattle.wap_base.specs.Texts.{is_same_text}

-- a list of names, as characters, each with its page's bytes
abbrev pub Contents : Type 0
Contents = List (List ℕ × List ℕ)

abbrev pub names_of : Contents → List (List ℕ)
names_of pages = keys_of pages

-- the bytes under a name
abbrev pub page_named : List ℕ → Contents → Option (List ℕ)
page_named name pages = lookup (λ other. is_same_text other name) pages
