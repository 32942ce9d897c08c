-- What a cache of pages keeps, and how often the store below it is asked. This project's own.
use Rattle.std.specs.Prelude.{ℕ, ◌+◌, Bool, not, ◌||◌, if◌then◌else◌, List, [], ◌∷◌, filter, take}
use Rattle.std.specs.List.{list_any}
use Rattle.wap_base.specs.Texts.{is_same_text}

-- the names whose pages are kept, the one that was asked for last first, and how many are at most
pub record Cache : Type 0 where
  pub names : List (List ℕ)
  pub capacity : ℕ

-- the name of a page that is asked for, and whether it is fetched anew
abbrev pub Asked : Type 0
Asked = List ℕ × Bool

abbrev pub is_kept : List ℕ → Cache → Bool
is_kept name cache = list_any (is_same_text name) cache.names

-- the store is asked for what is not kept, and for what is to be fetched anew
abbrev pub is_miss : Asked → Cache → Bool
is_miss asked cache = asked.1 || not (is_kept asked.0 cache)

-- the name comes first; the last one goes where there are too many
abbrev pub after_asking : Asked → Cache → Cache
after_asking asked cache =
    let others = filter (λ name. not (is_same_text name asked.0)) cache.names in
    record cache { names = take cache.capacity (asked.0 ∷ others) }

-- after several
abbrev pub after_all : List Asked → Cache → Cache
after_all [] cache = cache
after_all (one ∷ others) cache = after_all others (after_asking one cache)

-- how often the store is asked
abbrev pub misses : List Asked → Cache → ℕ
misses [] cache = 0
misses (one ∷ others) cache =
    (if is_miss one cache then 1 else 0) + misses others (after_asking one cache)
