-- Lists of keys: key lines, and a line `%` between each list and the next. This project's own.
use Rattle.std.specs.Prelude.{◌≢◌, ℕ, if◌then◌else◌, List, [], ◌∷◌}
use Rattle.std.specs.Prelude.{take, codes, Option, Some, None, Result, Ok, Err}
use Rattle.std.specs.List.{AllByRecursion}
use Rattle.std.specs.Str.{bytes_eq}
use Rattle.wap_base.specs.declared.key.Key.{Key}
use Rattle.wap_keys.specs.declared.limits.TheConstants.{KEYS_LIMIT}
use Rattle.wap_keys.specs.declared.fault.KeyFault.{KeyFault}
use Rattle.wap_keys.specs.declared.ending.Ending.{Ending}
use Rattle.wap_keys.specs.Lines.{Line, lines_of, content, content_key, Meaning, KeysOf, Keys}
use Rattle.wap_keys.specs.Lines.{said_at, said_of}
use Rattle.wap_keys.specs.declared.lists.item.Item.{Item}
use Rattle.wap_keys.specs.declared.lists.item.Item.TheVariants as item

-- ---- what a line says

-- what stands between two lists
abbrev pub divider : List ℕ
divider = codes "%"

-- a key line among others
abbrev pub item_of : Result (Option Key) KeyFault → Result (Option Item) KeyFault
item_of (Ok None) = Ok None
item_of (Ok (Some key)) = Ok (Some (item.Key key))
item_of (Err fault) = Err fault

-- by what counts of the line
abbrev pub content_item : Meaning Item
content_item line =
    if bytes_eq line divider then Ok (Some item.Divider) else item_of (content_key line)

-- ---- lists

-- the first list, the others, and how their lines came to an end
pub record Lists : Type 0 where
  pub first : List Key
  pub others : List (List Key)
  pub ending : Ending

-- all of them, in order
abbrev pub all_of : Lists → List (List Key)
all_of lists = lists.first ∷ lists.others

-- a key or the end of a list, and then others
abbrev pub lists_before : Item → Lists → Lists
lists_before (item.Key key) rest =
    record { first = key ∷ rest.first; others = rest.others; ending = rest.ending }
lists_before item.Divider rest =
    record { first = []; others = all_of rest; ending = rest.ending }

-- what was said as lists
abbrev pub lists_by : List Item → Ending → Lists
lists_by [] ending = record { first = []; others = []; ending = ending }
lists_by (one ∷ items) ending = lists_before one (lists_by items ending)

abbrev pub lists_in : KeysOf Item → Lists
lists_in said = lists_by said.keys said.ending

-- the lists of bytes after which there is this ending
unfoldable pub lists_at : Ending → List ℕ → Lists
lists_at ending bytes = lists_in (said_at content_item ending bytes)

-- the lists of bytes; of too many bytes the first ones count
unfoldable pub lists_of : List ℕ → Lists
lists_of bytes = lists_in (said_of content_item bytes)

-- ---- one list

-- none of the lines that count stands between two lists
abbrev pub HasNoDivider : List ℕ → Type 0
HasNoDivider bytes =
    AllByRecursion (λ (line : Line). content line ≢ divider) (lines_of (take KEYS_LIMIT bytes))

-- these keys as the only list
abbrev pub one_list : Keys → Lists
one_list keys = record { first = keys.keys; others = []; ending = keys.ending }
