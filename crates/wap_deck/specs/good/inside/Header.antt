-- Where a document in WML 1.3 and UTF-8 has its string table. This project's own words for WAP-192,
-- section 5.
use Rattle.std.specs.Prelude.{◌≡◌, ℕ, ◌+◌, ◌≤◌, List, Ok, length}
use Rattle.wap_base.specs.Numbers.{mb_at}
use Rattle.wap_deck.specs.declared.good.laws.TheConstants.{HEADER_LENGTH}

-- after the header stand the length of the table and the table, all of it
pub record HasTable (bytes : List ℕ) : Type 0 where
  pub count : ℕ
  pub table : ℕ
  pub counted : mb_at bytes HEADER_LENGTH ≡ Ok (count, table)
  pub behind : HEADER_LENGTH ≤ table
  pub within : table + count ≤ length bytes
