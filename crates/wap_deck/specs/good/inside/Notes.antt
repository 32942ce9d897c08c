-- Notes of where nodes begin and end, by how many bytes are left there, and of what they begin
-- with. This project's own.
use Rattle.std.specs.Prelude.{◌≡◌, ℕ, ◌-◌, ◌%◌, ◌<◌, ◌≤◌, ◌==◌, Bool, true, false, List}
use Rattle.std.specs.Prelude.{length, drop, Some, None}
use Rattle.std.specs.Int.{bit_at}
use Rattle.std.specs.List.{AllByRecursion}
use denote.Enum.Declared.{tag_of}
use Rattle.wap_tokens.specs.declared.markup.document.TheConstants.{LEVEL_LIMIT}
use Rattle.wap_tokens.specs.declared.markup.name.AttrName.{AttrName}
use Rattle.wap_tokens.specs.contracts.markup.name.AttrName as attr_names
use Rattle.wap_deck.specs.declared.good.notes.Note.{Note}
use Rattle.wap_deck.specs.good.Readers.{IsBehind, is_end, Ends, all_of}
use Rattle.wap_deck.specs.good.Texts.{part_at}
use Rattle.wap_deck.specs.good.inside.Nodes.{FollowsNode, IsRead, IsContent}
use Rattle.wap_deck.specs.good.inside.Nodes.{attrs_begin, attr_at, item_at}
use Rattle.wap_deck.specs.good.inside.Starts.{value_in}

-- the last bytes, so many of them
abbrev pub last_bytes : ℕ → List ℕ → List ℕ
last_bytes count bytes = drop (length bytes - count) bytes

-- a name is marked by one bit of 16; several names have the same
abbrev pub mark_place : AttrName → ℕ
mark_place name = tag_of attr_names.the_type name % 16

-- marks tell that a name isn't among those that they are of
abbrev pub lacks : ℕ → AttrName → Bool
lacks names name = bit_at names (mark_place name) == 0

-- attributes that are read here have no names but those that are marked
abbrev pub HaveNames : List ℕ → ℕ → Type 0
HaveNames bytes names =
    (table : List ℕ) (name : AttrName) → Ends (attr_at table) bytes → lacks names name ≡ true
    → value_in name (all_of (attr_at table) bytes).0 ≡ None

-- a node that bytes begin with has no attribute of this name
abbrev pub LacksName : List ℕ → AttrName → Type 0
LacksName bytes name =
    (table rest : List ℕ) → attrs_begin bytes ≡ Some rest → Ends (attr_at table) rest
    → value_in name (all_of (attr_at table) rest).0 ≡ None

-- a node that bytes begin with has no attributes but of names that are marked, and its content
-- after so many bytes, if they are known
pub record IsHead (bytes : List ℕ) (marks size : ℕ) : Type 0 where
  pub names : (name : AttrName) → lacks marks name ≡ true → LacksName bytes name
  pub content : 0 < size → IsContent bytes (drop size bytes)
  pub within : size ≤ length bytes

-- a node that bytes begin with, as a note tells it: no text and no end stands there, if it is read
-- it ends where the note says, and it begins as the note says
pub record IsOwn (bytes : List ℕ) (note : Note) : Type 0 where
  pub more : is_end bytes ≡ false
  pub none : part_at bytes ≡ None
  pub follows : FollowsNode LEVEL_LIMIT bytes (last_bytes note.end bytes)
  pub head : IsHead bytes note.known.names note.known.head

-- what a note says is so where it says that a node begins
pub record IsNote (bytes : List ℕ) (note : Note) : Type 0 where
  pub order : note.end < note.begin
  pub own : note.begin ≤ length bytes → IsOwn (last_bytes note.begin bytes) note

abbrev pub AreNotes : List ℕ → List Note → Type 0
AreNotes bytes notes = AllByRecursion (IsNote bytes) notes

-- there are no fewer notes than before, and they are true of any bytes that end with these and of
-- which those before are true
pub record AreMore (bytes : List ℕ) (notes more : List Note) : Type 0 where
  pub longer : length notes ≤ length more
  pub noted : (whole : List ℕ) → IsBehind bytes whole → AreNotes whole notes → AreNotes whole more

-- bytes begin with a node of at most so many levels, and notes are true of them
pub record IsLent (table : List ℕ) (levels : ℕ) (bytes : List ℕ) (notes : List Note) : Type 0 where
  pub few : levels ≤ LEVEL_LIMIT
  pub read : IsRead table levels bytes
  pub noted : AreNotes bytes notes

-- the same, and what is known of how the node begins is so
pub record IsSeen (table : List ℕ) (levels : ℕ) (bytes : List ℕ) (notes : List Note)
    (marks size : ℕ) : Type 0 where
  pub lent : IsLent table levels bytes notes
  pub head : IsHead bytes marks size

-- items that stand before an end have at most so many levels, and notes are true of them
pub record AreLent (table : List ℕ) (levels : ℕ) (bytes : List ℕ) (notes : List Note) : Type 0 where
  pub few : levels ≤ LEVEL_LIMIT
  pub ends : Ends (item_at table levels) bytes
  pub noted : AreNotes bytes notes
