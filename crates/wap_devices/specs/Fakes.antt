-- Stores, sources and sinks in memory, which fail at the calls that a list names. This project's
-- own.
use Rattle.std.specs.Prelude.{ℕ, ◌-◌, All, Bool, not, ◌==◌, ◌||◌, ◌&&◌, nat_lt, List, ◌+◌}
use Rattle.std.specs.Prelude.{◌++◌, length, take, drop, min, if◌then◌else◌}
use Rattle.std.specs.List.{list_any}
use Rattle.wap_base.specs.Count.{greatest_count}
use Rattle.wap_base.specs.Texts.{AreDistinct}
use Rattle.wap_base.specs.Contents.{Contents, names_of}
use Rattle.wap_devices.specs.Pages.{IsPage}
use Rattle.wap_devices.specs.Stores.{StoreSeen, Held}
use Rattle.wap_devices.specs.Sources.{SourceSeen, Left}
use Rattle.wap_devices.specs.Sinks.{SinkSeen}

-- the numbers, from 1, of the calls that fail; how many calls were made; how often one failed
pub record Schedule : Type 0 where
  pub fail : List ℕ
  pub made : ℕ
  pub faults : ℕ

-- before any call
abbrev pub fresh : List ℕ → Schedule
fresh fail = record { fail = fail; made = 0; faults = 0 }

-- the number of a call, of which so many were made with it; those past the greatest have its number
abbrev pub number_of : ℕ → ℕ
number_of made = min made greatest_count

-- the next call is one that fails
abbrev pub fails_next : Schedule → Bool
fails_next calls = list_any (λ number. number == number_of (calls.made + 1)) calls.fail

-- after a call that fails or doesn't
abbrev pub called : Schedule → Bool → Schedule
called calls failed = record {
  fail = calls.fail;
  made = calls.made + 1;
  faults = if failed then calls.faults + 1 else calls.faults;
}

-- pages that a store may hold: no name stands twice, and each page is small
pub record ArePages (pages : Contents) : Type 0 where
  pub distinct : AreDistinct (names_of pages)
  pub small : All (λ page. IsPage page.1) pages

-- a store: its pages, its calls of both kinds in one row, and how many of each kind there were
pub record StoreState : Type 0 where
  pub pages : Contents
  pub calls : Schedule
  pub fetches : ℕ
  pub listings : ℕ

-- a store holds its pages
abbrev pub seen_of_store : StoreState → StoreSeen
seen_of_store store = record {
  known = Held store.pages;
  faults = store.calls.faults;
  fetches = store.fetches;
  listings = store.listings;
}

-- after a call that asks for a page
abbrev pub after_fetch : StoreState → StoreState
after_fetch store = record {
  pages = store.pages;
  calls = called store.calls (fails_next store.calls);
  fetches = store.fetches + 1;
  listings = store.listings;
}

-- after a call that asks for the names
abbrev pub after_listing : StoreState → StoreState
after_listing store = record {
  pages = store.pages;
  calls = called store.calls (fails_next store.calls);
  fetches = store.fetches;
  listings = store.listings + 1;
}

-- a source: the bytes that it gave and those that are left, how many one call moves at most, and
-- how often it reported its end
pub record SourceState : Type 0 where
  pub given : List ℕ
  pub left : List ℕ
  pub piece : ℕ
  pub calls : Schedule
  pub ends : ℕ

-- a source holds its bytes
abbrev pub seen_of_source : SourceState → SourceSeen
seen_of_source source = record {
  given = source.given;
  coming = Left source.left;
  reads = source.calls.made;
  ends = source.ends;
  faults = source.calls.faults;
}

-- how many bytes a read into so much room moves
abbrev pub read_count : SourceState → ℕ → ℕ
read_count source room = min source.piece (min room (length source.left))

-- after a read into so much room
abbrev pub after_read : SourceState → ℕ → SourceState
after_read source room = record {
  given =
      if fails_next source.calls then source.given
      else source.given ++ take (read_count source room) source.left;
  left = if fails_next source.calls then source.left else drop (read_count source room) source.left;
  piece = source.piece;
  calls = called source.calls (fails_next source.calls);
  ends =
      if not (fails_next source.calls) && (read_count source room == 0) then source.ends + 1
      else source.ends;
}

-- a sink: what was written, how many bytes it holds, and how many one call moves at most
pub record SinkState : Type 0 where
  pub written : List ℕ
  pub room : ℕ
  pub piece : ℕ
  pub calls : Schedule

-- a sink holds what it took
abbrev pub seen_of_sink : SinkState → SinkSeen
seen_of_sink sink =
    record { taken = sink.written; writes = sink.calls.made; faults = sink.calls.faults }

-- the next write fails: it is one that the list names, or there is no room for any of it
abbrev pub fails_write : SinkState → List ℕ → Bool
fails_write sink bytes =
    fails_next sink.calls || (nat_lt 0 (length bytes) && (length sink.written == sink.room))

-- how many bytes of these a write moves
abbrev pub write_count : SinkState → List ℕ → ℕ
write_count sink bytes = min sink.piece (min (sink.room - length sink.written) (length bytes))

-- after a write of these bytes
abbrev pub after_write : SinkState → List ℕ → SinkState
after_write sink bytes = record {
  written =
      if fails_write sink bytes then sink.written
      else sink.written ++ take (write_count sink bytes) bytes;
  room = sink.room;
  piece = sink.piece;
  calls = called sink.calls (fails_write sink bytes);
}
