-- What clauses see of a reader that is a source and of a writer that is a sink: what they gave and
-- took, and not what is to come. This project's own.
use Rattle.std.specs.Prelude.{ℕ, List}
use Rattle.wap_devices.specs.Sources.{SourceSeen, Unknown}
use Rattle.wap_devices.specs.Sinks.{SinkSeen}

-- a reader, the bytes that it gave, and how often it was read, reported its end and failed
pub record ReaderState (I : Type 0) : Type 0 where
  pub reader : I
  pub given : List ℕ
  pub reads : ℕ
  pub ends : ℕ
  pub faults : ℕ

-- as a contract sees it
abbrev pub seen_of_reader : {I : Type 0} → ReaderState I → SourceSeen
seen_of_reader source = record {
  given = source.given;
  coming = Unknown;
  reads = source.reads;
  ends = source.ends;
  faults = source.faults;
}

-- a writer, the bytes that it took, and how often it was written to and failed
pub record WriterState (O : Type 0) : Type 0 where
  pub writer : O
  pub taken : List ℕ
  pub writes : ℕ
  pub faults : ℕ

-- as a contract sees it
abbrev pub seen_of_writer : {O : Type 0} → WriterState O → SinkSeen
seen_of_writer sink =
    record { taken = sink.taken; writes = sink.writes; faults = sink.faults }
