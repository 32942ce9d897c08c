-- What is left of an output where memory ran out. This project's own.
use Rattle.std.specs.Prelude.{◌≡◌}
use Rattle.std.specs.Io.{StartsWith}
use Rattle.wap_wbxml.specs.declared.spelling.output.Output.{Output}

-- the bytes begin with those that were there, and no switch of a page is added
pub record Begins (old new : Output) : Type 0 where
  pub bytes : StartsWith new.bytes old.bytes
  pub pages : new.pages ≡ old.pages
