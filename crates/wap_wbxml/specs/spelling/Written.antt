-- Bytes with what is written after them. This project's own.
use Rattle.std.specs.Prelude.{◌++◌}
use Rattle.wap_wbxml.specs.declared.spelling.output.Output.{Output}
use Rattle.wap_wbxml.specs.spelling.Writings.{Writing}

abbrev pub written : Writing → Output → Output
written write output =
    let x = write output.pages in
    record { bytes = output.bytes ++ x.0; pages = x.1 }
