-- The parts of a URL as slices of its text. This project's own.
use Rattle.std.specs.Prelude.{ℕ, List, Option}
use Rattle.std.specs.Option.{option_copied}
use Rattle.wap_url.specs.declared.parts.Slices.{Slices}
use Rattle.wap_url.specs.UrlParts.{Parts}

-- the parts that the slices hold, beside a fragment
abbrev pub parts_in : Slices → Option (List ℕ) → Parts
parts_in slices fragment = record {
  scheme = option_copied slices.scheme;
  host = option_copied slices.host;
  port = option_copied slices.port;
  path = slices.path.now;
  query = option_copied slices.query;
  fragment = fragment;
}
