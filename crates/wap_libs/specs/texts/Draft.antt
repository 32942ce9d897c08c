-- A String that is being made under a limit. This project's own.
use Rattle.std.specs.Prelude.{ℕ, ◌+◌, nat_le, if◌then◌else◌, List, ◌++◌, Some, None, option_map}
use Rattle.wap_base.specs.Utf8.{utf8_len}
use Rattle.wap_libs.specs.Outcome.{counted}
use Rattle.wap_libs.specs.declared.texts.draft.Draft.{Draft}

-- what a text becomes under a limit
abbrev pub draft_of : ℕ → List ℕ → Draft
draft_of limit s = record {
  text = if nat_le (counted (utf8_len s)) limit then Some s else None;
  bytes = counted (utf8_len s);
  limit = limit;
}

-- the same with more at its end
abbrev pub grown : Draft → List ℕ → Draft
grown draft more =
    let bytes = counted (draft.bytes + utf8_len more) in
    record {
      text = if nat_le bytes draft.limit then option_map (λ s. s ++ more) draft.text else None;
      bytes = bytes;
      limit = draft.limit;
    }
