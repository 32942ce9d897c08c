-- What was given by words, as it is read. This project's own.
use Rattle.std.specs.Prelude.{◌≡◌, ℕ, Bool, true, false, List, map, option_map, Option, Some, None}
use Rattle.std.specs.Borrow.{Bor}
use Rattle.wap_keys.specs.declared.words.arguments.Form.{Form as ReadForm}
use Rattle.wap_keys.specs.declared.words.arguments.Use.{Use as ReadUse}
use Rattle.wap_keys.specs.declared.words.arguments.Read.{Read as Reading}
use Rattle.wap_keys.specs.declared.words.word.Word.{Word}
use Rattle.wap_keys.specs.words.Arguments.{Form, Use, Read}

-- a form, by its texts
abbrev pub form_by : ReadForm → Form
form_by form = record {
  positional = form.positional.now;
  options = map (λ option. option.now) form.options.now;
}

-- what was given
abbrev pub use_by : ReadUse → Use
use_by one = record { name = one.name.now; text = one.text.now }

-- and so far
abbrev pub read_by : Reading → Read
read_by read = record {
  uses = map use_by read.uses.items;
  waits = option_map (λ name. name.now) read.waits;
  ended = read.ended;
}

-- a word was taken, or may not stand there
abbrev pub Comes : Option Read → Reading → Bool → Type 0
Comes read new true = read ≡ Some (read_by new)
Comes read new false = read ≡ None

-- the rows of a table of words, by their names
abbrev pub by_name : List (Bor (List ℕ) × Word) → List (List ℕ × Word)
by_name = map (λ row. (row.0.now, row.1))
