-- The words after a command's name, in UTF-8: a positional and options, each at most once. This
-- project's own.
use Rattle.std.specs.Prelude.{ℕ, Bool, true, false, ◌==◌, ◌&&◌, if◌then◌else◌, List, []}
use Rattle.std.specs.Prelude.{◌∷◌, ◌++◌, Option, Some, None, option_map, is_some, find}
use Rattle.std.specs.List.{list_any, before_first}
use Rattle.wap_base.specs.Ascii.{equals_sign, hyphen}
use Rattle.wap_base.specs.Texts.{is_same_text}
use Rattle.wap_keys.specs.Forms.{behind_first}

-- what words may be given for: the name of the positional, and those of the options
pub record Form : Type 0 where
  pub positional : List ℕ
  pub options : List (List ℕ)

-- a name, and the text that was given for it
pub record Use : Type 0 where
  pub name : List ℕ
  pub text : List ℕ

-- what was given so far, the option that waits for its text, and whether `--` ended the options
pub record Read : Type 0 where
  pub uses : List Use
  pub waits : Option (List ℕ)
  pub ended : Bool

-- the text that was given for a name
abbrev pub text_of : List ℕ → List Use → Option (List ℕ)
text_of name uses = option_map (λ one. one.text) (find (λ one. is_same_text one.name name) uses)

-- a text is given for a name, unless one was given before
abbrev pub with_use : Read → List ℕ → List ℕ → Option Read
with_use read name text =
    if is_some (text_of name read.uses) then None
    else Some (record {
      uses = read.uses ++ record { name = name; text = text } ∷ [];
      waits = None;
      ended = read.ended;
    })

-- the form has an option of this name
abbrev pub is_option : Form → List ℕ → Bool
is_option form name = list_any (λ option. is_same_text option name) form.options

-- the `=` between an option and its text
abbrev pub is_equals : ℕ → Bool
is_equals c = c == equals_sign

-- an option with its text, or one that waits for it in the next word
abbrev pub with_value : Read → List ℕ → Option (List ℕ) → Option Read
with_value read name None = Some (record read { waits = Some name })
with_value read name (Some text) = with_use read name text

-- `name` or `name=text`, after `--`
abbrev pub with_option : Form → Read → List ℕ → Option Read
with_option form read bytes =
    let name = before_first is_equals bytes in
    if is_option form name then with_value read name (behind_first is_equals bytes) else None

-- whether a word begins with `-`, and more follows
abbrev pub is_dashed : List ℕ → Bool
is_dashed [] = false
is_dashed (c ∷ []) = false
is_dashed (c ∷ d ∷ ds) = c == hyphen

-- what follows `--`
abbrev pub after_dashes : List ℕ → Option (List ℕ)
after_dashes [] = None
after_dashes (c ∷ []) = None
after_dashes (c ∷ d ∷ ds) = if (c == hyphen) && (d == hyphen) then Some ds else None

-- a text for a name, which may not begin as an option does
abbrev pub with_text : Read → List ℕ → List ℕ → Option Read
with_text read name word = if is_dashed word then None else with_use read name word

-- a word where no option waits, by what follows `--` in it
abbrev pub with_first : Form → Read → List ℕ → Option (List ℕ) → Option Read
with_first form read word (Some []) = Some (record read { ended = true })
with_first form read word (Some (c ∷ cs)) = with_option form read (c ∷ cs)
with_first form read word None = with_text read form.positional word

-- a word: the text of the option that waits, or else what it is by itself
abbrev pub with_next : Form → Read → Option (List ℕ) → List ℕ → Option Read
with_next form read (Some name) word = with_text read name word
with_next form read None word = with_first form read word (after_dashes word)

-- one word more
abbrev pub with_word : Form → Read → List ℕ → Option Read
with_word form read word =
    if read.ended then with_use read form.positional word else with_next form read read.waits word

-- all the words, one after the other, up to the first that may not stand there
abbrev pub with_words : Form → Option Read → List (List ℕ) → Option Read
with_words form None words = None
with_words form (Some read) [] = Some read
with_words form (Some read) (word ∷ words) = with_words form (with_word form read word) words

-- no option may wait at the end
abbrev pub uses_at_end : Read → Option (List ℕ) → Option (List Use)
uses_at_end read None = Some read.uses
uses_at_end read (Some name) = None

-- what all words give, where each may stand where it does
abbrev pub uses_in : Option Read → Option (List Use)
uses_in None = None
uses_in (Some read) = uses_at_end read read.waits

-- before the first word
abbrev pub nothing_read : Read
nothing_read = record { uses = []; waits = None; ended = false }

-- all that words give, in their order; or none, where they aren't of the form
abbrev pub uses_of : Form → List (List ℕ) → Option (List Use)
uses_of form words = uses_in (with_words form (Some nothing_read) words)
