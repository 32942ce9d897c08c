-- The words of commands. This project's own.
use Rattle.std.specs.Prelude.{ℕ, nat_lt, if◌then◌else◌, List, [], ◌∷◌, map, Option, Some}
use Rattle.std.specs.Prelude.{None, option_map, option_and_then, is_some, encode_utf8_all, codes}
use Rattle.std.specs.Map.{lookup}
use Rattle.std.specs.Str.{bytes_eq, chars}
use Rattle.wap_base.specs.Options.{◌>>=◌}
use Rattle.wap_base.specs.declared.limits.Limits.{Limits}
use Rattle.wap_base.specs.declared.limits.TheConstants.{DEFAULT_STRING, LEAST_STRING, MOST_STRING}
use Rattle.wap_base.specs.declared.limits.TheConstants.{DEFAULT_HISTORY, LEAST_HISTORY}
use Rattle.wap_base.specs.declared.limits.TheConstants.{MOST_HISTORY, DEFAULT_DEPTH, LEAST_DEPTH}
use Rattle.wap_base.specs.declared.limits.TheConstants.{MOST_DEPTH}
use Rattle.wap_keys.specs.Decimal.{decimal_of}
use Rattle.wap_keys.specs.Forms.{greatest_u32}
use Rattle.wap_keys.specs.declared.words.numbers.TheConstants.{DEFAULT_SEED, LEAST_BUDGET}
use Rattle.wap_keys.specs.declared.words.numbers.TheConstants.{DEFAULT_BUDGET, LEAST_CACHE}
use Rattle.wap_keys.specs.declared.words.numbers.TheConstants.{MOST_CACHE}
use Rattle.wap_keys.specs.declared.words.numbers.TheConstants.{DEFAULT_CACHE, LEAST_WORKERS}
use Rattle.wap_keys.specs.declared.words.numbers.TheConstants.{MOST_WORKERS, DEFAULT_WORKERS}
use Rattle.wap_keys.specs.declared.words.words.Browse.{Browse}
use Rattle.wap_keys.specs.declared.words.words.Command.{Command}
use Rattle.wap_keys.specs.declared.words.words.Command.TheVariants as command_is
use Rattle.wap_keys.specs.declared.words.words.Replay.{Replay}
use Rattle.wap_keys.specs.declared.words.words.Resume.{Resume}
use Rattle.wap_keys.specs.declared.words.word.Word.{Word}
use Rattle.wap_keys.specs.declared.words.word.Word.TheVariants as word
use Rattle.wap_keys.specs.declared.words.word.TheConstants.{WORDS}
use Rattle.wap_keys.specs.words.Arguments.{Form, Use, uses_of, text_of}

-- ---- numbers

-- the number, where it isn't below the least
abbrev pub at_least : ℕ → ℕ → Option ℕ
at_least least n = if nat_lt n least then None else Some n

-- a number in its range, or what it is where none is given
abbrev pub number_of : ℕ → ℕ → ℕ → Option (List ℕ) → Option ℕ
number_of least greatest default None = Some default
number_of least greatest default (Some digits) =
    option_and_then (at_least least) (decimal_of greatest digits)

-- ---- browse, and image, whose words are of the same form

-- the words of `browse`: a URL, and six options
abbrev pub browse_form : Form
browse_form = record {
  positional = codes "url";
  options =
      codes "seed" ∷ codes "budget" ∷ codes "cache" ∷ codes "string" ∷ codes "history"
      ∷ codes "depth" ∷ [];
}

-- the limits of a run, each in its range
abbrev pub limits_of : List Use → Option Limits
limits_of uses = do
  string ← number_of LEAST_STRING MOST_STRING DEFAULT_STRING (text_of (codes "string") uses)
  history ← number_of LEAST_HISTORY MOST_HISTORY DEFAULT_HISTORY (text_of (codes "history") uses)
  depth ← number_of LEAST_DEPTH MOST_DEPTH DEFAULT_DEPTH (text_of (codes "depth") uses)
  Some (record { string = string; history = history; depth = depth })

-- the URL, the seed, the turns of a key, the pages that are kept, and the limits
abbrev pub browse_of : List Use → Option Browse
browse_of uses = do
  url ← text_of (codes "url") uses
  seed ← number_of 0 greatest_u32 DEFAULT_SEED (text_of (codes "seed") uses)
  budget ← number_of LEAST_BUDGET greatest_u32 DEFAULT_BUDGET (text_of (codes "budget") uses)
  cache ← number_of LEAST_CACHE MOST_CACHE DEFAULT_CACHE (text_of (codes "cache") uses)
  limits ← limits_of uses
  Some (record { url = chars url; seed = seed; budget = budget; cache = cache; limits = limits })

-- ---- resume

-- the words of `resume`: a page's name, and an option
abbrev pub resume_form : Form
resume_form = record { positional = codes "name"; options = codes "cache" ∷ [] }

-- the name of the image, and the pages that are kept
abbrev pub resume_of : List Use → Option Resume
resume_of uses = do
  name ← text_of (codes "name") uses
  cache ← number_of LEAST_CACHE MOST_CACHE DEFAULT_CACHE (text_of (codes "cache") uses)
  Some (record { name = chars name; cache = cache })

-- ---- commands on one page

-- the words of a command on one page: a page's name
abbrev pub page_form : Form
page_form = record { positional = codes "name"; options = [] }

-- the name of the page
abbrev pub page_of : List Use → Option (List ℕ)
page_of uses = option_map chars (text_of (codes "name") uses)

-- ---- prepare

-- the words of `prepare`: an option, and a positional that may not be given
abbrev pub prepare_form : Form
prepare_form = record { positional = codes "surplus"; options = codes "workers" ∷ [] }

-- how many workers share the pages
abbrev pub prepare_of : List Use → Option ℕ
prepare_of uses =
    if is_some (text_of (codes "surplus") uses) then None
    else number_of LEAST_WORKERS MOST_WORKERS DEFAULT_WORKERS (text_of (codes "workers") uses)

-- ---- make, whose words are of the form of a command on one page

-- the number of the folder
abbrev pub make_of : List Use → Option ℕ
make_of uses = text_of (codes "name") uses >>= decimal_of greatest_u32

-- ---- replay

-- the words of `replay`: a URL, and six options
abbrev pub replay_form : Form
replay_form = record {
  positional = codes "url";
  options =
      codes "seed" ∷ codes "budget" ∷ codes "workers" ∷ codes "string" ∷ codes "history"
      ∷ codes "depth" ∷ [];
}

-- the URL, the seed, the turns of a key, how many workers share the work, and the limits
abbrev pub replay_of : List Use → Option Replay
replay_of uses = do
  url ← text_of (codes "url") uses
  seed ← number_of 0 greatest_u32 DEFAULT_SEED (text_of (codes "seed") uses)
  budget ← number_of LEAST_BUDGET greatest_u32 DEFAULT_BUDGET (text_of (codes "budget") uses)
  workers ← number_of LEAST_WORKERS MOST_WORKERS DEFAULT_WORKERS (text_of (codes "workers") uses)
  limits ← limits_of uses
  Some (record {
    url = chars url;
    seed = seed;
    budget = budget;
    workers = workers;
    limits = limits;
  })

-- ---- commands

-- what a word says that begins a command
abbrev pub word_named : List ℕ → Option Word
word_named name = lookup (bytes_eq name) (map (λ row. (row.0.now, row.1)) WORDS)

-- what may follow the word
abbrev pub form_of : Word → Form
form_of word.Browse = browse_form
form_of word.Image = browse_form
form_of word.Resume = resume_form
form_of (word.Page on) = page_form
form_of word.Prepare = prepare_form
form_of word.Make = page_form
form_of word.Replay = replay_form

-- the command of what was given
abbrev pub command_of : Word → List Use → Option Command
command_of word.Browse uses = option_map (λ one. command_is.Browse one) (browse_of uses)
command_of word.Image uses = option_map (λ one. command_is.Image one) (browse_of uses)
command_of word.Resume uses = option_map (λ one. command_is.Resume one) (resume_of uses)
command_of (word.Page on) uses = option_map (λ name. command_is.Page on name) (page_of uses)
command_of word.Prepare uses = option_map (λ count. command_is.Prepare count) (prepare_of uses)
command_of word.Make uses = option_map (λ number. command_is.Make number) (make_of uses)
command_of word.Replay uses = option_map (λ one. command_is.Replay one) (replay_of uses)

-- the command that words are, with its values
abbrev pub command : List (List ℕ) → Option Command
command [] = None
command (name ∷ words) = do
  word ← word_named (encode_utf8_all name)
  uses ← uses_of (form_of word) (map encode_utf8_all words)
  command_of word uses
