-- What `make` writes on the made folder of a number: how many pages it has, how many of them are
-- accepted, how many lines a session over it shows, and the sum that the session leaves. Its pages
-- are those that its bytes are by their relations, and a source of a script means what its program
-- means. This project's own.
use Rattle.std.specs.Prelude.{ℕ, Bool, true, false, nat_eq, if◌then◌else◌, List, [], ◌∷◌, ◌++◌}
use Rattle.std.specs.Prelude.{length, filter, replicate, drop, codes, decimal, encode_utf8_all}
use Rattle.std.specs.List.{starts_with}
use Rattle.wap_base.specs.Contents.{names_of}
use Rattle.wap_base.specs.Limits.{default_limits}
use Rattle.wap_devices.specs.Sinks.{SinkSeen}
use Rattle.wap_base.specs.declared.key.Key.{Key}
use Rattle.wap_base.specs.declared.key.Key.TheVariants.{Do, Vars}
use Rattle.wap_world.specs.Shelves.{Shelved, refused_page}
use Rattle.wap_world.specs.Shelves.{no_page}
use Rattle.wap_make.specs.Folders.{folder, deck_count}
use Rattle.wap_keys.specs.declared.words.numbers.TheConstants.{DEFAULT_SEED, DEFAULT_BUDGET}
use Rattle.wap_world.specs.Sites.{Site}
use Rattle.wap_world.specs.Sessions.{Begun, shown_by}
use Rattle.wap_site_laws.specs.pages.SourcePages.{ArePages}
use Rattle.wap_cli.specs.Browsing.{PagesAndReaders, AreReaders, source_network}
use Rattle.wap_cli.specs.Networks.{Network}
use Rattle.wap_cli.specs.resume.Saving.{opened_at}
use Rattle.wap_cli.specs.declared.status.Status.{Status}
use Rattle.wap_cli.specs.Writing.{Writes}

-- ---- pages

-- the folder is these pages
abbrev pub AreMade : ℕ → PagesAndReaders → Type 0
AreMade n one = ArePages (folder n) one.pages × AreReaders one

-- whether a page stands there that is accepted
abbrev pub is_accepted_there : Shelved → Bool
is_accepted_there refused_page = false
is_accepted_there no_page = false
is_accepted_there _ = true

-- those of these names whose pages are accepted
abbrev pub accepted_over : Site → List (List ℕ) → List (List ℕ)
accepted_over site names = filter (λ name. is_accepted_there (site.shelf name)) names

-- ---- the session

-- the URL of the first deck
abbrev pub first_url : List ℕ
first_url = codes "http://g/d0.wmlc"

-- the key that goes on from a deck
abbrev pub onward : Key
onward = Do (codes "ok")

-- the session begins with the first deck, and nothing else is chosen for it
abbrev pub made_begun : Begun
made_begun = record {
  url = first_url;
  seed = DEFAULT_SEED;
  budget = DEFAULT_BUDGET;
  limits = default_limits;
}

-- it goes on as often as there are decks
abbrev pub made_keys : ℕ → List Key
made_keys n = replicate (deck_count n) onward

-- the lines of the session with these keys over a network
abbrev pub lines_of : Network → List Key → List (List ℕ)
lines_of network keys = shown_by (opened_at made_begun network keys)

-- the lines over the folder, which has this network
abbrev pub made_lines : ℕ → Network → List (List ℕ)
made_lines n network = lines_of network (made_keys n)

-- what one key more shows, which asks for the variables
abbrev pub made_variables : ℕ → Network → List (List ℕ)
made_variables n network =
    drop (length (made_lines n network)) (lines_of network (made_keys n ++ Vars ∷ []))

-- the beginning of the line of the variable that the script sets
abbrev pub sum_mark : List ℕ
sum_mark = codes "$ t="

-- its text in the lines of variables, or nothing where it isn't among them
abbrev pub value_in : List (List ℕ) → List ℕ
value_in [] = []
value_in (line ∷ lines) =
    if starts_with nat_eq (encode_utf8_all line) sum_mark
    then drop (length sum_mark) (encode_utf8_all line) else value_in lines

-- ---- the four lines

-- a word, and what it tells of
abbrev pub made_line : List ℕ → List ℕ → List ℕ
made_line word text = word ++ (codes " " ++ (text ++ codes "\n"))

abbrev pub made_report : ℕ → Network → List ℕ
made_report n network =
    made_line (codes "pages") (decimal (length (folder n)))
    ++ (made_line (codes "ok") (decimal (length (accepted_over network.site (names_of (folder n)))))
    ++ (made_line (codes "lines") (decimal (length (made_lines n network)))
    ++ made_line (codes "t") (value_in (made_variables n network))))

-- what there is to be written, by whatever pages the folder is
abbrev pub TellsMade : ℕ → (List ℕ → Type 0) → Type 0
TellsMade n Wrote =
    (one : PagesAndReaders) → AreMade n one → Wrote (made_report n (source_network one))

-- the sink, before and after, and how it ended
abbrev pub Makes : ℕ → SinkSeen → SinkSeen → Status → Type 0
Makes n sink sink_after status = Writes (TellsMade n) sink sink_after status
