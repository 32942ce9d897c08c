-- The made folder of a number: decks that lead to one another through a script, which adds up the
-- numbers up to that of the deck and goes on to the next. This project's own.
use Rattle.std.specs.Prelude.{ℕ, ◌+◌, ◌*◌, ◌%◌, List, [], ◌∷◌, ◌++◌, map, codes, decimal}
use Rattle.std.specs.List.{range_with_len}
use Rattle.wap_base.specs.Contents.{Contents}
use Rattle.wap_base.specs.declared.name.Part.{Part}
use Rattle.wap_base.specs.declared.name.Part.TheVariants.{Lit}
use Rattle.wap_tokens.specs.declared.markup.name.Tag.{Tag}
use Rattle.wap_tokens.specs.declared.markup.name.Tag.TheVariants.{Wml, Card, Do, Go, P}
use Rattle.wap_tokens.specs.declared.markup.name.AttrName.{AttrName}
use Rattle.wap_tokens.specs.declared.markup.name.AttrName.TheVariants as attr
use Rattle.wap_tokens.specs.declared.markup.deck.Deck.{Deck}
use Rattle.wap_tokens.specs.declared.markup.deck.Item.{Item}
use Rattle.wap_tokens.specs.declared.markup.deck.Item.TheVariants as item
use Rattle.wap_tokens.specs.markup.Writing.{document_of}
use Rattle.wap_wbxml.specs.spelling.Spelling.{spelling}

-- ---- numbers

-- how many decks the folder has
abbrev pub deck_count : ℕ → ℕ
deck_count n = n % 1000 + 1

-- the number that a deck shows, and hands to the script
abbrev pub number_at : ℕ → ℕ → ℕ
number_at n k = (n + 7 * k) % 1000

-- the deck that follows, the first after the last
abbrev pub next_deck : ℕ → ℕ → ℕ
next_deck n k = (k + 1) % deck_count n

-- ---- names and texts

abbrev pub deck_file : ℕ → List ℕ
deck_file k = codes "d" ++ decimal k ++ codes ".wmlc"

abbrev pub deck_name : ℕ → List ℕ
deck_name k = codes "g/" ++ deck_file k

abbrev pub script_name : List ℕ
script_name = codes "g/s.wmls"

-- the second argument of the call, and its end
abbrev pub next_file : ℕ → List ℕ
next_file k = codes ",'" ++ deck_file k ++ codes "')"

-- the URL that calls the script with a deck's number and the deck that follows
abbrev pub call_of : ℕ → ℕ → List ℕ
call_of n k = codes "s.wmls#f(" ++ decimal (number_at n k) ++ next_file (next_deck n k)

abbrev pub title_of : ℕ → List ℕ
title_of k = codes "D" ++ decimal k

-- what a deck's card shows
abbrev pub shown_of : ℕ → ℕ → List ℕ
shown_of n k = codes "number " ++ decimal (number_at n k)

-- ---- decks

-- a text without references to variables
abbrev pub literal : List ℕ → List Part
literal text = Lit text ∷ []

-- an element with these attributes and this content
abbrev pub element : Tag → List (AttrName × List Part) → List Item → Item
element tag attrs kids = item.Node (record { tag = tag; attrs = attrs; kids = kids })

-- <go href="..."/>
abbrev pub go_of : ℕ → ℕ → Item
go_of n k = element Go ((attr.Href, literal (call_of n k)) ∷ []) []

-- <do type="ok">..</do>
abbrev pub do_of : ℕ → ℕ → Item
do_of n k = element Do ((attr.«Type», literal (codes "ok")) ∷ []) (go_of n k ∷ [])

-- <p>number ..</p>
abbrev pub paragraph_of : ℕ → ℕ → Item
paragraph_of n k = element P [] (item.Text (literal (shown_of n k)) ∷ [])

-- <card id="c" title="D..">..</card>
abbrev pub card_of : ℕ → ℕ → Item
card_of n k =
    element Card ((attr.Id, literal (codes "c")) ∷ (attr.Title, literal (title_of k)) ∷ [])
    (do_of n k ∷ paragraph_of n k ∷ [])

-- <wml>..</wml>
abbrev pub deck_of : ℕ → ℕ → Deck
deck_of n k = record { root = record { tag = Wml; attrs = []; kids = card_of n k ∷ [] } }

-- ---- pages

-- a deck is kept as its one spelling
abbrev pub deck_page : ℕ → ℕ → List ℕ × List ℕ
deck_page n k = (deck_name k, spelling (document_of (deck_of n k)))

abbrev pub script : List ℕ
script = codes "extern function f(a,u){var s=0;for(var i=1;i<=a;i++){s+=i;}"
    ++ codes "WMLBrowser.setVar(\"t\",s);WMLBrowser.go(u);}"

-- the decks in order, and the script
abbrev pub folder : ℕ → Contents
folder n = map (deck_page n) (range_with_len 0 (deck_count n)) ++ (script_name, script) ∷ []
