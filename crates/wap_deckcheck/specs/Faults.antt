-- The faults of a deck, in the order of the document (WAP-191, section 11; the profile of the rules
-- is this project's own). A deck without any is good.
use Rattle.std.specs.Prelude.{◌≡◌, ◌≢◌, ℕ, Bool, true, false, not, ◌||◌, List, [], ◌∷◌}
use Rattle.std.specs.Prelude.{◌++◌, Option, Some, None, Result, Ok, Err}
use Rattle.std.specs.List.{list_any, flat_map}
use Rattle.wap_base.specs.Texts.{is_same_text}
use Rattle.wap_tokens.specs.declared.markup.deck.Deck.{Deck}
use Rattle.wap_tokens.specs.declared.markup.deck.Node.{Node}
use Rattle.wap_tokens.specs.declared.markup.deck.Item.{Item}
use Rattle.wap_tokens.specs.declared.markup.name.Tag.TheVariants as tags
use Rattle.wap_tokens.specs.declared.markup.name.AttrName.{AttrName}
use Rattle.wap_tokens.specs.markup.Tables.{is_same_tag, is_same_attr}
use Rattle.wap_tokens.specs.markup.Trees.{node_of, words_of}
use Rattle.wap_tokens.specs.markup.Cards.{cards_of}
use Rattle.wap_tokens.specs.markup.Good.{Rule, rule_of, stands, names_of, has_needs, has_forms}
use Rattle.wap_deckcheck.specs.declared.fault.DeckFault.{DeckFault}
use Rattle.wap_deckcheck.specs.declared.fault.DeckFault.TheVariants as fault
use Rattle.wap_deckcheck.specs.Places.{Place, places}

-- ---- what holds at a place

-- whether an item may not stand after these
abbrev pub is_misplaced : Rule → List Item → Item → Bool
is_misplaced rule earlier item = not (stands rule earlier (node_of item) (words_of item))

-- a name stands again later
abbrev pub has_twice : List AttrName → Bool
has_twice [] = false
has_twice (name ∷ names) = list_any (is_same_attr name) names || has_twice names

-- whether there is an id or a name, and it is one of these
abbrev pub is_taken : List (List ℕ) → Option (List ℕ) → Bool
is_taken others None = false
is_taken others (Some own) = list_any (is_same_text own) others

-- ---- faults

-- a fault, where there is cause for it
abbrev pub fault_if : Bool → DeckFault → List DeckFault
fault_if true fault = fault ∷ []
fault_if false fault = []

-- those of a node by itself
abbrev pub own_faults : List ℕ → Node → List DeckFault
own_faults path node =
    fault_if (has_twice (names_of node)) (fault.Attr path) ++
    (fault_if (not (has_needs (rule_of node.tag) node)) (fault.Missing path) ++
    fault_if (not (has_forms node)) (fault.Value path))

-- those of a node, the last of which is that its id or name is taken
abbrev pub node_faults : List ℕ → List (List ℕ) → Option (List ℕ) → Option Node → List DeckFault
node_faults path others own None = []
node_faults path others own (Some node) =
    own_faults path node ++ fault_if (is_taken others own) (fault.DuplicateId path)

-- those of an item, the first of which is that it may not stand there
abbrev pub faults_at : Place → List DeckFault
faults_at place =
    fault_if (is_misplaced place.rule place.earlier place.item) (fault.Child place.path) ++
    node_faults place.path place.others place.own (node_of place.item)

-- whether there is no card
abbrev pub lacks_card : List Node → Bool
lacks_card [] = true
lacks_card (card ∷ cards) = false

-- those of a deck: of its root, of all that is in it, and at last that it has no card
abbrev pub faults : Deck → List DeckFault
faults deck =
    fault_if (not (is_same_tag deck.root.tag tags.Wml)) (fault.Child []) ++
    (own_faults [] deck.root ++
    (flat_map faults_at (places deck) ++
    fault_if (lacks_card (cards_of deck)) fault.NoCard))

-- ---- answers

-- the first of some faults, if there is one
abbrev pub first_fault : List DeckFault → Option DeckFault
first_fault [] = None
first_fault (first ∷ others) = Some first

-- Ok where there are no faults, else the first of them, unless memory ran out
abbrev pub Judges : {X : Type 0} → Result X DeckFault → List DeckFault → Type 0
Judges (Ok x) some = some ≡ []
Judges (Err told) some = told ≢ fault.NoMemory → first_fault some ≡ Some told
