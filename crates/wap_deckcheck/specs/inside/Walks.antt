-- What a step of the walk over a deck finds. This project's own.
use Rattle.std.specs.Prelude.{ℕ, List, [], ◌++◌, Option, Some, None}
use Rattle.std.specs.List.{flat_map}
use Rattle.std.specs.Option.{option_to_list}
use Rattle.wap_tokens.specs.declared.markup.document.TheConstants.{LEVEL_LIMIT}
use Rattle.wap_tokens.specs.declared.markup.deck.Node.{Node}
use Rattle.wap_tokens.specs.declared.markup.deck.Item.{Item}
use Rattle.wap_tokens.specs.markup.Trees.{node_of}
use Rattle.wap_tokens.specs.markup.Good.{Rule, holds_dos}
use Rattle.wap_deckcheck.specs.declared.fault.DeckFault.{DeckFault}
use Rattle.wap_deckcheck.specs.declared.fault.DeckFault.TheVariants as fault
use Rattle.wap_deckcheck.specs.Places.{Place, node_places}
use Rattle.wap_deckcheck.specs.Faults.{is_misplaced, is_taken, fault_if, own_faults, faults_at}

abbrev pub judged : List Place → List DeckFault
judged places = flat_map faults_at places

-- the places in a node at a path, after some ids or names
abbrev pub Inner : Type 0
Inner = List (List ℕ) → List ℕ → Node → List Place

-- the faults of a node at a path, and of what is in it, by what it is told apart and by the places
-- in it
abbrev pub inner_faults : (Node → Option (List ℕ)) → Inner → List (List ℕ) → List ℕ → Option Node
    → List DeckFault
inner_faults own inner others path None = []
inner_faults own inner others path (Some node) =
    own_faults path node ++
    (fault_if (is_taken others (own node)) (fault.DuplicateId path) ++
    judged (inner (others ++ option_to_list (own node)) path node))

-- the faults of an item at a path, and of what is in it
abbrev pub item_faults : (Node → Option (List ℕ)) → Inner → List (List ℕ) → List ℕ → Rule
    → List Item → Item → List DeckFault
item_faults own inner others path rule earlier item =
    fault_if (is_misplaced rule earlier item) (fault.Child path) ++
    inner_faults own inner others path (node_of item)

-- the places in whatever stands right under the root
abbrev pub top_places : List (List ℕ) → List ℕ → Node → List Place
top_places ids path node = node_places LEVEL_LIMIT (holds_dos node.tag) [] path node
