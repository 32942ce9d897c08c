-- Parts and marks that are added at the end give what they give all together.
use Rattle.std.proofs.Common.{◌≡◌, ℕ, List, [], ◌∷◌, ◌++◌}
use Rattle.std.proofs.Common.{Option, Some, None, refl, sym, ap, ◌∙◌, append_assoc}
use Rattle.std.specs.List.{filter_map, cons_option}
use Rattle.std.proofs.lemmas.List.{append-nil}
use Rattle.std.proofs.lemmas.List.Elements.{filter_map-append}
use Rattle.wap_base.specs.declared.name.Part.{Part}
use Rattle.wap_base.specs.declared.name.Part.TheVariants.{Lit, Var}
use Rattle.wap_tokens.specs.declared.markup.document.Piece.{Piece}
use Rattle.wap_tokens.specs.declared.markup.deck.Node.{Node}
use Rattle.wap_tokens.specs.declared.markup.deck.Item.{Item}
use Rattle.wap_tokens.specs.declared.markup.deck.Item.TheVariants as item
use Rattle.wap_tokens.specs.markup.Trees.{words_of}
use Rattle.wap_deck.proofs.DocumentsLemmas.Items.{words_of-Text, words_of-Node}
use Rattle.wap_tokens.specs.markup.Decks.{literal, piece_part, value_after, before, joined, Mark}
use Rattle.wap_tokens.specs.markup.Decks.{part}
use Rattle.wap_tokens.specs.markup.Decks.{node, text_before, part_before, mark_before, items_of}
use Rattle.wap_deck.specs.documents.Adding.{part_added, any_added, after_last, part_after}
use Rattle.wap_deck.specs.documents.Adding.{mark_after, marks_after}

-- ---- parts

before-part_added : (first more : Part) (parts : List Part)
    → before first (part_added parts more) ≡ part_added (before first parts) more
before-part_added (Lit a) more [] = refl
before-part_added (Lit a) (Lit c) (Lit b ∷ []) =
    ap (λ text. Lit text ∷ []) (sym (append_assoc a b c))
before-part_added (Lit a) (Var name conv) (Lit b ∷ []) = refl
before-part_added (Lit a) more (Var name conv ∷ []) = refl
before-part_added (Lit a) more (Lit b ∷ next ∷ parts) = refl
before-part_added (Lit a) more (Var name conv ∷ next ∷ parts) = refl
before-part_added (Var name conv) more [] = refl
before-part_added (Var name conv) more (last ∷ []) = refl
before-part_added (Var name conv) more (first ∷ next ∷ parts) = refl

pub before-nil : (only : Part) → before only [] ≡ only ∷ []
before-nil (Lit text) = refl
before-nil (Var name conv) = refl

pub joined-added : (parts : List Part) (more : Part)
    → joined (parts ++ more ∷ []) ≡ part_added (joined parts) more
joined-added [] more = before-nil more
joined-added (first ∷ parts) more =
    ap (before first) (joined-added parts more) ∙ before-part_added first more (joined parts)

pub part_added_last : (parts : List Part) (last more : Part)
    → part_added (parts ++ last ∷ []) more ≡ parts ++ before last (more ∷ [])
part_added_last [] last more = refl
part_added_last (first ∷ []) last more = refl
part_added_last (first ∷ next ∷ parts) last more =
    ap (λ rest. first ∷ rest) (part_added_last (next ∷ parts) last more)

any-added : (parts : List Part) (more : Option Part)
    → joined (parts ++ cons_option more []) ≡ any_added (joined parts) more
any-added parts None = ap joined (append-nil parts)
any-added parts (Some more) = joined-added parts more

filter_map-last : (pieces : List Piece) (piece : Piece)
    → filter_map piece_part (pieces ++ piece ∷ [])
    ≡ filter_map piece_part pieces ++ cons_option (piece_part piece) []
filter_map-last pieces piece = filter_map-append piece_part pieces (piece ∷ [])

cons_option-append : (first : Option Part) (parts more : List Part)
    → cons_option first (parts ++ more) ≡ cons_option first parts ++ more
cons_option-append None parts more = refl
cons_option-append (Some first) parts more = refl

-- one more piece of a value
pub value_after_added : (text : List ℕ) (pieces : List Piece) (piece : Piece)
    → value_after text (pieces ++ piece ∷ [])
    ≡ any_added (value_after text pieces) (piece_part piece)
value_after_added text pieces piece =
    let begun = cons_option (literal text) (filter_map piece_part pieces) in
    ap (λ parts. joined (cons_option (literal text) parts)) (filter_map-last pieces piece)
    ∙ ap joined (cons_option-append (literal text) (filter_map piece_part pieces)
    (cons_option (piece_part piece) [])) ∙ any-added begun (piece_part piece)

-- ---- items

part_after-last : (items : List Item) (last : Item) (more : Part)
    → part_after (items ++ last ∷ []) more ≡ items ++ part_after (last ∷ []) more
part_after-last [] last more = refl
part_after-last (first ∷ []) last more = refl
part_after-last (first ∷ next ∷ items) last more =
    ap (λ rest. first ∷ rest) (part_after-last (next ∷ items) last more)

before-last : (first more : Part) (last : Item) (words : Option (List Part)) → words_of last ≡ words
    → part_before first (after_last last words more)
    ≡ part_after (text_before first last words []) more
before-last first more last None is =
    ap (λ words. text_before first last words (item.Text (more ∷ []) ∷ [])) is
    ∙ ap (λ words. item.Text (first ∷ []) ∷ after_last last words more) (sym is)
before-last first more last (Some parts) is =
    let now = item.Text (part_added parts more) in
    let then = item.Text (before first parts) in
    ap (λ words. text_before first now words []) (words_of-Text (part_added parts more))
    ∙ ap (λ parts. item.Text parts ∷ []) (before-part_added first more parts)
    ∙ ap (λ words. after_last then words more) (sym (words_of-Text (before first parts)))

before-more : (first more : Part) (last next : Item) (items : List Item)
    (words : Option (List Part))
    → text_before first last words (part_after (next ∷ items) more)
    ≡ part_after (text_before first last words (next ∷ items)) more
before-more first more last next items None = refl
before-more first more last next items (Some parts) = refl

part_before-after : (first more : Part) (items : List Item)
    → part_before first (part_after items more) ≡ part_after (part_before first items) more
part_before-after first more [] =
    ap (λ words. text_before first (item.Text (more ∷ [])) words []) (words_of-Text (more ∷ []))
    ∙ ap (λ words. after_last (item.Text (first ∷ [])) words more)
    (sym (words_of-Text (first ∷ [])))
part_before-after first more (last ∷ []) = before-last first more last (words_of last) refl
part_before-after first more (last ∷ next ∷ items) =
    before-more first more last next items (words_of last)

before-append : (first : Part) (last : Item) (items more : List Item) (words : Option (List Part))
    → text_before first last words (items ++ more) ≡ text_before first last words items ++ more
before-append first last items more None = refl
before-append first last items more (Some parts) = refl

part_before-node : (first : Part) (items : List Item) (more : Node)
    → part_before first (items ++ item.Node more ∷ [])
    ≡ part_before first items ++ item.Node more ∷ []
part_before-node first [] more =
    ap (λ words. text_before first (item.Node more) words []) (words_of-Node more)
part_before-node first (last ∷ items) more =
    before-append first last items (item.Node more ∷ []) (words_of last)

node-part_after : (first : Node) (items : List Item) (more : Part)
    → item.Node first ∷ part_after items more ≡ part_after (item.Node first ∷ items) more
node-part_after first [] more =
    ap (λ words. after_last (item.Node first) words more) (sym (words_of-Node first))
node-part_after first (last ∷ items) more = refl

mark_before-after : (first more : Mark) (items : List Item)
    → mark_before first (mark_after items more) ≡ mark_after (mark_before first items) more
mark_before-after (part first) (part more) items = part_before-after first more items
mark_before-after (part first) (node more) items = part_before-node first items more
mark_before-after (node first) (part more) items = node-part_after first items more
mark_before-after (node first) (node more) items = refl

mark_after-nil : (only : Mark) → mark_before only [] ≡ mark_after [] only
mark_after-nil (part only) = refl
mark_after-nil (node only) = refl

items_of-added : (marks : List Mark) (more : Mark)
    → items_of (marks ++ more ∷ []) ≡ mark_after (items_of marks) more
items_of-added [] more = mark_after-nil more
items_of-added (first ∷ marks) more =
    ap (mark_before first) (items_of-added marks more)
    ∙ mark_before-after first more (items_of marks)

items_of-append : (marks more : List Mark)
    → marks_after (items_of marks) more ≡ items_of (marks ++ more)
items_of-append marks [] = ap items_of (sym (append-nil marks))
items_of-append marks (first ∷ more) =
    ap (λ items. marks_after items more) (sym (items_of-added marks first))
    ∙ items_of-append (marks ++ first ∷ []) more
    ∙ ap items_of (append_assoc marks (first ∷ []) more)

-- what one part more makes of items that end in a text, in a node, and in anything
pub part_after_text : (parts : List Part) (more : Part)
    → part_after (item.Text parts ∷ []) more ≡ item.Text (part_added parts more) ∷ []
part_after_text parts more =
    ap (λ words. after_last (item.Text parts) words more) (words_of-Text parts)

pub part_after_node : (last : Node) (more : Part)
    → part_after (item.Node last ∷ []) more ≡ item.Node last ∷ item.Text (more ∷ []) ∷ []
part_after_node last more =
    ap (λ words. after_last (item.Node last) words more) (words_of-Node last)

pub part_after_any : (items others : List Item) (last : Item) (more : Part)
    → items ≡ others ++ last ∷ [] → part_after items more ≡ others ++ part_after (last ∷ []) more
part_after_any items others last more is =
    ap (λ items. part_after items more) is ∙ part_after-last others last more

-- marks that are added to nothing, one by one
pub added_to_none : (marks : List Mark) → marks_after [] marks ≡ items_of marks
added_to_none marks = items_of-append [] marks

pub marks_after_append : (items : List Item) (marks more : List Mark)
    → marks_after items (marks ++ more) ≡ marks_after (marks_after items marks) more
marks_after_append items [] more = refl
marks_after_append items (first ∷ marks) more =
    marks_after_append (mark_after items first) marks more
