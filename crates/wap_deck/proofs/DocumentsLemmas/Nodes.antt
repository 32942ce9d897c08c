-- A deck that is written as a document is read again.
use Rattle.std.proofs.Common.{◌≡◌, ◌≢◌, ℕ, zero, suc, ◌-◌, cond, List, [], ◌∷◌, ◌++◌}
use Rattle.std.proofs.Common.{map, Option, Some, None, refl, sym, ap, ◌∙◌}
use Rattle.std.specs.Prelude.{unwrap_or}
use Rattle.std.specs.List.{filter_map, flat_map, cons_option, AllByRecursion}
use Rattle.std.proofs.lemmas.Grind.{flat_map-append}
use Rattle.wap_tokens.specs.declared.markup.document.TheConstants.{LEVEL_LIMIT}
use Rattle.wap_base.specs.declared.name.Part.{Part}
use Rattle.wap_base.specs.declared.name.Part.TheVariants.{Lit, Var}
use Rattle.wap_tokens.specs.declared.markup.document.Element.{Element}
use Rattle.wap_tokens.specs.declared.markup.document.Kid.{Kid}
use Rattle.wap_tokens.specs.declared.markup.document.Kid.TheVariants.{outs-Element, outs-Str}
use Rattle.wap_tokens.specs.declared.markup.document.Kid.TheVariants.{outs-Entity, outs-Var}
use Rattle.wap_tokens.specs.declared.markup.deck.Deck.{Deck}
use Rattle.wap_tokens.specs.declared.markup.deck.Node.{Node}
use Rattle.wap_tokens.specs.declared.markup.deck.Item.{Item, out-Item}
use Rattle.wap_tokens.specs.declared.markup.deck.Item.TheOpen.{Item-F}
use Rattle.wap_tokens.specs.declared.markup.deck.Item.TheVariants as item
use Rattle.wap_tokens.specs.declared.markup.name.Tag.{Tag}
use Rattle.wap_tokens.specs.declared.markup.name.Tag.TheVariants as tags
use Rattle.wap_tokens.specs.declared.markup.name.AttrName.{AttrName}
use Rattle.wap_tokens.specs.markup.Trees.{ItemLevel, words_of}
use Rattle.wap_tokens.specs.markup.Decks.{before, attribute, Mark, part, node, text_before}
use Rattle.wap_tokens.specs.markup.Decks.{part_before}
use Rattle.wap_tokens.specs.markup.Decks.{mark_before, items_of, part_marks, marks_from, kid_marks}
use Rattle.wap_tokens.specs.markup.Decks.{kids_marks, element_from, element_marks, deck_of}
use Rattle.wap_tokens.specs.markup.Normal.{IsPart, marks_in, marks_of, IsItem, IsContent, IsNode}
use Rattle.wap_tokens.specs.markup.Normal.{IsNormal}
use Rattle.wap_tokens.specs.markup.Writing.{runs_of, run_kid, part_kids, kids_from, item_kids}
use Rattle.wap_tokens.specs.markup.Writing.{items_kids, element_of, node_kids, document_of, attr_of}
use Rattle.wap_tokens.proofs.TagTable as table
use Rattle.wap_deck.proofs.DocumentsLemmas.Items.{words_of-Text}
use Rattle.wap_deck.proofs.DocumentsLemmas.Strings.{run_part, put_by, Joins, put_runs, before-joins}
use Rattle.wap_deck.proofs.DocumentsLemmas.Values.{attributes_read}

-- ---- marks that are put before items

abbrev pub put_marks : List Mark → List Item → List Item
put_marks [] rest = rest
put_marks (mark ∷ marks) rest = mark_before mark (put_marks marks rest)

pub put_marks-append : (marks more : List Mark) (rest : List Item)
    → put_marks (marks ++ more) rest ≡ put_marks marks (put_marks more rest)
put_marks-append [] more rest = refl
put_marks-append (mark ∷ marks) more rest = ap (mark_before mark) (put_marks-append marks more rest)

pub items_of-put : (marks : List Mark) → items_of marks ≡ put_marks marks []
items_of-put [] = refl
items_of-put (mark ∷ marks) = ap (mark_before mark) (items_of-put marks)

joins_before : (a b : List ℕ) (first : Item) (words : Option (List Part)) (items : List Item)
    → part_before (Lit a) (text_before (Lit b) first words items)
    ≡ text_before (Lit (a ++ b)) first words items
joins_before a b first None items =
    ap (λ words. text_before (Lit a) (item.Text (Lit b ∷ [])) words (first ∷ items))
    (words_of-Text (Lit b ∷ []))
joins_before a b first (Some parts) items =
    ap (λ words. text_before (Lit a) (item.Text (before (Lit b) parts)) words items)
    (words_of-Text (before (Lit b) parts))
    ∙ ap (λ parts. item.Text parts ∷ items) (before-joins a b parts)

pub part_before-joins : Joins part_before
part_before-joins a b [] =
    ap (λ words. text_before (Lit a) (item.Text (Lit b ∷ [])) words []) (words_of-Text (Lit b ∷ []))
part_before-joins a b (first ∷ items) = joins_before a b first (words_of first) items

-- ---- texts

part_marks-put : (one : Option Part) (parts : List Part) (rest : List Item)
    → put_marks (part_marks one) (put_by part_before parts rest)
    ≡ put_by part_before (cons_option one parts) rest
part_marks-put None parts rest = refl
part_marks-put (Some one) parts rest = refl

run_read : (inner : Element → List Mark) (run : Option (List ℕ))
    → kid_marks inner (run_kid run) ≡ part_marks (run_part run)
run_read inner None = ap (marks_from inner) (outs-Entity 0)
run_read inner (Some text) = ap (marks_from inner) (outs-Str text)

runs_read : (inner : Element → List Mark) (runs : List (Option (List ℕ))) (rest : List Item)
    → put_marks (kids_marks inner (map run_kid runs)) rest
    ≡ put_by part_before (filter_map run_part runs) rest
runs_read inner [] rest = refl
runs_read inner (run ∷ runs) rest =
    put_marks-append (kid_marks inner (run_kid run)) (kids_marks inner (map run_kid runs)) rest
    ∙ ap (put_marks (kid_marks inner (run_kid run))) (runs_read inner runs rest) ∙
    ap (λ marks. put_marks marks (put_by part_before (filter_map run_part runs) rest))
    (run_read inner run)
    ∙ part_marks-put (run_part run) (filter_map run_part runs) rest

part_read : (inner : Element → List Mark) (one : Part) → IsPart one → (rest : List Item)
    → put_marks (kids_marks inner (part_kids one)) rest ≡ part_before one rest
part_read inner (Lit []) some rest = absurd (some refl)
part_read inner (Lit (c ∷ cs)) some rest =
    runs_read inner (runs_of (c ∷ cs)) rest ∙ put_runs part_before part_before-joins c cs rest
part_read inner (Var name conv) named rest =
    ap (λ level. put_marks (marks_from inner level ++ []) rest) (outs-Var name conv)
    ∙ ap (λ b. put_marks (part_marks (cond b (Some (Var name conv)) None) ++ []) rest) named

kids_marks-append : (inner : Element → List Mark) (kids more : List Kid)
    → kids_marks inner (kids ++ more) ≡ kids_marks inner kids ++ kids_marks inner more
kids_marks-append inner kids more = flat_map-append (kid_marks inner) kids more

put_kids : (inner : Element → List Mark) (kids more : List Kid) (rest : List Item)
    → put_marks (kids_marks inner (kids ++ more)) rest
    ≡ put_marks (kids_marks inner kids) (put_marks (kids_marks inner more) rest)
put_kids inner kids more rest =
    ap (λ marks. put_marks marks rest) (kids_marks-append inner kids more)
    ∙ put_marks-append (kids_marks inner kids) (kids_marks inner more) rest

text_read : (inner : Element → List Mark) (parts : List Part) → AllByRecursion IsPart parts
    → (rest : List Item)
    → put_marks (kids_marks inner (flat_map part_kids parts)) rest ≡ put_marks (map part parts) rest
text_read inner [] each rest = refl
text_read inner (one ∷ parts) each rest =
    put_kids inner (part_kids one) (flat_map part_kids parts) rest
    ∙ part_read inner one each.0 (put_marks (kids_marks inner (flat_map part_kids parts)) rest) ∙
    ap (part_before one) (text_read inner parts each.1 rest)

-- ---- nodes

-- a node of so many levels is read again
abbrev ReadsNodes : ℕ → Type 0
ReadsNodes levels =
    (one : Node) → IsNode levels one
    → kids_marks (element_marks levels) (node_kids levels one) ≡ node one ∷ []

item_read : (levels : ℕ) → ReadsNodes levels → (level : ItemLevel) → IsItem (IsNode levels) level
    → (rest : List Item)
    → put_marks (kids_marks (element_marks levels) (kids_from (node_kids levels) level)) rest
    ≡ put_marks (marks_in level) rest
item_read levels reads (Item-F.Text parts) is rest = text_read (element_marks levels) parts is rest
item_read levels reads (Item-F.Node one) is rest = ap (λ marks. put_marks marks rest) (reads one is)

items_read : (levels : ℕ) → ReadsNodes levels → (items : List Item)
    → AllByRecursion (λ one. IsItem (IsNode levels) (out-Item one)) items → (rest : List Item) →
    put_marks (kids_marks (element_marks levels) (items_kids (node_kids levels) items)) rest
    ≡ put_marks (marks_of items) rest
items_read levels reads [] each rest = refl
items_read levels reads (first ∷ items) each rest =
    put_kids (element_marks levels) (item_kids (node_kids levels) first)
    (items_kids (node_kids levels) items) rest ∙
    item_read levels reads (out-Item first) each.0
    (put_marks (kids_marks (element_marks levels) (items_kids (node_kids levels) items)) rest) ∙
    ap (put_marks (marks_in (out-Item first))) (items_read levels reads items each.1 rest) ∙
    sym (put_marks-append (marks_in (out-Item first)) (marks_of items) rest)

content_read : (levels : ℕ) → ReadsNodes levels
    → (items : List Item) → IsContent (IsNode levels) items
    → items_of (kids_marks (element_marks levels) (items_kids (node_kids levels) items)) ≡ items
content_read levels reads items is =
    items_of-put (kids_marks (element_marks levels) (items_kids (node_kids levels) items))
    ∙ items_read levels reads items is.each [] ∙ sym (items_of-put (marks_of items)) ∙ is.together

element_read : (levels : ℕ) → ReadsNodes levels → ReadsNodes (suc levels)
element_read levels reads one is =
    let kids = items_kids (node_kids levels) one.kids in
    let made : Tag → List (AttrName × List Part) → List Item → Node =
    λ tag attrs kids. record { tag = tag; attrs = attrs; kids = kids } in
    ap (λ level. marks_from (element_marks (suc levels)) level ++ [])
    (outs-Element (element_of one kids)) ∙
    ap
    (λ tag. element_from tag (map attr_of one.attrs) (kids_marks (element_marks levels) kids) ++ [])
    (table.coded one.tag is.known) ∙
    ap (λ attrs. node (made one.tag attrs (items_of (kids_marks (element_marks levels) kids))) ∷ [])
    (attributes_read one.attrs is.attributes) ∙
    ap (λ kids. node (made one.tag one.attrs kids) ∷ [])
    (content_read levels reads one.kids is.content)

nodes_read : (levels : ℕ) → ReadsNodes levels
nodes_read zero one is = absurd is
nodes_read (suc levels) one is = element_read levels (nodes_read levels) one is

pub deck_read : (deck : Deck) → IsNormal deck → deck.root.tag ≢ tags.Other
    → deck_of (document_of deck) ≡ deck
deck_read deck is known =
    let made : Tag → List (AttrName × List Part) → List Item → Deck =
    λ tag attrs kids. record { root = record { tag = tag; attrs = attrs; kids = kids } } in
    let kids = items_kids (node_kids (LEVEL_LIMIT - 1)) deck.root.kids in
    ap (λ tag. made (unwrap_or tag tags.Other) (filter_map attribute (map attr_of deck.root.attrs))
    (items_of (kids_marks (element_marks (LEVEL_LIMIT - 1)) kids)))
    (table.coded deck.root.tag known) ∙
    ap (λ attrs.
    made deck.root.tag attrs (items_of (kids_marks (element_marks (LEVEL_LIMIT - 1)) kids)))
    (attributes_read deck.root.attrs is.attributes) ∙
    ap (λ kids. made deck.root.tag deck.root.attrs kids)
    (content_read (LEVEL_LIMIT - 1) (nodes_read (LEVEL_LIMIT - 1)) deck.root.kids is.content)
