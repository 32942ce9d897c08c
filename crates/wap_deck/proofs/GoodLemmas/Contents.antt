-- In normal content texts have parts, neighbouring literals joined, and no two texts stand side by
-- side.
use Rattle.std.proofs.Common.{◌≡◌, ◌+◌, ◌<◌, ◌≤◌, List, [], ◌∷◌, ◌++◌, length, map}
use Rattle.std.proofs.Common.{Option, Some, None, refl, sym, ap, ◌∙◌, arith}
use Rattle.wap_base.specs.declared.name.Part.{Part}
use Rattle.wap_tokens.specs.declared.markup.deck.Item.{Item, out-Item}
use Rattle.wap_tokens.specs.declared.markup.deck.Item.TheOpen.{Item-F}
use Rattle.wap_tokens.specs.declared.markup.deck.Item.TheVariants.{outs-Text}
use Rattle.wap_tokens.specs.declared.markup.deck.Item.TheVariants as item
use Rattle.wap_tokens.specs.markup.Trees.{ItemLevel, words_of, words_from}
use Rattle.wap_tokens.specs.markup.Decks.{before, joined, Mark, part, text_before, part_before}
use Rattle.wap_tokens.specs.markup.Decks.{items_of}
use Rattle.wap_tokens.specs.markup.Normal.{marks_in, marks_of}
use Rattle.wap_deck.proofs.DocumentsLemmas.Joining.{before-nil}

-- ---- a part before items joins the text that they begin with

abbrev words_by : Option (List Part) → List Part
words_by None = []
words_by (Some parts) = parts

abbrev behind_by : Option (List Part) → Item → List Item → List Item
behind_by None first items = first ∷ items
behind_by (Some parts) first items = items

-- the text that items begin with, and what follows it
abbrev words : List Item → List Part
words [] = []
words (first ∷ items) = words_by (words_of first)

abbrev behind : List Item → List Item
behind [] = []
behind (first ∷ items) = behind_by (words_of first) first items

text_before-joins : (one : Part) (found : Option (List Part)) (first : Item) (items : List Item)
    → text_before one first found items
    ≡ item.Text (before one (words_by found)) ∷ behind_by found first items
text_before-joins one None first items =
    ap (λ parts. item.Text parts ∷ first ∷ items) (sym (before-nil one))
text_before-joins one (Some parts) first items = refl

part_before-joins : (one : Part) (items : List Item)
    → part_before one items ≡ item.Text (before one (words items)) ∷ behind items
part_before-joins one [] = ap (λ parts. item.Text parts ∷ []) (sym (before-nil one))
part_before-joins one (first ∷ items) = text_before-joins one (words_of first) first items

-- ---- so do several

abbrev onto : List Part → List Part → List Part
onto [] last = last
onto (one ∷ parts) last = before one (onto parts last)

abbrev put : List Part → List Item → List Item
put [] items = items
put (one ∷ parts) items = part_before one (put parts items)

items_of-put : (parts : List Part) (marks : List Mark)
    → items_of (map part parts ++ marks) ≡ put parts (items_of marks)
items_of-put [] marks = refl
items_of-put (one ∷ parts) marks = ap (part_before one) (items_of-put parts marks)

put-joins : (one : Part) (parts : List Part) (items : List Item)
    → put (one ∷ parts) items ≡ item.Text (onto (one ∷ parts) (words items)) ∷ behind items
put-joins one [] items = part_before-joins one items
put-joins one (next ∷ parts) items =
    let text : List Part = onto (next ∷ parts) (words items) in
    let opened : words_of (item.Text text) ≡ Some text = ap words_from (outs-Text text) in
    ap (part_before one) (put-joins next parts items)
    ∙ ap (λ found. text_before one (item.Text text) found (behind items)) opened

onto-none : (parts : List Part) → onto parts [] ≡ joined parts
onto-none [] = refl
onto-none (one ∷ parts) = ap (before one) (onto-none parts)

-- ---- no items come of it

behind_few : (found : Option (List Part)) (first : Item) (items : List Item)
    → length (behind_by found first items) ≤ length (first ∷ items)
behind_few None first items = omega arith
behind_few (Some parts) first items = omega arith

length-behind : (items : List Item) → length (behind items) ≤ length items
length-behind [] = omega arith
length-behind (first ∷ items) = behind_few (words_of first) first items

length-put : (parts : List Part) (items : List Item) → length (put parts items) ≤ 1 + length items
length-put [] items = omega arith
length-put (one ∷ parts) items =
    omega (arith, ap length (put-joins one parts items), length-behind items)

level_few : (level : ItemLevel) (marks : List Mark)
    → length (items_of (marks_in level ++ marks)) ≤ 1 + length (items_of marks)
level_few (Item-F.Text parts) marks =
    omega (arith, ap length (items_of-put parts marks), length-put parts (items_of marks))
level_few (Item-F.Node one) marks = omega arith

length-items_of : (items : List Item) → length (items_of (marks_of items)) ≤ length items
length-items_of [] = omega arith
length-items_of (first ∷ items) =
    omega (arith, level_few (out-Item first) (marks_of items), length-items_of items)

-- ---- so a text that stays as it is stands before none, and its parts are joined

stays_by : (found : Option (List Part)) (first : Item) (items : List Item)
    → length (first ∷ items) ≤ length (behind_by found first items)
    → (words_by found ≡ []) × (behind_by found first items ≡ first ∷ items)
stays_by None first items many = (refl, refl)
stays_by (Some parts) first items many = absurd (omega arith)

stays : (items : List Item) → length items ≤ length (behind items)
    → (words items ≡ []) × (behind items ≡ items)
stays [] many = (refl, refl)
stays (first ∷ items) many = stays_by (words_of first) first items many

abbrev IsJoined : ItemLevel → Type 0
IsJoined (Item-F.Text parts) = joined parts ≡ parts
IsJoined (Item-F.Node one) = Unit {0}

abbrev HasPart : ItemLevel → Type 0
HasPart (Item-F.Text parts) = 0 < length parts
HasPart (Item-F.Node one) = Unit {0}

abbrev IsAlone : ItemLevel → List Item → Type 0
IsAlone (Item-F.Text parts) others = words others ≡ []
IsAlone (Item-F.Node one) others = Unit {0}

-- the first item stays, and so do the others
pub record Stays (level : ItemLevel) (others items : List Item) : Type 0 where
  pub first : IsJoined level
  pub some : HasPart level
  pub alone : IsAlone level others
  pub rest : others ≡ items

text_stays : (parts : List Part) (others : List Item) (first : Item) (items : List Item)
    → out-Item first ≡ Item-F.Text parts → length others ≤ length items
    → put parts others ≡ first ∷ items → Stays (Item-F.Text parts) others items
text_stays [] others first items opened few same = absurd (omega (arith, ap length same))
text_stays (one ∷ parts) others first items opened few same =
    let made : item.Text (onto (one ∷ parts) (words others)) ∷ behind others ≡ first ∷ items =
    sym (put-joins one parts others) ∙ same in
    let rest : behind others ≡ items = cc in
    let head : item.Text (onto (one ∷ parts) (words others)) ≡ first = cc in
    let still = stays others (omega (arith, ap length rest)) in
    let opened_text : Item-F.Text (onto (one ∷ parts) (words others)) ≡ Item-F.Text (one ∷ parts) =
    sym (outs-Text (onto (one ∷ parts) (words others))) ∙ ap out-Item head ∙ opened in
    let same_parts : onto (one ∷ parts) (words others) ≡ one ∷ parts = cc in
    record {
      first = sym (onto-none (one ∷ parts)) ∙ ap (onto (one ∷ parts)) (sym still.0) ∙ same_parts;
      some = omega arith;
      alone = still.0;
      rest = sym still.1 ∙ rest;
    }

item_stays : (level : ItemLevel) (marks : List Mark) (first : Item) (items : List Item)
    → out-Item first ≡ level → length (items_of marks) ≤ length items
    → items_of (marks_in level ++ marks) ≡ first ∷ items → Stays level (items_of marks) items
item_stays (Item-F.Text parts) marks first items opened few same =
    text_stays parts (items_of marks) first items opened few (sym (items_of-put parts marks) ∙ same)
item_stays (Item-F.Node one) marks first items opened few same =
    record { first = tt; some = tt; alone = tt; rest = cc }

-- ---- so it is with all of them

abbrev pub IsNoText : ItemLevel → Type 0
IsNoText (Item-F.Text parts) = ⊥
IsNoText (Item-F.Node one) = Unit {0}

abbrev pub BeginNoText : List Item → Type 0
BeginNoText [] = Unit {0}
BeginNoText (first ∷ items) = IsNoText (out-Item first)

-- an item before others
abbrev pub Shape : ItemLevel → List Item → Type 0
Shape (Item-F.Text parts) items = (0 < length parts) × (joined parts ≡ parts) × BeginNoText items
Shape (Item-F.Node one) items = Unit {0}

abbrev pub Shapes : List Item → Type 0
Shapes [] = Unit {0}
Shapes (first ∷ items) = Shape (out-Item first) items × Shapes items

level_begins : (level : ItemLevel) (items : List Item) → Shape level items
    → words_by (words_from level) ≡ [] → IsNoText level
level_begins (Item-F.Text parts) items is none =
    let some = is.0 in
    let len = ap length none in
    absurd (omega arith)
level_begins (Item-F.Node one) items is none = tt

begins : (items : List Item) → Shapes items → words items ≡ [] → BeginNoText items
begins [] are none = tt
begins (first ∷ items) are none = level_begins (out-Item first) items are.0 none

shape_of : (level : ItemLevel) (others items : List Item) → Stays level others items → Shapes items
    → Shape level items
shape_of (Item-F.Text parts) others items still are =
    (still.some, still.first, begins items are (ap words (sym still.rest) ∙ still.alone))
shape_of (Item-F.Node one) others items still are = tt

pub shapes : (items : List Item) → items_of (marks_of items) ≡ items → Shapes items
shapes [] together = tt
shapes (first ∷ items) together =
    let still =
    item_stays (out-Item first) (marks_of items) first items refl
    (length-items_of items) together in
    let more = shapes items still.rest in
    (shape_of (out-Item first) (items_of (marks_of items)) items still more, more)
