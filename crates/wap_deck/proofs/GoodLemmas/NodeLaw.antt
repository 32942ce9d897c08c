-- Nodes are read as they are spelled.
use Rattle.std.proofs.Common.{◌≡◌, ◌≢◌, ℕ, zero, suc, ◌+◌, ◌%◌, ◌^◌, ◌<◌, Bool, true}
use Rattle.std.proofs.Common.{false, List, [], ◌∷◌, ◌++◌, length, Option, Some, None}
use Rattle.std.proofs.Common.{refl, sym, ap, ◌∙◌, append_assoc, arith}
use Rattle.std.specs.Prelude.{is_some, if◌then◌else◌, nat_lt}
use Rattle.std.specs.List.{flat_map, AllByRecursion}
use Rattle.std.proofs.lemmas.Bool.{and_parts}
use Rattle.std.proofs.lemmas.Bool.Decides.{nat_tests, Decides-ltb}
use Rattle.wap_base.specs.declared.name.Part.{Part}
use Rattle.wap_tokens.specs.declared.markup.codes.TheConstants.{END, LITERAL}
use Rattle.wap_tokens.specs.declared.markup.deck.Node.{Node}
use Rattle.wap_tokens.specs.declared.markup.deck.Item.{Item, out-Item, roll-Item, roll-out-Item}
use Rattle.wap_tokens.specs.declared.markup.deck.Item.TheOpen.{Item-F}
use Rattle.wap_tokens.specs.declared.markup.deck.Item.TheVariants.{rolls-Text, rolls-Node}
use Rattle.wap_tokens.specs.declared.markup.deck.Item.TheVariants as item
use Rattle.wap_tokens.specs.declared.markup.name.Tag.{Tag}
use Rattle.wap_tokens.specs.declared.markup.name.Tag.TheVariants as tags
use Rattle.wap_tokens.specs.declared.markup.name.AttrName.{AttrName}
use Rattle.wap_tokens.specs.markup.Codes.{has_attributes, has_content}
use Rattle.wap_tokens.specs.markup.Grammar.{table_size}
use Rattle.wap_tokens.specs.markup.Tables.{tag_rows, tag_of, code_of}
use Rattle.wap_tokens.specs.markup.Trees.{ItemLevel}
use Rattle.wap_tokens.specs.markup.Decks.{joined}
use Rattle.wap_tokens.specs.markup.Normal.{IsValue}
use Rattle.wap_tokens.specs.markup.Writing.{part_pieces}
use Rattle.wap_tokens.proofs.TagTable.{coded}
use Rattle.wap_deck.proofs.DocumentsLemmas.Values as values
use Rattle.wap_wbxml.specs.spelling.Names.{table_of}
use Rattle.wap_wbxml.specs.spelling.Spelling.{bit}
use Rattle.wap_deck.specs.good.Readers.{Reader, ◌>>=◌, after, all_of, closed, closed_if}
use Rattle.wap_deck.specs.good.Texts.{part_at, value_at, behind_value}
use Rattle.wap_deck.specs.good.inside.Nodes.{attr_at, node, node_by, item_by, node_at, item_at}
use Rattle.wap_wbxml.specs.spelling.Characters.{OfPart}
use Rattle.wap_wbxml.proofs.SpellingLemmas.DeckLaws.{tag_fits}
use Rattle.wap_deck.proofs.GoodLemmas.Runs.{Takes, all_on, all_end}
use Rattle.wap_deck.proofs.GoodLemmas.Taking.{item_takes}
use Rattle.wap_deck.proofs.GoodLemmas.Contents.{IsNoText, BeginNoText}
use Rattle.wap_deck.proofs.GoodLemmas.PartLaw.{piece_bytes, value_read, behind_read, parts_plain}
use Rattle.wap_deck.proofs.GoodLemmas.AttrLaw.{IsGoodAttr, attr_bytes, attrs_read, no_part}
use Rattle.wap_deck.proofs.GoodLemmas.AttrLaw.{no_part_end}

-- ---- items, over what spells nodes and which nodes are good

abbrev pub parts_bytes : List Part → List ℕ
parts_bytes parts = flat_map piece_bytes (flat_map part_pieces parts)

abbrev pub level_bytes : (Node → List ℕ) → ItemLevel → List ℕ
level_bytes spell (Item-F.Text parts) = parts_bytes parts
level_bytes spell (Item-F.Node one) = spell one

abbrev pub item_bytes : (Node → List ℕ) → Item → List ℕ
item_bytes spell one = level_bytes spell (out-Item one)

abbrev pub IsBefore : (Node → Type 0) → ItemLevel → List Item → Type 0
IsBefore Good (Item-F.Text parts) items =
    (0 < length parts) × IsValue parts × AllByRecursion OfPart parts × BeginNoText items
IsBefore Good (Item-F.Node one) items = Good one

abbrev pub AreItems : (Node → Type 0) → List Item → Type 0
AreItems Good [] = Unit {0}
AreItems Good (first ∷ items) = IsBefore Good (out-Item first) items × AreItems Good items

abbrev pub list_bytes : {A : Type 0} → (A → List ℕ) → List A → List ℕ
list_bytes spell [] = []
list_bytes spell (x ∷ xs) = flat_map spell (x ∷ xs) ++ END ∷ []

-- ---- texts

text_value : (parts : List Part) (rest : List ℕ) → IsValue parts → AllByRecursion OfPart parts
    → part_at rest ≡ None → value_at [] (parts_bytes parts ++ rest) ≡ parts
text_value parts rest is of none =
    value_read [] (flat_map part_pieces parts) rest (parts_plain parts is.each of) none
    ∙ values.value_read parts is

text_behind : (parts : List Part) (rest : List ℕ) → IsValue parts → AllByRecursion OfPart parts
    → part_at rest ≡ None → behind_value (parts_bytes parts ++ rest) ≡ rest
text_behind parts rest is of none =
    behind_read (flat_map part_pieces parts) rest (parts_plain parts is.each of) none

-- the parts are not none, so a part begins them
text_begins : (parts : List Part) (rest : List ℕ) → 0 < length parts → IsValue parts
    → AllByRecursion OfPart parts → part_at rest ≡ None
    → (o : Option (Part × List ℕ)) → part_at (parts_bytes parts ++ rest) ≡ o → is_some o ≡ true
text_begins parts rest some is of none (Some x) e = refl
text_begins parts rest some is of none None e =
    let nothing : [] ≡ parts =
    sym (ap (λ (r : List Part × List ℕ). joined r.0)
    (all_end part_at (parts_bytes parts ++ rest) e)) ∙ text_value parts rest is of none in
    let length_none = ap length nothing in
    absurd (omega arith)

text_item : (inner : Reader Node) (parts : List Part) (rest : List ℕ) → 0 < length parts
    → IsValue parts → AllByRecursion OfPart parts → part_at rest ≡ None
    → item_by inner (parts_bytes parts ++ rest) ≡ Some (item.Text parts, rest)
unfolding item_by
text_item inner parts rest some is of none =
    let bytes : List ℕ = parts_bytes parts ++ rest in
    ap (λ (b : Bool). if b then Some (item.Text (value_at [] bytes), behind_value bytes) else
    (inner bytes >>= λ x. Some (item.Node x.0, x.1)))
    (text_begins parts rest some is of none (part_at bytes) refl)
    ∙ ap (λ (v : List Part). let w : Item × List ℕ = (item.Text v, behind_value bytes) in Some w)
    (text_value parts rest is of none)
    ∙ ap (λ (l : List ℕ). let w : Item × List ℕ = (item.Text parts, l) in Some w)
    (text_behind parts rest is of none)

node_item : (inner : Reader Node) (n : Node) (bytes rest : List ℕ) → part_at bytes ≡ None
    → inner bytes ≡ Some (n, rest) → item_by inner bytes ≡ Some (item.Node n, rest)
unfolding item_by
node_item inner n bytes rest none e =
    ap (λ (o : Option (Part × List ℕ)).
    if is_some o then Some (item.Text (value_at [] bytes), behind_value bytes) else
    (inner bytes >>= λ x. Some (item.Node x.0, x.1))) none
    ∙ ap (λ (o : Option (Node × List ℕ)).
    o >>= λ x. let w : Item × List ℕ = (item.Node x.0, x.1) in Some w) e

-- an item is what its level says
text_is : (i : Item) (parts : List Part) → out-Item i ≡ Item-F.Text parts → i ≡ item.Text parts
text_is i parts e = sym (roll-out-Item i) ∙ ap roll-Item e ∙ rolls-Text parts

node_is : (i : Item) (n : Node) → out-Item i ≡ Item-F.Node n → i ≡ item.Node n
node_is i n e = sym (roll-out-Item i) ∙ ap roll-Item e ∙ rolls-Node n

-- ---- items, where nodes of one level less are read

module _ (inner : Reader Node) (spell : Node → List ℕ) (Good : Node → Type 0)
    (takes : Takes (item_by inner))
    (begins : (n : Node) (rest : List ℕ) → Good n → part_at (spell n ++ rest) ≡ None)
    (read : (n : Node) (rest : List ℕ) → Good n → inner (spell n ++ rest) ≡ Some (n, rest))
    (stops : (rest : List ℕ) → inner (END ∷ rest) ≡ None) where
  stops_item : (rest : List ℕ) → item_by inner (END ∷ rest) ≡ None
  unfolding item_by
  stops_item rest =
      ap (λ (o : Option (Part × List ℕ)).
      if is_some o then Some (item.Text (value_at [] (END ∷ rest)), behind_value (END ∷ rest)) else
      (inner (END ∷ rest) >>= λ x. Some (item.Node x.0, x.1))) (no_part_end rest)
      ∙ ap (λ (o : Option (Node × List ℕ)).
      o >>= λ x. let w : Item × List ℕ = (item.Node x.0, x.1) in Some w) (stops rest)

  level_follows : (level : ItemLevel) (rest : List ℕ) → IsNoText level → (items : List Item)
      → IsBefore Good level items → part_at (level_bytes spell level ++ rest) ≡ None
  level_follows (Item-F.Text parts) rest textless items is = absurd textless
  level_follows (Item-F.Node n) rest textless items is = begins n rest is

  items_follow : (items : List Item) (rest : List ℕ) → AreItems Good items → BeginNoText items
      → part_at (flat_map (item_bytes spell) items ++ (END ∷ rest)) ≡ None
  items_follow [] rest are textless = no_part_end rest
  items_follow (i ∷ items) rest are textless =
      ap part_at
      (append_assoc (item_bytes spell i) (flat_map (item_bytes spell) items) (END ∷ rest))
      ∙ level_follows (out-Item i)
      (flat_map (item_bytes spell) items ++ (END ∷ rest)) textless items are.0

  one_item : (i : Item) (items : List Item) (rest : List ℕ) (level : ItemLevel) → out-Item i ≡ level
      → IsBefore Good level items → AreItems Good items
      → item_by inner
      (level_bytes spell level ++ (flat_map (item_bytes spell) items ++ (END ∷ rest)))
      ≡ Some (i, flat_map (item_bytes spell) items ++ (END ∷ rest))
  one_item i items rest (Item-F.Text parts) e is are =
      let more : List ℕ = flat_map (item_bytes spell) items ++ (END ∷ rest) in
      text_item inner parts more is.0 is.1 is.2 (items_follow items rest are is.3)
      ∙ ap (λ (x : Item). let w : Item × List ℕ = (x, more) in Some w) (sym (text_is i parts e))
  one_item i items rest (Item-F.Node n) e is are =
      let more : List ℕ = flat_map (item_bytes spell) items ++ (END ∷ rest) in
      node_item inner n (spell n ++ more) more (begins n more is) (read n more is)
      ∙ ap (λ (x : Item). let w : Item × List ℕ = (x, more) in Some w) (sym (node_is i n e))

  items_read : (items : List Item) (rest : List ℕ) → AreItems Good items
      → all_of (item_by inner) (flat_map (item_bytes spell) items ++ (END ∷ rest))
      ≡ (items, END ∷ rest)
  items_read [] rest are = all_end (item_by inner) (END ∷ rest) (stops_item rest)
  items_read (i ∷ items) rest are =
      let more : List ℕ = flat_map (item_bytes spell) items ++ (END ∷ rest) in
      ap (all_of (item_by inner))
      (append_assoc (item_bytes spell i) (flat_map (item_bytes spell) items) (END ∷ rest))
      ∙ all_on (item_by inner) takes (item_bytes spell i ++ more) i more
      (one_item i items rest (out-Item i) refl are.0 are.1)
      ∙ ap (λ (x : List Item × List ℕ). let w : List Item × List ℕ = (i ∷ x.0, x.1) in w)
      (items_read items rest are.1)

-- ---- a list that may be none

abbrev is_filled : {A : Type 0} → List A → Bool
is_filled [] = false
is_filled (x ∷ xs) = true

closed_read : {A : Type 0} (next : Reader A) (bytes : List ℕ) (xs : List A) (rest : List ℕ)
    → all_of next bytes ≡ (xs, END ∷ rest) → closed next bytes ≡ Some (xs, rest)
unfolding closed
closed_read {A = A} next bytes xs rest e =
    ap (λ (r : List A × List ℕ).
    after END r.1 >>= λ rest. let w : List A × List ℕ = (r.0, rest) in Some w) e

list_read : {A : Type 0} (has : Bool) (next : Reader A) (spell : A → List ℕ) (xs : List A)
    (rest : List ℕ) → has ≡ is_filled xs
    → all_of next (flat_map spell xs ++ (END ∷ rest)) ≡ (xs, END ∷ rest)
    → closed_if has next (list_bytes spell xs ++ rest) ≡ Some (xs, rest)
unfolding closed_if
list_read {A = A} has next spell [] rest e read =
    ap (λ (b : Bool). if b then closed next rest else Some ([], rest)) e
list_read {A = A} has next spell (x ∷ xs) rest e read =
    let bytes : List ℕ = (flat_map spell (x ∷ xs) ++ END ∷ []) ++ rest in
    ap (λ (b : Bool). if b then closed next bytes else Some ([], bytes)) e
    ∙ ap (closed next) (append_assoc (flat_map spell (x ∷ xs)) (END ∷ []) rest)
    ∙ closed_read next (flat_map spell (x ∷ xs) ++ (END ∷ rest)) (x ∷ xs) rest read

-- ---- tags

record Marks (code mark : ℕ) (attrs kids : Bool) : Type 0 where
  low : LITERAL < mark % 64
  with_attrs : has_attributes mark ≡ attrs
  with_kids : has_content mark ≡ kids
  code_is : mark % 64 ≡ code

marks : {A B : Type 0} (code : ℕ) (attrs : List A) (kids : List B) → LITERAL < code → code < 64
    → Marks code (code + (bit 128 attrs + bit 64 kids)) (is_filled attrs) (is_filled kids)
marks code [] [] low high = record {
  low = omega arith;
  with_attrs = grind (arith, nat_tests);
  with_kids = grind (arith, nat_tests);
  code_is = omega arith;
}
marks code (a ∷ attrs) [] low high = record {
  low = omega arith;
  with_attrs = grind (arith, nat_tests);
  with_kids = grind (arith, nat_tests);
  code_is = omega arith;
}
marks code [] (k ∷ kids) low high = record {
  low = omega arith;
  with_attrs = grind (arith, nat_tests);
  with_kids = grind (arith, nat_tests);
  code_is = omega arith;
}
marks code (a ∷ attrs) (k ∷ kids) low high = record {
  low = omega arith;
  with_attrs = grind (arith, nat_tests);
  with_kids = grind (arith, nat_tests);
  code_is = omega arith;
}

tag_begins : (mark : ℕ) (rest : List ℕ) → LITERAL < mark % 64 → part_at (mark ∷ rest) ≡ None
tag_begins mark rest low =
    no_part mark rest (λ e. absurd (omega (arith, e))) (λ e. absurd (omega (arith, e))) (λ e.
    absurd (omega (arith, e))) (λ e. absurd (omega (arith, e))) (λ e. absurd (omega (arith, e)))

end_none : tag_of 0 (END % 64) ≡ None
unfolding tag_of tag_rows
end_none = refl

-- ---- nodes

module _ (all : List (List ℕ)) (size : table_size all < 2 ^ 32) where
  abbrev table : List ℕ
  table = table_of all

  abbrev attr_spelled : AttrName × List Part → List ℕ
  attr_spelled = attr_bytes all size

  abbrev pub mark_of : Node → ℕ
  mark_of one = code_of one.tag + (bit 128 one.attrs + bit 64 one.kids)

  abbrev pub behind_mark : (Item → List ℕ) → Node → List ℕ
  behind_mark spell one = list_bytes attr_spelled one.attrs ++ list_bytes spell one.kids

  -- a node of at most so many levels
  unfoldable pub node_bytes : ℕ → Node → List ℕ
  node_bytes zero one = []
  node_bytes (suc levels) one = mark_of one ∷ behind_mark (item_bytes (node_bytes levels)) one

  pub record IsGoodElement (Good : Node → Type 0) (one : Node) : Type 0 where
    pub known : one.tag ≢ tags.Other
    pub attrs : AllByRecursion (IsGoodAttr all size) one.attrs
    pub kids : AreItems Good one.kids

  unfoldable pub IsGoodNode : ℕ → Node → Type 0
  IsGoodNode zero one = ⊥
  IsGoodNode (suc levels) one = IsGoodElement (IsGoodNode levels) one

  abbrev marked : (one : Node) → one.tag ≢ tags.Other
      → Marks (code_of one.tag) (mark_of one) (is_filled one.attrs) (is_filled one.kids)
  marked one known =
      let fits =
      and_parts (nat_lt LITERAL (code_of one.tag)) (nat_lt (code_of one.tag) 64)
      (tag_fits one.tag known) in
      marks (code_of one.tag) one.attrs one.kids ((Decides-ltb LITERAL (code_of one.tag)).0 fits.0)
      ((Decides-ltb (code_of one.tag) 64).0 fits.1)

  node_by_read : (kid : Reader Item) (spell : Item → List ℕ) (n : Node) (rest : List ℕ)
      → n.tag ≢ tags.Other → AllByRecursion (IsGoodAttr all size) n.attrs
      → ((rest : List ℕ)
      → all_of kid (flat_map spell n.kids ++ (END ∷ rest)) ≡ (n.kids, END ∷ rest))
      → node_by table kid (mark_of n ∷ (behind_mark spell n ++ rest)) ≡ Some (n, rest)
  unfolding node_by
  node_by_read kid spell n rest known attrs kids_read =
      let m = marked n known in
      let mark : ℕ = mark_of n in
      let kids_bytes : List ℕ = list_bytes spell n.kids ++ rest in
      let behind : List ℕ = behind_mark spell n ++ rest in
      ap (λ (code : ℕ).
      tag_of 0 code >>= λ tag. closed_if (has_attributes mark) (attr_at table) behind >>= λ attrs.
      closed_if (has_content mark) kid attrs.1 >>= λ kids. Some (node tag attrs.0 kids.0, kids.1))
      m.code_is
      ∙ ap (λ (o : Option Tag).
      o >>= λ tag. closed_if (has_attributes mark) (attr_at table) behind >>= λ attrs.
      closed_if (has_content mark) kid attrs.1 >>= λ kids. Some (node tag attrs.0 kids.0, kids.1))
      (coded n.tag known)
      ∙ ap (λ (l : List ℕ). closed_if (has_attributes mark) (attr_at table) l >>= λ attrs.
      closed_if (has_content mark) kid attrs.1 >>= λ kids. Some (node n.tag attrs.0 kids.0, kids.1))
      (append_assoc (list_bytes attr_spelled n.attrs) (list_bytes spell n.kids) rest)
      ∙ ap (λ (o : Option (List (AttrName × List Part) × List ℕ)). o >>= λ attrs.
      closed_if (has_content mark) kid attrs.1 >>= λ kids. Some (node n.tag attrs.0 kids.0, kids.1))
      (list_read (has_attributes mark) (attr_at table) attr_spelled n.attrs kids_bytes m.with_attrs
      (attrs_read all size n.attrs kids_bytes attrs))
      ∙ ap (λ (o : Option (List Item × List ℕ)).
      o >>= λ kids. let w : Node × List ℕ = (node n.tag n.attrs kids.0, kids.1) in Some w)
      (list_read (has_content mark) kid spell n.kids rest m.with_kids (kids_read rest))

  node_begins : (levels : ℕ) (n : Node) (rest : List ℕ) → IsGoodNode levels n
      → part_at (node_bytes levels n ++ rest) ≡ None
  unfolding node_bytes IsGoodNode
  node_begins zero n rest is = absurd is
  node_begins (suc levels) n rest is = tag_begins (mark_of n) _ (marked n is.known).low

  node_stops : (levels : ℕ) (rest : List ℕ) → node_at table levels (END ∷ rest) ≡ None
  unfolding node_at node_by
  node_stops zero rest = refl
  node_stops (suc levels) rest =
      let bytes : List ℕ = END ∷ rest in
      ap (λ (o : Option Tag). o >>= λ tag. closed_if (has_attributes END) (attr_at table) rest
      >>= λ attrs. closed_if (has_content END) (item_at table levels) attrs.1
      >>= λ kids. Some (node tag attrs.0 kids.0, kids.1)) end_none

  pub node_read : (levels : ℕ) (n : Node) (rest : List ℕ) → IsGoodNode levels n
      → node_at table levels (node_bytes levels n ++ rest) ≡ Some (n, rest)
  unfolding node_at node_bytes IsGoodNode
  node_read zero n rest is = absurd is
  node_read (suc levels) n rest is =
      node_by_read (item_at table levels) (item_bytes (node_bytes levels)) n rest is.known is.attrs
      (λ behind.
      items_read (node_at table levels) (node_bytes levels) (IsGoodNode levels) (item_takes table
      levels) (node_begins levels) (node_read levels) (node_stops levels) n.kids behind is.kids)
