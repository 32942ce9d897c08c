-- Values and content whose neighbouring literals and texts are joined stay the same when they are
-- taken apart and put together again.
use Rattle.std.proofs.Common.{◌≡◌, List, [], ◌∷◌, ◌++◌, map, refl, sym, ap, ◌∙◌}
use Rattle.wap_base.specs.declared.name.Part.{Part}
use Rattle.wap_base.specs.declared.name.Part.TheVariants.{Lit, Var}
use Rattle.wap_tokens.specs.declared.markup.deck.Item.{Item, out-Item}
use Rattle.wap_tokens.specs.declared.markup.deck.Item.TheOpen.{Item-F}
use Rattle.wap_tokens.specs.declared.markup.deck.Item.TheVariants.{outs-Text, outs-Node}
use Rattle.wap_tokens.specs.declared.markup.deck.Item.TheVariants as item
use Rattle.wap_tokens.specs.markup.Trees.{ItemLevel, words_from}
use Rattle.wap_tokens.specs.markup.Decks.{before, joined, Mark, part, node, text_before}
use Rattle.wap_tokens.specs.markup.Decks.{part_before, items_of}
use Rattle.wap_tokens.specs.markup.Normal.{marks_in, marks_of}
use Rattle.wap_deck.proofs.DocumentsLemmas.Strings.{before-joins}
use Rattle.wap_deck.proofs.DocumentsLemmas.Nodes.{put_marks, put_marks-append, items_of-put}
use Rattle.wap_deck.proofs.DocumentsLemmas.Nodes.{part_before-joins}

-- ---- values

joined-before : (first : Part) (parts : List Part) →
    joined (before first parts) ≡ before first (joined parts)
joined-before (Lit a) [] = refl
joined-before (Lit a) (Lit b ∷ parts) = sym (before-joins a b (joined parts))
joined-before (Lit a) (Var name conv ∷ parts) = refl
joined-before (Var name conv) parts = refl

pub joined-joined : (parts : List Part) → joined (joined parts) ≡ joined parts
joined-joined [] = refl
joined-joined (first ∷ parts) =
    joined-before first (joined parts) ∙ ap (before first) (joined-joined parts)

-- ---- content

put_before : (first : Part) (parts : List Part) (rest : List Item) →
    put_marks (map part (before first parts)) rest
    ≡ part_before first (put_marks (map part parts) rest)
put_before (Lit a) [] rest = refl
put_before (Lit a) (Lit b ∷ parts) rest =
    sym (part_before-joins a b (put_marks (map part parts) rest))
put_before (Lit a) (Var name conv ∷ parts) rest = refl
put_before (Var name conv) parts rest = refl

-- a part before items is before their marks
marks_before : (first : Part) (level : ItemLevel) (next : Item) (items : List Item) →
    out-Item next ≡ level → (rest : List Item) →
    put_marks (marks_of (text_before first next (words_from level) items)) rest
    ≡ part_before first (put_marks (marks_of (next ∷ items)) rest)
marks_before first (Item-F.Text parts) next items opened rest =
    let marks = marks_of items in
    ap (λ level. put_marks (marks_in level ++ marks) rest) (outs-Text (before first parts))
    ∙ put_marks-append (map part (before first parts)) marks rest ∙
    put_before first parts (put_marks marks rest) ∙
    ap (part_before first) (sym (put_marks-append (map part parts) marks rest)
    ∙ ap (λ level. put_marks (marks_in level ++ marks) rest) (sym opened))
marks_before first (Item-F.Node one) next items opened rest =
    ap (λ level. put_marks (marks_in level ++ marks_of (next ∷ items)) rest)
    (outs-Text (first ∷ []))

marks_of-before : (first : Part) (items rest : List Item) →
    put_marks (marks_of (part_before first items)) rest
    ≡ part_before first (put_marks (marks_of items) rest)
marks_of-before first [] rest =
    ap (λ level. put_marks (marks_in level ++ []) rest) (outs-Text (first ∷ []))
marks_of-before first (next ∷ items) rest = marks_before first (out-Item next) next items refl rest

marks_of-items : (marks : List Mark) (rest : List Item) →
    put_marks (marks_of (items_of marks)) rest ≡ put_marks marks rest
marks_of-items [] rest = refl
marks_of-items (part first ∷ marks) rest =
    marks_of-before first (items_of marks) rest ∙ ap (part_before first) (marks_of-items marks rest)
marks_of-items (node first ∷ marks) rest =
    ap (λ level. put_marks (marks_in level ++ marks_of (items_of marks)) rest) (outs-Node first)
    ∙ ap (λ items. item.Node first ∷ items) (marks_of-items marks rest)

pub items_together : (marks : List Mark) → items_of (marks_of (items_of marks)) ≡ items_of marks
items_together marks =
    items_of-put (marks_of (items_of marks)) ∙ marks_of-items marks [] ∙ sym (items_of-put marks)
