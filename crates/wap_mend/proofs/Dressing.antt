-- Attributes of elements: what is kept of them, and what is noted.
use Rattle.std.proofs.Common.{◌≡◌, ℕ, ◌+◌, ◌<◌, Bool, true, false, cond, not, List, [], ◌∷◌, ◌++◌}
use Rattle.std.proofs.Common.{length, get_or, take, Some}
use Rattle.std.proofs.Common.{refl, sym, ap, subst, ◌∙◌, arith}
use Rattle.std.specs.Prelude.{filter}
use Rattle.std.proofs.lemmas.List.{take_more, map-append}
use Rattle.wap_base.specs.declared.name.Part.{Part}
use Rattle.wap_tokens.specs.declared.markup.name.AttrName.{AttrName}
use Rattle.wap_tokens.specs.declared.markup.name.Tag.{Tag}
use Rattle.wap_mend.specs.Accounts.{number, Attribute, lost}
use Rattle.wap_mend.specs.declared.change.Change.{Change}
use Rattle.wap_mend.specs.declared.change.Lost.{Lost}
use Rattle.wap_mend.specs.inside.Building.{Kept, is_named}
use Rattle.wap_mend.specs.inside.Frames.{Load, nothing, both, load_lost, rows_load, Piece, dressed}
use Rattle.wap_mend.specs.inside.Frames.{no_paragraphs, pieces_came, Keeps, IsNoted, IsTurned}
use Rattle.wap_mend.specs.inside.Frames.{gone_pieces, came_pieces}
use Rattle.wap_mend.proofs.Accounting.{number-append, kept_number, kept-append, within_nothing}
use Rattle.wap_mend.proofs.Loads.{keeps_all, keeps_lost, keeps_then, noted_as}
use Rattle.wap_mend.proofs.Loads.{still_refl}
use Rattle.wap_mend.proofs.Collecting.{rows_lost}

abbrev Row : Type 0
Row = AttrName × List Part

-- ---- one attribute

-- one that goes
pub one_lost : (old new : Lost) (tag : Tag) (row : Row) (value : List Part)
    → load_lost old ≡ nothing → value ≡ row.1 → new.texts ≡ old.texts
    → new.elements ≡ old.elements
    → new.attributes ≡ old.attributes ++ (tag, row.0, value) ∷ []
    → load_lost new ≡ rows_load tag (row ∷ [])
one_lost old new tag row value none is texts elements more =
    rows_lost old new tag (row ∷ []) none texts elements
    (more ∙ ap (λ v. old.attributes ++ (tag, row.0, v) ∷ []) is)

-- rows and more
rows_both : (tag : Tag) (some more : List Row)
    → both (rows_load tag some) (rows_load tag more) ≡ rows_load tag (some ++ more)
rows_both tag some more =
    ap (λ (pieces : List Piece). record { names = []; pieces = pieces; signs = [] })
    (sym (ap no_paragraphs (map-append (λ row. (tag, Some row)) some more)
    ∙ kept-append (dressed tag some) (dressed tag more)))

rows_number : (test : Piece → Bool) (tag : Tag) (some more : List Row)
    → number test (no_paragraphs (dressed tag (some ++ more)))
    ≡ number test (no_paragraphs (dressed tag some)) + number test (no_paragraphs (dressed tag
    more))
rows_number test tag some more =
    ap (λ pieces. number test (no_paragraphs pieces))
    (map-append (λ row. (tag, Some row)) some more)
    ∙ kept_number test (dressed tag some) (dressed tag more)

-- one that comes in as it is
pub row_stands : (changes : List Change) (tag : Tag) (rows new : List Row) (row one : Row)
    → one ≡ row → new ≡ rows ++ one ∷ []
    → Keeps changes changes (rows_load tag rows) (rows_load tag new) (rows_load tag (row ∷ []))
row_stands changes tag rows new row one is more =
    subst (λ load. Keeps changes changes (rows_load tag rows) load (rows_load tag (row ∷ [])))
    (rows_both tag rows (row ∷ [])
    ∙ ap (rows_load tag) (sym (more ∙ ap (λ last. rows ++ last ∷ []) is)))
    (keeps_all changes changes (rows_load tag rows) (rows_load tag (row ∷ []))
    (still_refl changes))

-- pieces by themselves
abbrev alone : List Piece → Load
alone pieces = record { names = []; pieces = pieces; signs = [] }

-- some go, and others come
keeps_turned : (before after : List Change) (old new more what : List Piece)
    (came : List Attribute) → IsTurned before after (alone what) came
    → ((test : Piece → Bool) → number test new + number test what
    ≡ (number test old + number test more) + number test (pieces_came came))
    → Keeps before after (alone old) (alone new) (alone more)
keeps_turned before after old new more what came turned sum = record {
  pieces = λ test.
      grind (
        arith,
        sum test,
        ap (number test) turned.gone,
        number-append test (gone_pieces before) what,
        ap (number test) turned.came,
        number-append test (came_pieces before) (pieces_came came),
      );
  order = within_nothing [];
  signs = λ test.
      grind (arith, ap (number test) turned.lost, number-append test (lost before) []);
}

-- some go
keeps_shed : (before after : List Change) (new more what : List Piece)
    → IsNoted before after (alone what)
    → ((test : Piece → Bool) → number test more ≡ number test what + number test new)
    → Keeps before after nothing (alone new) (alone more)
keeps_shed before after new more what noted sum = record {
  pieces = λ test.
      grind (arith, sum test, noted.gone test, ap (number test) noted.came);
  order = within_nothing [];
  signs = λ test.
      grind (arith, ap (number test) noted.lost, number-append test (lost before) []);
}

-- one that comes in by another value
pub row_turns : (before after : List Change) (tag : Tag) (rows new : List Row) (row one : Row)
    (what : Lost) (came : List Attribute) → load_lost what ≡ rows_load tag (row ∷ [])
    → came ≡ (tag, one.0, one.1) ∷ [] → new ≡ rows ++ one ∷ []
    → IsTurned before after (load_lost what) came
    → Keeps before after (rows_load tag rows) (rows_load tag new) (rows_load tag (row ∷ []))
row_turns before after tag rows new row one what came goes comes more turned =
    let this = no_paragraphs (dressed tag (row ∷ [])) in
    keeps_turned before after (no_paragraphs (dressed tag rows)) (no_paragraphs (dressed tag new))
    this this came (subst (λ load. IsTurned before after load came) goes turned)
    (λ test. sums (count test new) (count test rows) (count test (one ∷ []))
    (number test (pieces_came came)) (count test (row ∷ []))
    (ap (λ some. number test (no_paragraphs (dressed tag some))) more
    ∙ rows_number test tag rows (one ∷ [])) (ap (λ some. number test (pieces_came some)) comes))
  where
    count : (Piece → Bool) → List Row → ℕ
    count test rows = number test (no_paragraphs (dressed tag rows))

    sums : (all some last came this : ℕ) → all ≡ some + last → came ≡ last
        → all + this ≡ (some + this) + came
    sums all some last came this first second = grind (arith, first, second)

-- ---- one by one

-- one row more
pub rows_turn : (before between after : List Change) (tag : Tag) (mid new all items : List Row)
    (n : ℕ) (row : Row) → items ≡ all → n < length items → row ≡ get_or items n row
    → Keeps before between nothing (rows_load tag mid) (rows_load tag (take n all))
    → Keeps between after (rows_load tag mid) (rows_load tag new) (rows_load tag (row ∷ []))
    → Keeps before after nothing (rows_load tag new) (rows_load tag (take (n + 1) all))
rows_turn before between after tag mid new all items n row are within is first next =
    subst (Keeps before after nothing (rows_load tag new))
    (rows_both tag (take n all) (row ∷ [])
    ∙ ap (rows_load tag) (ap (λ last. take n all ++ last ∷ [])
    (subst (λ some. row ≡ get_or some n row) are is)
    ∙ sym (take_more all n row (subst (λ some. n < length some) are within))))
    (keeps_then before between after nothing (rows_load tag mid) (rows_load tag new)
    (rows_load tag (take n all)) (rows_load tag (row ∷ [])) first next)

-- ---- all of them

-- they go
pub all_gone : (before after : List Change) (tag : Tag) (rows : List Row) (what : Lost)
    → load_lost what ≡ rows_load tag rows → IsNoted before after (load_lost what)
    → Keeps before after nothing nothing (rows_load tag rows)
all_gone before after tag rows what goes noted =
    keeps_lost before after nothing (rows_load tag rows)
    (noted_as before after (load_lost what) (rows_load tag rows) goes noted)

-- those that pass a test, and the others
parted : (test : Piece → Bool) (tag : Tag) (passes : Row → Bool) (rows : List Row)
    → number test (no_paragraphs (dressed tag rows))
    ≡ number test (no_paragraphs (dressed tag (filter passes rows)))
    + number test (no_paragraphs (dressed tag (filter (λ row. not (passes row)) rows)))
parted test tag passes [] = refl
parted test tag passes (row ∷ rows) = either (passes row) (parted test tag passes rows)
  where
    some : List Row
    some = filter passes rows

    others : List Row
    others = filter (λ row. not (passes row)) rows

    count : List Row → ℕ
    count rows = number test (no_paragraphs (dressed tag rows))

    in_some : (all one rest more some others : ℕ) → all ≡ one + rest → more ≡ one + some
        → rest ≡ some + others → all ≡ more + others
    in_some all one rest more some others first second third = grind (arith, first, second, third)

    in_others : (all one rest more some others : ℕ) → all ≡ one + rest → more ≡ one + others
        → rest ≡ some + others → all ≡ some + more
    in_others all one rest more some others first second third = grind (arith, first, second, third)

    either : (b : Bool) → count rows ≡ count some + count others → count (row ∷ rows)
        ≡ count (cond b (row ∷ some) some) + count (cond (not b) (row ∷ others) others)
    either true so_far =
        in_some (count (row ∷ rows)) (count (row ∷ [])) (count rows) (count (row ∷ some))
        (count some) (count others) (rows_number test tag (row ∷ []) rows) (rows_number test tag
        (row ∷ []) some) so_far
    either false so_far =
        in_others (count (row ∷ rows)) (count (row ∷ [])) (count rows) (count (row ∷ others))
        (count some) (count others) (rows_number test tag (row ∷ []) rows) (rows_number test tag
        (row ∷ []) others)
        so_far

-- those of a name go
pub named_gone : (before after : List Change) (name : AttrName) (attributes told : Kept)
    (what : Lost)
    → load_lost what ≡ rows_load attributes.tag (filter (is_named name) attributes.rows)
    → told ≡ record {
      tag = attributes.tag;
      rows = filter (λ row. not (is_named name row)) attributes.rows;
    } → IsNoted before after (load_lost what)
    → Keeps before after nothing (rows_load told.tag told.rows)
    (rows_load attributes.tag attributes.rows)
named_gone before after name attributes told what goes is noted =
    let tag = attributes.tag in
    let others = filter (λ row. not (is_named name row)) attributes.rows in
    subst (λ (kept : Kept). Keeps before after nothing (rows_load kept.tag kept.rows)
    (rows_load tag attributes.rows)) (sym is)
    (keeps_shed before after (no_paragraphs (dressed tag others))
    (no_paragraphs (dressed tag attributes.rows))
    (no_paragraphs (dressed tag (filter (is_named name) attributes.rows)))
    (subst (IsNoted before after) goes noted)
    (λ test. parted test tag (is_named name) attributes.rows))

-- and another comes
pub all_renamed : (before after : List Change) (name : AttrName) (attributes others kept : Kept)
    (what : Lost) (came : List Attribute) (one : Row) (tag : Tag) → tag ≡ attributes.tag
    → load_lost what ≡ rows_load attributes.tag (filter (is_named name) attributes.rows)
    → came ≡ (tag, one.0, one.1) ∷ []
    → others ≡ record {
      tag = attributes.tag;
      rows = filter (λ row. not (is_named name row)) attributes.rows;
    }
    → kept ≡ record { tag = others.tag; rows = others.rows ++ one ∷ [] }
    → IsTurned before after (load_lost what) came
    → Keeps before after nothing (rows_load kept.tag kept.rows)
    (rows_load attributes.tag attributes.rows)
all_renamed before after name attributes others kept what came one tag same goes comes left is
    turned =
    let of = attributes.tag in
    let rest = filter (λ row. not (is_named name row)) attributes.rows in
    subst (λ (kept : Kept). Keeps before after nothing (rows_load kept.tag kept.rows)
    (rows_load of attributes.rows))
    (sym (is ∙ ap (λ (kept : Kept). record { tag = kept.tag; rows = kept.rows ++ one ∷ [] }) left))
    (keeps_turned before after [] (no_paragraphs (dressed of (rest ++ one ∷ [])))
    (no_paragraphs (dressed of attributes.rows))
    (no_paragraphs (dressed of (filter (is_named name) attributes.rows))) came
    (subst (λ load. IsTurned before after load came) goes turned)
    (λ test. sums (count test (rest ++ one ∷ [])) (count test rest) (count test (one ∷ []))
    (number test (pieces_came came)) (count test attributes.rows)
    (count test (filter (is_named name) attributes.rows)) (rows_number test of rest (one ∷ []))
    (ap (λ some. number test (pieces_came some)) (comes ∙ ap (λ t. (t, one.0, one.1) ∷ []) same))
    (parted test of (is_named name) attributes.rows)))
  where
    count : (Piece → Bool) → List Row → ℕ
    count test rows = number test (no_paragraphs (dressed attributes.tag rows))

    sums : (new rest last came all named : ℕ) → new ≡ rest + last → came ≡ last
        → all ≡ named + rest → new + named ≡ (0 + all) + came
    sums new rest last came all named first second third = grind (arith, first, second, third)
