-- Attributes that may stand.
use Rattle.std.proofs.Common.{◌≡◌, ℕ, ◌<◌, ◌≤◌, ◌+◌, Bool, true, false, not, ◌&&◌, ◌||◌, cond}
use Rattle.std.proofs.Common.{List, [], ◌∷◌, ◌++◌, map, filter, length, get_or, take}
use Rattle.std.proofs.Common.{Option, Some, None, Result, Ok, Err, refl, sym, ap, subst, ◌∙◌}
use Rattle.std.specs.Prelude.{OnOk, OnErr, IfSome, MatchOption, is_some, is_none, find}
use Rattle.std.specs.List.{list_all, AllByRecursion, IsDistinct}
use Rattle.std.specs.Option.{option_map, option_and_then}
use Rattle.std.proofs.lemmas.Bool.{false≢true, true≢false, or_parts}
use Rattle.std.proofs.lemmas.List.{same_from_push, append-nil, take_all}
use Rattle.std.proofs.lemmas.List.Elements.{filter_more, All-from_recursion}
use Rattle.wap_base.specs.declared.name.Part.{Part}
use Rattle.wap_tokens.specs.declared.markup.deck.Item.{Item}
use Rattle.wap_tokens.specs.declared.markup.name.Tag.{Tag}
use Rattle.wap_tokens.specs.declared.markup.name.AttrName.{AttrName}
use Rattle.wap_tokens.specs.declared.markup.name.AttrName.TheVariants as attrs
use Rattle.wap_tokens.specs.markup.Tables.{is_same_tag, is_same_attr}
use Rattle.wap_tokens.specs.markup.Trees.{plain_text}
use Rattle.wap_tokens.specs.markup.Normal.{IsAttribute}
use Rattle.wap_tokens.specs.markup.Good.{Form, value_has, forms, has_forms, first_of}
use Rattle.wap_mend.specs.inside.Building.{Kept, IsKept, Suits, is_named, has_name, value_among}
use Rattle.wap_mend.specs.inside.Names.{name_among}

-- ---- values of the forms that they have to be of

-- whether the values of some attributes are of those of some forms that are for a tag
abbrev fit : Tag → List (AttrName × List Part) → List (Tag × AttrName × Form) → Bool
fit tag rows some =
    list_all (λ form. not (is_same_tag tag form.0)
    || list_all (λ a. not (is_same_attr a.0 form.1) || value_has form.2 (plain_text a.1)) rows) some

-- a form that no attribute lacks, and others
nothing_lacks : (same others : Bool) → others ≡ true → ((not same || true) && others) ≡ true
nothing_lacks true others rest = rest
nothing_lacks false others rest = rest

-- no attributes lack a form
none_fit : (tag : Tag) (some : List (Tag × AttrName × Form)) → fit tag [] some ≡ true
none_fit tag [] = refl
none_fit tag (form ∷ some) =
    nothing_lacks (is_same_tag tag form.0) (fit tag [] some) (none_fit tag some)

-- a form that neither an attribute nor those behind it lack, and others
neither_lacks : (same here behind first others all : Bool)
    → ((not same || (here && true)) && first) ≡ true
    → ((not same || behind) && others) ≡ true
    → (first ≡ true → others ≡ true → all ≡ true)
    → ((not same || (here && behind)) && all) ≡ true
neither_lacks true true true first others all one more rest = rest one more
neither_lacks true true false first others all one more rest = absurd (false≢true more)
neither_lacks true false behind first others all one more rest = absurd (false≢true one)
neither_lacks false here behind first others all one more rest = rest one more

-- an attribute and those behind it
both_fit : (tag : Tag) (row : AttrName × List Part) (rows : List (AttrName × List Part))
    (some : List (Tag × AttrName × Form)) → fit tag (row ∷ []) some ≡ true
    → fit tag rows some ≡ true → fit tag (row ∷ rows) some ≡ true
both_fit tag row rows [] one more = refl
both_fit tag row rows (form ∷ some) one more =
    neither_lacks (is_same_tag tag form.0)
    (not (is_same_attr row.0 form.1) || value_has form.2 (plain_text row.1))
    (list_all (λ a. not (is_same_attr a.0 form.1) || value_has form.2 (plain_text a.1)) rows)
    (fit tag (row ∷ []) some) (fit tag rows some) (fit tag (row ∷ rows) some) one more
    (both_fit tag row rows some)

-- attributes each of which an element may have
pub kept_forms : (tag : Tag) (rows : List (AttrName × List Part)) (kids : List Item)
    → AllByRecursion (Suits tag) rows
    → has_forms (record { tag = tag; attrs = rows; kids = kids }) ≡ true
kept_forms tag [] kids suit = none_fit tag forms
kept_forms tag (row ∷ rows) kids suit =
    both_fit tag row rows forms suit.0.forms (kept_forms tag rows kids suit.1)

-- ---- attributes that are kept

-- each of some attributes is one that documents can mean
pub each_is : (rows items : List (AttrName × List Part)) (i : ℕ) (row : AttrName × List Part)
    → AllByRecursion IsAttribute rows → items ≡ rows → i < length items → row ≡ get_or items i row
    → IsAttribute row
each_is rows items i row each are within is =
    subst IsAttribute (sym is) (subst (λ some. IsAttribute (get_or some i row)) (sym are)
    (All-from_recursion IsAttribute rows each i row (subst (λ some. i < length some) are within)))

-- no attributes
pub none_kept : (tag : Tag) (rows : List (AttrName × List Part)) → rows ≡ [] → IsKept tag rows
unfolding IsDistinct
none_kept tag rows none =
    subst (IsKept tag) (sym none) (record { normal = tt; once = tt; suits = tt })

-- what holds of attributes and of one more
one_more : (P : AttrName × List Part → Type 0) (rows : List (AttrName × List Part))
    (attribute : AttrName × List Part) → AllByRecursion P rows → P attribute
    → AllByRecursion P (rows ++ attribute ∷ [])
one_more P [] attribute each last = (last, tt)
one_more P (row ∷ rows) attribute each last = (each.0, one_more P rows attribute each.1 last)

-- what holds of names and of one more
one_more_name : (P : AttrName → Type 0) (rows : List (AttrName × List Part))
    (attribute : AttrName × List Part) → AllByRecursion P (map (λ a. a.0) rows) → P attribute.0
    → AllByRecursion P (map (λ a. a.0) (rows ++ attribute ∷ []))
one_more_name P [] attribute each last = (last, tt)
one_more_name P (row ∷ rows) attribute each last =
    (each.0, one_more_name P rows attribute each.1 last)

-- distinct names, and one more that isn't among them
once_more : (rows : List (AttrName × List Part)) (attribute : AttrName × List Part)
    → IsDistinct is_same_attr (map (λ a. a.0) rows) → has_name attribute.0 rows ≡ false
    → IsDistinct is_same_attr (map (λ a. a.0) (rows ++ attribute ∷ []))
unfolding IsDistinct
once_more [] attribute once free = (tt, tt)
once_more (row ∷ rows) attribute once free =
    let apart = or_parts (is_same_attr row.0 attribute.0) (has_name attribute.0 rows) free in (
      one_more_name (λ name. is_same_attr row.0 name ≡ false) rows attribute once.0 apart.0,
      once_more rows attribute once.1 apart.1,
    )

-- attributes that are kept, and one more
one_more_kept : (tag : Tag) (rows : List (AttrName × List Part))
    (attribute : AttrName × List Part) → IsKept tag rows → IsAttribute attribute
    → Suits tag attribute → has_name attribute.0 rows ≡ false
    → IsKept tag (rows ++ attribute ∷ [])
one_more_kept tag rows attribute kept fits suits free = record {
  normal = one_more IsAttribute rows attribute kept.normal fits;
  once = once_more rows attribute kept.once free;
  suits = one_more (Suits tag) rows attribute kept.suits suits;
}

-- attributes that are kept, one more of which is added, or none where memory runs out
pub added_kept : {X E : Type 0} (added : Result X E) (tag : Tag) (whole : Kept)
    (old new : List (AttrName × List Part)) (attribute : AttrName × List Part)
    → record { tag = tag; rows = old } ≡ whole → OnOk added (new ≡ old ++ attribute ∷ [])
    → OnErr added (new ≡ old) → IsKept tag old → IsAttribute attribute
    → Suits whole.tag attribute → has_name attribute.0 whole.rows ≡ false → IsKept tag new
added_kept (Ok x) tag whole old new attribute view ok err kept fits suits free =
    let suits_tag = subst (λ (all : Kept). Suits all.tag attribute) (sym view) suits in
    let free_of = subst (λ (all : Kept). has_name attribute.0 all.rows ≡ false) (sym view) free in
    subst (IsKept tag) (sym ok) (one_more_kept tag old attribute kept fits suits_tag free_of)
added_kept (Err e) tag whole old new attribute view ok err kept fits suits free =
    subst (IsKept tag) (sym err) kept

-- what holds of attributes, of some of them
some_hold : (P : AttrName × List Part → Type 0) (passes : AttrName × List Part → Bool)
    (rows : List (AttrName × List Part)) → AllByRecursion P rows
    → AllByRecursion P (filter passes rows)
some_hold P passes [] each = tt
some_hold P passes (row ∷ rows) each =
    by_test (passes row) (some_hold P passes rows each.1) where
      by_test : (test : Bool) → AllByRecursion P (filter passes rows)
          → AllByRecursion P (cond test (row ∷ filter passes rows) (filter passes rows))
      by_test true rest = (each.0, rest)
      by_test false rest = rest

-- what holds of names, of those of some attributes
some_names_hold : (P : AttrName → Type 0) (passes : AttrName × List Part → Bool)
    (rows : List (AttrName × List Part)) → AllByRecursion P (map (λ a. a.0) rows)
    → AllByRecursion P (map (λ a. a.0) (filter passes rows))
some_names_hold P passes [] each = tt
some_names_hold P passes (row ∷ rows) each =
    by_test (passes row) (some_names_hold P passes rows each.1) where
      by_test : (test : Bool) → AllByRecursion P (map (λ a. a.0) (filter passes rows))
          → AllByRecursion P
          (map (λ a. a.0) (cond test (row ∷ filter passes rows) (filter passes rows)))
      by_test true rest = (each.0, rest)
      by_test false rest = rest

-- distinct names, of some attributes
some_once : (passes : AttrName × List Part → Bool) (rows : List (AttrName × List Part))
    → IsDistinct is_same_attr (map (λ a. a.0) rows)
    → IsDistinct is_same_attr (map (λ a. a.0) (filter passes rows))
unfolding IsDistinct
some_once passes [] once = tt
some_once passes (row ∷ rows) once =
    by_test (passes row) (some_once passes rows once.1) where
      by_test : (test : Bool) → IsDistinct is_same_attr (map (λ a. a.0) (filter passes rows))
          → IsDistinct is_same_attr
          (map (λ a. a.0) (cond test (row ∷ filter passes rows) (filter passes rows)))
      by_test true rest =
          (some_names_hold (λ name. is_same_attr row.0 name ≡ false) passes rows once.0, rest)
      by_test false rest = rest

-- attributes that are kept, without those of a name
others_kept : (tag : Tag) (rows others : List (AttrName × List Part)) (name : AttrName)
    → others ≡ filter (λ row. not (is_named name row)) rows → IsKept tag rows → IsKept tag others
others_kept tag rows others name are kept =
    let passes : AttrName × List Part → Bool = λ row. not (is_named name row) in
    subst (IsKept tag) (sym are) (record {
      normal = some_hold IsAttribute passes rows kept.normal;
      once = some_once passes rows kept.once;
      suits = some_hold (Suits tag) passes rows kept.suits;
    })

-- the next of some attributes, as it is copied
copied_next : (passes : AttrName × List Part → Bool) (items : List (AttrName × List Part)) (i : ℕ)
    (row : AttrName × List Part) → i < length items → row ≡ get_or items i row
    → filter passes (take (i + 1) items)
    ≡ filter passes (take i items) ++ cond (passes row) (row ∷ []) []
copied_next passes items i row within is =
    filter_more passes items i row within
    ∙ ap (λ one. filter passes (take i items) ++ cond (passes one) (one ∷ []) []) (sym is)

module _ (passes : AttrName × List Part → Bool) (items rows : List (AttrName × List Part)) (i : ℕ)
    (row : AttrName × List Part) (are : items ≡ rows) (within : i < length items)
    (is : row ≡ get_or items i row) (copy new : List (AttrName × List Part))
    (before : copy ≡ filter passes (take i rows)) where
  -- those up to it that pass
  next : filter passes (take (i + 1) rows)
      ≡ filter passes (take i rows) ++ cond (passes row) (row ∷ []) []
  next = copied_next passes rows i row (subst (λ some. i < length some) are within)
      (subst (λ some. row ≡ get_or some i row) are is)

  -- one of another name, with the copy of its value
  pub copied_other : (value : List Part) → passes row ≡ true → value ≡ row.1
      → new ≡ copy ++ (row.0, value) ∷ [] → new ≡ filter passes (take (i + 1) rows)
  copied_other value other same one_more =
      one_more ∙ ap (λ some. some ++ (row.0, value) ∷ []) before
      ∙ ap (λ v. filter passes (take i rows) ++ (row.0, v) ∷ []) same
      ∙ ap (λ b. filter passes (take i rows) ++ cond b (row ∷ []) []) (sym other)
      ∙ sym next

  -- one of that name
  pub copied_no_more : passes row ≡ false → new ≡ copy → new ≡ filter passes (take (i + 1) rows)
  copied_no_more named none_more =
      none_more ∙ before ∙ sym (append-nil (filter passes (take i rows)))
      ∙ ap (λ b. filter passes (take i rows) ++ cond b (row ∷ []) []) (sym named)
      ∙ sym next

-- attributes that are kept, all of them tried
pub all_copied : (tag : Tag) (whole : Kept) (rows items copy : List (AttrName × List Part))
    (name : AttrName) (i : ℕ) → record { tag = tag; rows = rows } ≡ whole → items ≡ rows
    → length items ≤ i → copy ≡ filter (λ row. not (is_named name row)) (take i whole.rows)
    → IsKept tag rows → IsKept tag copy
all_copied tag whole rows items copy name i view are past copied kept =
    let all = take_all i rows (subst (λ some. length some ≤ i) are past) in
    let of_rows = ap (λ (all : Kept). filter (λ row. not (is_named name row)) (take i all.rows))
    (sym view) in
    others_kept tag rows copy name
    (copied ∙ of_rows ∙ ap (filter (λ row. not (is_named name row))) all) kept

-- ---- an attribute that is tried

-- the one attribute that an element of good values had
pub found_suits : {X : Type 0} (wrong : Option X) (tag : Tag)
    (rows left : List (AttrName × List Part)) (kids : List Item) (one : AttrName × List Part)
    (found : Option (AttrName × List Part)) → rows ≡ one ∷ [] → is_some wrong ≡ false
    → is_none wrong ≡ has_forms (record { tag = tag; attrs = rows; kids = kids })
    → MatchOption found ((rows ≡ []) × (left ≡ [])) (λ last. rows ≡ left ++ last ∷ [])
    → IfSome found (Suits tag)
found_suits wrong tag rows left kids one None is none fits popped = tt
found_suits (Some x) tag rows left kids one (Some last) is none fits popped =
    absurd (true≢false none)
found_suits None tag rows left kids one (Some last) is none fits popped =
    let same = same_from_push left [] last one (sym popped ∙ is) in
    let fits_one = subst
    (λ some. has_forms (record { tag = tag; attrs = some; kids = kids }) ≡ true) is (sym fits) in
    subst (Suits tag) (sym same.1) (record { forms = fits_one })

-- ---- another name

-- none of that name is among the others
pub others_free : (wanted : AttrName) (rows : List (AttrName × List Part))
    → has_name wanted (filter (λ row. not (is_named wanted row)) rows) ≡ false
others_free wanted [] = refl
others_free wanted (row ∷ rows) =
    by_test (is_named wanted row) refl (others_free wanted rows) where
      others : List (AttrName × List Part)
      others = filter (λ one. not (is_named wanted one)) rows

      by_test : (test : Bool) → is_named wanted row ≡ test → has_name wanted others ≡ false
          → has_name wanted (cond (not test) (row ∷ others) others) ≡ false
      by_test true is rest = rest
      by_test false is rest = ap (λ b. b || has_name wanted others) is ∙ rest

-- a name behind attributes of other names
name_last : (rows : List (AttrName × List Part)) (value : List Part)
    → has_name attrs.Name rows ≡ false
    → value_among attrs.Name (rows ++ (attrs.Name, value) ∷ []) ≡ Some value
name_last [] value free = refl
name_last (row ∷ rows) value free =
    let apart = or_parts (is_named attrs.Name row) (has_name attrs.Name rows) free in
    let behind : List (AttrName × List Part) = rows ++ (attrs.Name, value) ∷ [] in
    ap (λ test. option_map (λ (a : AttrName × List Part). a.1)
    (cond test (Some row) (find (λ a. is_same_attr a.0 attrs.Name) behind))) apart.0
    ∙ name_last rows value apart.1

module _ (attributes : Kept) (attribute : AttrName × List Part) (value : List Part)
    (found : Option (AttrName × List Part)) (is : found ≡ Some attribute)
    (same : IfSome found (λ one. one ≡ (attrs.Name, value))) where
  -- what is added is the name
  pub is_name : attribute ≡ (attrs.Name, value)
  is_name = subst (λ some. IfSome some (λ one. one ≡ (attrs.Name, value))) is same

  -- the name is the one that is added
  pub is_renamed : (after : Kept) (name : List ℕ) → after ≡ record {
    tag = attributes.tag;
    rows = filter (λ row. not (is_named attrs.Name row)) attributes.rows ++ attribute ∷ [];
  } → plain_text value ≡ Some name → name_among after.rows ≡ Some name
  is_renamed after name renamed plain =
      let others = filter (λ row. not (is_named attrs.Name row)) attributes.rows in
      ap (λ (kept : Kept). name_among kept.rows) renamed
      ∙ ap (λ one. name_among (others ++ one ∷ [])) is_name
      ∙ ap (λ first. option_and_then plain_text (first_of first
      (value_among attrs.Type (others ++ (attrs.Name, value) ∷ []))))
      (name_last others value (others_free attrs.Name attributes.rows))
      ∙ plain
