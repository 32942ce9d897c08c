-- Fields show with the numbers by which keys name them.
use Rattle.std.proofs.Common.{◌≡◌, ◌+◌, suc, Bool, true, false, List, [], ◌∷◌, ◌++◌, Some}
use Rattle.std.proofs.Common.{length, slice_get, refl, sym, ap, ◌∙◌, arith}
use Rattle.std.specs.Prelude.{filter, if◌then◌else◌}
use Rattle.std.specs.List.{fold, filter_map}
use Rattle.std.proofs.lemmas.List.{append_assoc, append-nil}
use Rattle.std.proofs.lemmas.List.Elements.{filter-append, filter_map-append}
use Rattle.std.proofs.lemmas.List.Sums.{fold-append}
use Rattle.wap_url.specs.Segments.{IsPrefix}
use Rattle.wap_tokens.specs.declared.markup.deck.Node.{Node}
use Rattle.wap_tokens.specs.declared.markup.name.Tag.TheVariants as tags
use Rattle.wap_tokens.specs.markup.Tables.{is_same_tag}
use Rattle.wap_layout.specs.declared.flow.Flow.{Flow}
use Rattle.wap_layout.specs.declared.flow.Flow.TheVariants.{Words}
use Rattle.wap_vars.specs.Variables.{Variables}
use Rattle.wap_vars.specs.Filling.{filled}
use Rattle.wap_cardrules.specs.Content.{Mark, words, begins, ends, content_of, begun_by}
use Rattle.wap_cardrules.specs.Fields.{is_field, fields_of, numbered}
use Rattle.wap_cardrules.specs.Flow.{Shown, followed_by, with_field, with_mode, mode_of}
use Rattle.wap_cardrules.specs.Flow.{flow_before, begun, shown_with, nothing_shown}
use Rattle.wap_cardrules.specs.Flow.{flow_behind, field_flow, flow_of}

-- the fields that begin among marks
abbrev fields_in : List Mark → List Node
fields_in marks = filter (λ node. is_field node.tag) (filter_map begun_by marks)

-- what another element than a field comes to
abbrev other_begun : Variables → Shown → Node → Bool → Shown
other_begun vars shown node is_p =
    if is_p then with_mode shown (mode_of shown.mode node)
    else followed_by shown (flow_before vars node)

abbrev begun_if : Variables → Shown → Node → Bool → Shown
begun_if vars shown node is_one =
    if is_one then with_field vars shown node
    else other_begun vars shown node (is_same_tag node.tag tags.P)

-- ---- the count

other_keeps : (vars : Variables) (shown : Shown) (node : Node) (is_p : Bool)
    → (other_begun vars shown node is_p).fields ≡ shown.fields
other_keeps vars shown node true = refl
other_keeps vars shown node false = refl

abbrev Counts : Variables → List Mark → Shown → Type 0
Counts vars marks shown =
    (fold (shown_with vars) shown marks).fields ≡ shown.fields + length (fields_in marks)

begun_counts : (vars : Variables) (shown : Shown) (node : Node) (marks : List Mark) (b : Bool)
    → ((next : Shown) → Counts vars marks next)
    → (fold (shown_with vars) (begun_if vars shown node b) marks).fields
    ≡ shown.fields + length (if b then node ∷ fields_in marks else fields_in marks)
begun_counts vars shown node marks true counts =
    counts (with_field vars shown node) ∙ omega arith
begun_counts vars shown node marks false counts =
    counts (begun_if vars shown node false)
    ∙ ap (λ n. n + length (fields_in marks))
    (other_keeps vars shown node (is_same_tag node.tag tags.P))

-- so many fields more have begun after marks
count : (vars : Variables) (marks : List Mark) (shown : Shown) → Counts vars marks shown
count vars [] shown = omega arith
count vars (words parts ∷ marks) shown = count vars marks (shown_with vars shown (words parts))
count vars (begins node ∷ marks) shown =
    begun_counts vars shown node marks (is_field node.tag) (count vars marks)
count vars (ends node ∷ marks) shown = count vars marks (shown_with vars shown (ends node))

-- ---- the number

item_between : (xs ys : List Node) (y : Node) → slice_get (xs ++ y ∷ ys) (length xs) ≡ Some y
item_between [] ys y = refl
item_between (x ∷ xs) ys y = item_between xs ys y

fields_between : (before after : List Mark) (field : Node) → is_field field.tag ≡ true
    → fields_in (before ++ begins field ∷ after) ≡ fields_in before ++ field ∷ fields_in after
fields_between before after field is =
    ap (filter (λ node. is_field node.tag))
    (filter_map-append begun_by before (begins field ∷ after))
    ∙ filter-append (λ node. is_field node.tag) (filter_map begun_by before)
    (field ∷ filter_map begun_by after)
    ∙ ap (λ (b : Bool). fields_in before
    ++ (if b then field ∷ fields_in after else fields_in after)) is

pub has_number : (vars : Variables) (card field : Node) (before after : List Mark)
    → content_of card ≡ before ++ begins field ∷ after → is_field field.tag ≡ true
    → numbered (fields_of card) ((fold (shown_with vars) nothing_shown before).fields + 1)
    ≡ Some field
has_number vars card field before after split is =
    let counted : (fold (shown_with vars) nothing_shown before).fields + 1
    ≡ suc (length (fields_in before)) =
    omega (count vars before nothing_shown, arith) in
    ap (numbered (fields_of card)) counted
    ∙ ap (λ marks. slice_get (fields_in marks) (length (fields_in before))) split
    ∙ ap (λ fields. slice_get fields (length (fields_in before)))
    (fields_between before after field is)
    ∙ item_between (fields_in before) (fields_in after) field

-- ---- what shows

-- what shows stays before what marks add
abbrev Grows : Shown → Shown → Type 0
Grows shown next = IsPrefix shown.flow next.flow

other_grows : (vars : Variables) (shown : Shown) (node : Node) (is_p : Bool)
    → Grows shown (other_begun vars shown node is_p)
other_grows vars shown node true = (mode_of shown.mode node ∷ [], refl)
other_grows vars shown node false = (flow_before vars node, refl)

begun_grows : (vars : Variables) (shown : Shown) (node : Node) (b : Bool)
    → Grows shown (begun_if vars shown node b)
begun_grows vars shown node true = (field_flow vars (shown.fields + 1) node, refl)
begun_grows vars shown node false =
    other_grows vars shown node (is_same_tag node.tag tags.P)

mark_grows : (vars : Variables) (shown : Shown) (mark : Mark)
    → Grows shown (shown_with vars shown mark)
mark_grows vars shown (words parts) = (Words (filled vars parts) ∷ [], refl)
mark_grows vars shown (begins node) = begun_grows vars shown node (is_field node.tag)
mark_grows vars shown (ends node) = (flow_behind node.tag, refl)

prefix_of_prefix : (one two three : List Flow) → IsPrefix one two → IsPrefix two three
    → IsPrefix one three
prefix_of_prefix one two three first next = (
  first.0 ++ next.0,
  next.1 ∙ ap (λ flow. flow ++ next.0) first.1
      ∙ append_assoc one first.0 next.0,
)

grows : (vars : Variables) (marks : List Mark) (shown : Shown)
    → Grows shown (fold (shown_with vars) shown marks)
grows vars [] shown = ([], sym (append-nil shown.flow))
grows vars (mark ∷ marks) shown =
    let next = shown_with vars shown mark in
    prefix_of_prefix shown.flow next.flow (fold (shown_with vars) next marks).flow
    (mark_grows vars shown mark) (grows vars marks next)

pub shows_number : (vars : Variables) (card field : Node) (before after : List Mark)
    → content_of card ≡ before ++ begins field ∷ after → is_field field.tag ≡ true
    → let so_far = fold (shown_with vars) nothing_shown before in
    IsPrefix (so_far.flow ++ field_flow vars (so_far.fields + 1) field) (flow_of vars card)
unfolding flow_of
shows_number vars card field before after split is =
    let so_far = fold (shown_with vars) nothing_shown before in
    let next : begun vars so_far field ≡ with_field vars so_far field =
    ap (begun_if vars so_far field) is in
    let rest = grows vars after (with_field vars so_far field) in
    let whole : fold (shown_with vars) nothing_shown (content_of card)
    ≡ fold (shown_with vars) (with_field vars so_far field) after =
    ap (fold (shown_with vars) nothing_shown) split
    ∙ fold-append (shown_with vars) nothing_shown before (begins field ∷ after)
    ∙ ap (λ shown. fold (shown_with vars) shown after) next in
    (rest.0, ap (λ (shown : Shown). shown.flow) whole ∙ rest.1)
