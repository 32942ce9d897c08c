-- The elements that are looked for, mark by mark and child by child.
use Rattle.std.proofs.Common.{◌≡◌, Bool, true, false, List, [], ◌∷◌, ◌++◌, filter, Result}
use Rattle.std.proofs.Common.{sym, ap, subst, ◌∙◌, append_assoc}
use Rattle.std.specs.Result.{OnOk}
use Rattle.std.specs.List.{filter_map}
use Rattle.std.proofs.lemmas.List.{append-nil}
use Rattle.std.proofs.lemmas.List.Elements.{filter-append, filter_map-append}
use Rattle.wap_base.specs.declared.name.Part.{Part}
use Rattle.wap_tokens.specs.declared.markup.deck.Node.{Node}
use Rattle.wap_tokens.specs.declared.markup.deck.Item.{Item}
use Rattle.wap_tokens.specs.declared.markup.deck.Item.TheVariants as item
use Rattle.wap_cardrules.specs.Content.{Mark, begins, ends, begun_by}
use Rattle.wap_cards.specs.declared.elements.Sought.{Sought}
use Rattle.wap_cards.specs.inside.Elements.{is_sought, sought_among}
use Rattle.wap_cards.proofs.Marks.{left_marks, marks_text, marks_no_text, marks_node}

module _ (kind : Sought) where
  -- those among marks and more marks
  pub among_both : (marks more : List Mark)
      → sought_among kind (marks ++ more) ≡ sought_among kind marks ++ sought_among kind more
  among_both marks more =
      ap (filter (is_sought kind)) (filter_map-append begun_by marks more)
      ∙ filter-append (is_sought kind) (filter_map begun_by marks) (filter_map begun_by more)

  -- an element, and then what is found in it
  pub goes_on : {X E : Type 0} (result : Result X E) (before begun after : List Node) (node : Node)
      (marks : List Mark) → begun ≡ before ++ filter (is_sought kind) (node ∷ [])
      → OnOk result (after ≡ begun ++ sought_among kind marks)
      → OnOk result (after ≡ before ++ sought_among kind (begins node ∷ marks))
  goes_on result before begun after node marks begun_is so =
      let first = filter (is_sought kind) (node ∷ []) in
      let same : begun ++ sought_among kind marks
      ≡ before ++ sought_among kind (begins node ∷ marks) =
      ap (λ (l : List Node). l ++ sought_among kind marks) begun_is
      ∙ append_assoc before first (sought_among kind marks)
      ∙ ap (λ (l : List Node). before ++ l) (sym (among_both (begins node ∷ []) marks)) in
      subst (λ (l : List Node). OnOk result (after ≡ l)) same so

  module _ (inner : Node → List Mark) (may_have_text : Bool) (rest : List Item) where
    abbrev left : List Node
    left = sought_among kind (left_marks inner may_have_text rest)

    -- a text is none of them
    pub none_in_text : (parts : List Part)
        → sought_among kind (left_marks inner may_have_text (item.Text parts ∷ rest)) ≡ left
    none_in_text parts = by may_have_text
      where
        by : (may : Bool) → sought_among kind (left_marks inner may (item.Text parts ∷ rest))
            ≡ sought_among kind (left_marks inner may rest)
        by true = ap (sought_among kind) (marks_text inner rest parts)
        by false = ap (sought_among kind) (marks_no_text inner rest parts)

    -- a node and what is in it come first
    pub first_in_node : (node : Node)
        → sought_among kind (left_marks inner may_have_text (item.Node node ∷ rest))
        ≡ sought_among kind (begins node ∷ inner node) ++ left
    first_in_node node =
        let whole : List Mark = begins node ∷ (inner node ++ ends node ∷ []) in
        ap (sought_among kind) (marks_node inner rest may_have_text node)
        ∙ among_both whole (left_marks inner may_have_text rest)
        ∙ ap (λ (l : List Node). l ++ left)
        (among_both (begins node ∷ inner node) (ends node ∷ [])
        ∙ append-nil (sought_among kind (begins node ∷ inner node)))

pub ruleset element_steps = (first_in_node, none_in_text, append_assoc)
