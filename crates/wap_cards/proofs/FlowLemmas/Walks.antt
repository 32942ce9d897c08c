-- The walk over a card: child by child, and what all of it gives.
use Rattle.std.proofs.Common.{◌≡◌, Bool, true, false, cond, List, [], ◌∷◌, ◌++◌, filter}
use Rattle.std.proofs.Common.{refl, sym, ap, ◌∙◌, append_assoc}
use Rattle.std.specs.Prelude.{if◌then◌else◌}
use Rattle.std.specs.List.{fold, filter_map}
use Rattle.std.proofs.lemmas.List.{append-nil}
use Rattle.std.proofs.lemmas.List.Sums.{fold-append}
use Rattle.wap_base.specs.declared.name.Part.{Part}
use Rattle.wap_tokens.specs.declared.markup.deck.Node.{Node}
use Rattle.wap_tokens.specs.declared.markup.deck.Item.{Item}
use Rattle.wap_tokens.specs.declared.markup.deck.Item.TheVariants as item
use Rattle.wap_tokens.specs.declared.markup.name.Tag.TheVariants as tags
use Rattle.wap_tokens.specs.markup.Tables.{is_same_tag}
use Rattle.wap_vars.specs.Variables.{Variables}
use Rattle.wap_cardrules.specs.Content.{Mark, words, begins, ends, element_marks, begun_by}
use Rattle.wap_cardrules.specs.Flow.{shown_with}
use Rattle.wap_cards.proofs.Marks.{left_marks, marks_text, marks_no_text, marks_node}
use Rattle.wap_cards.specs.declared.flow.walk.Walk.{Walk}
use Rattle.wap_cards.specs.flow.inside.Walks.{walked}

-- ---- child by child

module _ (vars : Variables) (inner : Node → List Mark) (kids rest : List Item)
    (walk whole : Walk) where
  -- what a walk comes to after the marks of these children
  abbrev over : Walk → Bool → List Item → Walk
  over from may_have_text items = fold (walked vars) from (left_marks inner may_have_text items)

  -- after a text that shows
  pub text_taken : (may_have_text : Bool) (parts : List Part) (after : Walk)
      → may_have_text ≡ true → over walk may_have_text kids ≡ whole
      → kids ≡ item.Text parts ∷ rest → after ≡ walked vars walk (words parts)
      → over after may_have_text rest ≡ whole
  text_taken true parts after may was kids_are after_is =
      ap (λ (w : Walk). over w true rest) after_is
      ∙ ap (fold (walked vars) walk) (sym (marks_text inner rest parts))
      ∙ ap (λ (l : List Item). over walk true l) (sym kids_are)
      ∙ was
  text_taken false parts after may was kids_are after_is = absurd (cc)

  -- after a text where none may stand
  pub text_passed : (may_have_text : Bool) (parts : List Part) → may_have_text ≡ false
      → over walk may_have_text kids ≡ whole → kids ≡ item.Text parts ∷ rest
      → over walk may_have_text rest ≡ whole
  text_passed true parts may was kids_are = absurd (cc)
  text_passed false parts may was kids_are =
      ap (fold (walked vars) walk) (sym (marks_no_text inner rest parts))
      ∙ ap (λ (l : List Item). over walk false l) (sym kids_are)
      ∙ was

  -- after an element
  pub element_taken : (may_have_text : Bool) (node : Node) (after : Walk)
      → over walk may_have_text kids ≡ whole → kids ≡ item.Node node ∷ rest
      → after ≡ fold (walked vars) walk (element_marks inner node)
      → over after may_have_text rest ≡ whole
  element_taken may_have_text node after was kids_are after_is =
      ap (λ (w : Walk). over w may_have_text rest) after_is
      ∙ sym (fold-append (walked vars) walk (element_marks inner node)
      (left_marks inner may_have_text rest))
      ∙ ap (fold (walked vars) walk) (sym (marks_node inner rest may_have_text node))
      ∙ ap (λ (l : List Item). over walk may_have_text l) (sym kids_are)
      ∙ was

-- ---- all of it

-- what shows after all marks
pub shown_walked : (vars : Variables) (walk : Walk) (marks : List Mark)
    → (fold (walked vars) walk marks).shown ≡ fold (shown_with vars) walk.shown marks
shown_walked vars walk [] = refl
shown_walked vars walk (mark ∷ marks) = shown_walked vars (walked vars walk mark) marks

-- the dos that begin among marks
abbrev pub dos_among : List Mark → List Node
dos_among marks = filter (λ one. is_same_tag one.tag tags.Do) (filter_map begun_by marks)

-- an element that may be a do, and the dos after it
do_first : (is_do : Bool) (dos more : List Node) (node : Node)
    → (if is_do then dos ++ node ∷ [] else dos) ++ more ≡ dos ++ cond is_do (node ∷ more) more
do_first true dos more node = append_assoc dos (node ∷ []) more
do_first false dos more node = refl

-- the dos after all marks
pub dos_walked : (vars : Variables) (walk : Walk) (marks : List Mark)
    → (fold (walked vars) walk marks).dos ≡ walk.dos ++ dos_among marks
dos_walked vars walk [] = sym (append-nil walk.dos)
dos_walked vars walk (words parts ∷ marks) = dos_walked vars (walked vars walk (words parts)) marks
dos_walked vars walk (begins node ∷ marks) =
    dos_walked vars (walked vars walk (begins node)) marks
    ∙ do_first (is_same_tag node.tag tags.Do) walk.dos (dos_among marks) node
dos_walked vars walk (ends node ∷ marks) = dos_walked vars (walked vars walk (ends node)) marks
