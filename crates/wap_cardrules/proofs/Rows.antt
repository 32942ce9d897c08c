-- The definitions at examples.
use Rattle.std.proofs.Common.{◌≡◌, ℕ, List, [], ◌∷◌, true, false, Some, None, refl, ap}
use Rattle.std.specs.Prelude.{codes}
use Rattle.std.specs.List.{fold}
use Rattle.std.specs.Fmt.{digits}
use Rattle.wap_base.specs.declared.name.Part.{Part}
use Rattle.wap_base.specs.declared.name.Part.TheVariants.{Lit}
use Rattle.wap_tokens.specs.declared.markup.deck.Deck.{Deck}
use Rattle.wap_tokens.specs.declared.markup.deck.Node.{Node}
use Rattle.wap_tokens.specs.declared.markup.deck.Item.{Item}
use Rattle.wap_tokens.specs.declared.markup.deck.Item.TheVariants as item
use Rattle.wap_tokens.specs.declared.markup.name.Tag.{Tag}
use Rattle.wap_tokens.specs.declared.markup.name.Tag.TheVariants as tags
use Rattle.wap_tokens.specs.declared.markup.name.AttrName.{AttrName}
use Rattle.wap_tokens.specs.declared.markup.name.AttrName.TheVariants as attrs
use Rattle.wap_tokens.specs.markup.Good.{rule_of, rules}
use Rattle.wap_tokens.specs.markup.Tasks.{task_of}
use Rattle.wap_layout.specs.declared.flow.Flow.TheVariants.{Words, Hard, Wrap}
use Rattle.wap_layout.specs.Calculation.{lines_of}
use Rattle.wap_cardrules.specs.declared.event.Event.TheVariants.{Forward, Backward, Timer}
use Rattle.wap_cardrules.specs.declared.task.Task.TheVariants.{Prev}
use Rattle.wap_cardrules.specs.Content.{words, begins, ends, content_of}
use Rattle.wap_cardrules.specs.Tasks.{go_to}
use Rattle.wap_cardrules.specs.Events.{binding, template_of}
use Rattle.wap_cardrules.specs.Dos.{do_labels}
use Rattle.wap_cardrules.specs.Timers.{time_in}
use Rattle.wap_cardrules.specs.Fields.{fields_of, link_task}
use Rattle.wap_cardrules.specs.Selects.{options_of, choice_of, choice_with, choice_text}
use Rattle.wap_cardrules.specs.Setting.{default}
use Rattle.wap_cardrules.specs.Flow.{nothing_shown, shown_with, flow_of}
use Rattle.wap_cardrules.proofs.Opening.{out_text, out_node}

abbrev el : Tag → List (AttrName × List Part) → List Item → Node
el tag attributes kids = record { tag = tag; attrs = attributes; kids = kids }

abbrev lit : List ℕ → List Part
lit text = Lit text ∷ []

-- ---- a select of two options, multiple, with ivalue 2;9;2

abbrev red : Node
red = el tags.Option ((attrs.Value, lit (codes "r")) ∷ []) (item.Text (lit (codes "R")) ∷ [])

abbrev blue : Node
blue = el tags.Option ((attrs.Value, lit (codes "b")) ∷ []) (item.Text (lit (codes "B")) ∷ [])

abbrev colours : Node
colours = el tags.Select
    ((attrs.Name, lit (codes "c")) ∷ (attrs.Multiple, lit (codes "true"))
    ∷ (attrs.Ivalue, lit (codes "2;9;2")) ∷ [])
    (item.Node red ∷ item.Node blue ∷ [])

two_options : options_of colours ≡ red ∷ blue ∷ []
two_options = simp (out_text, out_node) refl

second_is_chosen : choice_of [] colours ≡ false ∷ true ∷ []
second_is_chosen = simp (out_text, out_node) refl

sets_blue : choice_text [] colours (false ∷ true ∷ []) ≡ codes "b"
sets_blue = simp (out_text, out_node) refl

then_both : choice_with colours (choice_of ((codes "c", codes "b") ∷ []) colours) 1
    ≡ true ∷ true ∷ []
then_both = simp (out_text, out_node) refl

sets_both : choice_text [] colours (true ∷ true ∷ []) ≡ codes "r;b"
sets_both = simp (out_text, out_node) refl

sets_default : (default [] colours).vars ≡ (codes "c", codes "b") ∷ []
sets_default = simp (out_text, out_node) refl

-- ---- a card: a link, an input, a text with a break

abbrev link : Node
link = el tags.A ((attrs.Href, lit (codes "#b")) ∷ []) (item.Text (lit (codes "on")) ∷ [])

abbrev field : Node
field = el tags.Input ((attrs.Name, lit (codes "n")) ∷ (attrs.Format, lit (codes "N*N")) ∷ []) []

abbrev words_and_break : Node
words_and_break =
    el tags.P [] (item.Text (lit (codes "a")) ∷ item.Node (el tags.Br [] []) ∷ item.Node link
    ∷ item.Node field ∷ [])

abbrev card : Node
card = el tags.Card [] (item.Node words_and_break ∷ [])

content : content_of card ≡
    begins words_and_break ∷ words (lit (codes "a")) ∷ begins (el tags.Br [] [])
    ∷ ends (el tags.Br [] [])
    ∷ begins link ∷ words (lit (codes "on")) ∷ ends link ∷ begins field ∷ ends field
    ∷ ends words_and_break ∷ []
unfolding content_of rule_of rules
content = simp (out_text, out_node) refl

two_fields : fields_of card ≡ link ∷ field ∷ []
two_fields = simp content refl

first_link : link_task [] card 1 ≡ Some (go_to (codes "#b"))
first_link = simp content refl

flows : flow_of ((codes "n", codes "12") ∷ []) card ≡
    Wrap ∷ Words (codes "a") ∷ Hard ∷ Words (codes "[1]") ∷ Words (codes "on")
    ∷ Words (codes " (2)12 ") ∷ []
unfolding flow_of digits
flows =
    ap (λ ms. (fold (shown_with ((codes "n", codes "12") ∷ [])) nothing_shown ms).flow) content

lines : lines_of 20 (flow_of ((codes "n", codes "12") ∷ []) card)
    ≡ codes "a" ∷ codes "[1]on (2)12" ∷ []
lines = ap (lines_of 20) flows

-- ---- times

times : (time_in (codes "007") ≡ 7) × (time_in (codes "99999999999") ≡ 4294967295)
    × (time_in (codes "1x") ≡ 0) × (time_in [] ≡ 0)
times = (refl, refl, refl, refl)

-- ---- events: the first onevent comes before the attribute, and a noop hides

abbrev once_to : List ℕ → Node
once_to href =
    el tags.Onevent ((attrs.Type, lit (codes "onenterforward")) ∷ [])
    (item.Node (el tags.Prev [] []) ∷ [])

abbrev hidden : Node
hidden =
    el tags.Onevent ((attrs.Type, lit (codes "ontimer")) ∷ []) (item.Node (el tags.Noop [] []) ∷ [])

abbrev eventful : Node
eventful =
    el tags.Card ((attrs.Onenterforward, lit (codes "#x")) ∷ (attrs.Ontimer, lit (codes "#y"))
    ∷ (attrs.Onenterbackward, lit (codes "#z")) ∷ [])
    (item.Node (once_to (codes "#b")) ∷ item.Node hidden ∷ [])

abbrev site : Deck
site = record { root = el tags.Wml [] (item.Node eventful ∷ []) }

by_onevent : binding [] site eventful Forward ≡ Some (Prev [])
by_onevent = simp (out_text, out_node) refl

by_noop : binding [] site eventful Timer ≡ None
by_noop = simp (out_text, out_node) refl

by_attribute : binding [] site eventful Backward ≡ Some (go_to (codes "#z"))
by_attribute = simp (out_text, out_node) refl

-- ---- dos: a noop hides the template's

abbrev do_of : List ℕ → Node → Node
do_of name task =
    el tags.Do ((attrs.Type, lit name) ∷ (attrs.Label, lit (codes "L")) ∷ []) (item.Node task ∷ [])

abbrev with_dos : Node
with_dos =
    el tags.Card [] (item.Node (do_of (codes "a") (el tags.Noop [] []))
    ∷ item.Node (do_of (codes "b") (el tags.Prev [] [])) ∷ [])

abbrev common : Node
common =
    el tags.Template [] (item.Node (do_of (codes "a") (el tags.Prev [] []))
    ∷ item.Node (do_of (codes "c") (el tags.Refresh [] [])) ∷ [])

abbrev dos_site : Deck
dos_site = record { root = el tags.Wml [] (item.Node common ∷ item.Node with_dos ∷ []) }

common_content : content_of common ≡
    begins (do_of (codes "a") (el tags.Prev [] [])) ∷ ends (do_of (codes "a") (el tags.Prev [] []))
    ∷ begins (do_of (codes "c") (el tags.Refresh [] []))
    ∷ ends (do_of (codes "c") (el tags.Refresh [] [])) ∷ []
unfolding content_of rule_of rules
common_content = simp (out_text, out_node) refl

card_content : content_of with_dos ≡
    begins (do_of (codes "a") (el tags.Noop [] [])) ∷ ends (do_of (codes "a") (el tags.Noop [] []))
    ∷ begins (do_of (codes "b") (el tags.Prev [] []))
    ∷ ends (do_of (codes "b") (el tags.Prev [] [])) ∷ []
unfolding content_of rule_of rules
card_content = simp (out_text, out_node) refl

hides : task_of (do_of (codes "a") (el tags.Noop [] [])) ≡ None
hides = simp (out_text, out_node) refl

goes_back : task_of (do_of (codes "b") (el tags.Prev [] [])) ≡ Some (el tags.Prev [] [])
goes_back = simp (out_text, out_node) refl

shows_again : task_of (do_of (codes "c") (el tags.Refresh [] [])) ≡ Some (el tags.Refresh [] [])
shows_again = simp (out_text, out_node) refl

common_is : template_of dos_site ≡ Some common
common_is = simp (out_text, out_node) refl

dos_shown : do_labels [] dos_site with_dos ≡ (codes "b", codes "L") ∷ (codes "c", codes "L") ∷ []
dos_shown =
    simp (card_content, common_is)
    (simp (common_content) (simp (hides, goes_back, shows_again) refl))
