-- What a card shows (WAP-191, sections 11.5, 11.6, 11.8 and 11.9): words, breaks and modes. The
-- marks of links, inputs and options are this project's own.
use Rattle.std.specs.Prelude.{ℕ, ◌+◌, Bool, map, if◌then◌else◌, List, []}
use Rattle.std.specs.Prelude.{◌∷◌, ◌++◌, Option, Some, None, codes}
use Rattle.std.specs.List.{fold, flat_map, filter_map, zip, enumerate_from}
use Rattle.std.specs.Fmt.{decimal}
use Rattle.wap_base.specs.Texts.{is_same_text}
use Rattle.wap_base.specs.Ascii.{space}
use Rattle.wap_tokens.specs.declared.markup.deck.Node.{Node}
use Rattle.wap_tokens.specs.declared.markup.name.Tag.{Tag}
use Rattle.wap_tokens.specs.declared.markup.name.Tag.TheVariants as tags
use Rattle.wap_tokens.specs.declared.markup.name.AttrName.TheVariants as attrs
use Rattle.wap_tokens.specs.markup.Tables.{is_same_tag}
use Rattle.wap_tokens.specs.markup.Trees.{value_of, plain_value, words_of}
use Rattle.wap_layout.specs.declared.flow.Flow.{Flow}
use Rattle.wap_layout.specs.declared.flow.Flow.TheVariants.{Words, Hard, Soft, Wrap, NoWrap, Pre}
use Rattle.wap_vars.specs.Variables.{Variables}
use Rattle.wap_vars.specs.Filling.{filled, value_text}
use Rattle.wap_cardrules.specs.Content.{Mark, words, begins, ends, content_of}
use Rattle.wap_cardrules.specs.Fields.{is_field}
use Rattle.wap_cardrules.specs.Inputs.{shown_text}
use Rattle.wap_cardrules.specs.Selects.{options_of, choice_of}

-- ---- fields

-- `[n]`
abbrev pub link_mark : ℕ → List ℕ
link_mark n = codes "[" ++ decimal n ++ codes "]"

-- `(n)` and its text, between spaces
abbrev pub input_mark : Variables → ℕ → Node → List ℕ
input_mark vars n input =
    space ∷ codes "(" ++ decimal n ++ codes ")" ++ shown_text vars input ++ space ∷ []

-- `{n.m}`, and whether it is chosen
abbrev pub option_mark : ℕ → ℕ → Bool → List ℕ
option_mark n m is_chosen =
    codes "{" ++ decimal n ++ codes "." ++ decimal m ++ codes "}"
    ++ (if is_chosen then codes "+" else codes "-")

-- an option with its number and whether it is chosen: its mark and its texts, on a line of its own
abbrev pub option_flow : Variables → ℕ → ℕ × (Bool × Node) → List Flow
option_flow vars n one =
    Soft ∷ Words (option_mark n one.0 one.1.0) ∷
    map (λ parts. Words (filled vars parts)) (filter_map words_of one.1.1.kids)

-- each option stands between soft breaks
abbrev pub select_flow : Variables → ℕ → Node → List Flow
select_flow vars n select =
    flat_map (option_flow vars n)
    (enumerate_from 1 (zip (choice_of vars select) (options_of select)))
    ++ Soft ∷ []

-- what a field shows, by its number
abbrev pub field_flow : Variables → ℕ → Node → List Flow
field_flow vars n field =
    if is_same_tag field.tag tags.Input then Words (input_mark vars n field) ∷ []
    else if is_same_tag field.tag tags.Select then select_flow vars n field
    else Words (link_mark n) ∷ []

-- ---- other elements

-- the mode of a p; without one, that of the p before it
abbrev pub mode_named : Flow → Option (List ℕ) → Flow
mode_named last None = last
mode_named last (Some mode) = if is_same_text mode (codes "nowrap") then NoWrap else Wrap

-- the mode that counts from a p on, after this one
abbrev pub mode_of : Flow → Node → Flow
mode_of last p = mode_named last (plain_value attrs.Mode p)

-- a td stands between spaces, a tr between soft breaks
abbrev pub flow_before : Variables → Node → List Flow
flow_before vars node =
    if is_same_tag node.tag tags.Pre then Pre ∷ []
    else if is_same_tag node.tag tags.Br then Hard ∷ []
    else if is_same_tag node.tag tags.Img
    then Words (value_text vars (value_of attrs.Alt node)) ∷ []
    else if is_same_tag node.tag tags.Td then Words (space ∷ []) ∷ []
    else if is_same_tag node.tag tags.Tr then Soft ∷ []
    else []

-- what stands after the content of an element
abbrev pub flow_behind : Tag → List Flow
flow_behind tag =
    if is_same_tag tag tags.Td then Words (space ∷ []) ∷ []
    else if is_same_tag tag tags.Tr then Soft ∷ []
    else []

-- ---- the card

-- what shows so far: how many fields began, the mode of the last p, and the flow
pub record Shown : Type 0 where
  pub fields : ℕ
  pub mode : Flow
  pub flow : List Flow

-- what shows so far, and more
abbrev pub followed_by : Shown → List Flow → Shown
followed_by shown more = record shown { flow = shown.flow ++ more }

-- a field shows with the next number
abbrev pub with_field : Variables → Shown → Node → Shown
with_field vars shown field =
    let n = shown.fields + 1 in
    followed_by (record shown { fields = n }) (field_flow vars n field)

-- a p sets the mode
abbrev pub with_mode : Shown → Flow → Shown
with_mode shown mode = followed_by (record shown { mode = mode }) (mode ∷ [])

-- what shows after an element begins
abbrev pub begun : Variables → Shown → Node → Shown
begun vars shown node =
    if is_field node.tag then with_field vars shown node
    else if is_same_tag node.tag tags.P then with_mode shown (mode_of shown.mode node)
    else followed_by shown (flow_before vars node)

-- what shows after a mark
abbrev pub shown_with : Variables → Shown → Mark → Shown
shown_with vars shown (words parts) = followed_by shown (Words (filled vars parts) ∷ [])
shown_with vars shown (begins node) = begun vars shown node
shown_with vars shown (ends node) = followed_by shown (flow_behind node.tag)

-- what shows before the first mark
abbrev pub nothing_shown : Shown
nothing_shown = record { fields = 0; mode = Wrap; flow = [] }

-- text wraps at first; where a p or a pre begins, the piece before it ends
unfoldable pub flow_of : Variables → Node → List Flow
flow_of vars card = (fold (shown_with vars) nothing_shown (content_of card)).flow

-- the title of a card, filled; without one, nothing
abbrev pub title_of : Variables → Node → List ℕ
title_of vars card = value_text vars (value_of attrs.Title card)
