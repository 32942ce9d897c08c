-- What elements that are being put together gain.
use Rattle.std.proofs.Common.{◌≡◌, ℕ, zero, suc, ◌-◌, ◌<◌, Bool, true, false, not}
use Rattle.std.proofs.Common.{List, [], ◌∷◌, ◌++◌, map, Option, Some, None, cond}
use Rattle.std.proofs.Common.{refl, sym, ap, subst, ◌∙◌, arith}
use Rattle.std.specs.Prelude.{filter}
use Rattle.std.specs.List.{AllByRecursion, flat_map}
use Rattle.std.proofs.lemmas.List.Elements.{filter-append}
use Rattle.std.specs.Option.{option_to_list}
use Rattle.std.proofs.lemmas.List.{append-nil}
use Rattle.std.proofs.lemmas.Bool.{and_parts, eqb-true}
use Rattle.std.specs.Prelude.{◌&&◌, nat_eq, if◌then◌else◌}
use mathlib.Core.Logic.{◌⊎◌, inl, inr}
use Rattle.wap_base.specs.declared.name.Part.{Part}
use Rattle.wap_tokens.specs.declared.markup.deck.Node.{Node}
use Rattle.wap_tokens.specs.declared.markup.deck.Item.{Item, out-Item}
use Rattle.wap_tokens.specs.declared.markup.deck.Item.TheVariants as item
use Rattle.wap_tokens.specs.declared.markup.name.AttrName.{AttrName}
use Rattle.wap_tokens.specs.declared.markup.name.Tag.{Tag}
use Rattle.wap_tokens.specs.declared.markup.name.Tag.TheVariants as tags
use Rattle.wap_tokens.specs.markup.Decks.{part}
use Rattle.wap_tokens.specs.markup.Normal.{IsNode, IsItem}
use Rattle.wap_tokens.specs.markup.Good.{Rule, rule_of, rules, nodes_in, is_blank_text}
use Rattle.wap_deck.specs.documents.Adding.{part_after, marks_after}
use Rattle.wap_deckcheck.specs.Places.{own_name, names_among}
use Rattle.wap_mend.specs.Accounts.{signs_in, node_signs, lost}
use Rattle.wap_mend.specs.Accounts.{is_paragraph, IsWithin, kept, left_out}
use Rattle.wap_mend.specs.Accounts.{nothing as none_within}
use Rattle.wap_mend.specs.declared.change.Change.{Change}
use Rattle.wap_mend.specs.declared.change.Lost.{Lost}
use Rattle.wap_mend.specs.inside.Building.{Kept, Built, IsBuilt, Filled}
use Rattle.wap_mend.specs.inside.Names.{names_with}
use Rattle.wap_mend.specs.inside.Frames.{Load, nothing, both, load_filled, load_built, load_if}
use Rattle.wap_mend.specs.inside.Frames.{load_all, Carries, Framed, framed, IsFramed, Gains}
use Rattle.wap_mend.specs.inside.Frames.{Collects, Closes, IsMute, IsQuiet, text_load}
use Rattle.wap_mend.specs.inside.Frames.{load_lost, given_node, IsStill, IsNoted, IsSame}
use Rattle.wap_mend.specs.inside.Frames.{Piece, no_paragraphs, own_pieces, pieces_of_nodes, dressed}
use Rattle.wap_mend.proofs.Building.{names_behind, names_same}
use Rattle.wap_mend.proofs.Muteness.{is_mute, mute}
use Rattle.wap_mend.proofs.Accounting.{signs_blank}
use Rattle.wap_mend.proofs.Accounting.{signs_behind, signs_more, pieces_behind, pieces_more}
use Rattle.wap_mend.proofs.Loads.{both_nothing, both_assoc, carries_all, carries_lost}
use Rattle.wap_mend.proofs.Loads.{carries_still, carries_then, carries_first, carries_second}
use Rattle.wap_mend.proofs.Loads.{carries_dropped, carries_joined, still_refl, noted_built}

-- ---- paragraphs

-- a paragraph has the rule of any other
pub paragraph_ruled : (tag : Tag) → is_paragraph tag ≡ true → rule_of tags.P ≡ rule_of tag
unfolding rule_of rules
paragraph_ruled tags.P is = refl
paragraph_ruled tags.Pre is = refl
paragraph_ruled _ is = absurd (cc is)

-- in which texts may stand
pub paragraph_text : (rule : Rule) → rule ≡ rule_of tags.P → rule.text ≡ true
unfolding rule_of rules
paragraph_text rule is = ap (λ r. r.text) is

paragraph_unnamed : (tag : Tag) (rows : List (AttrName × List Part)) (kids : List Item)
    → is_paragraph tag ≡ true
    → own_name true (record { tag = tag; attrs = rows; kids = kids }) ≡ None
paragraph_unnamed tags.P rows kids is = refl
paragraph_unnamed tags.Pre rows kids is = refl
paragraph_unnamed _ rows kids is = absurd (cc is)

-- ---- content

-- content with an element more
filled_behind : (content : Filled) (node : Node)
    → load_filled (record content { items = content.items ++ item.Node node ∷ [] })
    ≡ both (load_filled content) (load_built (record { levels = content.room; node = node }))
filled_behind content node =
    let room = content.room in
    let items = content.items ++ item.Node node ∷ [] in
    ap (λ (names : List (List ℕ)). record {
      names = names;
      pieces = pieces_of_nodes (nodes_in (suc room) items);
      signs = signs_in room items;
    }) (names_behind room content.items node)
    ∙ ap (λ (some : List Piece). record {
      names = names_among true (suc room) content.items ++ names_with room node;
      pieces = some;
      signs = signs_in room items;
    }) (pieces_behind room content.items node)
    ∙ ap (λ (some : List Part). record {
      names = names_among true (suc room) content.items ++ names_with room node;
      pieces = pieces_of_nodes (nodes_in (suc room) content.items)
          ++ pieces_of_nodes (node ∷ nodes_in room node.kids);
      signs = some;
    }) (signs_behind room content.items node)

-- what is added comes in as it is
pub element_collects : (before after : List Change) (old new : Filled) (element : Built)
    → element.levels ≡ old.room
    → new ≡ record old { items = old.items ++ item.Node element.node ∷ [] }
    → IsStill before after → Collects before after old new (load_built element)
element_collects before after old new element levels same still = record {
  rule = ap (λ (f : Filled). f.rule) same;
  room = ap (λ (f : Filled). f.room) same;
  load =
      subst (λ load. Carries before after (load_filled old) load (load_built element))
      (sym (ap load_filled same ∙ filled_behind old element.node
      ∙ ap (λ l. both (load_filled old) (load_built (record { levels = l; node = element.node })))
      (sym levels)))
      (carries_all before after (load_filled old) (load_built element) still);
}

-- it is added where it may stand
pub element_added : (changes : List Change) (old new : Filled) (element : Built)
    (takes taken follows : Bool) → takes ≡ true
    → takes ≡ (nat_eq element.levels old.room && follows)
    → taken ≡ (nat_eq element.levels old.room && follows)
    → new ≡ record old {
      items = if taken then old.items ++ item.Node element.node ∷ [] else old.items;
    }
    → Collects changes changes old new (load_built element)
element_added changes old new element takes taken follows is may done same =
    let fits : (nat_eq element.levels old.room && follows) ≡ true = sym may ∙ is in
    element_collects changes changes old new element
    (eqb-true element.levels old.room (and_parts _ follows fits).0)
    (same ∙ ap (λ (b : Bool).
    record old { items = if b then old.items ++ item.Node element.node ∷ [] else old.items })
    (done ∙ fits)) (still_refl changes)

-- or it is noted
pub element_lost : (before after : List Change) (content : Filled) (element : Built) (what : Lost)
    → IsSame (load_lost what) (given_node element.levels element.node)
    → IsNoted before after (load_lost what)
    → Collects before after content content (load_built element)
element_lost before after content element what all noted = record {
  rule = refl;
  room = refl;
  load =
      carries_lost before after (load_filled content) (load_built element)
      (noted_built before after what element all noted);
}

-- where nothing changes nothing is collected
pub nothing_collected : (before after : List Change) (content : Filled)
    → IsStill before after → Collects before after content content nothing
nothing_collected before after content still = record {
  rule = refl;
  room = refl;
  load = carries_still before after (load_filled content) still;
}

-- first some, and then more
pub collects_then : (before between after : List Change) (old mid new : Filled)
    (some more : Load) → Collects before between old mid some
    → Collects between after mid new more → Collects before after old new (both some more)
collects_then before between after old mid new some more first second = record {
  rule = second.rule ∙ first.rule;
  room = second.room ∙ first.room;
  load =
      carries_then before between after (load_filled old) (load_filled mid) (load_filled new)
      some more first.load second.load;
}

-- a text
names_of_text : (room : ℕ) (items : List Item) (parts : List Part)
    → names_among true (suc room) (marks_after items (map part parts))
    ≡ names_among true (suc room) items
names_of_text room items [] = refl
names_of_text room items (more ∷ parts) =
    names_of_text room (part_after items more) parts ∙ names_same room items more

pieces_of_text : (room : ℕ) (items : List Item) (parts : List Part)
    → pieces_of_nodes (nodes_in (suc room) (marks_after items (map part parts)))
    ≡ pieces_of_nodes (nodes_in (suc room) items)
pieces_of_text room items [] = refl
pieces_of_text room items (more ∷ parts) =
    pieces_of_text room (part_after items more) parts ∙ pieces_more room items more

filled_text : (content : Filled) (parts : List Part)
    → load_filled (record content { items = marks_after content.items (map part parts) })
    ≡ both (load_filled content) (text_load parts)
filled_text content parts =
    let room = content.room in
    let items = marks_after content.items (map part parts) in
    ap (λ (names : List (List ℕ)). record {
      names = names;
      pieces = pieces_of_nodes (nodes_in (suc room) items);
      signs = signs_in room items;
    }) (names_of_text room content.items parts
    ∙ sym (append-nil (names_among true (suc room) content.items)))
    ∙ ap (λ (some : List Piece). record {
      names = names_among true (suc room) content.items ++ [];
      pieces = some;
      signs = signs_in room items;
    }) (pieces_of_text room content.items parts
    ∙ sym (append-nil (pieces_of_nodes (nodes_in (suc room) content.items))))
    ∙ ap (λ (some : List Part). record {
      names = names_among true (suc room) content.items ++ [];
      pieces = pieces_of_nodes (nodes_in (suc room) content.items) ++ [];
      signs = some;
    }) (signs_more room content.items parts)

-- content with a text more
pub text_collects : (before after : List Change) (old new : Filled) (parts : List Part)
    → new ≡ record old { items = marks_after old.items (map part parts) }
    → IsStill before after → Collects before after old new (text_load parts)
text_collects before after old new parts same still = record {
  rule = ap (λ (f : Filled). f.rule) same;
  room = ap (λ (f : Filled). f.room) same;
  load =
      subst (λ load. Carries before after (load_filled old) load (text_load parts))
      (sym (ap load_filled same ∙ filled_text old parts))
      (carries_all before after (load_filled old) (text_load parts) still);
}

-- ---- elements that are being put together

-- in an element of which nothing is there yet is nothing
pub nothing_framed : (rule : Rule) (room below : ℕ) (run : Rule) → run ≡ rule_of tags.P
    → IsFramed (record { rule = rule; room = room; items = [] }) None []
    (record { rule = run; room = below; items = [] })
nothing_framed rule room below run is = record {
  paragraph = is;
  first_mute = λ order. refl;
  second_mute = refl;
  one = λ order. refl;
  none = λ order. refl;
}

-- while the first group is out of its place another stands there, of a card in which is nothing
pub first_taken : (room : ℕ) (first : Filled) (second : Option Built) (third : List Built)
    (run : Filled) → IsFramed first second third run
    → IsFramed (record { rule = rule_of tags.Card; room = room; items = [] }) second third run
unfolding rule_of rules
first_taken room first second third run is = record {
  paragraph = is.paragraph;
  first_mute = λ order. refl;
  second_mute = is.second_mute;
  one = λ out. absurd (cc out);
  none = λ out. absurd (cc out);
}

-- some of nothing is nothing
within_none : {X : Type 0} (some all : List X) → IsWithin some all → all ≡ [] → some ≡ []
within_none some all none_within none = refl
within_none some all (kept x few more is) none = absurd (cc none)
within_none some all (left_out x few more is) none = absurd (cc none)

-- it comes back with more, which has no signs where groups come in their order
pub first_kept : (before after : List Change) (first new : Filled) (second : Option Built)
    (third : List Built) (run : Filled) (more : Load) → IsFramed first second third run
    → (first.rule.in_order ≡ true → more.signs ≡ []) → Collects before after first new more
    → IsFramed new second third run
first_kept before after first new second third run more is mute collects =
    let same : new.rule.in_order ≡ first.rule.in_order =
    ap (λ (r : Rule). r.in_order) collects.rule in
    record {
      paragraph = is.paragraph;
      first_mute = λ order.
          let ordered = sym same ∙ order in
          within_none (load_filled new).signs ((load_filled first).signs ++ more.signs)
          collects.load.keeps.order
          (ap (λ signs. signs ++ more.signs) (is.first_mute ordered) ∙ mute ordered);
      second_mute = is.second_mute;
      one = λ out. is.one (sym same ∙ out);
      none = λ out. is.none (sym same ∙ out);
    }

-- an event or a timer that is built has no signs
pub built_quiet : (levels : ℕ) (node : Node) (element : Built)
    → record { levels = levels; node = node } ≡ element → IsBuilt levels node → IsQuiet element
built_quiet levels node element told is = subst IsQuiet told (record {
  event = λ same. mute levels node is.good (ap is_mute same);
  timer = λ same. mute levels node is.good (ap is_mute same);
})

-- nothing is gained where nothing changes
pub gains_nothing : (before after : List Change) (old new : Framed) → new ≡ old
    → IsStill before after → Gains before after old new nothing
gains_nothing before after old new same still =
    subst (λ f. Gains before after old f nothing) (sym same)
    (record { rule = refl; room = refl; load = carries_still before after old.load still })

-- what isn't gained is noted
pub gains_lost : (before after : List Change) (old new : Framed) (more : Load) → new ≡ old
    → IsNoted before after more → Gains before after old new more
gains_lost before after old new more same noted =
    subst (λ f. Gains before after old f more) (sym same) (record {
      rule = refl;
      room = refl;
      load = carries_lost before after old.load more noted;
    })

-- a blank text has nothing that is lost
blank_noted : (changes : List Change) (parts : List Part) → is_blank_text parts ≡ true
    → IsNoted changes changes (text_load parts)
blank_noted changes parts blank = record {
  lost =
      sym (ap (λ some. lost changes ++ some) (signs_blank parts blank)
      ∙ append-nil (lost changes));
  gone = λ test. grind (arith);
  came = refl;
}

-- so nothing is gained with it
pub gains_blank : (changes : List Change) (old : Framed) (parts : List Part)
    → is_blank_text parts ≡ true → Gains changes changes old old (text_load parts)
gains_blank changes old parts blank =
    gains_lost changes changes old old (text_load parts) refl (blank_noted changes parts blank)

-- first some, and then more
pub gains_then : (before between after : List Change) (old mid new : Framed) (some more : Load)
    → Gains before between old mid some → Gains between after mid new more
    → Gains before after old new (both some more)
gains_then before between after old mid new some more first second = record {
  rule = second.rule ∙ first.rule;
  room = second.room ∙ first.room;
  load =
      carries_then before between after old.load mid.load new.load some more first.load
      second.load;
}

-- what is beside the first group
abbrev beside_first : Option Built → List Built → Filled → Load
beside_first second third run = both (load_if second) (both (load_all third) (load_filled run))

-- more in the first group, without texts, or where no texts are beside it
first_gains : (before after : List Change) (first new : Filled) (second : Option Built)
    (third : List Built) (run : Filled) (more : Load) → Collects before after first new more
    → (more.signs ≡ []) ⊎ ((beside_first second third run).signs ≡ [])
    → Gains before after (framed first second third run) (framed new second third run) more
first_gains before after first new second third run more collects free = record {
  rule = collects.rule;
  room = collects.room;
  load =
      carries_first before after (load_filled first) (load_filled new)
      (beside_first second third run) more collects.load free;
}

none_beside : (first : Filled) (second : Option Built) (third : List Built) (run : Filled)
    → IsFramed first second third run → first.rule.in_order ≡ false
    → (beside_first second third run).signs ≡ []
none_beside first second third run is out =
    ap (λ some. some ++ ((load_all third).signs ++ signs_in run.room run.items)) is.second_mute
    ∙ ap (λ (load : Load). load.signs ++ signs_in run.room run.items) (is.one out)
    ∙ ap (signs_in run.room) (is.none out)

-- where groups come in any order all is in the first
pub all_gains : (before after : List Change) (old : Framed) (first new : Filled)
    (second : Option Built) (third : List Built) (run : Filled) (more : Load)
    → framed first second third run ≡ old → IsFramed first second third run
    → first.rule.in_order ≡ false → Collects before after first new more
    → Gains before after old (framed new second third run) more
all_gains before after old first new second third run more told is out collects =
    subst (λ f. Gains before after f (framed new second third run) more) told
    (first_gains before after first new second third run more collects
    (inr (none_beside first second third run is out)))

-- an element without texts in the first group
pub mute_gains : (before after : List Change) (old : Framed) (first new : Filled)
    (second : Option Built) (third : List Built) (run : Filled) (element : Built)
    → framed first second third run ≡ old → node_signs element.levels element.node ≡ []
    → Collects before after first new (load_built element)
    → Gains before after old (framed new second third run) (load_built element)
mute_gains before after old first new second third run element told mute collects =
    subst (λ f. Gains before after f (framed new second third run) (load_built element)) told
    (first_gains before after first new second third run (load_built element) collects
    (inl mute))

-- so an element is added to the first group
pub first_added : (before after : List Change) (old : Framed) (first new : Filled)
    (second : Option Built) (third : List Built) (run : Filled) (element : Built)
    → framed first second third run ≡ old → IsFramed first second third run
    → (old.rule.in_order ≡ true → IsMute element)
    → Collects before after first new (load_built element)
    → Gains before after old (framed new second third run) (load_built element)
first_added before after old first new second third run element told is mute collects =
    either first.rule.in_order refl
  where
    either : (order : Bool) → first.rule.in_order ≡ order
        → Gains before after old (framed new second third run) (load_built element)
    either true order =
        mute_gains before after old first new second third run element told
        (mute (sym (ap (λ (f : Framed). f.rule.in_order) told) ∙ order)) collects
    either false order =
        all_gains before after old first new second third run (load_built element) told is
        order collects

-- and in the second
pub second_gains : (before after : List Change) (old : Framed) (first : Filled)
    (second : Option Built) (third : List Built) (run : Filled) (element : Built)
    → framed first second third run ≡ old → second ≡ None
    → node_signs element.levels element.node ≡ [] → IsStill before after
    → Gains before after old (framed first (Some element) third run) (load_built element)
second_gains before after old first second third run element told none mute still =
    subst (λ f. Gains before after f (framed first (Some element) third run) (load_built element))
    (ap (λ second. framed first second third run) (sym none) ∙ told) (record {
      rule = refl;
      room = refl;
      load =
          carries_second before after (load_filled first)
          (beside_first None third run) (beside_first (Some element) third run)
          (load_built element)
          (carries_first before after nothing (load_built element)
          (both (load_all third) (load_filled run)) (load_built element)
          (carries_all before after nothing (load_built element) still) (inl mute));
    })

-- one element more
all_behind : (elements : List Built) (element : Built)
    → load_all (elements ++ element ∷ []) ≡ both (load_all elements) (load_built element)
all_behind [] element = both_nothing (load_built element)
all_behind (first ∷ elements) element =
    ap (both (load_built first)) (all_behind elements element)
    ∙ both_assoc (load_built first) (load_all elements) (load_built element)

-- in the third group, where no paragraph with texts is open
pub third_gains : (before after : List Change) (old : Framed) (first : Filled)
    (second : Option Built) (third new : List Built) (run : Filled) (element : Built)
    → framed first second third run ≡ old → new ≡ third ++ element ∷ []
    → old.running ≡ nothing → IsStill before after
    → Gains before after old (framed first second new run) (load_built element)
third_gains before after old first second third new run element told same free still =
    subst (λ f. Gains before after f (framed first second new run) (load_built element)) told
    (record {
      rule = refl;
      room = refl;
      load =
          carries_second before after (load_filled first) (beside_first second third run)
          (beside_first second new run) (load_built element)
          (carries_second before after (load_if second) (both (load_all third) (load_filled run))
          (both (load_all new) (load_filled run)) (load_built element)
          (carries_first before after (load_all third) (load_all new) (load_filled run)
          (load_built element)
          (subst (λ load. Carries before after (load_all third) load (load_built element))
          (sym (ap load_all same ∙ all_behind third element))
          (carries_all before after (load_all third) (load_built element) still))
          (inr (ap (λ (load : Load). load.signs) (ap (λ (f : Framed). f.running) told ∙ free)))));
    })

-- in the paragraph that is open
pub run_gains : (before after : List Change) (old : Framed) (first : Filled)
    (second : Option Built) (third : List Built) (run new : Filled) (more : Load)
    → framed first second third run ≡ old → Collects before after run new more
    → Gains before after old (framed first second third new) more
run_gains before after old first second third run new more told collects =
    subst (λ f. Gains before after f (framed first second third new) more) told (record {
      rule = refl;
      room = refl;
      load =
          carries_second before after (load_filled first) (beside_first second third run)
          (beside_first second third new) more
          (carries_second before after (load_if second) (both (load_all third) (load_filled run))
          (both (load_all third) (load_filled new)) more
          (carries_second before after (load_all third) (load_filled run) (load_filled new) more
          collects.load));
    })

-- ---- the paragraph that is open

-- it ends without a trace but what is noted
emptied_gains : (before after : List Change) (first : Filled) (second : Option Built)
    (third : List Built) (run empty : Filled) → load_filled empty ≡ nothing
    → Carries before after (load_filled run) nothing nothing
    → Gains before after (framed first second third run) (framed first second third empty) nothing
emptied_gains before after first second third run empty none carries = record {
  rule = refl;
  room = refl;
  load =
      carries_second before after (load_filled first) (beside_first second third run)
      (beside_first second third empty) nothing
      (carries_second before after (load_if second) (both (load_all third) (load_filled run))
      (both (load_all third) (load_filled empty)) nothing
      (carries_second before after (load_all third) (load_filled run) (load_filled empty) nothing
      (subst (λ load. Carries before after (load_filled run) load nothing) (sym none) carries)));
}

-- without it, and with it behind all others
run_behind : (first : Filled) (second : Option Built) (third : List Built) (run : Filled)
    → both (both (load_filled first) (both (load_if second) (both (load_all third) nothing)))
    (load_filled run) ≡ (framed first second third run).load
run_behind first second third run =
    ap (λ load. both (both (load_filled first) (both (load_if second) load)) (load_filled run))
    (both_nothing (load_all third))
    ∙ sym (both_assoc (load_filled first) (both (load_if second) (load_all third))
    (load_filled run))
    ∙ ap (both (load_filled first))
    (sym (both_assoc (load_if second) (load_all third) (load_filled run)))

-- none passes where a test says so of each
none_pass : {X Y : Type 0} (test : Y → Bool) (make : X → Y) (xs : List X)
    → ((x : X) → test (make x) ≡ false) → filter test (map make xs) ≡ []
none_pass test make [] fails = refl
none_pass test make (x ∷ xs) fails =
    ap (λ b. cond b (make x ∷ filter test (map make xs)) (filter test (map make xs))) (fails x)
    ∙ none_pass test make xs fails

-- of a paragraph's attributes none are counted
pub paragraph_rows : (tag : Tag) (rows : List (AttrName × List Part)) → is_paragraph tag ≡ true
    → no_paragraphs (dressed tag rows) ≡ []
paragraph_rows tag rows is =
    none_pass (λ (piece : Piece). not (is_paragraph piece.0)) (λ row. (tag, Some row)) rows
    (λ row. ap (λ b. not b) is)

-- nor it itself
pub paragraph_pieces : (node : Node) (nodes : List Node) → is_paragraph node.tag ≡ true
    → pieces_of_nodes (node ∷ nodes) ≡ pieces_of_nodes nodes
paragraph_pieces node nodes is =
    filter-append (λ (piece : Piece). not (is_paragraph piece.0)) (own_pieces node)
    (flat_map own_pieces nodes)
    ∙ ap (λ own. own ++ pieces_of_nodes nodes)
    (ap (λ b. cond (not b) ((node.tag, None) ∷ no_paragraphs (dressed node.tag node.attrs))
    (no_paragraphs (dressed node.tag node.attrs))) is ∙ paragraph_rows node.tag node.attrs is)

-- a paragraph has what it was made of
paragraph_load : (attributes : Kept) (run : Filled) → is_paragraph attributes.tag ≡ true
    → load_built (record {
      levels = suc run.room;
      node = record { tag = attributes.tag; attrs = attributes.rows; kids = run.items };
    }) ≡ load_filled run
paragraph_load attributes run is =
    let inner = names_among true (suc run.room) run.items in
    let nodes = nodes_in (suc run.room) run.items in
    let signs = signs_in run.room run.items in
    let node : Node =
    record { tag = attributes.tag; attrs = attributes.rows; kids = run.items } in
    ap (λ (own : Option (List ℕ)). record {
      names = option_to_list own ++ inner;
      pieces = pieces_of_nodes (node ∷ nodes);
      signs = signs;
    }) (paragraph_unnamed attributes.tag attributes.rows run.items is)
    ∙ ap (λ (some : List Piece). record { names = inner; pieces = some; signs = signs })
    (paragraph_pieces node nodes is)

-- it ends, and is noted
pub run_lost : (before after : List Change) (old : Framed) (first : Filled)
    (second : Option Built) (third : List Built) (run : Filled) (rule : Rule) (room : ℕ)
    (attributes : Kept) (what : Lost) → framed first second third run ≡ old
    → is_paragraph attributes.tag ≡ true
    → IsSame (load_lost what) (given_node (suc run.room)
    (record { tag = attributes.tag; attrs = attributes.rows; kids = run.items }))
    → IsNoted before after (load_lost what)
    → Gains before after old
    (framed first second third (record { rule = rule; room = room; items = [] })) nothing
run_lost before after old first second third run rule room attributes what told is all noted =
    let empty : Filled = record { rule = rule; room = room; items = [] } in
    let made : Built = record {
      levels = suc run.room;
      node = record { tag = attributes.tag; attrs = attributes.rows; kids = run.items };
    } in
    subst (λ f. Gains before after f (framed first second third empty) nothing) told
    (emptied_gains before after first second third run empty refl
    (carries_dropped before after (load_filled run)
    (subst (IsNoted before after) (paragraph_load attributes run is)
    (noted_built before after what made all noted))))

-- it ends, and stands among the others
pub run_ended : (before after : List Change) (old new : Framed) (first : Filled)
    (second : Option Built) (third : List Built) (run : Filled) (rule : Rule) (room : ℕ)
    (attributes : Kept) (element : Built) → framed first second third run ≡ old
    → is_paragraph attributes.tag ≡ true → element ≡ record {
      levels = suc run.room;
      node = record { tag = attributes.tag; attrs = attributes.rows; kids = run.items };
    }
    → Gains before after
    (framed first second third (record { rule = rule; room = room; items = [] })) new
    (load_built element) → Gains before after old new nothing
run_ended before after old new first second third run rule room attributes element told is
    same gains =
    subst (λ f. Gains before after f new nothing) told (record {
      rule = gains.rule;
      room = gains.room;
      load =
          subst (λ load. Carries before after load new.load nothing)
          (run_behind first second third run)
          (carries_joined before after
          (framed first second third (record { rule = rule; room = room; items = [] })).load
          new.load (load_filled run)
          (subst
          (Carries before after
          (framed first second third (record { rule = rule; room = room; items = [] })).load
          new.load)
          (ap load_built same ∙ paragraph_load attributes run is) gains.load));
    })

-- ---- all of it together

-- what stands in the element is what was put there
pub closes : (before one two after : List Change) (whole : Framed) (first : Filled)
    (second : Option Built) (third : List Built) (run mid content : Filled)
    → Gains before one whole (framed first second third run) nothing
    → load_filled run ≡ nothing → Collects one two first mid (load_if second)
    → Collects two after mid content (load_all third) → Closes before after whole content
closes before one two after whole first second third run mid content gains free some others =
    let none : Filled = record { rule = run.rule; room = run.room; items = [] } in
    let dropped =
    emptied_gains one one first second third run none refl
    (subst (λ load. Carries one one load nothing nothing) (sym free)
    (carries_still one one nothing (still_refl one))) in
    let all =
    carries_then one two after (load_filled first) (load_filled mid) (load_filled content)
    (load_if second) (load_all third) some.load others.load in
    let joined =
    carries_joined one after (load_filled first) (load_filled content)
    (both (load_if second) (load_all third)) all in
    let from =
    subst (λ load. Carries one after (both (load_filled first) (both (load_if second) load))
    (load_filled content) nothing) (sym (both_nothing (load_all third))) joined in
    record {
      rule = others.rule ∙ some.rule ∙ gains.rule;
      room = others.room ∙ some.room ∙ gains.room;
      load =
          carries_then before one after whole.load (framed first second third run).load
          (load_filled content) nothing nothing gains.load
          (carries_then one one after (framed first second third run).load
          (framed first second third none).load (load_filled content) nothing nothing
          dropped.load from);
    }

-- ---- the deck that was given

-- an element has a level
pub node_levels : (levels : ℕ) (node : Node) → IsNode levels node → 0 < levels
node_levels zero node is = absurd is
node_levels (suc levels) node is = grind (arith)

-- what is in it has a level less
pub node_kids : (levels : ℕ) (node : Node) → IsNode levels node
    → AllByRecursion (λ item. IsItem (IsNode (levels - 1)) (out-Item item)) node.kids
node_kids zero node is = absurd is
node_kids (suc levels) node is =
    let same : levels ≡ suc levels - 1 = grind (arith) in
    subst (λ l. AllByRecursion (λ item. IsItem (IsNode l) (out-Item item)) node.kids) same
    is.content.each
