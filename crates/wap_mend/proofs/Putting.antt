-- What the walk over an element puts into another.
use Rattle.std.proofs.Common.{◌≡◌, ℕ, zero, suc, ◌+◌, ◌-◌, ◌<◌, Bool, true}
use Rattle.std.proofs.Common.{List, [], ◌∷◌, ◌++◌, Option, Some, None, Result, Ok, Err}
use Rattle.std.proofs.Common.{length, get_or, take, add-one, refl, sym, ap, subst, ◌∙◌, arith}
use Rattle.std.proofs.Math.Seq.{take-suc}
use Rattle.std.specs.Prelude.{if◌then◌else◌, IfOk, IfSome, MatchOption}
use Rattle.std.specs.List.{filter_map, flat_map, cons_option}
use Rattle.std.proofs.lemmas.Grind.{flat_map-append}
use Rattle.std.proofs.lemmas.List.Elements.{filter_map-append}
use Rattle.std.specs.Option.{option_to_list}
use Rattle.std.proofs.lemmas.List.{append-nil}
use Rattle.wap_base.specs.Texts.{AreDistinct}
use Rattle.wap_base.specs.declared.name.Part.{Part}
use Rattle.wap_tokens.specs.declared.markup.deck.Node.{Node}
use Rattle.wap_tokens.specs.declared.markup.deck.Item.{Item, out-Item}
use Rattle.wap_tokens.specs.declared.markup.deck.Item.TheOpen.{Item-F}
use Rattle.wap_tokens.specs.declared.markup.name.Tag.{Tag}
use Rattle.wap_tokens.specs.markup.Tables.{is_same_tag}
use Rattle.wap_tokens.specs.declared.markup.name.Tag.TheVariants as tags
use Rattle.wap_tokens.specs.declared.markup.name.AttrName.{AttrName}
use Rattle.wap_tokens.specs.markup.Normal.{IsNode}
use Rattle.wap_tokens.specs.markup.Trees.{node_of, node_from}
use Rattle.wap_tokens.specs.markup.Good.{Rule, rule_of, rules, has_needs, nodes_in, name_of_do}
use Rattle.wap_deckcheck.specs.Places.{own_name, names_among}
use Rattle.wap_mend.specs.Accounts.{signs_of, signs_in, node_signs, lost, IsWithin, number}
use Rattle.wap_mend.specs.Accounts.{item_signs, is_paragraph}
use Rattle.wap_mend.specs.declared.change.Change.{Change}
use Rattle.wap_mend.specs.declared.change.Lost.{Lost}
use Rattle.wap_mend.specs.inside.Building.{Kept, Built, Filled}
use Rattle.wap_mend.specs.inside.Names.{times, own_name_of, Takes}
use Rattle.wap_mend.specs.inside.Names.{name_among}
use Rattle.wap_mend.specs.inside.Frames.{Load, nothing, both, load_filled, load_built, load_if}
use Rattle.wap_mend.specs.inside.Frames.{given_items, given_node, text_load, Keeps}
use Rattle.wap_mend.specs.inside.Frames.{Framed, Gains, Closes, Moves, Puts, IsStill, IsNoted}
use Rattle.wap_mend.specs.inside.Frames.{load_lost, own_load, rows_load, dressed, own_pieces, Piece}
use Rattle.wap_mend.specs.inside.Frames.{no_paragraphs, pieces_of_nodes, IsSame}
use Rattle.wap_mend.proofs.Accounting.{within_refl, within_then, within_both, within_nothing}
use Rattle.wap_mend.proofs.Accounting.{number-append, kept_number, pieces-append, signs_in-append}
use Rattle.wap_mend.proofs.Counting.{times-append, distinct_once, taken_once}
use Rattle.wap_mend.proofs.Framing.{node_levels, paragraph_rows, paragraph_pieces}
use Rattle.wap_mend.proofs.Loads.{both_nothing, keeps_still, keeps_lost, keeps_dropped, keeps_then}
use Rattle.wap_mend.proofs.Loads.{noted_same, noted_built, keeps_aside}

-- ---- steps

-- what is made is added
pub keeps_made : (before one two after : List Change) (old ready new made given : Load)
    → Keeps before one old ready nothing → Keeps one two nothing made given
    → Keeps two after ready new made → Keeps before after old new given
keeps_made before one two after old ready new made given readies makes adds = record {
  pieces = λ test. grind (arith, readies.pieces test, makes.pieces test, adds.pieces test);
  order =
      within_then adds.order
      (within_both (subst (IsWithin ready.signs) (append-nil old.signs) readies.order)
      makes.order);
  signs = λ test. grind (arith, readies.signs test, makes.signs test, adds.signs test);
}

-- nothing is made
pub keeps_gone : (before one after : List Change) (old ready given : Load)
    → Keeps before one old ready nothing → Keeps one after nothing nothing given
    → Keeps before after old ready given
keeps_gone before one after old ready given readies makes = record {
  pieces = λ test. grind (arith, readies.pieces test, makes.pieces test);
  order =
      within_then readies.order
      (within_both (within_refl old.signs) (within_nothing given.signs));
  signs = λ test. grind (arith, readies.signs test, makes.signs test);
}

-- nothing was noted as lost before
pub keeps_from : (before between after : List Change) (new given : Load) → IsStill before between
    → Keeps between after nothing new given → Keeps before after nothing new given
keeps_from before between after new given still keeps = record {
  pieces = λ test. grind (
    arith,
    keeps.pieces test,
    ap (number test) still.gone,
    ap (number test) still.came,
  );
  order = keeps.order;
  signs = λ test. grind (arith, keeps.signs test, ap (number test) still.lost);
}

-- ---- names

-- the name of a do goes by its attributes
own_same : (kept : Kept) (node : Node) → node.tag ≡ kept.tag → node.attrs ≡ kept.rows
    → own_name true node ≡ own_name_of kept
own_same kept node tag rows =
    ap (λ (t : Tag). if is_same_tag t tags.Do then name_of_do node else None) tag
    ∙ ap (λ (some : List (AttrName × List Part)).
    if is_same_tag kept.tag tags.Do then name_among some else None) rows

-- first some, and then more
pub takes_then : (before between after some more : List (List ℕ)) → Takes before between [] some
    → Takes between after [] more → Takes before after [] (some ++ more)
takes_then before between after some more first second text =
    grind (arith, first text, second text, times-append text some more)

-- of which none may be left
pub takes_none : (before between after some : List (List ℕ)) → Takes before between [] some
    → Takes between after [] [] → Takes before after [] []
takes_none before between after some first second text = grind (arith, first text, second text)

-- names that were free when none was taken are distinct
pub taken_apart : (after names : List (List ℕ)) → Takes [] after [] names → AreDistinct names
taken_apart after names takes =
    distinct_once names (λ text.
    let few = taken_once text after in grind (arith, takes text, few))

-- ---- puts

-- nothing is put, and nothing noted as lost
pub puts_nothing : (names : List (List ℕ)) (before after : List Change) (frame : Framed)
    → IsStill before after → Puts names names before after frame frame nothing
puts_nothing names before after frame still = record {
  rule = refl;
  room = refl;
  load = record {
    names = λ text. grind (arith);
    keeps = keeps_still before after frame.load still;
  };
}

-- what is given is noted as lost
pub puts_lost : (names : List (List ℕ)) (before after : List Change) (frame : Framed)
    (given : Load) → IsNoted before after given → Puts names names before after frame frame given
puts_lost names before after frame given noted = record {
  rule = refl;
  room = refl;
  load = record {
    names = λ text. grind (arith);
    keeps = keeps_lost before after frame.load given noted;
  };
}

-- first some, and then more
pub puts_then : (names_before names_between names_after : List (List ℕ))
    (before between after : List Change) (old mid new : Framed) (some more : Load)
    → Puts names_before names_between before between old mid some
    → Puts names_between names_after between after mid new more
    → Puts names_before names_after before after old new (both some more)
puts_then names_before names_between names_after before between after old mid new some more
    first second = record {
      rule = second.rule ∙ first.rule;
      room = second.room ∙ first.room;
      load = record {
        names = λ text. grind (arith, first.load.names text, second.load.names text);
        keeps =
            keeps_then before between after old.load mid.load new.load some more
            first.load.keeps second.load.keeps;
      };
    }

-- nothing was noted as lost before
puts_from : (names_before names_after : List (List ℕ)) (before between after : List Change)
    (old new : Framed) (given : Load) → IsStill before between
    → Puts names_before names_after between after old new given
    → Puts names_before names_after before after old new given
puts_from names_before names_after before between after old new given still puts = record {
  rule = puts.rule;
  room = puts.room;
  load = record {
    names = puts.load.names;
    keeps = record {
      pieces = λ test.
          grind (
            arith,
            puts.load.keeps.pieces test,
            ap (number test) still.gone,
            ap (number test) still.came,
          );
      order = puts.load.keeps.order;
      signs = λ test.
          grind (arith, puts.load.keeps.signs test, ap (number test) still.lost);
    };
  };
}

-- what gains no name takes none
pub puts_gains : (names : List (List ℕ)) (before after : List Change) (old new : Framed)
    (given : Load) → given.names ≡ [] → Gains before after old new given
    → Puts names names before after old new given
puts_gains names before after old new given none gains = record {
  rule = gains.rule;
  room = gains.room;
  load = record {
    names = λ text. grind (arith, gains.load.names text, ap (times text) none);
    keeps = gains.load.keeps;
  };
}

-- an element has its own tag, and what is in it
pub given_own : (levels : ℕ) (node : Node) → 0 < levels
    → both (own_load node) (given_items (levels - 1) node.kids) ≡ given_node levels node
given_own zero node deep = absurd (grind (arith, deep))
given_own (suc levels) node deep =
    let same : suc levels - 1 ≡ levels = grind (arith) in
    ap (λ l. both (own_load node) (given_items l node.kids)) same
    ∙ ap (λ (some : List Piece). record {
      names = [];
      pieces = some;
      signs = signs_in levels node.kids;
    }) (sym (pieces-append (node ∷ []) (nodes_in (suc levels) node.kids)))

-- the element is opened, which is noted: what is in it is put
pub puts_opened : (names_before names_after : List (List ℕ)) (before one after : List Change)
    (old new : Framed) (levels : ℕ) (kids : List Item) (node : Node) → IsNode levels node
    → kids ≡ node.kids → IsNoted before one (own_load node)
    → Puts names_before names_after one after old new (given_items (levels - 1) kids)
    → Puts names_before names_after before after old new (given_node levels node)
puts_opened names_before names_after before one after old new levels kids node is same noted
    puts =
    subst (Puts names_before names_after before after old new)
    (ap (λ some. both (own_load node) (given_items (levels - 1) some)) same
    ∙ given_own levels node (node_levels levels node is))
    (puts_then names_before names_before names_after before one after old old new
    (own_load node) (given_items (levels - 1) kids)
    (puts_lost names_before before one old (own_load node) noted) puts)

-- a paragraph by itself is nothing that is lost
paragraph_noted : (changes : List Change) (node : Node) → is_paragraph node.tag ≡ true
    → IsNoted changes changes (own_load node)
paragraph_noted changes node is = record {
  lost = sym (append-nil (lost changes));
  gone = λ test. grind (arith, ap (number test) (paragraph_pieces node [] is));
  came = refl;
}

-- nor are its attributes
paragraph_mended : (before after : List Change) (tag : Tag)
    (got had : List (AttrName × List Part)) → is_paragraph tag ≡ true
    → Keeps before after nothing (rows_load tag got) (rows_load tag had)
    → Keeps before after nothing nothing nothing
paragraph_mended before after tag got had is keeps = record {
  pieces = λ test.
      grind (
        arith,
        keeps.pieces test,
        ap (number test) (paragraph_rows tag got is),
        ap (number test) (paragraph_rows tag had is),
      );
  order = keeps.order;
  signs = keeps.signs;
}

-- a paragraph is put: what is before it ends, what is in it is put, and it ends
pub puts_paragraph : (names_before names_after : List (List ℕ))
    (before one two three after : List Change) (old entered full new : Framed) (levels : ℕ)
    (kids : List Item) (node : Node) (got : List (AttrName × List Part)) → IsNode levels node
    → is_paragraph node.tag ≡ true → kids ≡ node.kids
    → Keeps before one nothing (rows_load node.tag got) (rows_load node.tag node.attrs)
    → Gains one two old entered nothing
    → Puts names_before names_after two three entered full (given_items (levels - 1) kids)
    → Gains three after full new nothing
    → Puts names_before names_after before after old new (given_node levels node)
puts_paragraph names_before names_after before one two three after old entered full new levels
    kids node got is paragraph same mends enters inner leaves =
    let given = given_items (levels - 1) kids in
    let first : Puts names_before names_before before one old old nothing =
    record {
      rule = refl;
      room = refl;
      load = record {
        names = λ text. grind (arith);
        keeps =
            keeps_aside before one old.load
            (paragraph_mended before one node.tag got node.attrs paragraph mends);
      };
    } in
    let second : Puts names_before names_before before two old entered nothing =
    puts_then names_before names_before names_before before one two old old entered nothing
    nothing first (puts_gains names_before one two old entered nothing refl enters) in
    let all : Puts names_before names_after before three old full given =
    puts_then names_before names_before names_after before two three old entered full nothing
    given second inner in
    let end : Puts names_before names_after before after old new (both given nothing) =
    puts_then names_before names_after names_after before three after old full new given nothing
    all (puts_gains names_after three after full new nothing refl leaves) in
    puts_opened names_before names_after before before after old new levels kids node is same
    (paragraph_noted before node paragraph)
    (subst (Puts names_before names_after before after old new) (both_nothing given) end)

-- an element that was made is put, or none
pub puts_element : (names_before names_after : List (List ℕ)) (before one two after : List Change)
    (old ready new : Framed) (element : Built) (given : Load) → Gains before one old ready nothing
    → Moves names_before names_after one two nothing (load_built element) given
    → Gains two after ready new (load_built element)
    → Puts names_before names_after before after old new given
puts_element names_before names_after before one two after old ready new element given
    readies moves gains = record {
      rule = gains.rule ∙ readies.rule;
      room = gains.room ∙ readies.room;
      load = record {
        names = λ text.
            grind (arith, readies.load.names text, moves.names text, gains.load.names text);
        keeps = keeps_made before one two after old.load ready.load new.load (load_built element)
            given readies.load.keeps moves.keeps gains.load.keeps;
      };
    }

-- or none, and what was given is noted
pub puts_none : (names_before names_after : List (List ℕ)) (before one after : List Change)
    (old ready : Framed) (given : Load) → Gains before one old ready nothing
    → Moves names_before names_after one after nothing nothing given
    → Puts names_before names_after before after old ready given
puts_none names_before names_after before one after old ready given readies moves = record {
  rule = readies.rule;
  room = readies.room;
  load = record {
    names = λ text. grind (arith, readies.load.names text, moves.names text);
    keeps = keeps_gone before one after old.load ready.load given readies.load.keeps
        moves.keeps;
  };
}

-- ---- elements

-- it is made with a name
pub moves_named : (names_before between names_after : List (List ℕ))
    (before after : List Change) (kept : Kept) (element : Built) (given : Load)
    → Takes names_before between [] (option_to_list (own_name_of kept))
    → element.node.tag ≡ kept.tag → element.node.attrs ≡ kept.rows
    → Takes between names_after [] (names_among true element.levels element.node.kids)
    → Keeps before after nothing (load_built element) given
    → Moves names_before names_after before after nothing (load_built element) given
moves_named names_before between names_after before after kept element given own tag rows inner
    keeps = record {
      names = takes_then names_before between names_after
          (option_to_list (own_name true element.node))
          (names_among true element.levels element.node.kids)
          (subst (λ name. Takes names_before between [] (option_to_list name))
          (sym (own_same kept element.node tag rows)) own) inner;
      keeps = keeps;
    }

-- or none is made, its name taken
pub moves_none : (names_before between names_after some : List (List ℕ))
    (before after : List Change) (given : Load) → Takes names_before between [] some
    → Takes between names_after [] [] → Keeps before after nothing nothing given
    → Moves names_before names_after before after nothing nothing given
moves_none names_before between names_after some before after given own inner keeps = record {
  names = takes_none names_before between names_after some own inner;
  keeps = keeps;
}

-- either
pub made_named : {E : Type 0} (names_before between names_after : List (List ℕ))
    (before after : List Change) (kept : Kept) (room : ℕ) (given : Load)
    (result : Result (Option Built) E) → Takes names_before between [] (option_to_list (own_name_of
    kept))
    → IfOk result (λ made. IfSome made (λ element. (element.levels ≡ room)
    × (element.node.tag ≡ kept.tag) × (element.node.attrs ≡ kept.rows)))
    → IfOk result (λ made. MatchOption made (Takes between names_after [] [])
    (λ element. Takes between names_after [] (names_among true element.levels element.node.kids)))
    → IfOk result (λ made. Keeps before after nothing (load_if made) given)
    → IfOk result (λ made. Moves names_before names_after before after nothing (load_if made) given)
made_named names_before between names_after before after kept room given (Err e) own same takes
    keeps = tt
made_named names_before between names_after before after kept room given (Ok None) own same takes
    keeps =
    moves_none names_before between names_after (option_to_list (own_name_of kept)) before after
    given own takes keeps
made_named names_before between names_after before after kept room given (Ok (Some element)) own
    same takes keeps =
    moves_named names_before between names_after before after kept element given own same.1 same.2
    takes keeps

-- the attributes of an element, and it without them
pub own_dressed : (test : Piece → Bool) (node : Node) (rows : List (AttrName × List Part))
    (nodes : List Node) → number test (pieces_of_nodes (record node { attrs = rows } ∷ nodes))
    ≡ number test (no_paragraphs (dressed node.tag rows))
    + number test (pieces_of_nodes (record node { attrs = [] } ∷ nodes))
own_dressed test node rows nodes =
    let own : List Piece = (node.tag, None) ∷ [] in
    let below = flat_map own_pieces nodes in
    grind (
      arith,
      kept_number test own (dressed node.tag rows ++ below),
      kept_number test (dressed node.tag rows) below,
      kept_number test own below,
    )

-- its signs are the same with any attributes
pub signs_dressed : (levels : ℕ) (node : Node) (rows : List (AttrName × List Part))
    → node_signs levels (record node { attrs = rows }) ≡ node_signs levels node
signs_dressed zero node rows = refl
signs_dressed (suc levels) node rows = refl

-- an element is made with other attributes than it had
pub keeps_dressed : (before one after : List Change) (node : Node) (levels : ℕ)
    (had got : List (AttrName × List Part)) (new : Load)
    → Keeps before one nothing (rows_load node.tag got) (rows_load node.tag had)
    → Keeps one after nothing new (given_node levels (record node { attrs = got }))
    → Keeps before after nothing new (given_node levels (record node { attrs = had }))
keeps_dressed before one after node levels had got new mends keeps = record {
  pieces = λ test.
      grind (
        arith,
        mends.pieces test,
        keeps.pieces test,
        own_dressed test node got (nodes_in levels node.kids),
        own_dressed test node had (nodes_in levels node.kids),
      );
  order = subst (IsWithin new.signs) same keeps.order;
  signs = λ test. grind (arith, mends.signs test, keeps.signs test, ap (number test) same);
}
  where
    same : node_signs levels (record node { attrs = got })
        ≡ node_signs levels (record node { attrs = had })
    same = signs_dressed levels node got ∙ sym (signs_dressed levels node had)

-- with those that may stand, and these told apart
pub keeps_told : (before one two after : List Change) (node : Node) (levels : ℕ)
    (mended told : Kept) (new : Load)
    → Keeps before one nothing (rows_load node.tag mended.rows) (rows_load node.tag node.attrs)
    → mended.tag ≡ node.tag
    → Keeps one two nothing (rows_load told.tag told.rows) (rows_load mended.tag mended.rows)
    → told.tag ≡ mended.tag
    → Keeps two after nothing new (given_node levels (record node { attrs = told.rows }))
    → Keeps before after nothing new (given_node levels node)
keeps_told before one two after node levels mended told new mends is tells same keeps =
    keeps_dressed before one after node levels node.attrs mended.rows new mends
    (keeps_dressed one two after node levels mended.rows told.rows new
    (subst (λ tag. Keeps one two nothing (rows_load tag told.rows) (rows_load node.tag mended.rows))
    (same ∙ is)
    (subst (λ tag. Keeps one two nothing (rows_load told.tag told.rows)
    (rows_load tag mended.rows)) is tells)) keeps)

-- or goes for want of a name
pub moves_lost : (names_before names_after : List (List ℕ)) (before one two after : List Change)
    (node : Node) (levels : ℕ) (mended : Kept) (what : Lost)
    → Keeps before one nothing (rows_load node.tag mended.rows) (rows_load node.tag node.attrs)
    → mended.tag ≡ node.tag
    → Keeps one two nothing nothing (rows_load mended.tag mended.rows)
    → Takes names_before names_after [] []
    → IsSame (load_lost what) (given_node levels (record node { attrs = [] }))
    → IsNoted two after (load_lost what)
    → Moves names_before names_after before after nothing nothing (given_node levels node)
moves_lost names_before names_after before one two after node levels mended what mends is tells
    takes all noted = record {
      names = takes;
      keeps =
          keeps_told before one two after node levels mended
          (record { tag = mended.tag; rows = [] }) nothing mends is tells refl
          (keeps_lost two after nothing (given_node levels (record node { attrs = [] }))
          (noted_same two after (load_lost what)
          (given_node levels (record node { attrs = [] })) all noted));
    }

-- what is put into an element of which nothing is there is what it has when it is closed
closed_takes : (names_before names_after : List (List ℕ)) (before between after : List Change)
    (rule : Rule) (room : ℕ) (whole : Framed) (content : Filled) (given : Load)
    → Puts names_before names_after before between
    (record { rule = rule; room = room; load = nothing; running = nothing }) whole given
    → Closes between after whole content
    → Takes names_before names_after [] (load_filled content).names
closed_takes names_before names_after before between after rule room whole content given puts
    closes text =
    grind (arith, puts.load.names text, closes.load.names text)

-- it begins with nothing
pub put_kids : (names_before names_after : List (List ℕ)) (before after : List Change)
    (rule : Rule) (room levels : ℕ) (start whole : Framed) (kids : List Item) (node : Node)
    → start ≡ record { rule = rule; room = room; load = nothing; running = nothing }
    → kids ≡ node.kids
    → Puts names_before names_after before after start whole (given_items levels kids)
    → Puts names_before names_after before after
    (record { rule = rule; room = room; load = nothing; running = nothing }) whole
    (given_items levels node.kids)
put_kids names_before names_after before after rule room levels start whole kids node new same
    puts =
    subst (λ some. Puts names_before names_after before after
    (record { rule = rule; room = room; load = nothing; running = nothing }) whole
    (given_items levels some)) same
    (subst (λ f. Puts names_before names_after before after f whole (given_items levels kids)) new
    puts)

-- and so for its signs and elements
closed_keeps : (names_before names_after : List (List ℕ)) (before between after : List Change)
    (rule : Rule) (room : ℕ) (whole : Framed) (content : Filled) (given : Load)
    → Puts names_before names_after before between
    (record { rule = rule; room = room; load = nothing; running = nothing }) whole given
    → Closes between after whole content → Keeps before after nothing (load_filled content) given
closed_keeps names_before names_after before between after rule room whole content given puts
    closes =
    subst (Keeps before after nothing (load_filled content)) (both_nothing given)
    (keeps_then before between after nothing whole.load (load_filled content) given nothing
    puts.load.keeps closes.load.keeps)

-- its own tag comes first
own_number : (test : Piece → Bool) (node : Node) (nodes : List Node)
    → number test (pieces_of_nodes (node ∷ nodes))
    ≡ number test (pieces_of_nodes (node ∷ [])) + number test (pieces_of_nodes nodes)
own_number test node nodes =
    ap (number test) (pieces-append (node ∷ []) nodes)
    ∙ number-append test (pieces_of_nodes (node ∷ [])) (pieces_of_nodes nodes)

-- with its own tag
keeps_own : (before after : List Change) (content : Filled) (element : Built) (levels : ℕ)
    (node : Node) → 0 < levels → element.levels ≡ suc content.room
    → element.node.kids ≡ content.items → element.node.tag ≡ node.tag
    → element.node.attrs ≡ node.attrs → Keeps before after nothing (load_filled content)
    (given_items (levels - 1) node.kids)
    → Keeps before after nothing (load_built element) (given_node levels node)
keeps_own before after content element zero node deep at kids own rows keeps =
    absurd (grind (arith, deep))
keeps_own before after content element (suc levels) node deep at kids own rows keeps =
    let same : suc levels - 1 ≡ levels = grind (arith) in
    let here =
    subst (λ l. Keeps before after nothing (load_filled content) (given_items l node.kids)) same
    keeps in
    let signs : node_signs element.levels element.node ≡ signs_in content.room content.items =
    ap (λ l. node_signs l element.node) at ∙ ap (signs_in content.room) kids in
    record {
      pieces = λ test.
          grind (
            arith,
            here.pieces test,
            own_number test element.node (nodes_in element.levels element.node.kids),
            own_number test node (nodes_in (suc levels) node.kids),
            ap (λ (tag : Tag). number test
                (no_paragraphs (((tag, None) ∷ dressed tag element.node.attrs) ++ []))) own,
            ap (λ (some : List (AttrName × List Part)). number test
                (no_paragraphs (((node.tag, None) ∷ dressed node.tag some) ++ []))) rows,
            ap (λ nodes. number test (pieces_of_nodes nodes))
                (ap (λ l. nodes_in l element.node.kids) at ∙ ap (nodes_in (suc content.room)) kids),
          );
      order = subst (λ some. IsWithin some (signs_in levels node.kids)) (sym signs) here.order;
      signs = λ test. grind (arith, here.signs test, ap (number test) signs);
    }

-- an element is made of what was put
pub made_keeps : (names_before names_after : List (List ℕ)) (before between after : List Change)
    (rule : Rule) (room : ℕ) (whole : Framed) (content : Filled) (attributes : Kept)
    (element : Built) (levels : ℕ) (node : Node) → 0 < levels
    → Puts names_before names_after before between
    (record { rule = rule; room = room; load = nothing; running = nothing }) whole
    (given_items (levels - 1) node.kids)
    → Closes between after whole content → attributes.tag ≡ node.tag → element ≡ record {
      levels = suc content.room;
      node = record { tag = attributes.tag; attrs = attributes.rows; kids = content.items };
    }
    → Keeps before after nothing (load_built element)
    (given_node levels (record node { attrs = attributes.rows }))
made_keeps names_before names_after before between after rule room whole content attributes
    element levels node deep puts closes tag made =
    keeps_own before after content element levels (record node { attrs = attributes.rows }) deep
    (ap (λ (e : Built). e.levels) made) (ap (λ (e : Built). e.node.kids) made)
    (ap (λ (e : Built). e.node.tag) made ∙ tag) (ap (λ (e : Built). e.node.attrs) made)
    (closed_keeps names_before names_after before between after rule room whole content
    (given_items (levels - 1) node.kids) puts closes)

-- that are distinct where none was taken before
pub made_apart : (names_before names_after : List (List ℕ)) (before between after : List Change)
    (rule : Rule) (room : ℕ) (whole : Framed) (content : Filled) (given : Load)
    → names_before ≡ [] → Puts names_before names_after before between
    (record { rule = rule; room = room; load = nothing; running = nothing }) whole given
    → Closes between after whole content
    → AreDistinct (names_among true (suc content.room) content.items)
made_apart names_before names_after before between after rule room whole content given none puts
    closes =
    taken_apart names_after (names_among true (suc content.room) content.items)
    (subst (λ names. Takes names names_after [] (names_among true (suc content.room) content.items))
    none
    (closed_takes names_before names_after before between after rule room whole content given
    puts closes))

-- or what was put goes for want of what the element can't do without
pub unmade_keeps : (names_before names_after : List (List ℕ))
    (before between closed after : List Change) (rule : Rule) (room : ℕ) (whole : Framed)
    (content : Filled) (attributes : Kept) (unmade : Node) (what : Lost)
    (above levels : ℕ) (node : Node) → 0 < levels → above ≡ suc content.room
    → Puts names_before names_after before between
    (record { rule = rule; room = room; load = nothing; running = nothing }) whole
    (given_items (levels - 1) node.kids)
    → Closes between closed whole content → attributes.tag ≡ node.tag
    → unmade ≡ record { tag = attributes.tag; attrs = attributes.rows; kids = content.items }
    → IsSame (load_lost what) (given_node above unmade) → IsNoted closed after (load_lost what)
    → Keeps before after nothing nothing
    (given_node levels (record node { attrs = attributes.rows }))
unmade_keeps names_before names_after before between closed after rule room whole content
    attributes unmade what above levels node deep at puts closes tag made all noted =
    let one : Built = record {
      levels = suc content.room;
      node = record { tag = attributes.tag; attrs = attributes.rows; kids = content.items };
    } in
    keeps_dropped before closed after nothing (load_built one)
    (given_node levels (record node { attrs = attributes.rows }))
    (made_keeps names_before names_after before between closed rule room whole content attributes
    one levels node deep puts closes tag refl)
    (noted_built closed after what one
    (subst (IsSame (load_lost what)) (ap (λ l. given_node l unmade) at
    ∙ ap (given_node (suc content.room)) made) all) noted)

-- a card has nothing that it can't do without
pub card_whole : (rule : Rule) (node : Node) → rule ≡ rule_of tags.Card
    → has_needs rule node ≡ true
unfolding rule_of rules
card_whole rule node is = ap (λ r. has_needs r node) is

-- ---- items one by one

-- what is given in more items
pub given_behind : (levels : ℕ) (items more : List Item)
    → given_items levels (items ++ more) ≡ both (given_items levels items) (given_items levels more)
given_behind levels items more =
    let below : Node → List Node = λ node. node ∷ nodes_in levels node.kids in
    ap (λ (some : List Piece). record {
      names = [];
      pieces = some;
      signs = signs_in levels (items ++ more);
    }) (ap (λ nodes. pieces_of_nodes (flat_map below nodes)) (filter_map-append node_of items more)
    ∙ ap pieces_of_nodes
    (flat_map-append below (filter_map node_of items) (filter_map node_of more))
    ∙ pieces-append (flat_map below (filter_map node_of items))
    (flat_map below (filter_map node_of more)))
    ∙ ap (λ (some : List Part). record {
      names = [];
      pieces = pieces_of_nodes (nodes_in (suc levels) items)
          ++ pieces_of_nodes (nodes_in (suc levels) more);
      signs = some;
    }) (signs_in-append levels items more)

-- one item that is a text, or a node
pub given_text : (levels : ℕ) (one : Item) (parts : List Part) → out-Item one ≡ Item-F.Text parts
    → given_items levels (one ∷ []) ≡ text_load parts
given_text levels one parts is =
    ap (λ level. record {
      names = [];
      pieces = pieces_of_nodes (flat_map (λ node. node ∷ nodes_in levels node.kids)
          (cons_option (node_from level) []));
      signs = item_signs (node_signs levels) level ++ [];
    }) is
    ∙ ap (λ (some : List Part). record { names = []; pieces = []; signs = some })
    (append-nil (signs_of parts))

-- or a node
pub given_one : (levels : ℕ) (one : Item) (node : Node) → out-Item one ≡ Item-F.Node node
    → given_items levels (one ∷ []) ≡ given_node levels node
given_one levels one node is =
    ap (λ level. record {
      names = [];
      pieces = pieces_of_nodes (flat_map (λ node. node ∷ nodes_in levels node.kids)
          (cons_option (node_from level) []));
      signs = item_signs (node_signs levels) level ++ [];
    }) is
    ∙ ap (λ nodes. record {
      names = [];
      pieces = pieces_of_nodes (node ∷ nodes);
      signs = node_signs levels node ++ [];
    }) (append-nil (nodes_in levels node.kids))
    ∙ ap (λ (some : List Part). record {
      names = [];
      pieces = pieces_of_nodes (node ∷ nodes_in levels node.kids);
      signs = some;
    }) (append-nil (node_signs levels node))

-- ---- turns of the walk

module _ (items : List Item) (n : ℕ) (one : Item) (within : n < length items)
    (is : one ≡ get_or items n one) where
  next_before : take (n + 1) items ≡ take n items ++ one ∷ []
  next_before =
      rw add-one (take-suc items n one within) ∙ ap (λ last. take n items ++ last ∷ []) (sym is)

  -- one item more is put
  pub puts_turn : (names_before names_between names_after : List (List ℕ))
      (before one_before two_before after : List Change) (old mid new : Framed) (levels : ℕ)
      → Puts names_before names_between before one_before old mid (given_items levels (take n
      items))
      → IsStill one_before two_before
      → Puts names_between names_after two_before after mid new (given_items levels (one ∷ []))
      → Puts names_before names_after before after old new (given_items levels (take (n + 1) items))
  puts_turn names_before names_between names_after before one_before two_before after old mid new
      levels so still puts =
      subst (Puts names_before names_after before after old new)
      (ap (both (given_items levels (take n items))) refl
      ∙ sym (given_behind levels (take n items) (one ∷ [])) ∙ ap (given_items levels)
      (sym next_before))
      (puts_then names_before names_between names_after before one_before after old mid new
      (given_items levels (take n items)) (given_items levels (one ∷ [])) so
      (puts_from names_between names_after one_before two_before after mid new
      (given_items levels (one ∷ [])) still puts))
