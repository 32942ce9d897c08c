-- What is kept of loads: names, elements with their attributes, and signs of texts.
use Rattle.std.proofs.Common.{◌≡◌, ℕ, List, [], ◌∷◌, ◌++◌}
use Rattle.std.proofs.Common.{refl, sym, ap, subst, ◌∙◌, append_assoc, arith}
use Rattle.std.proofs.lemmas.List.{append-nil}
use Rattle.std.proofs.lemmas.Grind.{flat_map-append}
use mathlib.Core.Logic.{◌⊎◌, inl, inr}
use Rattle.wap_base.specs.declared.name.Part.{Part}
use Rattle.wap_mend.specs.Accounts.{signs_of, Attribute, lost, IsWithin, number}
use Rattle.wap_mend.specs.declared.change.Change.{Change}
use Rattle.wap_mend.specs.declared.change.Lost.{Lost}
use Rattle.wap_mend.specs.inside.Frames.{Load, nothing, both, load_lost, IsStill, IsNoted, Keeps}
use Rattle.wap_mend.specs.inside.Frames.{Piece, pieces_lost, pieces_came, gone_pieces, came_pieces}
use Rattle.wap_mend.specs.inside.Frames.{IsSame, IsTurned}
use Rattle.wap_mend.specs.inside.Frames.{Carries, load_built, given_node}
use Rattle.wap_mend.specs.inside.Building.{Built}
use Rattle.wap_mend.proofs.Counting.{times-append}
use Rattle.wap_mend.proofs.Accounting.{within_refl, within_then}
use Rattle.wap_mend.proofs.Accounting.{within_both, within_first, within_nothing}
use Rattle.wap_mend.proofs.Accounting.{number-append}

-- nothing more is no more
pub both_nothing : (some : Load) → both some nothing ≡ some
both_nothing some =
    ap (λ (names : List (List ℕ)).
    record { names = names; pieces = some.pieces ++ []; signs = some.signs ++ [] })
    (append-nil some.names)
    ∙ ap (λ (pieces : List Piece).
    record { names = some.names; pieces = pieces; signs = some.signs ++ [] }) (append-nil
    some.pieces)
    ∙ ap (λ (signs : List Part).
    record { names = some.names; pieces = some.pieces; signs = signs }) (append-nil some.signs)

-- three together
pub both_assoc : (one two three : Load)
    → both one (both two three) ≡ both (both one two) three
both_assoc one two three =
    ap (λ (names : List (List ℕ)). record {
      names = names;
      pieces = one.pieces ++ (two.pieces ++ three.pieces);
      signs = one.signs ++ (two.signs ++ three.signs);
    }) (sym (append_assoc one.names two.names three.names))
    ∙ ap (λ (pieces : List Piece). record {
      names = (one.names ++ two.names) ++ three.names;
      pieces = pieces;
      signs = one.signs ++ (two.signs ++ three.signs);
    }) (sym (append_assoc one.pieces two.pieces three.pieces))
    ∙ ap (λ (signs : List Part). record {
      names = (one.names ++ two.names) ++ three.names;
      pieces = (one.pieces ++ two.pieces) ++ three.pieces;
      signs = signs;
    }) (sym (append_assoc one.signs two.signs three.signs))

-- ---- what is noted

-- where nothing is noted all stays
pub still_refl : (changes : List Change) → IsStill changes changes
still_refl changes = record { lost = refl; gone = refl; came = refl }

-- where nothing was noted before
pub noted_then : (before between after : List Change) (load : Load) → IsStill before between
    → IsNoted between after load → IsNoted before after load
noted_then before between after load still noted = record {
  lost = noted.lost ∙ ap (λ some. some ++ load.signs) still.lost;
  gone = λ test. grind (arith, noted.gone test, ap (number test) still.gone);
  came = noted.came ∙ still.came;
}

-- the same by another name
pub noted_as : (before after : List Change) (some load : Load) → some ≡ load
    → IsNoted before after some → IsNoted before after load
noted_as before after some load same noted = subst (IsNoted before after) same noted

-- or as much in another order
pub noted_same : (before after : List Change) (some load : Load) → IsSame some load
    → IsNoted before after some → IsNoted before after load
noted_same before after some load same noted = record {
  lost = noted.lost ∙ ap (λ signs. lost before ++ signs) same.signs;
  gone = λ test. grind (arith, noted.gone test, same.pieces test);
  came = noted.came;
}

-- what an element has, whatever names are in it
pub noted_built : (before after : List Change) (what : Lost) (element : Built)
    → IsSame (load_lost what) (given_node element.levels element.node)
    → IsNoted before after (load_lost what) → IsNoted before after (load_built element)
noted_built before after what element same noted =
    let here : IsNoted before after (given_node element.levels element.node) =
    noted_same before after (load_lost what) (given_node element.levels element.node) same noted in
    record { lost = here.lost; gone = here.gone; came = here.came }

-- a change more says what goes with it, and what comes
pub turned_one : (before after : List Change) (change : Change) (what : Lost)
    (new : List Attribute) → after ≡ before ++ change ∷ [] → change.lost ≡ what
    → change.came ≡ new → IsTurned before after (load_lost what) new
turned_one before after change what new is goes comes = record {
  lost =
      ap lost is ∙ flat_map-append (λ one. signs_of one.lost.texts) before (change ∷ [])
      ∙ ap (λ some. lost before ++ some) (append-nil (signs_of change.lost.texts)
      ∙ ap (λ (some : Lost). signs_of some.texts) goes);
  gone =
      ap gone_pieces is ∙ flat_map-append (λ one. pieces_lost one.lost) before (change ∷ [])
      ∙ ap (λ some. gone_pieces before ++ some) (append-nil (pieces_lost change.lost)
      ∙ ap pieces_lost goes);
  came =
      ap came_pieces is ∙ flat_map-append (λ one. pieces_came one.came) before (change ∷ [])
      ∙ ap (λ some. came_pieces before ++ some) (append-nil (pieces_came change.came)
      ∙ ap pieces_came comes);
}

-- where none comes
pub noted_turned : (before after : List Change) (load : Load) (new : List Attribute) → new ≡ []
    → IsTurned before after load new → IsNoted before after load
noted_turned before after load new none turned = record {
  lost = turned.lost;
  gone = λ test.
      ap (number test) turned.gone ∙ number-append test (gone_pieces before) load.pieces;
  came =
      turned.came ∙ ap (λ some. came_pieces before ++ pieces_came some) none
      ∙ append-nil (came_pieces before);
}

-- nothing goes, and none comes
pub still_turned : (before after : List Change) (load : Load) (new : List Attribute)
    → load ≡ nothing → new ≡ [] → IsTurned before after load new → IsStill before after
still_turned before after load new nothing_goes none turned = record {
  lost = turned.lost ∙ ap (λ (some : Load). lost before ++ some.signs) nothing_goes
      ∙ append-nil (lost before);
  gone = turned.gone ∙ ap (λ (some : Load). gone_pieces before ++ some.pieces) nothing_goes
      ∙ append-nil (gone_pieces before);
  came = turned.came ∙ ap (λ some. came_pieces before ++ pieces_came some) none
      ∙ append-nil (came_pieces before);
}

-- ---- what is kept

-- more comes in as it is
pub keeps_all : (before after : List Change) (old more : Load) → IsStill before after
    → Keeps before after old (both old more) more
keeps_all before after old more same = record {
  pieces = λ test.
      grind (
        arith,
        ap (number test) same.gone,
        ap (number test) same.came,
        number-append test
            old.pieces more.pieces,
      );
  order = within_refl (old.signs ++ more.signs);
  signs = λ test.
      grind (arith, ap (number test) same.lost, number-append test old.signs more.signs);
}

-- where there was nothing
pub keeps_whole : (changes : List Change) (load : Load) → Keeps changes changes nothing load load
keeps_whole changes load = keeps_all changes changes nothing load (still_refl changes)

-- what doesn't come in is noted
pub keeps_lost : (before after : List Change) (load more : Load) → IsNoted before after more
    → Keeps before after load load more
keeps_lost before after load more noted = record {
  pieces = λ test.
      grind (arith, noted.gone test, ap (number test) noted.came);
  order = within_first load.signs more.signs;
  signs = λ test.
      grind (arith, ap (number test) noted.lost ∙ number-append test (lost before) more.signs);
}

-- what there is goes, and is noted
pub keeps_dropped : (before between after : List Change) (old new more : Load)
    → Keeps before between old new more → IsNoted between after new
    → Keeps before after old nothing more
keeps_dropped before between after old new more keeps noted = record {
  pieces = λ test.
      grind (
        arith,
        keeps.pieces test,
        noted.gone test,
        ap (number test) noted.came,
      );
  order = within_nothing (old.signs ++ more.signs);
  signs = λ test.
      grind (
        arith,
        keeps.signs test,
        ap (number test) noted.lost ∙ number-append test (lost between) new.signs,
      );
}

-- nothing comes in
pub keeps_still : (before after : List Change) (load : Load) → IsStill before after
    → Keeps before after load load nothing
keeps_still before after load same = record {
  pieces = λ test. grind (arith, ap (number test) same.gone, ap (number test) same.came);
  order = within_first load.signs [];
  signs = λ test. grind (arith, ap (number test) same.lost);
}

-- first some, and then more
pub keeps_then : (before between after : List Change) (old mid new some more : Load)
    → Keeps before between old mid some → Keeps between after mid new more
    → Keeps before after old new (both some more)
keeps_then before between after old mid new some more first second = record {
  pieces = λ test.
      grind (
        arith,
        first.pieces test,
        second.pieces test,
        number-append test some.pieces more.pieces,
      );
  order =
      within_then second.order
      (subst (IsWithin (mid.signs ++ more.signs))
      (append_assoc old.signs some.signs more.signs)
      (within_both first.order
      (within_refl more.signs)));
  signs = λ test.
      grind (
        arith,
        first.signs test,
        second.signs test,
        number-append test some.signs more.signs,
      );
}

-- in two parts, by the first
pub keeps_first : (before after : List Change) (old new rest more : Load)
    → Keeps before after old new more → (more.signs ≡ []) ⊎ (rest.signs ≡ [])
    → Keeps before after (both old rest) (both new rest) more
keeps_first before after old new rest more keeps free = record {
  pieces = λ test.
      grind (
        arith,
        keeps.pieces test,
        number-append test old.pieces rest.pieces,
        number-append test new.pieces rest.pieces,
      );
  order = before_rest free;
  signs = λ test.
      grind (
        arith,
        keeps.signs test,
        number-append test old.signs rest.signs,
        number-append test new.signs rest.signs,
      );
}
  where
    before_rest : (more.signs ≡ []) ⊎ (rest.signs ≡ [])
        → IsWithin (new.signs ++ rest.signs) ((old.signs ++ rest.signs) ++ more.signs)
    before_rest (inl none) =
        subst (λ some. IsWithin (new.signs ++ rest.signs) ((old.signs ++ rest.signs) ++ some))
        (sym none)
        (subst (IsWithin (new.signs ++ rest.signs))
        (sym (append-nil (old.signs ++ rest.signs)))
        (within_both
        (subst (IsWithin new.signs) (append-nil old.signs)
        (subst (λ some. IsWithin new.signs (old.signs ++ some)) none keeps.order))
        (within_refl rest.signs)))
    before_rest (inr none) =
        subst (λ some. IsWithin (new.signs ++ some) ((old.signs ++ some) ++ more.signs))
        (sym none)
        (subst (λ some. IsWithin some ((old.signs ++ []) ++ more.signs))
        (sym (append-nil new.signs))
        (subst (λ some. IsWithin new.signs (some ++ more.signs)) (sym (append-nil old.signs))
        keeps.order))

-- or by the second
pub keeps_second : (before after : List Change) (rest old new more : Load)
    → Keeps before after old new more → Keeps before after (both rest old) (both rest new) more
keeps_second before after rest old new more keeps = record {
  pieces = λ test.
      grind (
        arith,
        keeps.pieces test,
        number-append test rest.pieces old.pieces,
        number-append test rest.pieces new.pieces,
      );
  order =
      subst (IsWithin (rest.signs ++ new.signs))
      (sym (append_assoc rest.signs old.signs more.signs))
      (within_both (within_refl rest.signs) keeps.order);
  signs = λ test.
      grind (
        arith,
        keeps.signs test,
        number-append test rest.signs old.signs,
        number-append test rest.signs new.signs,
      );
}

-- what is noted changes nothing of what there is
pub keeps_aside : (before after : List Change) (load : Load)
    → Keeps before after nothing nothing nothing → Keeps before after load load nothing
keeps_aside before after load keeps = record {
  pieces = λ test. grind (arith, keeps.pieces test);
  order = within_first load.signs [];
  signs = λ test. grind (arith, keeps.signs test);
}

-- ---- with names

-- more comes in as it is
pub carries_all : (before after : List Change) (old more : Load) → IsStill before after
    → Carries before after old (both old more) more
carries_all before after old more same = record {
  names = λ text. grind (arith, times-append text old.names more.names);
  keeps = keeps_all before after old more same;
}

-- what doesn't come in is noted
pub carries_lost : (before after : List Change) (load more : Load) → IsNoted before after more
    → Carries before after load load more
carries_lost before after load more noted = record {
  names = λ text. grind (arith);
  keeps = keeps_lost before after load more noted;
}

-- nothing comes in
pub carries_still : (before after : List Change) (load : Load) → IsStill before after
    → Carries before after load load nothing
carries_still before after load same = record {
  names = λ text. grind (arith);
  keeps = keeps_still before after load same;
}

-- first some, and then more
pub carries_then : (before between after : List Change) (old mid new some more : Load)
    → Carries before between old mid some → Carries between after mid new more
    → Carries before after old new (both some more)
carries_then before between after old mid new some more first second = record {
  names = λ text.
      grind (
        arith,
        first.names text,
        second.names text,
        times-append text some.names more.names,
      );
  keeps = keeps_then before between after old mid new some more first.keeps second.keeps;
}

-- in two parts, by the first
pub carries_first : (before after : List Change) (old new rest more : Load)
    → Carries before after old new more → (more.signs ≡ []) ⊎ (rest.signs ≡ [])
    → Carries before after (both old rest) (both new rest) more
carries_first before after old new rest more carries free = record {
  names = λ text.
      grind (
        arith,
        carries.names text,
        times-append text old.names rest.names,
        times-append text new.names rest.names,
      );
  keeps = keeps_first before after old new rest more carries.keeps free;
}

-- or by the second
pub carries_second : (before after : List Change) (rest old new more : Load)
    → Carries before after old new more → Carries before after (both rest old) (both rest new) more
carries_second before after rest old new more carries = record {
  names = λ text.
      grind (
        arith,
        carries.names text,
        times-append text rest.names old.names,
        times-append text rest.names new.names,
      );
  keeps = keeps_second before after rest old new more carries.keeps;
}

-- all of it goes, and is noted
pub carries_dropped : (before after : List Change) (load : Load) → IsNoted before after load
    → Carries before after load nothing nothing
carries_dropped before after load noted = record {
  names = λ text. grind (arith);
  keeps =
      keeps_dropped before before after load load nothing
      (keeps_still before before load (still_refl before)) noted;
}

-- what was gained was there before, elsewhere
pub carries_joined : (before after : List Change) (old new more : Load)
    → Carries before after old new more → Carries before after (both old more) new nothing
carries_joined before after old new more carries = record {
  names = λ text. grind (arith, carries.names text, times-append text old.names more.names);
  keeps = record {
    pieces = λ test.
        grind (
          arith,
          carries.keeps.pieces test,
          number-append test old.pieces more.pieces,
        );
    order =
        subst (IsWithin new.signs) (sym (append-nil (old.signs ++ more.signs)))
        carries.keeps.order;
    signs = λ test.
        grind (arith, carries.keeps.signs test, number-append test old.signs more.signs);
  };
}
