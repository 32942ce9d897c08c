-- Notes are true of what is left of the bytes that they are true of, and stay true where others are
-- added.
use Rattle.std.proofs.Common.{◌≡◌, ◌≢◌, ℕ, ◌+◌, ◌-◌, ◌%◌, ◌<◌, ◌≤◌, false, eqb, List}
use Rattle.std.proofs.Common.{[], ◌∷◌, zero, suc, length, drop, Option, Some, None, refl, sym, ap}
use Rattle.std.proofs.Common.{subst, ◌∙◌, arith}
use Rattle.std.specs.List.{insert}
use Rattle.std.proofs.lemmas.List.{drop-drop}
use Rattle.std.proofs.lemmas.Bool.Decides.{nat_tests}
use Rattle.wap_tokens.specs.declared.markup.codes.TheConstants.{END, ENTITY, STR_I}
use Rattle.wap_tokens.specs.declared.markup.codes.TheConstants.{EXT_I_0, EXT_I_1, EXT_I_2}
use Rattle.wap_tokens.specs.declared.markup.name.Tag.{Tag}
use Rattle.wap_tokens.specs.markup.Tables.{tag_of, tag_rows}
use Rattle.wap_deck.specs.declared.good.notes.Note.{Note}
use Rattle.wap_deck.specs.good.Readers.{IsBehind, first_of, is_end}
use Rattle.wap_deck.specs.good.Texts.{part_at}
use Rattle.wap_deck.specs.good.inside.Notes.{last_bytes, IsOwn, IsNote, AreNotes, AreMore}
use Rattle.wap_deck.proofs.GoodLemmas.AttrLaw.{no_part}
use Rattle.wap_deck.proofs.GoodLemmas.Ending.{behind_on, behind_left, behind_place, behind_drop}
use Rattle.wap_deck.proofs.GoodLemmas.Ending.{drop_behind, first_is}

drop_none : (bytes : List ℕ) → drop 0 bytes ≡ bytes
drop_none [] = refl
drop_none (byte ∷ bytes) = refl

-- ---- the same last bytes

last_whole : (rest whole : List ℕ) → IsBehind rest whole → (count : ℕ) → count ≤ length rest
    → last_bytes count rest ≡ last_bytes count whole
last_whole rest whole is count few =
    let left = behind_left rest whole is in
    let sum : (length whole - length rest) + (length rest - count) ≡ length whole - count =
    omega arith in
    ap (drop (length rest - count)) (sym (behind_place rest whole is))
    ∙ drop-drop (length rest - count) (length whole - length rest) whole
    ∙ ap (λ (n : ℕ). drop n whole) sum

module _ (rest whole : List ℕ) (is : IsBehind rest whole) where
  pub note_behind : (note : Note) → IsNote whole note → IsNote rest note
  note_behind note true_there = record {
    order = true_there.order;
    own = λ within.
        let left = behind_left rest whole is in
        subst (λ (l : List ℕ). IsOwn l note) (sym (last_whole rest whole is note.begin within))
        (true_there.own (omega arith));
  }

  pub note_whole : (note : Note) → note.begin ≤ length rest → IsNote rest note → IsNote whole note
  note_whole note within true_here = record {
    order = true_here.order;
    own = λ there.
        subst (λ (l : List ℕ). IsOwn l note) (last_whole rest whole is note.begin within)
        (true_here.own within);
  }

  pub notes_behind : (notes : List Note) → AreNotes whole notes → AreNotes rest notes
  notes_behind [] are = tt
  notes_behind (note ∷ notes) are = (note_behind note are.0, notes_behind notes are.1)

-- ---- lists of notes

-- true notes and a true one among them at any place
notes_put : (whole : List ℕ) (notes : List Note) (place : ℕ) (note : Note) → AreNotes whole notes
    → IsNote whole note → AreNotes whole (insert notes place note)
notes_put whole [] zero note are is = (is, tt)
notes_put whole [] (suc place) note are is = (is, tt)
notes_put whole (first ∷ notes) zero note are is = (is, are)
notes_put whole (first ∷ notes) (suc place) note are is =
    (are.0, notes_put whole notes place note are.1 is)

longer_put : (notes : List Note) (place : ℕ) (note : Note)
    → length notes ≤ length (insert notes place note)
longer_put [] zero note = omega arith
longer_put [] (suc place) note = omega arith
longer_put (first ∷ notes) zero note = omega arith
longer_put (first ∷ notes) (suc place) note =
    let fewer = longer_put notes place note in omega arith

-- none was added
pub more_none : (bytes : List ℕ) (notes : List Note) → AreMore bytes notes notes
more_none bytes notes = record { longer = omega arith; noted = λ whole is are. are }

-- one was added that is true of the bytes
pub more_put : (bytes : List ℕ) (notes : List Note) (place : ℕ) (note : Note)
    → note.begin ≤ length bytes → IsNote bytes note → AreMore bytes notes (insert notes place note)
more_put bytes notes place note within is = record {
  longer = longer_put notes place note;
  noted = λ whole behind are.
      notes_put whole notes place note are (note_whole bytes whole behind note within is);
}

-- some were added, and then more for what is left of the bytes
pub more_on : (bytes rest : List ℕ) (notes more most : List Note) → IsBehind rest bytes
    → AreMore bytes notes more → AreMore rest more most → AreMore bytes notes most
more_on bytes rest notes more most behind one two = record {
  longer = let first = one.longer in let second = two.longer in omega arith;
  noted = λ whole is are.
      two.noted whole (behind_on rest bytes whole behind is) (one.noted whole is are);
}

-- ---- one note

all_last : (bytes : List ℕ) (count : ℕ) → count ≡ length bytes → last_bytes count bytes ≡ bytes
all_last bytes count all =
    let none : length bytes - count ≡ 0 = omega arith in
    ap (λ (n : ℕ). drop n bytes) none ∙ drop_none bytes

pub note_here : (bytes : List ℕ) (note : Note) → note.begin ≡ length bytes
    → note.end < length bytes → IsOwn bytes note → IsNote bytes note
note_here bytes note begin shorter own = record {
  order = omega arith;
  own = λ within.
      subst (λ (l : List ℕ). IsOwn l note) (sym (all_last bytes note.begin begin)) own;
}

-- the last bytes are these, which are so many
pub last_here : (bytes rest : List ℕ) → IsBehind rest (drop 1 bytes)
    → last_bytes (length rest) bytes ≡ rest
last_here bytes rest behind = behind_place rest bytes (drop_behind rest bytes behind)

pub last_behind : (bytes : List ℕ) (count : ℕ) → count < length bytes
    → IsBehind (last_bytes count bytes) (drop 1 bytes)
last_behind bytes count shorter =
    let place = length bytes - count - 1 in
    let sum : 1 + place ≡ length bytes - count = omega arith in
    subst (λ (l : List ℕ). IsBehind l (drop 1 bytes)) (drop-drop place 1 bytes
    ∙ ap (λ (n : ℕ). drop n bytes) sum) (behind_drop place (drop 1 bytes))

-- ---- tags

-- no tag has such a code
abbrev no_tag : ℕ → Type 0
no_tag mark = tag_of 0 (mark % 64) ≡ None

end_none : no_tag END
unfolding tag_of tag_rows
end_none = refl

entity_none : no_tag ENTITY
unfolding tag_of tag_rows
entity_none = refl

string_none : no_tag STR_I
unfolding tag_of tag_rows
string_none = refl

first_none : no_tag EXT_I_0
unfolding tag_of tag_rows
first_none = refl

second_none : no_tag EXT_I_1
unfolding tag_of tag_rows
second_none = refl

third_none : no_tag EXT_I_2
unfolding tag_of tag_rows
third_none = refl

apart : (mark other : ℕ) (tag : Tag) → tag_of 0 (mark % 64) ≡ Some tag → no_tag other
    → mark ≢ other
apart mark other tag found none same =
    let both : ◌≡◌ {A = Option Tag} (Some tag) None =
    sym found ∙ ap (λ (n : ℕ). tag_of 0 (n % 64)) same ∙ none in
    absurd (cc both)

module _ (bytes : List ℕ) (mark : ℕ) (rest : List ℕ) (first : first_of bytes ≡ Some (mark, rest))
    (tag : Tag) (found : tag_of 0 (mark % 64) ≡ Some tag) where
  pub tag_no_end : is_end bytes ≡ false
  tag_no_end =
      let isnt = apart mark END tag found end_none in
      let e : eqb mark END ≡ false = grind (arith, nat_tests) in
      ap is_end (first_is bytes mark rest first) ∙ e

  pub tag_no_part : part_at bytes ≡ None
  tag_no_part =
      ap part_at (first_is bytes mark rest first)
      ∙ no_part mark rest (apart mark STR_I tag found string_none)
      (apart mark ENTITY tag found entity_none) (apart mark EXT_I_0 tag found first_none)
      (apart mark EXT_I_1 tag found second_none) (apart mark EXT_I_2 tag found third_none)
