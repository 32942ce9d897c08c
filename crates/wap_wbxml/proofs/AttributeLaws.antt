-- Leaves, attributes and processing instructions are read as they are spelled.
use Rattle.std.proofs.Common.{◌≡◌, ℕ, ◌<◌, Bool, true, false, cond, eqb, ltb, ◌%◌, List, []}
use Rattle.std.proofs.Common.{◌∷◌, ◌++◌, length, Option, Some, None, Result, Ok, Err, refl}
use Rattle.std.proofs.Common.{sym, ap, subst, ◌∙◌, append_assoc, inl, inr, arith}
use Rattle.std.specs.Prelude.{not, ◌&&◌}
use Rattle.std.proofs.lemmas.Bool.{eqb-true, false≢true, not-true, and_parts}
use Rattle.std.proofs.lemmas.List.{length-append}
use Rattle.wap_base.specs.Outcome.{◌>>=◌}
use Rattle.wap_base.proofs.Choices.{bind_ok, bind_err, some_same}
use Rattle.wap_base.proofs.formats.Readers.{pair_same, joined}
use Rattle.wap_tokens.specs.declared.markup.codes.TheConstants.{END, LITERAL, SWITCH_PAGE}
use Rattle.wap_tokens.specs.declared.markup.document.Attr.{Attr}
use Rattle.wap_tokens.specs.declared.markup.document.Piece.{Piece}
use Rattle.wap_tokens.specs.declared.markup.document.Piece.TheVariants as piece
use Rattle.wap_tokens.specs.declared.markup.document.Token.{Token}
use Rattle.wap_tokens.specs.declared.markup.document.Token.TheVariants.{Code}
use Rattle.wap_tokens.specs.declared.markup.mark.Lead.{Lead}
use Rattle.wap_tokens.specs.declared.markup.mark.Leaf.TheVariants as leaf
use Rattle.wap_tokens.specs.declared.markup.mark.LeafMark.{LeafMark}
use Rattle.wap_tokens.specs.declared.markup.mark.LeafMark.TheVariants as mark
use Rattle.wap_tokens.specs.declared.markup.mark.AttributeMark.{AttributeMark}
use Rattle.wap_tokens.specs.declared.markup.mark.AttributeMark.TheVariants as attribute
use Rattle.wap_tokens.specs.markup.Codes.{attribute_mark, attribute_leaf, leaf_behind, leaf_mark}
use Rattle.wap_tokens.specs.markup.Spellings.{Then, Told, Given, Never, ManyOf}
use Rattle.wap_tokens.specs.markup.Grammar.{State, IsLead, IsLeaf, leaf_of, literal, IsStartBehind}
use Rattle.wap_tokens.specs.markup.Grammar.{IsPieceBehind, IsPiece, IsAttribute, IsAttributes}
use Rattle.wap_tokens.specs.markup.Grammar.{IsInstruction, attribute_of, piece_of}
use Rattle.wap_tokens.specs.markup.Grammar.{on_attribute_page}
use Rattle.wap_wbxml.specs.declared.fault.DocFault.{DocFault}
use Rattle.wap_wbxml.specs.declared.fault.DocFault.TheVariants as doc
use Rattle.wap_wbxml.specs.reading.ByteReading.{Reading, told}
use Rattle.wap_wbxml.specs.Places.{Input}
use Rattle.wap_wbxml.specs.reading.Fronts.{lead_in, lead_at}
use Rattle.wap_tokens.specs.markup.Codes.{is_end}
use Rattle.wap_wbxml.specs.reading.BodyReading.{no_token, as_none, as_short, leaf_at, start_at}
use Rattle.wap_wbxml.specs.reading.BodyReading.{some_piece, piece_from, piece_led, next_piece}
use Rattle.wap_wbxml.specs.reading.BodyReading.{pieces_at, attribute_behind, next_attribute}
use Rattle.wap_wbxml.specs.reading.BodyReading.{attributes_at, end_from, end_at, instruction_at}
use Rattle.wap_wbxml.specs.Refusals.{Anything, RefusedThen}
use Rattle.wap_tokens.specs.markup.Codes.{begins_piece}
use Rattle.wap_wbxml.specs.Refusal.{RefusedLead, RefusedLeaf, NoToken, RefusedStart}
use Rattle.wap_wbxml.specs.Refusal.{RefusedPieceBehind, RefusedPiece, ValueEnds, AttributeEnds}
use Rattle.wap_wbxml.specs.Refusal.{RefusedValue, RefusedAttribute, RefusedUnless, RefusedNext}
use Rattle.wap_wbxml.specs.Refusal.{RefusedAttributes, RefusedEnd, RefusedInstruction}
use Rattle.wap_wbxml.proofs.Readings.{Reads, at_end, no_fault, reads_behind, reads_then}
use Rattle.wap_wbxml.proofs.Readings.{reads_told, reads_given, reads_never, reads_as, reads_those}
use Rattle.wap_wbxml.proofs.Runs.{Items, StopsOpen, StopsAt, reads_open, reads_ended}
use Rattle.wap_wbxml.proofs.FrontLaws.{reads_lead, reads_character, reads_opaque}
use Rattle.wap_wbxml.proofs.StringLaws.{reads_inline, reads_indexed, reads_name}
use Rattle.wap_wbxml.proofs.LeadLaws.{lead_length, lead_alone, lead_seen, lead_of, some_pair}
use Rattle.wap_wbxml.proofs.LeadLaws.{none_some, some_none, none_same, led_items}

-- ---- leaves

pub reads_leaf : (input : Input) (m : LeafMark)
    → Reads Anything (leaf_at input m) (IsLeaf input.strings m) (RefusedLeaf input m)
unfolding leaf_at RefusedLeaf
reads_leaf input (mark.Inline role) =
    reads_told (leaf_of role) (at_end (reads_inline input.strings) input.total) (λ a rest u. u)
    (λ a rest u. u)
reads_leaf input (mark.Indexed role) =
    reads_told (leaf_of role) (at_end (reads_indexed input.strings) input.total) (λ a rest u. u)
    (λ a rest u. u)
reads_leaf input mark.Entity =
    reads_told leaf.Entity (at_end reads_character input.total) (λ a rest u. u) (λ a rest u. u)
reads_leaf input mark.Opaque =
    reads_told leaf.Opaque (reads_opaque input.total) (λ a rest u. u) (λ a rest u. u)
reads_leaf input (mark.Extension number) = reads_given (leaf.Ext number)

-- ---- starts

pub reads_no_token : {A : Type 0} (total : ℕ)
    → Reads {A = A} Anything (no_token total) Never (NoToken total)
reads_no_token = reads_never doc.Token

reads_start : (input : Input) (before : State) (lead : Lead) (m : AttributeMark)
    → Reads Anything (start_at input before lead m) (IsStartBehind input.strings before lead m)
    (RefusedStart input before m)
unfolding start_at RefusedStart
reads_start input before lead attribute.Coded = reads_given (Code lead.byte, before)
reads_start input before lead attribute.Named =
    reads_told literal (at_end (reads_name input.strings before) input.total) (λ a rest u. u)
    (λ a rest u. u)
reads_start input before lead _ = reads_no_token input.total

-- ---- parts of values

pub told_told : {A B C : Type 0} (make : A → B) (after : B → C) (read : Reading A)
    → told after (told make read) ≡ told (λ a. after (make a)) read
told_told make after (Ok x) = refl
told_told make after (Err fault) = refl

-- ---- ends

ends_chain : (a b c d : Bool) (o : Option LeafMark)
    → is_end (cond a (cond b attribute.Coded attribute.Value)
    (cond c attribute.Named (cond d attribute.End (attribute_leaf o)))) ≡ true → d ≡ true
ends_chain true true c d o e = absurd (false≢true e)
ends_chain true false c d o e = absurd (false≢true e)
ends_chain false b true d o e = absurd (false≢true e)
ends_chain false b false true o e = refl
ends_chain false b false false (Some mark) e = absurd (false≢true e)
ends_chain false b false false None e = absurd (false≢true e)

attribute_end : (lead : Lead) → is_end (attribute_mark lead) ≡ true
    → (lead.byte ≡ END) × (lead.switched ≡ false)
unfolding attribute_mark
attribute_end lead e =
    let over = ends_chain (ltb LITERAL (lead.byte % 64)) (ltb lead.byte 128) (eqb lead.byte LITERAL)
    (eqb lead.byte END && not lead.switched) (leaf_behind lead.switched (leaf_mark lead.byte)) e in
    let parts = and_parts (eqb lead.byte END) (not lead.switched) over in
    (eqb-true lead.byte END parts.0, not-true lead.switched parts.1)

abbrev plain_end : ℕ → Lead
plain_end page = record { switched = false; page = page; byte = END }

end_is_end : (page : ℕ) → is_end (attribute_mark (plain_end page)) ≡ true
unfolding attribute_mark
end_is_end page = refl

end_no_piece : (page : ℕ) → begins_piece (attribute_mark (plain_end page)) ≡ false
unfolding attribute_mark
end_no_piece page = refl

end_no_switch : END ≡ SWITCH_PAGE → ⊥
end_no_switch e = omega arith

pub bind_assoc : {A B C : Type 0} (r : Result A DocFault) (f : A → Result B DocFault)
    (g : B → Result C DocFault)
    → ((r >>= f) >>= g) ≡ (r >>= λ x. f x >>= g)
bind_assoc (Ok x) f g = refl
bind_assoc (Err fault) f g = refl

module _ (input : Input) where
  read_piece : Lead → AttributeMark → List ℕ → Reading Piece
  read_piece lead attribute.Value rest = Ok (piece.Code lead.page lead.byte, rest)
  read_piece lead (attribute.Leaf mark) rest = told piece_of (leaf_at input mark rest)
  read_piece lead _ rest = no_token input.total rest

  reads_piece : (lead : Lead) (m : AttributeMark) → begins_piece m ≡ true
      → Reads Anything (read_piece lead m) (IsPieceBehind input.strings lead m)
      (RefusedPieceBehind input m)
  unfolding read_piece
  reads_piece lead attribute.Value e = reads_given (piece.Code lead.page lead.byte)
  reads_piece lead (attribute.Leaf mark) e =
      reads_told piece_of (reads_leaf input mark) (λ a rest u. u) (λ a rest u. u)
  reads_piece lead _ e = absurd (false≢true e)

  piece_begins : (lead : Lead) (m : AttributeMark) (bytes : List ℕ) (x : Piece)
      → IsPieceBehind input.strings lead m bytes x → begins_piece m ≡ true
  piece_begins lead attribute.Value bytes x is = refl
  piece_begins lead (attribute.Leaf mark) bytes x is = refl
  piece_begins lead _ bytes x is = absurd is

  refused_begins : (m : AttributeMark) (bytes : List ℕ) (fault : DocFault)
      → RefusedPieceBehind input m bytes fault
      → begins_piece m ≡ true
  refused_begins attribute.Value bytes fault refused = refl
  refused_begins (attribute.Leaf mark) bytes fault refused = refl
  refused_begins _ bytes fault refused = absurd refused

  abbrev piece_by : State → Lead → Bool → List ℕ → List ℕ → Reading (Option Piece × State)
  piece_by s lead true bytes rest =
      told (some_piece lead s) (read_piece lead (attribute_mark lead) rest)
  piece_by s lead false bytes rest = Ok ((None, s), bytes)

  piece_same : (s : State) (lead : Lead) (m : AttributeMark) (bytes rest : List ℕ)
      → piece_from input s lead m bytes rest ≡
      (cond (begins_piece m) (told (some_piece lead s) (read_piece lead m rest))
      (Ok ((None, s), bytes)))
  unfolding read_piece
  piece_same s lead (attribute.Leaf mark) bytes rest =
      sym (told_told piece_of (some_piece lead s) (leaf_at input mark rest))
  piece_same s lead _ bytes rest = refl

  -- by what the bytes begin with
  abbrev seen : State → List ℕ → Option (Lead × List ℕ) → Reading (Option Piece × State)
  seen s bytes o = piece_led input s bytes o

  seen_by : (s : State) (bytes : List ℕ) (lead : Lead) (rest : List ℕ) (b : Bool)
      → begins_piece (attribute_mark lead) ≡ b
      → seen s bytes (Some (lead, rest)) ≡ piece_by s lead b bytes rest
  seen_by s bytes lead rest true e =
      piece_same s lead (attribute_mark lead) bytes rest
      ∙ ap (λ (b : Bool).
      cond b (told (some_piece lead s) (read_piece lead (attribute_mark lead) rest))
      (Ok ((None, s), bytes))) e
  seen_by s bytes lead rest false e =
      piece_same s lead (attribute_mark lead) bytes rest
      ∙ ap (λ (b : Bool).
      cond b (told (some_piece lead s) (read_piece lead (attribute_mark lead) rest))
      (Ok ((None, s), bytes))) e

  abbrev Are : State → List ℕ → Piece × State → Type 0
  Are = IsPiece input.strings

  by_takes : (s : State) (bytes : List ℕ) (lead : Lead) (behind : List ℕ) (b : Bool)
      → begins_piece (attribute_mark lead) ≡ b → (x : Piece) (t : State) (rest : List ℕ)
      → piece_by s lead b bytes behind ≡ Ok ((Some x, t), rest)
      → (front : List ℕ) × (behind ≡ front ++ rest) × Told {A = Piece} {B = Piece × State}
      (λ p. (p, on_attribute_page lead.page s))
      (IsPieceBehind input.strings lead (attribute_mark lead)) front
      (x, t)
  by_takes s bytes lead behind true b x t rest e =
      let a =
      bind_ok (read_piece lead (attribute_mark lead) behind) (λ y. Ok (some_piece lead s y.0, y.1))
      ((Some x, t), rest) e in
      let same = pair_same (some_piece lead s a.0.0) (Some x, t) a.0.1 rest a.2 in
      let c = (reads_piece lead (attribute_mark lead) b).takes behind a.0.0 a.0.1 a.1 in (
        c.0,
        c.1 ∙ ap (λ (l : List ℕ). c.0 ++ l) same.1,
        record {
          a = a.0.0;
          is = c.2;
          made = sym
              (some_pair a.0.0 x (on_attribute_page lead.page s) t same.0);
        },
      )
  by_takes s bytes lead behind false b x t rest e =
      absurd (none_some x s t (pair_same (None, s) (Some x, t) bytes rest e).0)

  seen_takes : (s : State) (bytes : List ℕ) (o : Option (Lead × List ℕ))
      → lead_in s.attribute_page bytes ≡ o
      → (x : Piece) (t : State) (rest : List ℕ) → seen s bytes o ≡ Ok ((Some x, t), rest)
      → (front : List ℕ) × (bytes ≡ front ++ rest) × Are s front (x, t)
      × Anything {A = Piece × State} (x, t) rest
  seen_takes s bytes (Some lead) found x t rest e =
      let b = lead_seen s.attribute_page bytes lead.0 lead.1 found in
      let test = begins_piece (attribute_mark lead.0) in
      let c =
      by_takes s bytes lead.0 lead.1 test refl x t rest
      (sym (seen_by s bytes lead.0 lead.1 test refl) ∙ e) in (
        b.0 ++ c.0,
        joined bytes b.0 lead.1 c.0 rest b.1 c.1,
        record { front = b.0; rest = c.0; spelled = refl; a = lead.0; first = b.2; next = c.2 },
        tt,
      )
  seen_takes s bytes None found x t rest e =
      absurd (none_some x s t (pair_same (None, s) (Some x, t) bytes rest e).0)

  piece_again : (s : State) (front : List ℕ) (x : Piece) (t : State) (rest : List ℕ)
      → Are s front (x, t)
      → Anything {A = Piece × State} (x, t) rest
      → next_piece input s (front ++ rest) ≡ Ok ((Some x, t), rest)
  unfolding next_piece
  piece_again s front x t rest is ends =
      let lead = is.a in
      let whole : List ℕ = is.front ++ (is.rest ++ rest) in
      let begins = piece_begins lead (attribute_mark lead) is.rest is.next.a is.next.is in
      ap (λ (l : List ℕ). next_piece input s (l ++ rest)) is.spelled
      ∙ ap (next_piece input s) (append_assoc is.front is.rest rest)
      ∙ ap (seen s whole) (lead_of s.attribute_page is.front lead (is.rest ++ rest) is.first)
      ∙ seen_by s whole lead (is.rest ++ rest) true begins
      ∙ ap (λ (r : Reading Piece). told (some_piece lead s) r)
      ((reads_piece lead (attribute_mark lead) begins).again is.rest is.next.a rest is.next.is tt)
      ∙ ap (λ (p : Piece × State). Ok ((Some p.0, p.1), rest)) (sym is.next.made)

  no_lead_ends : (s : State) (bytes : List ℕ) → lead_in s.attribute_page bytes ≡ None
      → ValueEnds s bytes
  no_lead_ends s bytes none =
      λ front behind lead split is. absurd
      (no (sym none ∙ ap (lead_in s.attribute_page) split
      ∙ lead_of s.attribute_page front lead behind is))
    where
      no : {lead : Lead} {behind : List ℕ}
          → ◌≡◌ {A = Option (Lead × List ℕ)} None (Some (lead, behind)) → ⊥
      no e = cc

  this_lead_ends : (s : State) (bytes : List ℕ) (lead : Lead) (rest : List ℕ)
      → lead_in s.attribute_page bytes ≡ Some (lead, rest)
      → begins_piece (attribute_mark lead) ≡ false
      → ValueEnds s bytes
  this_lead_ends s bytes lead rest found test = λ front behind other split is.
      let same : ◌≡◌ {A = Option (Lead × List ℕ)} (Some (lead, rest)) (Some (other, behind)) =
      sym found
      ∙ ap (lead_in s.attribute_page) split ∙ lead_of s.attribute_page front other behind is in
      let lead_same : lead ≡ other =
      ap (λ (p : Lead × List ℕ). p.0) (some_same (lead, rest) (other, behind) same) in
      subst (λ (l : Lead). begins_piece (attribute_mark l) ≡ false) lead_same test

  by_ends : (s : State) (bytes : List ℕ) (lead : Lead) (behind : List ℕ) (b : Bool)
      → begins_piece (attribute_mark lead) ≡ b → (t : State) (rest : List ℕ)
      → piece_by s lead b bytes behind ≡ Ok ((None, t), rest)
      → (s ≡ t) × (bytes ≡ rest) × (begins_piece (attribute_mark lead) ≡ false)
  by_ends s bytes lead behind true b t rest e =
      let a =
      bind_ok (read_piece lead (attribute_mark lead) behind) (λ y. Ok (some_piece lead s y.0, y.1))
      ((None, t), rest) e in
      absurd (some_none a.0.0 (on_attribute_page lead.page s) t
      (pair_same (some_piece lead s a.0.0) (None, t) a.0.1 rest a.2).0)
  by_ends s bytes lead behind false b t rest e =
      let same = pair_same (None, s) (None, t) bytes rest e in
      (none_same s t same.0, same.1, b)

  seen_ends : (s : State) (bytes : List ℕ) (o : Option (Lead × List ℕ))
      → lead_in s.attribute_page bytes ≡ o
      → (t : State) (rest : List ℕ) → seen s bytes o ≡ Ok ((None, t), rest)
      → (s ≡ t) × StopsOpen ValueEnds s bytes rest
  seen_ends s bytes (Some lead) found t rest e =
      let test = begins_piece (attribute_mark lead.0) in
      let c =
      by_ends s bytes lead.0 lead.1 test refl t rest
      (sym (seen_by s bytes lead.0 lead.1 test refl) ∙ e) in
      (c.0, (c.1, subst (ValueEnds s) c.1 (this_lead_ends s bytes lead.0 lead.1 found c.2)))
  seen_ends s bytes None found t rest e =
      let same = pair_same (None, s) (None, t) bytes rest e in
      (none_same s t same.0, (same.1, subst (ValueEnds s) same.1 (no_lead_ends s bytes found)))

  seen_halts : (s : State) (bytes : List ℕ) (o : Option (Lead × List ℕ))
      → lead_in s.attribute_page bytes ≡ o
      → (rest : List ℕ) → StopsOpen ValueEnds s bytes rest → seen s bytes o ≡ Ok ((None, s), rest)
  seen_halts s bytes (Some lead) found rest stop =
      let b = lead_seen s.attribute_page bytes lead.0 lead.1 found in
      seen_by s bytes lead.0 lead.1 false (stop.1 b.0 lead.1 lead.0 (sym stop.0 ∙ b.1) b.2)
      ∙ ap (λ (l : List ℕ). Ok ((None, s), l)) stop.0
  seen_halts s bytes None found rest stop = ap (λ (l : List ℕ). Ok ((None, s), l)) stop.0

  by_stops : (s : State) (bytes : List ℕ) (lead : Lead) (behind : List ℕ) (b : Bool)
      → begins_piece (attribute_mark lead) ≡ b → (fault : DocFault)
      → piece_by s lead b bytes behind ≡ Err fault
      → RefusedPieceBehind input (attribute_mark lead) behind fault
  by_stops s bytes lead behind true b fault e =
      elim (bind_err (read_piece lead (attribute_mark lead) behind)
      (λ y. Ok (some_piece lead s y.0, y.1)) fault e) [
        | inl failed ↦ (reads_piece lead (attribute_mark lead) b).stops behind fault failed
        | inr read ↦ absurd (no_fault read.2)
      ]
  by_stops s bytes lead behind false b fault e = absurd (no_fault e)

  seen_stops : (s : State) (bytes : List ℕ) (o : Option (Lead × List ℕ))
      → lead_in s.attribute_page bytes ≡ o
      → (fault : DocFault) → seen s bytes o ≡ Err fault → RefusedPiece input s bytes fault
  seen_stops s bytes (Some lead) found fault e =
      let b = lead_seen s.attribute_page bytes lead.0 lead.1 found in
      let test = begins_piece (attribute_mark lead.0) in
      record {
        front = b.0;
        rest = lead.1;
        spelled = b.1;
        a = lead.0;
        is = b.2;
        ends = tt;
        refused =
            by_stops s bytes lead.0 lead.1 test refl fault
            (sym (seen_by s bytes lead.0 lead.1 test refl) ∙ e);
      }
  seen_stops s bytes None found fault e = absurd (no_fault e)

  piece_fails : (s : State) (bytes : List ℕ) (fault : DocFault) → RefusedPiece input s bytes fault
      → next_piece input s bytes ≡ Err fault
  unfolding next_piece
  piece_fails s bytes fault refused =
      let lead = refused.a in
      let whole : List ℕ = refused.front ++ refused.rest in
      let begins = refused_begins (attribute_mark lead) refused.rest fault refused.refused in
      ap (next_piece input s) refused.spelled
      ∙ ap (seen s whole) (lead_of s.attribute_page refused.front lead refused.rest refused.is)
      ∙ seen_by s whole lead refused.rest true begins
      ∙ ap (λ (r : Reading Piece). told (some_piece lead s) r)
      ((reads_piece lead (attribute_mark lead) begins).fails refused.rest fault refused.refused)

  piece_some : (s : State) (front : List ℕ) (x : Piece × State) → Are s front x → 0 < length front
  piece_some s front x is =
      let some = lead_length s.attribute_page is.front is.a is.first in
      let len = ap length is.spelled ∙ length-append is.front is.rest in
      omega arith

  piece_items :
      Items (next_piece input) as_none Are Anything (StopsOpen ValueEnds) (RefusedPiece input)
  unfolding next_piece
  piece_items = record {
    takes =
        λ s bytes x t rest e. seen_takes s bytes (lead_in s.attribute_page bytes) refl x t rest e;
    again = piece_again;
    ends = λ s bytes t rest e. seen_ends s bytes (lead_in s.attribute_page bytes) refl t rest e;
    halts = λ s bytes rest stop. seen_halts s bytes (lead_in s.attribute_page bytes) refl rest stop;
    stops = λ s bytes fault e. seen_stops s bytes (lead_in s.attribute_page bytes) refl fault e;
    fails = piece_fails;
    some = piece_some;
    at_nothing = λ s. refl;
    ends_before = λ y s front x rest is. tt;
    ends_at_stop = λ y s bytes rest stop. tt;
  }

  reads_pieces : (s : State)
      → Reads (λ (x : List Piece × State). ValueEnds x.1) (pieces_at input s) (ManyOf Are s)
      (RefusedValue input s)
  unfolding pieces_at
  reads_pieces s = reads_open ValueEnds piece_items s

  -- ---- attributes

  abbrev IsBehind : State → Lead → List ℕ → Attr × State → Type 0
  IsBehind before lead =
      Then (IsStartBehind input.strings (on_attribute_page lead.page before) lead
      (attribute_mark lead)) (λ start.
      Told (attribute_of lead start.0) (ManyOf (IsPiece input.strings) start.1))

  reads_attribute : (before : State) (lead : Lead)
      → Reads AttributeEnds (attribute_behind input before lead) (IsBehind before lead)
      (RefusedAttribute input before lead)
  unfolding attribute_behind RefusedAttribute
  reads_attribute before lead =
      reads_then (λ start rest. told (attribute_of lead start.0) (pieces_at input start.1 rest))
      (reads_start input (on_attribute_page lead.page before) lead (attribute_mark lead))
      (λ start. reads_told (attribute_of lead start.0) (reads_pieces start.1) (λ v rest ends. ends)
      (λ v rest ends. ends))

  start_no_end : (before : State) (lead : Lead) (m : AttributeMark) (bytes : List ℕ)
      (x : Token × State)
      → IsStartBehind input.strings before lead m bytes x → is_end m ≡ false
  start_no_end before lead attribute.End bytes x is = absurd is
  start_no_end before lead _ bytes x is = refl

  start_no_piece : (before : State) (lead : Lead) (m : AttributeMark) (bytes : List ℕ)
      (x : Token × State)
      → IsStartBehind input.strings before lead m bytes x → begins_piece m ≡ false
  start_no_piece before lead attribute.Coded bytes x is = refl
  start_no_piece before lead attribute.Named bytes x is = refl
  start_no_piece before lead _ bytes x is = absurd is

  ends_before : (y : Attr) (s : State) (front : List ℕ) (x : Attr × State) (rest : List ℕ)
      → Then (IsLead s.attribute_page) (IsBehind s) front x → ValueEnds s (front ++ rest)
  ends_before y s front x rest is =
      let whole = ap (λ (l : List ℕ). l ++ rest) is.spelled ∙ append_assoc is.front is.rest rest in
      this_lead_ends s (front ++ rest) is.a (is.rest ++ rest)
      (ap (lead_in s.attribute_page) whole
      ∙ lead_of s.attribute_page is.front is.a (is.rest ++ rest) is.first)
      (start_no_piece (on_attribute_page is.a.page s) is.a (attribute_mark is.a) is.next.front
      (is.next.a) is.next.first)

  ends_at_end : (s : State) (bytes rest : List ℕ) → StopsAt END s bytes rest → ValueEnds s bytes
  ends_at_end s bytes rest stop =
      this_lead_ends s bytes (plain_end s.attribute_page) rest (ap (lead_in s.attribute_page) stop)
      (end_no_piece s.attribute_page)

  attribute_items :
      Items (next_attribute input) (as_short input.total) (IsAttribute input.strings) AttributeEnds
      (StopsAt END) (RefusedNext input)
  unfolding next_attribute IsAttribute RefusedNext
  attribute_items =
      led_items input.total (λ s. s.attribute_page) (λ lead. is_end (attribute_mark lead))
      (attribute_behind input) AttributeEnds IsBehind (RefusedAttribute input)
      (λ s lead e. reads_attribute s lead)
      (λ s lead bytes x is. start_no_end (on_attribute_page lead.page s) lead
      (attribute_mark lead) is.front is.a is.first)
      attribute_end end_is_end ends_before (λ y. ends_at_end)

  pub reads_attributes : (s : State)
      → Reads Anything (attributes_at input s) (IsAttributes input.strings s)
      (RefusedAttributes input s)
  unfolding attributes_at RefusedAttributes
  reads_attributes s = reads_ended END attribute_items s

  -- ---- processing instructions

  -- an end, after which this stands for what is before it
  abbrev EndFor : Attr × State → Bool → List ℕ → Attr × State → Type 0
  EndFor a true = Given a
  EndFor a false = Never

  abbrev behind_end : Attr × State → Lead → List ℕ → Reading (Attr × State)
  behind_end a lead rest =
      end_from input.total (is_end (attribute_mark lead)) rest >>= λ r. Ok (a, r)

  reads_end_by : (a : Attr × State) (b : Bool)
      → Reads Anything (λ rest. end_from input.total b rest >>= λ r. Ok (a, r)) (EndFor a b)
      (RefusedUnless b (NoToken input.total))
  reads_end_by a true = reads_given a
  reads_end_by a false = reads_no_token input.total

  abbrev IsEndFor : Attr × State → List ℕ → Attr × State → Type 0
  IsEndFor a bytes x = (bytes ≡ END ∷ []) × (x ≡ a)

  end_is : (a : Attr × State) (lead : Lead) (b : Bool) → is_end (attribute_mark lead) ≡ b
      → (front rest : List ℕ) (x : Attr × State) → IsLead a.1.attribute_page front lead
      → EndFor a b rest x
      → IsEndFor a (front ++ rest) x
  end_is a lead true e front rest x is ended =
      let over = attribute_end lead e in (
        ap (λ (l : List ℕ). l ++ rest)
            (lead_alone a.1.attribute_page front lead END is over.0 over.1)
            ∙ ap (λ (l : List ℕ). END ∷ l) ended.0,
        ended.1,
      )
  end_is a lead false e front rest x is ended = absurd ended

  reads_end : (a : Attr × State)
      → Reads Anything (λ bytes. end_at input.total a.1 bytes >>= λ rest. Ok (a, rest)) (IsEndFor a)
      (RefusedEnd input.total a.1)
  unfolding end_at
  reads_end a =
      reads_those
      (reads_as
      (reads_then (behind_end a) (reads_lead input.total a.1.attribute_page)
      (λ lead. reads_end_by a (is_end (attribute_mark lead))))
      (λ bytes. end_at input.total a.1 bytes >>= λ rest. Ok (a, rest))
      (λ bytes. sym (bind_assoc (lead_at input.total a.1.attribute_page bytes)
      (λ lead. end_from input.total (is_end (attribute_mark lead.0)) lead.1)
      (λ rest. Ok (a, rest)))))
      (λ bytes x is. subst (λ (l : List ℕ). IsEndFor a l x) (sym is.spelled)
      (end_is a is.a (is_end (attribute_mark is.a)) refl is.front is.rest x is.first is.next))
      (λ bytes x is. record {
        front = END ∷ [];
        rest = [];
        spelled = is.0;
        a = plain_end a.1.attribute_page;
        first =
            (end_no_switch, refl);
        next = subst (λ (b : Bool). EndFor a b [] x) (sym (end_is_end a.1.attribute_page))
            (refl, is.1);
      })

  abbrev led_attribute : State → List ℕ → Reading (Attr × State)
  led_attribute before bytes =
      lead_at input.total before.attribute_page bytes >>= λ lead.
      attribute_behind input before lead.0 lead.1

  reads_led : (before : State)
      → Reads AttributeEnds (led_attribute before) (IsAttribute input.strings before)
      (RefusedThen (IsLead before.attribute_page) (RefusedLead input.total)
      (RefusedAttribute input before))
  unfolding IsAttribute
  reads_led before =
      reads_then (attribute_behind input before) (reads_lead input.total before.attribute_page)
      (reads_attribute before)

  pub reads_instruction : (before : State)
      → Reads Anything (instruction_at input before) (IsInstruction input.strings before)
      (RefusedInstruction input before)
  unfolding instruction_at RefusedInstruction
  reads_instruction before =
      reads_those
      (reads_as
      (reads_behind (λ a bytes. end_at input.total a.1 bytes >>= λ rest. Ok (a, rest))
      (reads_led before) reads_end
      (λ a front x rest is ends.
      ends_at_end a.1 (front ++ rest) rest (ap (λ (l : List ℕ). l ++ rest) is.0)))
      (instruction_at input before)
      (λ bytes. bind_assoc (lead_at input.total before.attribute_page bytes)
      (λ lead. attribute_behind input before lead.0 lead.1)
      (λ a. end_at input.total a.0.1 a.1 >>= λ rest. Ok (a.0, rest))))
      (λ bytes x is. (
        is.front,
        is.spelled
            ∙ ap (λ (l : List ℕ). is.front ++ l) is.next.0,
        subst (IsAttribute input.strings before is.front)
            (sym is.next.1) is.first,
      ))
      (λ bytes x is. record {
        front = is.0;
        rest = END ∷ [];
        spelled = is.1;
        a = x;
        first = is.2;
        next = (refl, refl);
      })
