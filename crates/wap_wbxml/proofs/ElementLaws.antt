-- Elements are read as they are spelled.
use Rattle.std.proofs.Common.{◌≡◌, ℕ, zero, suc, ◌%◌, Bool, true, false, cond, eqb, leb, List}
use Rattle.std.proofs.Common.{[], Option, Some, None, Ok, Err, refl, inl, inr}
use Rattle.std.specs.Prelude.{not, ◌&&◌}
use Rattle.std.proofs.lemmas.Bool.{eqb-true, false≢true, true≢false, not-true, and_parts}
use Rattle.wap_base.specs.Outcome.{◌>>=◌}
use Rattle.wap_tokens.specs.declared.markup.codes.TheConstants.{END, PI, LITERAL}
use Rattle.wap_tokens.specs.declared.markup.document.Token.TheVariants.{Code}
use Rattle.wap_tokens.specs.declared.markup.document.Kid.{Kid}
use Rattle.wap_tokens.specs.declared.markup.document.Kid.TheVariants as kid
use Rattle.wap_tokens.specs.declared.markup.mark.Lead.{Lead}
use Rattle.wap_tokens.specs.declared.markup.mark.LeafMark.{LeafMark}
use Rattle.wap_tokens.specs.declared.markup.mark.ContentMark.{ContentMark}
use Rattle.wap_tokens.specs.declared.markup.mark.ContentMark.TheVariants as content
use Rattle.wap_tokens.specs.markup.Codes.{content_mark, content_leaf, leaf_behind, leaf_mark}
use Rattle.wap_tokens.specs.markup.Codes.{is_named, has_attributes, has_content}
use Rattle.wap_tokens.specs.markup.Spellings.{When, Ended}
use Rattle.wap_tokens.specs.markup.Grammar.{State, IsLead, literal, kid_of, of_kid, on_tag_page}
use Rattle.wap_tokens.specs.markup.Grammar.{Elements, IsTagBehind, IsKidBehind, IsKid, element_of}
use Rattle.wap_tokens.specs.markup.Grammar.{IsElementOf, IsElement}
use Rattle.wap_wbxml.specs.declared.fault.DocFault.{DocFault}
use Rattle.wap_wbxml.specs.declared.fault.DocFault.TheVariants as doc
use Rattle.wap_wbxml.specs.reading.ByteReading.{Reading, some, told}
use Rattle.wap_wbxml.specs.Places.{Input}
use Rattle.wap_wbxml.specs.reading.Fronts.{lead_at}
use Rattle.wap_wbxml.specs.reading.BodyReading.{no_token, as_short, leaf_at, instruction_at}
use Rattle.wap_wbxml.specs.reading.BodyReading.{attributes_at, tag_at, when, ElementReader}
use Rattle.wap_wbxml.specs.reading.BodyReading.{kid_from}
use Rattle.wap_wbxml.specs.reading.BodyReading.{next_kid, kids_at, element_by, element_at}
use Rattle.wap_wbxml.specs.Refusals.{Refusal, Anything, RefusedThen}
use Rattle.wap_wbxml.specs.Refusal.{RefusedLead, RefusedUnless, RefusedTag, RefusedWhen}
use Rattle.wap_wbxml.specs.Refusal.{ElementRefusal, RefusedKidBehind, RefusedKid}
use Rattle.wap_wbxml.specs.Refusal.{RefusedContent, RefusedElementOf, RefusedElement}
use Rattle.wap_wbxml.proofs.Readings.{Reads, at_end, reads_then, reads_told, reads_given}
use Rattle.wap_wbxml.proofs.Readings.{reads_never}
use Rattle.wap_wbxml.proofs.Runs.{Items, StopsAt, reads_ended}
use Rattle.wap_wbxml.proofs.StringLaws.{reads_name}
use Rattle.wap_wbxml.proofs.LeadLaws.{led_next, led_items, items_as, items_refusing}
use Rattle.wap_wbxml.proofs.AttributeLaws.{reads_leaf, reads_no_token, told_told, reads_attributes}
use Rattle.wap_wbxml.proofs.AttributeLaws.{reads_instruction}

-- ---- tags

reads_tag : (input : Input) (before : State) (byte : ℕ) (b : Bool)
    → Reads Anything (tag_at input before byte b) (IsTagBehind input.strings before byte b)
    (RefusedTag input before b)
unfolding tag_at RefusedTag
reads_tag input before byte true =
    reads_told literal (at_end (reads_name input.strings before) input.total) (λ a rest u. u)
    (λ a rest u. u)
reads_tag input before byte false = reads_given (Code (byte % 64), before)

-- ---- ends of content

content_ends : ContentMark → Bool
content_ends content.End = true
content_ends _ = false

ends_chain : (a b c : Bool) (o : Option LeafMark)
    → content_ends (cond a content.Element
    (cond b content.End (cond c content.Pi (content_leaf o)))) ≡ true → b ≡ true
unfolding content_ends
ends_chain true b c o e = absurd (false≢true e)
ends_chain false true c o e = refl
ends_chain false false true o e = absurd (false≢true e)
ends_chain false false false (Some mark) e = absurd (false≢true e)
ends_chain false false false None e = absurd (false≢true e)

content_end : (lead : Lead) → content_ends (content_mark lead) ≡ true
    → (lead.byte ≡ END) × (lead.switched ≡ false)
unfolding content_mark
content_end lead e =
    let over = ends_chain (leb LITERAL (lead.byte % 64)) (eqb lead.byte END && not lead.switched)
    (eqb lead.byte PI && not lead.switched) (leaf_behind lead.switched (leaf_mark lead.byte)) e in
    let parts = and_parts (eqb lead.byte END) (not lead.switched) over in
    (eqb-true lead.byte END parts.0, not-true lead.switched parts.1)

end_is_end : (page : ℕ)
    → content_ends (content_mark (record { switched = false; page = page; byte = END })) ≡ true
unfolding content_mark content_ends
end_is_end page = refl

-- ---- lists where there are any

reads_when : {A S : Type 0} {read : S → List ℕ → Reading (List A × S)} {Is : S → List ℕ → List A × S
    → Type 0} {Refused : S → Refusal}
    → ((s : S) → Reads Anything (read s) (Is s) (Refused s)) → (b : Bool) (s : S)
    → Reads Anything (when b read s) (When b s Is) (RefusedWhen b (Refused s))
reads_when reads true s = reads s
reads_when reads false s = reads_given ([], s)

-- ---- content in which such elements stand

module _ (input : Input) (inner : ElementReader) (Is : Elements) (Refused : ElementRefusal)
    (reads : (s : State) (lead : Lead)
    → Reads Anything (inner s lead) (Is s lead) (Refused s lead)) where
  read_kid : State → Lead → ContentMark → List ℕ → Reading (Kid × State)
  read_kid s lead content.Element rest = told (of_kid kid.Element) (inner s lead rest)
  read_kid s lead content.Pi rest = told (of_kid kid.Pi) (instruction_at input s rest)
  read_kid s lead (content.Leaf mark) rest =
      told (λ leaf. (kid_of leaf, on_tag_page lead.page s)) (leaf_at input mark rest)
  read_kid s lead content.End rest = no_token input.total rest
  read_kid s lead content.Nothing rest = no_token input.total rest

  reads_kid : (s : State) (lead : Lead) (m : ContentMark) → content_ends m ≡ false
      → Reads Anything (read_kid s lead m) (IsKidBehind input.strings Is s lead m)
      (RefusedKidBehind input Refused s lead m)
  unfolding read_kid content_ends
  reads_kid s lead content.Element e =
      reads_told (of_kid kid.Element) (reads s lead) (λ a rest u. u) (λ a rest u. u)
  reads_kid s lead content.Pi e =
      reads_told (of_kid kid.Pi) (reads_instruction input s) (λ a rest u. u) (λ a rest u. u)
  reads_kid s lead (content.Leaf mark) e =
      reads_told (λ leaf. (kid_of leaf, on_tag_page lead.page s))
      (reads_leaf input mark) (λ a rest u. u)
      (λ a rest u. u)
  reads_kid s lead content.End e = absurd (true≢false e)
  reads_kid s lead content.Nothing e = reads_no_token input.total

  kid_no_end : (s : State) (lead : Lead) (m : ContentMark) (bytes : List ℕ) (x : Kid × State)
      → IsKidBehind input.strings Is s lead m bytes x → content_ends m ≡ false
  unfolding content_ends
  kid_no_end s lead content.End bytes x is = absurd is
  kid_no_end s lead content.Nothing bytes x is = absurd is
  kid_no_end s lead _ bytes x is = refl

  abbrev picked : State → Lead → ContentMark → Bool → List ℕ → Reading (Option Kid × State)
  picked s lead m true rest = Ok ((None, s), rest)
  picked s lead m false rest = told some (read_kid s lead m rest)

  kid_same : (s : State) (lead : Lead) (m : ContentMark) (rest : List ℕ)
      → picked s lead m (content_ends m) rest ≡ kid_from input inner s lead m rest
  unfolding read_kid content_ends
  kid_same s lead content.Element rest = told_told (of_kid kid.Element) some (inner s lead rest)
  kid_same s lead content.Pi rest = told_told (of_kid kid.Pi) some (instruction_at input s rest)
  kid_same s lead (content.Leaf mark) rest =
      told_told (λ leaf. (kid_of leaf, on_tag_page lead.page s)) some (leaf_at input mark rest)
  kid_same s lead content.End rest = refl
  kid_same s lead content.Nothing rest = refl

  abbrev item : State → Lead → List ℕ → Reading (Kid × State)
  item s lead = read_kid s lead (content_mark lead)

  abbrev over : Lead → Bool
  over lead = content_ends (content_mark lead)

  next_same : (s : State) (bytes : List ℕ)
      → led_next input.total (λ (s : State). s.tag_page) over item s bytes
      ≡ next_kid input inner s bytes
  unfolding next_kid
  next_same s bytes = by (lead_at input.total s.tag_page bytes)
    where
      by : (r : Reading Lead)
          → (r >>= λ lead. picked s lead.0 (content_mark lead.0) (over lead.0) lead.1) ≡
          (r >>= λ lead. kid_from input inner s lead.0 (content_mark lead.0) lead.1)
      by (Ok lead) = kid_same s lead.0 (content_mark lead.0) lead.1
      by (Err fault) = refl

  unless_forth : (s : State) (lead : Lead) (m : ContentMark) (rest : List ℕ) (fault : DocFault)
      → RefusedUnless (content_ends m) (RefusedKidBehind input Refused s lead m) rest fault
      → RefusedKidBehind input Refused s lead m rest fault
  unfolding content_ends
  unless_forth s lead content.End rest fault refused = absurd refused
  unless_forth s lead _ rest fault refused = refused

  unless_back : (s : State) (lead : Lead) (m : ContentMark) (rest : List ℕ) (fault : DocFault)
      → RefusedKidBehind input Refused s lead m rest fault
      → RefusedUnless (content_ends m) (RefusedKidBehind input Refused s lead m) rest fault
  unfolding content_ends
  unless_back s lead content.End rest fault refused = absurd refused
  unless_back s lead _ rest fault refused = refused

  abbrev Unless : State → Refusal
  Unless s =
      RefusedThen (IsLead s.tag_page) (RefusedLead input.total)
      (λ lead.
      RefusedUnless (over lead) (RefusedKidBehind input Refused s lead (content_mark lead)))

  refused_forth : (s : State) (bytes : List ℕ) (fault : DocFault) → Unless s bytes fault
      → RefusedKid input Refused s bytes fault
  unfolding RefusedKid
  refused_forth s bytes fault (inl here) = inl here
  refused_forth s bytes fault (inr later) =
      inr (record {
        front = later.front;
        rest = later.rest;
        spelled = later.spelled;
        a = later.a;
        is = later.is;
        ends = tt;
        refused = unless_forth s later.a (content_mark later.a) later.rest fault later.refused;
      })

  refused_back : (s : State) (bytes : List ℕ) (fault : DocFault)
      → RefusedKid input Refused s bytes fault
      → Unless s bytes fault
  unfolding RefusedKid
  refused_back s bytes fault (inl here) = inl here
  refused_back s bytes fault (inr later) =
      inr (record {
        front = later.front;
        rest = later.rest;
        spelled = later.spelled;
        a = later.a;
        is = later.is;
        ends = tt;
        refused = unless_back s later.a (content_mark later.a) later.rest fault later.refused;
      })

  kid_items : Items (next_kid input inner) (as_short input.total)
      (IsKid input.strings Is) Anything (StopsAt END)
      (RefusedKid input Refused)
  kid_items =
      items_refusing refused_forth refused_back
      (items_as next_same
      (led_items input.total (λ s. s.tag_page) over item Anything
      (λ s lead. IsKidBehind input.strings Is s lead (content_mark lead))
      (λ s lead. RefusedKidBehind input Refused s lead (content_mark lead))
      (λ s lead e. reads_kid s lead (content_mark lead) e)
      (λ s lead bytes x is. kid_no_end s lead (content_mark lead) bytes x is) content_end end_is_end
      (λ y s front x rest is. tt) (λ y s bytes rest stop. tt)))

  reads_kids : (s : State)
      → Reads Anything (kids_at input inner s) (Ended END (IsKid input.strings Is) s)
      (RefusedContent input Is Refused s)
  unfolding kids_at
  reads_kids s = reads_ended END kid_items s

  pub reads_element_of : (before : State) (lead : Lead)
      → Reads Anything (element_by input inner before lead)
      (IsElementOf input.strings Is before lead)
      (RefusedElementOf input Is Refused before lead)
  unfolding element_by IsElementOf RefusedElementOf
  reads_element_of before lead =
      reads_then
      (λ tag rest.
      when (has_attributes lead.byte) (attributes_at input) tag.1 rest >>= λ attributes.
      told (element_of lead tag.0 attributes.0.0)
      (when (has_content lead.byte) (kids_at input inner) attributes.0.1 attributes.1))
      (reads_tag input (on_tag_page lead.page before) lead.byte (is_named lead.byte))
      (λ tag. reads_then
      (λ attributes rest. told (element_of lead tag.0 attributes.0)
      (when (has_content lead.byte) (kids_at input inner) attributes.1 rest))
      (reads_when (reads_attributes input) (has_attributes lead.byte) tag.1)
      (λ attributes. reads_told (element_of lead tag.0 attributes.0)
      (reads_when reads_kids (has_content lead.byte) attributes.1) (λ a rest u. u) (λ a rest u. u)))

-- ---- elements by their levels

pub reads_element : (input : Input) (levels : ℕ) (before : State) (lead : Lead)
    → Reads Anything (element_at input levels before lead)
    (IsElement input.strings levels before lead)
    (RefusedElement input levels before lead)
unfolding element_at IsElement RefusedElement
reads_element input zero before lead = reads_never doc.Depth input.total
reads_element input (suc levels) before lead =
    reads_element_of input (element_at input levels) (IsElement input.strings levels)
    (RefusedElement input levels)
    (reads_element input levels) before lead
