-- Documents are read as they are spelled.
use Rattle.std.proofs.Common.{◌≡◌, ℕ, ◌<◌, Bool, true, false, eqb, List, [], ◌∷◌}
use Rattle.std.proofs.Common.{◌++◌, length, Option, Some, None, Ok, Err, refl, sym, ap}
use Rattle.std.proofs.Common.{subst, ◌∙◌, append_assoc, inl, inr, arith}
use Rattle.std.specs.Option.{option_map}
use Rattle.std.proofs.lemmas.Bool.{eqb-true, eqb-false, ne_eqb}
use Rattle.std.proofs.lemmas.List.{append-nil}
use Rattle.wap_base.specs.Numbers.{IsMb}
use Rattle.wap_base.specs.Outcome.{◌>>=◌}
use Rattle.wap_base.specs.formats.ByteReading.{given, unless}
use Rattle.wap_base.proofs.Choices.{bind_ok, bind_err, ok_same, err_same, some_same}
use Rattle.wap_base.proofs.formats.Readers as formats
use Rattle.wap_base.proofs.formats.Readers.{pair_same}
use Rattle.wap_base.proofs.formats.Steps
use Rattle.wap_tokens.specs.declared.markup.codes.TheConstants.{PI, SWITCH_PAGE}
use Rattle.wap_tokens.specs.declared.markup.document.Attr.{Attr}
use Rattle.wap_tokens.specs.declared.markup.document.TheConstants.{LEVEL_LIMIT}
use Rattle.wap_tokens.specs.declared.markup.document.Document.{Document}
use Rattle.wap_tokens.specs.declared.markup.document.Element.{Element}
use Rattle.wap_base.specs.declared.charset.Charset.{Charset}
use Rattle.wap_tokens.specs.declared.markup.mark.DocumentType.{DocumentType}
use Rattle.wap_tokens.specs.declared.markup.mark.Identifier.{Identifier}
use Rattle.wap_tokens.specs.declared.markup.mark.Identifier.TheVariants.{Numbered, Named}
use Rattle.wap_tokens.specs.declared.markup.mark.Lead.{Lead}
use Rattle.wap_tokens.specs.declared.markup.mark.ContentMark.{ContentMark}
use Rattle.wap_tokens.specs.declared.markup.mark.ContentMark.TheVariants as content
use Rattle.wap_base.specs.Charsets.{charset_of}
use Rattle.wap_tokens.specs.markup.Codes.{content_mark}
use Rattle.wap_tokens.specs.markup.Spellings.{Then, Told, Given, ManyOf}
use Rattle.wap_tokens.specs.markup.Strings.{string_from}
use Rattle.wap_tokens.specs.markup.Grammar.{State, IsLead, IsInstruction}
use Rattle.wap_tokens.specs.markup.Documents.{is_version, IsVersion, is_numbered, is_by_name}
use Rattle.wap_tokens.specs.markup.Documents.{public_named}
use Rattle.wap_tokens.specs.markup.Documents.{IsIdentifierBehind, IsIdentifier, IsPublic, IsCharset}
use Rattle.wap_tokens.specs.markup.Documents.{IsOuter, IsRootBehind, IsRoot, first_state, into_root}
use Rattle.wap_tokens.specs.markup.Documents.{out_of_root, IsBody, IsDocumentOf}
use Rattle.wap_wbxml.specs.declared.fault.DocFault.{DocFault}
use Rattle.wap_wbxml.specs.declared.fault.DocFault.TheVariants as doc
use Rattle.wap_wbxml.specs.reading.ByteReading.{Reading, some, told}
use Rattle.wap_wbxml.specs.Places.{Input, place, charset_from, input_of}
use Rattle.wap_wbxml.specs.reading.Fronts.{opaque_at}
use Rattle.wap_wbxml.specs.reading.BodyReading.{as_none, instruction_at}
use Rattle.wap_wbxml.specs.reading.Whole.{version_at, identifier_from, identifier_at, charset_at}
use Rattle.wap_wbxml.specs.reading.Whole.{or_not_public, public_of, outer_from}
use Rattle.wap_wbxml.specs.reading.Whole.{next_outer, outers_at, root_from, root_at, body_at}
use Rattle.wap_wbxml.specs.reading.Whole.{document_of, whole_at, all_of_it, typed_at}
use Rattle.wap_wbxml.specs.Refusals.{Anything, RefusedThen}
use Rattle.wap_wbxml.specs.Refusal.{RefusedVersion, RefusedIdentifierBehind, RefusedIdentifier}
use Rattle.wap_wbxml.specs.Refusal.{RefusedCharset, RefusedPublic, RefusedOuter, InstructionsEnd}
use Rattle.wap_wbxml.specs.Refusal.{OutersEnd, RefusedOuters, RefusedRootBehind, RefusedRoot}
use Rattle.wap_wbxml.specs.Refusal.{RefusedBody, RefusedWhole, IsRefusedAs}
use Rattle.wap_wbxml.proofs.Readings.{Reads, at_end, no_fault, no_value, reads_behind, reads_then}
use Rattle.wap_wbxml.proofs.Readings.{reads_told, reads_given, reads_as}
use Rattle.wap_wbxml.proofs.Runs.{Items, StopsOpen, reads_open}
use Rattle.wap_wbxml.proofs.FrontLaws.{reads_lead, reads_number, reads_opaque}
use Rattle.wap_wbxml.proofs.LeadLaws.{some_pair, none_some, some_none, none_same}
use Rattle.wap_wbxml.proofs.AttributeLaws.{reads_no_token, reads_instruction, bind_assoc}
use Rattle.wap_wbxml.proofs.ElementLaws.{reads_element}

-- ---- the header

-- the version
reads_version : formats.Reads version_at IsVersion RefusedVersion
unfolding version_at
reads_version =
    formats.reads_passing is_version (λ at. doc.Version) (Steps.reads_byte doc.Short)

-- a number that no name follows has to be that of a document type
reads_numbered : (kind : DocumentType) (number : ℕ)
    → formats.Reads (unless (is_numbered kind number) doc.PublicId
    (given (Numbered number)))
    (λ bytes identifier. Given (Numbered number) bytes identifier
    × (is_numbered kind number ≡ true))
    (λ end left found. (is_numbered kind number ≡ false) × (found ≡ doc.PublicId))
reads_numbered kind number =
    formats.reads_so
    (formats.reads_unless (formats.reads_given (Numbered number)) (is_numbered kind number)
    doc.PublicId)
    (λ bytes x is. (is.1, is.0)) (λ bytes x is. (is.1, is.0))
    (λ end left found is. elim is [ inl other ↦ other | inr none ↦ absurd none.1 ])
    (λ end left found is. inl is)

reads_identifier_behind : (kind : DocumentType) (total number : ℕ) (b : Bool)
    → Reads Anything (identifier_from kind total number b) (IsIdentifierBehind kind number b)
    (RefusedIdentifierBehind kind total number b)
reads_identifier_behind kind total number true =
    reads_told Named (at_end reads_number total) (λ a rest u. u) (λ a rest u. u)
reads_identifier_behind kind total number false = at_end (reads_numbered kind number) total

reads_identifier : (kind : DocumentType) (total : ℕ)
    → Reads Anything (identifier_at kind total) (IsIdentifier kind) (RefusedIdentifier kind total)
unfolding identifier_at RefusedIdentifier
reads_identifier kind total =
    reads_then (λ number. identifier_from kind total number (is_by_name kind number))
    (at_end reads_number total)
    (λ number. reads_identifier_behind kind total number (is_by_name kind number))

-- a character set and its number
numbered_charset : (number : ℕ) (o : Option Charset) (x : ℕ × Charset)
    → option_map (λ charset. (number, charset)) o ≡ Some x → (number ≡ x.0) × (o ≡ Some x.1)
numbered_charset number (Some charset) x e =
    let same = some_same (number, charset) x e in
    (ap (λ (y : ℕ × Charset). y.0) same, ap (λ (y : ℕ × Charset). Some y.1) same)
numbered_charset number None x e = absurd cc

-- a character set
reads_charset : formats.Reads charset_at IsCharset RefusedCharset
unfolding charset_at
reads_charset =
    formats.reads_as (formats.reads_made_if charset_from (λ at. doc.Charset) reads_number)
    (λ bytes x is.
    let known = numbered_charset is.0 (charset_of is.0) x is.2 in (
      subst (IsMb bytes) known.0 is.1,
      ap charset_of (sym known.0) ∙ known.1,
    ))
    (λ bytes x is. (x.0, is.0, ap (option_map (λ charset. (x.0, charset))) is.1))

-- what a name of a public identifier stands for
reads_named : (o : Option ℕ)
    → formats.Reads (λ end bytes. or_not_public o >>= λ public. Ok (public, bytes))
    (λ bytes public. (bytes ≡ []) × (o ≡ Some public))
    (λ end left found. (o ≡ None) × (found ≡ doc.PublicId))
reads_named (Some number) =
    formats.reads_so (formats.reads_given number) (λ bytes x is. (is.0, ap Some (sym is.1)))
    (λ bytes x is. (is.0, sym (cc is.1))) (λ end left found is. absurd is)
    (λ end left found is. absurd (cc is.0))
reads_named None =
    formats.reads_so (formats.reads_failing doc.PublicId) (λ bytes x is. absurd is)
    (λ bytes x is. absurd (cc is.1)) (λ end left found is. (refl, is))
    (λ end left found is. is.1)

reads_public : (table : List ℕ) (identifier : Identifier)
    → Reads Anything (λ bytes. public_of table identifier >>= λ public. Ok (public, bytes))
    (IsPublic table identifier)
    (RefusedPublic table identifier)
unfolding public_of
reads_public table (Numbered number) = reads_given number
reads_public table (Named index) = at_end (reads_named (public_named (string_from table index))) 0

-- ---- the body

module _ (input : Input) where
  abbrev outer_by : State → List ℕ → Bool → List ℕ → Reading (Option Attr × State)
  outer_by = outer_from input

  outer_takes : (s : State) (byte : ℕ) (bytes : List ℕ) (b : Bool) → eqb byte PI ≡ b
      → (x : Attr) (t : State) (rest : List ℕ)
      → outer_by s (byte ∷ bytes) b bytes ≡ Ok ((Some x, t), rest)
      → (front : List ℕ) × (byte ∷ bytes ≡ front ++ rest) × IsOuter input.strings s front (x, t)
      × Anything {A = Attr × State} (x, t) rest
  outer_takes s byte bytes true b x t rest e =
      let a =
      bind_ok (instruction_at input s bytes) (λ y. Ok (some y.0, y.1)) ((Some x, t), rest) e in
      let same = pair_same (some a.0.0) (Some x, t) a.0.1 rest a.2 in
      let c = (reads_instruction input s).takes bytes a.0.0 a.0.1 a.1 in
      let value : a.0.0 ≡ (x, t) = some_pair a.0.0.0 x a.0.0.1 t same.0 in (
        byte ∷ c.0,
        ap (λ (l : List ℕ). byte ∷ l) (c.1 ∙ ap (λ (l : List ℕ). c.0 ++ l) same.1),
        (
          c.0,
          ap (λ (n : ℕ). n ∷ c.0) (eqb-true byte PI b),
          subst (IsInstruction input.strings s c.0) value c.2,
        ),
        tt,
      )
  outer_takes s byte bytes false b x t rest e =
      absurd (none_some x s t (pair_same (None, s) (Some x, t) (byte ∷ bytes) rest e).0)

  next_takes : (s : State) (bytes : List ℕ) (x : Attr) (t : State) (rest : List ℕ)
      → next_outer input s bytes ≡ Ok ((Some x, t), rest)
      → (front : List ℕ) × (bytes ≡ front ++ rest) × IsOuter input.strings s front (x, t)
      × Anything {A = Attr × State}
      (x, t) rest
  unfolding next_outer
  next_takes s [] x t rest e =
      absurd (none_some x s t (pair_same (None, s) (Some x, t) [] rest e).0)
  next_takes s (byte ∷ bytes) x t rest e = outer_takes s byte bytes (eqb byte PI) refl x t rest e

  next_again : (s : State) (front : List ℕ) (x : Attr) (t : State) (rest : List ℕ)
      → IsOuter input.strings s front (x, t) → Anything {A = Attr × State} (x, t) rest
      → next_outer input s (front ++ rest) ≡ Ok ((Some x, t), rest)
  unfolding next_outer
  next_again s front x t rest is ends =
      ap (λ (l : List ℕ). next_outer input s (l ++ rest)) is.1
      ∙ ap (λ (r : Reading (Attr × State)). told some r)
      ((reads_instruction input s).again is.0 (x, t) rest is.2 tt)

  outer_ends : (s : State) (byte : ℕ) (bytes : List ℕ) (b : Bool) → eqb byte PI ≡ b
      → (t : State) (rest : List ℕ)
      → outer_by s (byte ∷ bytes) b bytes ≡ Ok ((None, t), rest)
      → (s ≡ t) × StopsOpen (λ (u : State). InstructionsEnd) s (byte ∷ bytes) rest
  outer_ends s byte bytes true b t rest e =
      let a =
      bind_ok (instruction_at input s bytes) (λ y. Ok (some y.0, y.1)) ((None, t), rest) e in
      absurd (some_none a.0.0.0 a.0.0.1 t (pair_same (some a.0.0) (None, t) a.0.1 rest a.2).0)
  outer_ends s byte bytes false b t rest e =
      let same = pair_same (None, s) (None, t) (byte ∷ bytes) rest e in
      (none_same s t same.0, (same.1, subst InstructionsEnd same.1 (eqb-false byte PI b)))

  next_ends : (s : State) (bytes : List ℕ) (t : State) (rest : List ℕ)
      → next_outer input s bytes ≡ Ok ((None, t), rest)
      → (s ≡ t) × StopsOpen (λ (u : State). InstructionsEnd) s bytes rest
  unfolding next_outer
  next_ends s [] t rest e =
      let same = pair_same (None, s) (None, t) [] rest e in
      (none_same s t same.0, (same.1, subst InstructionsEnd same.1 tt))
  next_ends s (byte ∷ bytes) t rest e = outer_ends s byte bytes (eqb byte PI) refl t rest e

  halts_here : (s : State) (bytes : List ℕ) → InstructionsEnd bytes
      → next_outer input s bytes ≡ Ok ((None, s), bytes)
  unfolding next_outer
  halts_here s [] ends = refl
  halts_here s (byte ∷ bytes) ends =
      ap (λ (b : Bool). outer_by s (byte ∷ bytes) b bytes) (ne_eqb byte PI ends)

  next_halts : (s : State) (bytes rest : List ℕ)
      → StopsOpen (λ (u : State). InstructionsEnd) s bytes rest
      → next_outer input s bytes ≡ Ok ((None, s), rest)
  next_halts s bytes rest stop =
      halts_here s bytes (subst InstructionsEnd (sym stop.0) stop.1)
      ∙ ap (λ (l : List ℕ). Ok ((None, s), l)) stop.0

  outer_stops : (s : State) (byte : ℕ) (bytes : List ℕ) (b : Bool) → eqb byte PI ≡ b
      → (fault : DocFault)
      → outer_by s (byte ∷ bytes) b bytes ≡ Err fault → RefusedOuter input s (byte ∷ bytes) fault
  outer_stops s byte bytes true b fault e =
      elim (bind_err (instruction_at input s bytes) (λ y. Ok (some y.0, y.1)) fault e) [
        | inl failed ↦ (eqb-true byte PI b, (reads_instruction input s).stops bytes fault failed)
        | inr read ↦ absurd (no_fault read.2)
      ]
  outer_stops s byte bytes false b fault e = absurd (no_fault e)

  next_stops : (s : State) (bytes : List ℕ) (fault : DocFault)
      → next_outer input s bytes ≡ Err fault
      → RefusedOuter input s bytes fault
  unfolding next_outer
  next_stops s [] fault e = absurd (no_fault e)
  next_stops s (byte ∷ bytes) fault e = outer_stops s byte bytes (eqb byte PI) refl fault e

  next_fails : (s : State) (bytes : List ℕ) (fault : DocFault) → RefusedOuter input s bytes fault
      → next_outer input s bytes ≡ Err fault
  unfolding next_outer
  next_fails s [] fault refused = absurd refused
  next_fails s (byte ∷ bytes) fault refused =
      ap (λ (n : ℕ). next_outer input s (n ∷ bytes)) refused.0
      ∙ ap (λ (r : Reading (Attr × State)). told some r)
      ((reads_instruction input s).fails bytes fault refused.1)

  next_some : (s : State) (front : List ℕ) (x : Attr × State) → IsOuter input.strings s front x
      → 0 < length front
  next_some s front x is = let len = ap length is.1 in omega arith

  outer_items : Items (next_outer input) as_none (IsOuter input.strings) Anything
      (StopsOpen (λ (u : State). InstructionsEnd)) (RefusedOuter input)
  unfolding next_outer
  outer_items = record {
    takes =
        next_takes;
    again = next_again;
    ends = next_ends;
    halts = next_halts;
    stops = next_stops;
    fails = next_fails;
    some = next_some;
    at_nothing = λ s. refl;
    ends_before = λ y s front x rest is. tt;
    ends_at_stop = λ y s bytes rest stop. tt;
  }

  reads_outers : (s : State)
      → Reads OutersEnd (outers_at input s) (ManyOf (IsOuter input.strings) s)
      (RefusedOuters input s)
  unfolding outers_at RefusedOuters
  reads_outers s = reads_open (λ (u : State). InstructionsEnd) outer_items s

  reads_root_behind : (before : State) (lead : Lead) (m : ContentMark)
      → Reads Anything (root_from input before lead m) (IsRootBehind input.strings before lead m)
      (RefusedRootBehind input before lead m)
  reads_root_behind before lead content.Element = reads_element input LEVEL_LIMIT before lead
  reads_root_behind before lead _ = reads_no_token input.total

  reads_root : (before : State)
      → Reads Anything (root_at input before) (IsRoot input.strings before)
      (RefusedRoot input before)
  unfolding root_at IsRoot RefusedRoot
  reads_root before =
      reads_then (λ lead. root_from input before lead (content_mark lead))
      (reads_lead input.total before.tag_page)
      (λ lead. reads_root_behind before lead (content_mark lead))

  -- no processing instruction begins where the root does
  no_root : (before : State) (m : ContentMark) (lead : Lead) (bytes : List ℕ) (x : Element × State)
      → m ≡ content.Pi
      → IsRootBehind input.strings before lead m bytes x → ⊥
  no_root before content.Element lead bytes x same is = absurd cc
  no_root before _ lead bytes x same is = is

  pi_mark : (page : ℕ)
      → content_mark (record { switched = false; page = page; byte = PI }) ≡ content.Pi
  unfolding content_mark
  pi_mark page = refl

  lead_no_pi : (before : State) (front : List ℕ) (lead : Lead) (rest behind : List ℕ)
      (x : Element × State)
      → IsLead before.tag_page front lead
      → IsRootBehind input.strings before lead (content_mark lead) behind x
      → InstructionsEnd (front ++ rest)
  lead_no_pi before [] lead rest behind x is root = absurd is
  lead_no_pi before (byte ∷ []) lead rest behind x is root = λ same.
      let plain : lead ≡ record { switched = false; page = before.tag_page; byte = PI } =
      is.1 ∙ ap (λ (n : ℕ).
      let l : Lead = record { switched = false; page = before.tag_page; byte = n } in l) same in
      no_root before (content_mark lead) lead behind x
      (ap content_mark plain ∙ pi_mark before.tag_page) root
  lead_no_pi before (byte ∷ page ∷ []) lead rest behind x is root = absurd is
  lead_no_pi before (byte ∷ page ∷ next ∷ []) lead rest behind x is root =
      λ same. other (sym is.0 ∙ same)
    where
      other : SWITCH_PAGE ≡ PI → ⊥
      other e = omega arith
  lead_no_pi before (byte ∷ page ∷ next ∷ more ∷ front) lead rest behind x is root = absurd is

  root_no_pi : (before : State) (front : List ℕ) (x : Element × State) (rest : List ℕ)
      → IsRoot input.strings before front x → InstructionsEnd (front ++ rest)
  unfolding IsRoot
  root_no_pi before front x rest is =
      subst InstructionsEnd
      (sym (ap (λ (l : List ℕ). l ++ rest) is.spelled ∙ append_assoc is.front is.rest rest))
      (lead_no_pi before is.front is.a (is.rest ++ rest) is.rest x is.first is.next)

  abbrev BodyEnds : Element → List ℕ → Type 0
  BodyEnds root rest = InstructionsEnd rest

  reads_body : Reads BodyEnds (body_at input) (IsBody input.strings) (RefusedBody input)
  unfolding body_at IsBody RefusedBody
  reads_body =
      reads_behind
      (λ before rest. root_at input (into_root before.1) rest >>= λ root. told (λ after. root.0.0)
      (outers_at input (out_of_root root.0.1) root.1))
      (reads_outers first_state)
      (λ before.
      reads_then (λ root rest. told (λ after. root.0) (outers_at input (out_of_root root.1) rest))
      (reads_root (into_root before.1))
      (λ root.
      reads_told (λ after. root.0) (reads_outers (out_of_root root.1)) (λ after rest ends. ends)
      (λ after rest ends. ends)))
      (λ before front root rest is ends.
      subst InstructionsEnd
      (sym (ap (λ (l : List ℕ). l ++ rest) is.spelled ∙ append_assoc is.front is.rest rest))
      (root_no_pi (into_root before.1) is.front is.a (is.rest ++ rest) is.first))

-- ---- the whole

abbrev WholeEnds : Document → List ℕ → Type 0
WholeEnds document rest = InstructionsEnd rest

module _ (kind : DocumentType) (total : ℕ) where
  abbrev body_of : ℕ → ℕ × Charset → List ℕ → ℕ → List ℕ → Reading Document
  body_of version charset table public rest =
      told (document_of version public charset) (body_at (input_of total charset table) rest)

  abbrev public_then : ℕ → Identifier → ℕ × Charset → List ℕ → List ℕ → Reading Document
  public_then version identifier charset table rest =
      public_of table identifier >>= λ public. body_of version charset table public rest

  abbrev IsBehindTable : ℕ → Identifier → ℕ × Charset → List ℕ → List ℕ → Document → Type 0
  IsBehindTable version identifier charset table =
      Then (IsPublic table identifier) (λ public.
      Told (λ root. record { version = version; public = public; charset = charset.0; root = root })
      (IsBody (record { charset = charset.1; table = table })))

  reads_behind_table : (version : ℕ) (identifier : Identifier) (charset : ℕ × Charset)
      (table : List ℕ)
      → Reads WholeEnds (public_then version identifier charset table)
      (IsBehindTable version identifier charset table)
      (RefusedThen (IsPublic table identifier) (RefusedPublic table identifier)
      (λ public. RefusedBody (input_of total charset table)))
  reads_behind_table version identifier charset table =
      reads_as
      (reads_then (body_of version charset table) (reads_public table identifier)
      (λ public.
      reads_told (document_of version public charset) (reads_body (input_of total charset table))
      (λ root rest ends. ends) (λ root rest ends. ends)))
      (public_then version identifier charset table)
      (λ bytes. bind_assoc (public_of table identifier) (λ public. Ok (public, bytes))
      (λ public. body_of version charset table public.0 public.1))

  pub reads_whole
      : Reads WholeEnds (whole_at kind total) (IsDocumentOf kind) (RefusedWhole kind total)
  unfolding whole_at IsDocumentOf RefusedWhole
  reads_whole =
      reads_then
      (λ version rest. identifier_at kind total rest >>= λ identifier. charset_at total identifier.1
      >>= λ charset. opaque_at total charset.1
      >>= λ table. public_then version identifier.0 charset.0 table.0 table.1)
      (at_end reads_version total)
      (λ version. reads_then
      (λ identifier rest. charset_at total rest >>= λ charset. opaque_at total charset.1
      >>= λ table. public_then version identifier charset.0 table.0 table.1)
      (reads_identifier kind total)
      (λ identifier. reads_then
      (λ charset rest.
      opaque_at total rest >>= λ table. public_then version identifier charset table.0 table.1)
      (at_end reads_charset total)
      (λ charset. reads_then (public_then version identifier charset) (reads_opaque total)
      (reads_behind_table version identifier charset))))

-- ---- documents

all_takes : (total : ℕ) (document : Document) (rest : List ℕ) (d : Document)
    → all_of_it total (document, rest) ≡ Ok d
    → (rest ≡ []) × (document ≡ d)
all_takes total document [] d e = (refl, ok_same document d e)
all_takes total document (byte ∷ rest) d e = absurd (no_value e)

all_stops : (total : ℕ) (document : Document) (rest : List ℕ) (fault : DocFault)
    → all_of_it total (document, rest) ≡ Err fault
    → (0 < length rest) × (fault ≡ doc.Rest (place total rest))
all_stops total document [] fault e = absurd (no_fault e)
all_stops total document (byte ∷ rest) fault e =
    (omega arith, sym (err_same (doc.Rest (place total (byte ∷ rest))) fault e))

all_fails : (total : ℕ) (document : Document) (rest : List ℕ) (fault : DocFault)
    → (0 < length rest) × (fault ≡ doc.Rest (place total rest))
    → all_of_it total (document, rest) ≡ Err fault
all_fails total document [] fault refused = let none = refused.0 in absurd (omega arith)
all_fails total document (byte ∷ rest) fault refused = ap Err (sym refused.1)

pub document_takes : (kind : DocumentType) (bytes : List ℕ) (document : Document)
    → typed_at kind bytes ≡ Ok document
    → IsDocumentOf kind bytes document
unfolding typed_at
document_takes kind bytes document e =
    let total = length bytes in
    let a = bind_ok (whole_at kind total bytes) (all_of_it total) document e in
    let b = (reads_whole kind total).takes bytes a.0.0 a.0.1 a.1 in
    let c = all_takes total a.0.0 a.0.1 document a.2 in
    subst (λ (l : List ℕ). IsDocumentOf kind l document)
    (sym (b.1 ∙ ap (λ (l : List ℕ). b.0 ++ l) c.0 ∙ append-nil b.0))
    (subst (IsDocumentOf kind b.0) c.1 b.2)

pub document_again : (kind : DocumentType) (bytes : List ℕ) (document : Document)
    → IsDocumentOf kind bytes document → typed_at kind bytes ≡ Ok document
unfolding typed_at
document_again kind bytes document is =
    let total = length bytes in
    ap (λ (r : Reading Document). r >>= all_of_it total)
    (ap (whole_at kind total) (sym (append-nil bytes))
    ∙ (reads_whole kind total).again bytes document [] is tt)

pub document_stops : (kind : DocumentType) (bytes : List ℕ) (fault : DocFault)
    → typed_at kind bytes ≡ Err fault → IsRefusedAs kind bytes fault
unfolding typed_at IsRefusedAs
document_stops kind bytes fault e =
    let total = length bytes in
    elim (bind_err (whole_at kind total bytes) (all_of_it total) fault e) [
      | inl failed ↦ inl ((reads_whole kind total).stops bytes fault failed)
      | inr read ↦
          let b = (reads_whole kind total).takes bytes read.0.0 read.0.1 read.1 in
          inr (record {
            front = b.0;
            rest = read.0.1;
            spelled = b.1;
            a = read.0.0;
            is = b.2;
            ends = b.3;
            refused = all_stops total read.0.0 read.0.1 fault read.2;
          })
    ]

pub document_fails : (kind : DocumentType) (bytes : List ℕ) (fault : DocFault)
    → IsRefusedAs kind bytes fault → typed_at kind bytes ≡ Err fault
unfolding typed_at IsRefusedAs
document_fails kind bytes fault refused =
    let total = length bytes in
    elim refused [
      | inl here ↦
          ap (λ (r : Reading Document). r >>= all_of_it total)
          ((reads_whole kind total).fails bytes fault here)
      | inr later ↦
          ap (λ (l : List ℕ). whole_at kind total l >>= all_of_it total) later.spelled
          ∙ ap (λ (r : Reading Document). r >>= all_of_it total)
          ((reads_whole kind total).again later.front later.a later.rest later.is later.ends)
          ∙ all_fails total later.a later.rest fault later.refused
    ]

-- no bytes have two documents
pub one_document : (kind : DocumentType) (bytes : List ℕ) (a b : Document)
    → IsDocumentOf kind bytes a
    → IsDocumentOf kind bytes b → a ≡ b
one_document kind bytes a b first second =
    ok_same a b (sym (document_again kind bytes a first) ∙ document_again kind bytes b second)
