-- The body of a document: bytes and the elements that they spell (WAP-192, sections 5.3 and 5.8).
-- This project's own are the limits of levels and of the names in the root, and that there may be
-- no attribute where a tag says that attributes follow.
use Rattle.std.specs.Prelude.{◌≡◌, ◌≢◌, ℕ, zero, suc, ◌+◌, ◌%◌, ◌^◌, ◌<◌, Bool, true}
use Rattle.std.specs.Prelude.{false, if◌then◌else◌, List, [], ◌∷◌, ◌++◌, length}
use Rattle.std.specs.List.{list_any}
use Rattle.wap_base.specs.Numbers.{IsMb}
use Rattle.wap_base.specs.Texts.{is_same_text}
use Rattle.wap_base.specs.Utf8.{utf8_len}
use Rattle.wap_tokens.specs.declared.markup.codes.TheConstants.{SWITCH_PAGE, END}
use Rattle.wap_tokens.specs.declared.markup.document.Attr.{Attr}
use Rattle.wap_tokens.specs.declared.markup.document.Piece.{Piece}
use Rattle.wap_tokens.specs.declared.markup.document.Piece.TheVariants as piece
use Rattle.wap_tokens.specs.declared.markup.document.Token.{Token}
use Rattle.wap_tokens.specs.declared.markup.document.Token.TheVariants.{Code, Literal}
use Rattle.wap_tokens.specs.declared.markup.document.Element.{Element}
use Rattle.wap_tokens.specs.declared.markup.document.Kid.{Kid}
use Rattle.wap_tokens.specs.declared.markup.document.Kid.TheVariants as kid
use Rattle.wap_tokens.specs.declared.markup.mark.Lead.{Lead}
use Rattle.wap_tokens.specs.declared.markup.mark.Role.{Role}
use Rattle.wap_tokens.specs.declared.markup.mark.Role.TheVariants.{Shown, Variable}
use Rattle.wap_tokens.specs.declared.markup.mark.Leaf.{Leaf}
use Rattle.wap_tokens.specs.declared.markup.mark.Leaf.TheVariants as leaf
use Rattle.wap_tokens.specs.declared.markup.mark.LeafMark.{LeafMark}
use Rattle.wap_tokens.specs.declared.markup.mark.LeafMark.TheVariants as mark
use Rattle.wap_tokens.specs.declared.markup.mark.ContentMark.{ContentMark}
use Rattle.wap_tokens.specs.declared.markup.mark.ContentMark.TheVariants as content
use Rattle.wap_tokens.specs.declared.markup.mark.AttributeMark.{AttributeMark}
use Rattle.wap_tokens.specs.declared.markup.mark.AttributeMark.TheVariants as attribute
use Rattle.wap_tokens.specs.markup.Charsets.{is_character}
use Rattle.wap_tokens.specs.markup.Codes.{content_mark, attribute_mark, is_named}
use Rattle.wap_tokens.specs.markup.Codes.{has_attributes, has_content}
use Rattle.wap_tokens.specs.markup.Spellings.{Then, Told, Given, Never, When, ManyOf, Ended}
use Rattle.wap_tokens.specs.markup.Strings.{Strings, IsInline, IsIndexed}

-- ---- what the bytes before settle for those after them

-- the pages of codes that count, and the names that have counted so far
pub record State : Type 0 where
  -- the pages of codes, of tags and of attributes
  pub tag_page : ℕ
  pub attribute_page : ℕ
  -- whether this is inside the root, where names of the string table count, and those that have
  -- counted, each once
  pub in_root : Bool
  pub names : List (List ℕ)

-- the same on this page of tags
abbrev pub on_tag_page : ℕ → State → State
on_tag_page page state = record state { tag_page = page }

-- the same on this page of attributes
abbrev pub on_attribute_page : ℕ → State → State
on_attribute_page page state = record state { attribute_page = page }

-- names, and one more, if it is none of them
abbrev pub with_name : List (List ℕ) → List ℕ → List (List ℕ)
with_name names name = if list_any (is_same_text name) names then names else names ++ (name ∷ [])

-- the same after a name: in the root it counts
abbrev pub counted : List ℕ → State → State
counted name state =
    record state { names = if state.in_root then with_name state.names name else state.names }

-- how many bytes a string table of these names takes: each in UTF-8, and a 0
unfoldable pub table_size : List (List ℕ) → ℕ
table_size [] = 0
table_size (name ∷ names) = utf8_len name + 1 + table_size names

-- ---- what an item begins with: a byte, which a switch of the page may stand before

-- a byte on this page; or a switch, the page to which it switches, and the byte on that page
abbrev pub IsLead : ℕ → List ℕ → Lead → Type 0
IsLead page (byte ∷ []) lead =
    (byte ≢ SWITCH_PAGE) × (lead ≡ record { switched = false; page = page; byte = byte })
IsLead page (switch ∷ next ∷ byte ∷ []) lead =
    (switch ≡ SWITCH_PAGE) × (lead ≡ record { switched = true; page = next; byte = byte })
IsLead page _ lead = ⊥

-- ---- strings, characters, references to variables, extensions and opaque data, after the byte
-- that says which it is

-- a string as what it stands for: a text, or a reference to the variable of that name
abbrev pub leaf_of : Role → List ℕ → Leaf
leaf_of Shown text = leaf.Str text
leaf_of (Variable conv) name = leaf.Var name conv

-- a character by its number (section 5.8.4.3)
abbrev pub IsCharacter : List ℕ → ℕ → Type 0
IsCharacter bytes number = IsMb bytes number × (is_character number ≡ true)

-- their number, and then the bytes
abbrev pub IsOpaque : List ℕ → List ℕ → Type 0
IsOpaque = Then IsMb (λ number bytes opaque. (length bytes ≡ number) × (opaque ≡ bytes))

-- what follows a byte that means the same in content and in attributes
abbrev pub IsLeaf : Strings → LeafMark → List ℕ → Leaf → Type 0
IsLeaf strings (mark.Inline role) = Told (leaf_of role) (IsInline strings)
IsLeaf strings (mark.Indexed role) = Told (leaf_of role) (IsIndexed strings)
IsLeaf strings mark.Entity = Told leaf.Entity IsCharacter
IsLeaf strings mark.Opaque = Told leaf.Opaque IsOpaque
IsLeaf strings (mark.Extension number) = Given (leaf.Ext number)

-- ---- names of the string table, for tags and for starts of attributes; those of the root fit into
-- one table

-- a name that counts, where those of the root still fit into one string table
pub record IsCounted (before : State) (name : List ℕ) (after : State) : Type 0 where
  pub counts : after ≡ counted name before
  pub fits : table_size after.names < 2 ^ 32

-- a name by its index in the string table, which counts
abbrev pub IsName : Strings → State → List ℕ → List ℕ × State → Type 0
IsName strings before bytes name = IsIndexed strings bytes name.0 × IsCounted before name.0 name.1

-- a name as a tag or a start
abbrev pub literal : List ℕ × State → Token × State
literal name = (Literal name.0, name.1)

-- ---- attributes

-- the start of an attribute after its byte: a code is the byte itself, and a name follows it; no
-- other byte starts one
abbrev pub IsStartBehind : Strings → State → Lead → AttributeMark → List ℕ → Token × State → Type 0
IsStartBehind strings before lead attribute.Coded = Given (Code lead.byte, before)
IsStartBehind strings before lead attribute.Named = Told literal (IsName strings before)
IsStartBehind strings before lead _ = Never

-- a leaf as a part of a value
abbrev pub piece_of : Leaf → Piece
piece_of (leaf.Str text) = piece.Str text
piece_of (leaf.Entity number) = piece.Entity number
piece_of (leaf.Var name conv) = piece.Var name conv
piece_of (leaf.Ext number) = piece.Ext number
piece_of (leaf.Opaque bytes) = piece.Opaque bytes

-- a part of a value after its byte: a code is the byte itself; no start and no end is one
abbrev pub IsPieceBehind : Strings → Lead → AttributeMark → List ℕ → Piece → Type 0
IsPieceBehind strings lead attribute.Value = Given (piece.Code lead.page lead.byte)
IsPieceBehind strings lead (attribute.Leaf mark) = Told piece_of (IsLeaf strings mark)
IsPieceBehind strings lead _ = Never

-- a part of a value
abbrev pub IsPiece : Strings → State → List ℕ → Piece × State → Type 0
IsPiece strings before = Then (IsLead before.attribute_page) (λ lead.
    Told (λ piece. (piece, on_attribute_page lead.page before))
    (IsPieceBehind strings lead (attribute_mark lead)))

-- an attribute of this start and these parts, on the page of its first byte
abbrev pub attribute_of : Lead → Token → List Piece × State → Attr × State
attribute_of lead start value =
    (record { page = lead.page; start = start; value = value.0 }, value.1)

-- a start, and the parts of its value
unfoldable pub IsAttribute : Strings → State → List ℕ → Attr × State → Type 0
IsAttribute strings before = Then (IsLead before.attribute_page) (λ lead.
    Then (IsStartBehind strings (on_attribute_page lead.page before) lead (attribute_mark lead))
    (λ start.
    Told (attribute_of lead start.0) (ManyOf (IsPiece strings) start.1)))

-- attributes, and an end
abbrev pub IsAttributes : Strings → State → List ℕ → List Attr × State → Type 0
IsAttributes strings = Ended END (IsAttribute strings)

-- a processing instruction after its byte: one attribute, and an end
abbrev pub IsInstruction : Strings → State → List ℕ → Attr × State → Type 0
IsInstruction strings before bytes x =
    (front : List ℕ) × (bytes ≡ front ++ (END ∷ [])) × IsAttribute strings before front x

-- ---- elements

-- a tag after its byte: a name of the string table, or nothing
abbrev pub IsTagBehind : Strings → State → ℕ → Bool → List ℕ → Token × State → Type 0
IsTagBehind strings before byte true = Told literal (IsName strings before)
IsTagBehind strings before byte false = Given (Code (byte % 64), before)

-- a leaf as a part of content
abbrev pub kid_of : Leaf → Kid
kid_of (leaf.Str text) = kid.Str text
kid_of (leaf.Entity number) = kid.Entity number
kid_of (leaf.Var name conv) = kid.Var name conv
kid_of (leaf.Ext number) = kid.Ext number
kid_of (leaf.Opaque bytes) = kid.Opaque bytes

-- elements after the byte of their tags
abbrev pub Elements : Type 1
Elements = State → Lead → List ℕ → Element × State → Type 0

-- what was read, as a part of content
abbrev pub of_kid : {A : Type 0} → (A → Kid) → A × State → Kid × State
of_kid make x = (make x.0, x.1)

-- a part of content after its byte, by which elements may stand there; no end is one
abbrev pub IsKidBehind : Strings → Elements → State → Lead → ContentMark → List ℕ
    → Kid × State → Type 0
IsKidBehind strings Inner before lead content.Element =
    Told (of_kid kid.Element) (Inner before lead)
IsKidBehind strings Inner before lead content.Pi =
    Told (of_kid kid.Pi) (IsInstruction strings before)
IsKidBehind strings Inner before lead (content.Leaf mark) =
    Told (λ leaf. (kid_of leaf, on_tag_page lead.page before)) (IsLeaf strings mark)
IsKidBehind strings Inner before lead content.End = Never
IsKidBehind strings Inner before lead content.Nothing = Never

-- a part of an element's content, in which such elements may stand
abbrev pub IsKid : Strings → Elements → State → List ℕ → Kid × State → Type 0
IsKid strings Inner before =
    Then (IsLead before.tag_page) (λ lead.
    IsKidBehind strings Inner before lead (content_mark lead))

-- an element of these parts, on the page of its tag's byte
abbrev pub element_of : Lead → Token → List Attr → List Kid × State → Element × State
element_of lead tag attributes kids =
    (record { page = lead.page; tag = tag; attrs = attributes; kids = kids.0 }, kids.1)

-- an element after its tag's byte, with such elements in it: a name if it has one, attributes and
-- content, if it has them
unfoldable pub IsElementOf : Strings → Elements → Elements
IsElementOf strings Inner before lead =
    Then (IsTagBehind strings (on_tag_page lead.page before) lead.byte (is_named lead.byte)) (λ tag.
    Then (When (has_attributes lead.byte) tag.1 (IsAttributes strings)) (λ attributes.
    Told (element_of lead tag.0 attributes.0)
    (When (has_content lead.byte) attributes.1 (Ended END (IsKid strings Inner)))))

-- an element of so many levels at most
unfoldable pub IsElement : Strings → ℕ → Elements
IsElement strings zero before lead = Never
IsElement strings (suc levels) before lead =
    IsElementOf strings (IsElement strings levels) before lead
