-- Documents that are read as they are stay what they are.
use Rattle.std.proofs.Common.{◌≡◌, ℕ, zero, suc, ◌-◌, List, [], ◌∷◌, ◌++◌}
use Rattle.std.proofs.Common.{refl, sym, ap, ap₂, ◌∙◌, append_assoc}
use Rattle.std.proofs.lemmas.List.{append-nil}
use Rattle.wap_tokens.specs.declared.markup.document.Attr.{Attr}
use Rattle.wap_tokens.specs.declared.markup.document.Document.{Document}
use Rattle.wap_tokens.specs.declared.markup.document.Element.{Element}
use Rattle.wap_tokens.specs.declared.markup.document.Kid.{Kid, out-Kid}
use Rattle.wap_tokens.specs.declared.markup.document.Kid.TheOpen.{Kid-F}
use Rattle.wap_tokens.specs.declared.markup.document.Kid.TheVariants as kid
use Rattle.wap_tokens.specs.declared.markup.document.Kid.TheViews.{roll-Kid, roll-out-Kid}
use Rattle.wap_tokens.specs.declared.markup.document.Piece.{Piece}
use Rattle.wap_tokens.specs.declared.markup.document.TheConstants.{LEVEL_LIMIT}
use Rattle.wap_tokens.specs.markup.Decks.{KidLevel}
use Rattle.wap_wbxml.specs.reading.Gathering.{gathered}
use Rattle.wap_wbxml.specs.reading.inside.DocumentParts.{document_parts}
use Rattle.wap_wbxml.specs.reading.Making.{pieces_added, attribute_made, attribute_added}
use Rattle.wap_wbxml.specs.reading.Making.{attributes_made, kid_added, kids_added, element_added}
use Rattle.wap_wbxml.specs.reading.Making.{level_added, node_by, whole_made}

-- items that are kept one by one
kept : {A : Type 0} (add : List A → A → List A)
    → ((known : List A) (item : A) → add known item ≡ known ++ item ∷ [])
    → (known items : List A) → gathered add known items ≡ known ++ items
kept add keeps known [] = sym (append-nil known)
kept {A = A} add keeps known (item ∷ items) =
    kept add keeps (add known item) items
    ∙ ap (λ (known : List A). known ++ items) (keeps known item)
    ∙ append_assoc known (item ∷ []) items

-- an attribute with more parts of its value
pieces_kept : (attr : Attr) (pieces : List Piece)
    → pieces_added document_parts attr pieces
    ≡ record { page = attr.page; start = attr.start; value = attr.value ++ pieces }
pieces_kept attr [] =
    ap (λ (value : List Piece). record { page = attr.page; start = attr.start; value = value })
    (sym (append-nil attr.value))
pieces_kept attr (piece ∷ pieces) =
    pieces_kept (document_parts.piece_added attr piece) pieces
    ∙ ap (λ (value : List Piece). record { page = attr.page; start = attr.start; value = value })
    (append_assoc attr.value (piece ∷ []) pieces)

-- an attribute
attribute_kept : (attr : Attr) → attribute_made document_parts attr ≡ attr
attribute_kept attr =
    pieces_kept (record { page = attr.page; start = attr.start; value = [] }) attr.value

-- the attributes of an element
attributes_kept : (attrs : List Attr) → attributes_made document_parts attrs ≡ attrs
attributes_kept attrs =
    kept (attribute_added document_parts)
    (λ known attr. ap (λ (attr : Attr). known ++ attr ∷ []) (attribute_kept attr)) [] attrs

-- an element of so many levels is kept
abbrev Keeps : ℕ → Type 0
Keeps levels =
    (known : List Kid) (element : Element)
    → element_added document_parts levels known element ≡ known ++ kid.Element element ∷ []

-- parts of content, and one more
abbrev added : List Kid → Kid → List Kid
added known one = known ++ one ∷ []

-- a part of content, opened
level_kept : (levels : ℕ) → Keeps levels → (known : List Kid) (level : KidLevel)
    → level_added document_parts (element_added document_parts levels) known level
    ≡ known ++ roll-Kid level ∷ []
level_kept levels keeps known (Kid-F.Element element) =
    keeps known element ∙ ap (added known) (sym (kid.rolls-Element element))
level_kept levels keeps known (Kid-F.Str text) =
    ap (added known) (sym (kid.rolls-Str text))
level_kept levels keeps known (Kid-F.Entity number) =
    ap (added known) (sym (kid.rolls-Entity number))
level_kept levels keeps known (Kid-F.Var name conv) =
    ap (added known) (sym (kid.rolls-Var name conv))
level_kept levels keeps known (Kid-F.Ext number) =
    ap (added known) (sym (kid.rolls-Ext number))
level_kept levels keeps known (Kid-F.Opaque bytes) =
    ap (added known) (sym (kid.rolls-Opaque bytes))
level_kept levels keeps known (Kid-F.Pi attr) =
    ap (λ (attr : Attr). known ++ kid.Pi attr ∷ []) (attribute_kept attr)
    ∙ ap (added known) (sym (kid.rolls-Pi attr))

-- content
kids_kept : (levels : ℕ) → Keeps levels → (kids : List Kid)
    → kids_added document_parts levels [] kids ≡ kids
kids_kept levels keeps kids =
    kept (kid_added document_parts levels)
    (λ known one. level_kept levels keeps known (out-Kid one)
    ∙ ap (λ (one : Kid). known ++ one ∷ []) (roll-out-Kid one)) [] kids

-- an element
element_kept : (levels : ℕ) → Keeps levels → (element : Element)
    → node_by document_parts (element_added document_parts levels) (element.page, element.tag)
    element.attrs element.kids
    ≡ element
element_kept levels keeps element =
    ap₂ (λ (attrs : List Attr) (kids : List Kid).
    record { page = element.page; tag = element.tag; attrs = attrs; kids = kids })
    (attributes_kept element.attrs) (kids_kept levels keeps element.kids)

-- elements of so many levels
keeps : (levels : ℕ) → Keeps levels
keeps zero known element = refl
keeps (suc levels) known element =
    ap (λ (element : Element). known ++ kid.Element element ∷ [])
    (element_kept levels (keeps levels) element)

-- a document
pub document_kept : (document : Document) → whole_made document_parts document ≡ document
document_kept document =
    ap (document_parts.whole document.version document.public document.charset)
    (element_kept (LEVEL_LIMIT - 1) (keeps (LEVEL_LIMIT - 1)) document.root)
