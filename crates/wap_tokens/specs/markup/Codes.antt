-- What each byte of a document's body says (WAP-192, section 7.1). That the extensions 0, 1 and 2
-- with a string are references, to be escaped, to be unescaped and plain, is WML's (WAP-191,
-- section 14.3.1).
use Rattle.std.specs.Prelude.{ℕ, ◌%◌, Bool, true, false, not, ◌==◌, ◌&&◌, nat_lt}
use Rattle.std.specs.Prelude.{nat_le, if◌then◌else◌, Option, Some, None}
use Rattle.wap_base.specs.declared.name.Conv.TheVariants.{Escape, Unescape, Plain}
use Rattle.wap_tokens.specs.declared.markup.codes.TheConstants.{END, ENTITY, STR_I, LITERAL}
use Rattle.wap_tokens.specs.declared.markup.codes.TheConstants.{EXT_I_0, EXT_I_1, EXT_I_2, PI}
use Rattle.wap_tokens.specs.declared.markup.codes.TheConstants.{EXT_T_0, EXT_T_1, EXT_T_2, STR_T}
use Rattle.wap_tokens.specs.declared.markup.codes.TheConstants.{EXT_0, EXT_1, EXT_2, OPAQUE}
use Rattle.wap_tokens.specs.declared.markup.mark.Lead.{Lead}
use Rattle.wap_tokens.specs.declared.markup.mark.Role.TheVariants.{Shown, Variable}
use Rattle.wap_tokens.specs.declared.markup.mark.LeafMark.{LeafMark}
use Rattle.wap_tokens.specs.declared.markup.mark.LeafMark.TheVariants.{Inline, Indexed, Entity}
use Rattle.wap_tokens.specs.declared.markup.mark.LeafMark.TheVariants.{Opaque, Extension}
use Rattle.wap_tokens.specs.declared.markup.mark.ContentMark.{ContentMark}
use Rattle.wap_tokens.specs.declared.markup.mark.ContentMark.TheVariants as content
use Rattle.wap_tokens.specs.declared.markup.mark.AttributeMark.{AttributeMark}
use Rattle.wap_tokens.specs.declared.markup.mark.AttributeMark.TheVariants as attribute

-- ---- what means the same in content and in attributes

-- what a byte says that means the same in content and in attributes, if it is such a byte
unfoldable pub leaf_mark : ℕ → Option LeafMark
leaf_mark byte =
    if byte == ENTITY then Some Entity else
    if byte == STR_I then Some (Inline Shown) else
    if byte == EXT_I_0 then Some (Inline (Variable Escape)) else
    if byte == EXT_I_1 then Some (Inline (Variable Unescape)) else
    if byte == EXT_I_2 then Some (Inline (Variable Plain)) else
    if byte == EXT_T_0 then Some (Indexed (Variable Escape)) else
    if byte == EXT_T_1 then Some (Indexed (Variable Unescape)) else
    if byte == EXT_T_2 then Some (Indexed (Variable Plain)) else
    if byte == STR_T then Some (Indexed Shown) else
    if byte == EXT_0 then Some (Extension 0) else
    if byte == EXT_1 then Some (Extension 1) else
    if byte == EXT_2 then Some (Extension 2) else
    if byte == OPAQUE then Some Opaque else None

-- of these only extensions stand after a switch of the page
abbrev pub is_extension : LeafMark → Bool
is_extension (Inline Shown) = false
is_extension (Inline (Variable conv)) = true
is_extension (Indexed Shown) = false
is_extension (Indexed (Variable conv)) = true
is_extension Entity = false
is_extension Opaque = false
is_extension (Extension number) = true

-- the same where a switch of the page may stand before the byte
abbrev pub leaf_behind : Bool → Option LeafMark → Option LeafMark
leaf_behind true (Some mark) = if is_extension mark then Some mark else None
leaf_behind true None = None
leaf_behind false mark = mark

-- ---- in content

-- the same as it stands in content
abbrev pub content_leaf : Option LeafMark → ContentMark
content_leaf (Some mark) = content.Leaf mark
content_leaf None = content.Nothing

-- the low six bits of a tag are its code, or 4 for a name of the string table
unfoldable pub content_mark : Lead → ContentMark
content_mark lead =
    if nat_le LITERAL (lead.byte % 64) then content.Element else
    if lead.byte == END && not lead.switched then content.End else
    if lead.byte == PI && not lead.switched then content.Pi else
    content_leaf (leaf_behind lead.switched (leaf_mark lead.byte))

-- whether the index of a name follows a tag
abbrev pub is_named : ℕ → Bool
is_named tag = tag % 64 == LITERAL

-- bit 7 of a tag says whether attributes follow, bit 6 whether content does
abbrev pub has_attributes : ℕ → Bool
has_attributes tag = nat_le 128 tag

-- whether content follows a tag (bit 6)
abbrev pub has_content : ℕ → Bool
has_content tag = nat_le 64 (tag % 128)

-- ---- in attributes

-- the same as it stands in attributes
abbrev pub attribute_leaf : Option LeafMark → AttributeMark
attribute_leaf (Some mark) = attribute.Leaf mark
attribute_leaf None = attribute.Nothing

-- codes of starts stand below 128, and codes of parts of values from there on
unfoldable pub attribute_mark : Lead → AttributeMark
attribute_mark lead =
    if nat_lt LITERAL (lead.byte % 64)
    then (if nat_lt lead.byte 128 then attribute.Coded else attribute.Value) else
    if lead.byte == LITERAL then attribute.Named else
    if lead.byte == END && not lead.switched then attribute.End else
    attribute_leaf (leaf_behind lead.switched (leaf_mark lead.byte))

-- the end of attributes
abbrev pub is_end : AttributeMark → Bool
is_end attribute.End = true
is_end _ = false

-- a part of a value
abbrev pub begins_piece : AttributeMark → Bool
begins_piece attribute.Value = true
begins_piece (attribute.Leaf mark) = true
begins_piece _ = false
