-- WML's names and codes as the standard lists them (WAP-191, section 14.3), once more beside the
-- tables of the program: no row of these can change unseen.
use Rattle.std.specs.Prelude.{codes, List, [], ◌∷◌}
use Rattle.wap_tokens.specs.declared.markup.name.Tag.TheVariants as tag
use Rattle.wap_tokens.specs.declared.markup.name.AttrName.TheVariants as attr
use Rattle.wap_tokens.specs.markup.Tables.{TagRow, NameRow, StartRow, ValueRow}

-- the elements: the code, the tag, and the name
abbrev pub elements : List TagRow
elements =
    (0x1B, tag.Pre, codes "pre") ∷
    (0x1C, tag.A, codes "a") ∷
    (0x1D, tag.Td, codes "td") ∷
    (0x1E, tag.Tr, codes "tr") ∷
    (0x1F, tag.Table, codes "table") ∷
    (0x20, tag.P, codes "p") ∷
    (0x21, tag.Postfield, codes "postfield") ∷
    (0x22, tag.Anchor, codes "anchor") ∷
    (0x23, tag.Access, codes "access") ∷
    (0x24, tag.B, codes "b") ∷
    (0x25, tag.Big, codes "big") ∷
    (0x26, tag.Br, codes "br") ∷
    (0x27, tag.Card, codes "card") ∷
    (0x28, tag.Do, codes "do") ∷
    (0x29, tag.Em, codes "em") ∷
    (0x2A, tag.Fieldset, codes "fieldset") ∷
    (0x2B, tag.Go, codes "go") ∷
    (0x2C, tag.Head, codes "head") ∷
    (0x2D, tag.I, codes "i") ∷
    (0x2E, tag.Img, codes "img") ∷
    (0x2F, tag.Input, codes "input") ∷
    (0x30, tag.Meta, codes "meta") ∷
    (0x31, tag.Noop, codes "noop") ∷
    (0x32, tag.Prev, codes "prev") ∷
    (0x33, tag.Onevent, codes "onevent") ∷
    (0x34, tag.Optgroup, codes "optgroup") ∷
    (0x35, tag.Option, codes "option") ∷
    (0x36, tag.Refresh, codes "refresh") ∷
    (0x37, tag.Select, codes "select") ∷
    (0x38, tag.Small, codes "small") ∷
    (0x39, tag.Strong, codes "strong") ∷
    (0x3B, tag.Template, codes "template") ∷
    (0x3C, tag.Timer, codes "timer") ∷
    (0x3D, tag.U, codes "u") ∷
    (0x3E, tag.Setvar, codes "setvar") ∷
    (0x3F, tag.Wml, codes "wml") ∷
    []

-- the attributes and their names
abbrev pub attributes : List NameRow
attributes =
    (attr.AcceptCharset, codes "accept-charset") ∷
    (attr.Align, codes "align") ∷
    (attr.Alt, codes "alt") ∷
    (attr.Content, codes "content") ∷
    (attr.Domain, codes "domain") ∷
    (attr.Emptyok, codes "emptyok") ∷
    (attr.Format, codes "format") ∷
    (attr.Height, codes "height") ∷
    (attr.Hspace, codes "hspace") ∷
    (attr.Ivalue, codes "ivalue") ∷
    (attr.Iname, codes "iname") ∷
    (attr.Label, codes "label") ∷
    (attr.Localsrc, codes "localsrc") ∷
    (attr.Maxlength, codes "maxlength") ∷
    (attr.Method, codes "method") ∷
    (attr.Mode, codes "mode") ∷
    (attr.Multiple, codes "multiple") ∷
    (attr.Name, codes "name") ∷
    (attr.Newcontext, codes "newcontext") ∷
    (attr.Onpick, codes "onpick") ∷
    (attr.Onenterbackward, codes "onenterbackward") ∷
    (attr.Onenterforward, codes "onenterforward") ∷
    (attr.Ontimer, codes "ontimer") ∷
    (attr.Optional, codes "optional") ∷
    (attr.Path, codes "path") ∷
    (attr.Scheme, codes "scheme") ∷
    (attr.Sendreferer, codes "sendreferer") ∷
    (attr.Size, codes "size") ∷
    (attr.Src, codes "src") ∷
    (attr.Ordered, codes "ordered") ∷
    (attr.Tabindex, codes "tabindex") ∷
    (attr.Title, codes "title") ∷
    (attr.Type, codes "type") ∷
    (attr.Href, codes "href") ∷
    (attr.Value, codes "value") ∷
    (attr.Vspace, codes "vspace") ∷
    (attr.Width, codes "width") ∷
    (attr.XmlLang, codes "xml:lang") ∷
    (attr.Columns, codes "columns") ∷
    (attr.Class, codes "class") ∷
    (attr.Id, codes "id") ∷
    (attr.Forua, codes "forua") ∷
    (attr.HttpEquiv, codes "http-equiv") ∷
    (attr.Accesskey, codes "accesskey") ∷
    (attr.Enctype, codes "enctype") ∷
    (attr.XmlSpace, codes "xml:space") ∷
    (attr.CacheControl, codes "cache-control") ∷
    []

-- the starts of attributes: the code, the attribute, and the text with which its value begins
abbrev pub starts : List StartRow
starts =
    (0x05, attr.AcceptCharset, []) ∷
    (0x06, attr.Align, codes "bottom") ∷
    (0x07, attr.Align, codes "center") ∷
    (0x08, attr.Align, codes "left") ∷
    (0x09, attr.Align, codes "middle") ∷
    (0x0A, attr.Align, codes "right") ∷
    (0x0B, attr.Align, codes "top") ∷
    (0x0C, attr.Alt, []) ∷
    (0x0D, attr.Content, []) ∷
    (0x0F, attr.Domain, []) ∷
    (0x10, attr.Emptyok, codes "false") ∷
    (0x11, attr.Emptyok, codes "true") ∷
    (0x12, attr.Format, []) ∷
    (0x13, attr.Height, []) ∷
    (0x14, attr.Hspace, []) ∷
    (0x15, attr.Ivalue, []) ∷
    (0x16, attr.Iname, []) ∷
    (0x18, attr.Label, []) ∷
    (0x19, attr.Localsrc, []) ∷
    (0x1A, attr.Maxlength, []) ∷
    (0x1B, attr.Method, codes "get") ∷
    (0x1C, attr.Method, codes "post") ∷
    (0x1D, attr.Mode, codes "nowrap") ∷
    (0x1E, attr.Mode, codes "wrap") ∷
    (0x1F, attr.Multiple, codes "false") ∷
    (0x20, attr.Multiple, codes "true") ∷
    (0x21, attr.Name, []) ∷
    (0x22, attr.Newcontext, codes "false") ∷
    (0x23, attr.Newcontext, codes "true") ∷
    (0x24, attr.Onpick, []) ∷
    (0x25, attr.Onenterbackward, []) ∷
    (0x26, attr.Onenterforward, []) ∷
    (0x27, attr.Ontimer, []) ∷
    (0x28, attr.Optional, codes "false") ∷
    (0x29, attr.Optional, codes "true") ∷
    (0x2A, attr.Path, []) ∷
    (0x2E, attr.Scheme, []) ∷
    (0x2F, attr.Sendreferer, codes "false") ∷
    (0x30, attr.Sendreferer, codes "true") ∷
    (0x31, attr.Size, []) ∷
    (0x32, attr.Src, []) ∷
    (0x33, attr.Ordered, codes "true") ∷
    (0x34, attr.Ordered, codes "false") ∷
    (0x35, attr.Tabindex, []) ∷
    (0x36, attr.Title, []) ∷
    (0x37, attr.Type, []) ∷
    (0x38, attr.Type, codes "accept") ∷
    (0x39, attr.Type, codes "delete") ∷
    (0x3A, attr.Type, codes "help") ∷
    (0x3B, attr.Type, codes "password") ∷
    (0x3C, attr.Type, codes "onpick") ∷
    (0x3D, attr.Type, codes "onenterbackward") ∷
    (0x3E, attr.Type, codes "onenterforward") ∷
    (0x3F, attr.Type, codes "ontimer") ∷
    (0x45, attr.Type, codes "options") ∷
    (0x46, attr.Type, codes "prev") ∷
    (0x47, attr.Type, codes "reset") ∷
    (0x48, attr.Type, codes "text") ∷
    (0x49, attr.Type, codes "vnd.") ∷
    (0x4A, attr.Href, []) ∷
    (0x4B, attr.Href, codes "http://") ∷
    (0x4C, attr.Href, codes "https://") ∷
    (0x4D, attr.Value, []) ∷
    (0x4E, attr.Vspace, []) ∷
    (0x4F, attr.Width, []) ∷
    (0x50, attr.XmlLang, []) ∷
    (0x52, attr.Align, []) ∷
    (0x53, attr.Columns, []) ∷
    (0x54, attr.Class, []) ∷
    (0x55, attr.Id, []) ∷
    (0x56, attr.Forua, codes "false") ∷
    (0x57, attr.Forua, codes "true") ∷
    (0x58, attr.Src, codes "http://") ∷
    (0x59, attr.Src, codes "https://") ∷
    (0x5A, attr.HttpEquiv, []) ∷
    (0x5B, attr.HttpEquiv, codes "Content-Type") ∷
    (0x5C, attr.Content, codes "application/vnd.wap.wmlc;charset=") ∷
    (0x5D, attr.HttpEquiv, codes "Expires") ∷
    (0x5E, attr.Accesskey, []) ∷
    (0x5F, attr.Enctype, []) ∷
    (0x60, attr.Enctype, codes "application/x-www-form-urlencoded") ∷
    (0x61, attr.Enctype, codes "multipart/form-data") ∷
    (0x62, attr.XmlSpace, codes "preserve") ∷
    (0x63, attr.XmlSpace, codes "default") ∷
    (0x64, attr.CacheControl, codes "no-cache") ∷
    []

-- the parts of values: the code and the text
abbrev pub values : List ValueRow
values =
    (0x85, codes ".com/") ∷
    (0x86, codes ".edu/") ∷
    (0x87, codes ".net/") ∷
    (0x88, codes ".org/") ∷
    (0x89, codes "accept") ∷
    (0x8A, codes "bottom") ∷
    (0x8B, codes "clear") ∷
    (0x8C, codes "delete") ∷
    (0x8D, codes "help") ∷
    (0x8E, codes "http://") ∷
    (0x8F, codes "http://www.") ∷
    (0x90, codes "https://") ∷
    (0x91, codes "https://www.") ∷
    (0x93, codes "middle") ∷
    (0x94, codes "nowrap") ∷
    (0x95, codes "onpick") ∷
    (0x96, codes "onenterbackward") ∷
    (0x97, codes "onenterforward") ∷
    (0x98, codes "ontimer") ∷
    (0x99, codes "options") ∷
    (0x9A, codes "password") ∷
    (0x9B, codes "reset") ∷
    (0x9D, codes "text") ∷
    (0x9E, codes "top") ∷
    (0x9F, codes "unknown") ∷
    (0xA0, codes "wrap") ∷
    (0xA1, codes "www.") ∷
    []
