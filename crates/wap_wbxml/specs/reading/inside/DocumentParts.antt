-- Documents that are read as they are. This project's own.
use Rattle.std.specs.Prelude.{ℕ, List, [], ◌∷◌, ◌++◌, Some}
use Rattle.wap_tokens.specs.declared.markup.document.Attr.{Attr}
use Rattle.wap_tokens.specs.declared.markup.document.Document.{Document}
use Rattle.wap_tokens.specs.declared.markup.document.Element.{Element}
use Rattle.wap_tokens.specs.declared.markup.document.Kid.{Kid}
use Rattle.wap_tokens.specs.declared.markup.document.Kid.TheVariants as kid
use Rattle.wap_tokens.specs.declared.markup.document.Token.{Token}
use Rattle.wap_tokens.specs.markup.Grammar.{kid_of}
use Rattle.wap_wbxml.specs.reading.Making.{Makes}

-- each part is kept as it is
abbrev pub document_parts : Makes (ℕ × Token) Attr (List Attr) (List Kid) Element Document
document_parts = record {
  tag = λ page token. Some (page, token);
  root_tag = λ page token. (page, token);
  attribute = λ page start. record { page = page; start = start; value = [] };
  piece_added = λ attr piece.
      record { page = attr.page; start = attr.start; value = attr.value ++ piece ∷ [] };
  no_attributes = [];
  attribute_added = λ attributes attr. attributes ++ attr ∷ [];
  no_content = [];
  leaf_added = λ kids leaf. kids ++ kid_of leaf ∷ [];
  instruction_added = λ kids attr. kids ++ kid.Pi attr ∷ [];
  node = λ tag attributes kids.
      record { page = tag.0; tag = tag.1; attrs = attributes; kids = kids };
  node_added = λ kids element. kids ++ kid.Element element ∷ [];
  too_deep = λ kids element. kids ++ kid.Element element ∷ [];
  whole = λ version public charset root.
      record { version = version; public = public; charset = charset; root = root };
}
