-- What the tables of names and codes promise: names and codes tell each other (WAP-191, section
-- 14.3).
use Rattle.std.specs.Prelude.{◌≡◌, ◌≢◌, ℕ, List, Some}
use Rattle.wap_tokens.specs.declared.markup.name.Tag.{Tag}
use Rattle.wap_tokens.specs.declared.markup.name.Tag.TheVariants as tags
use Rattle.wap_tokens.specs.declared.markup.name.AttrName.{AttrName}
use Rattle.wap_tokens.specs.markup.Tables.{Start, tag_of, tag_named, code_of, name_of_tag}
use Rattle.wap_tokens.specs.markup.Tables.{attr_named, name_of_attr, attr_start, code_of_start}
use Rattle.wap_tokens.specs.markup.Tables.{start_code, attr_value}

-- tags have codes and names, each of them its own
pub record TagsAgree : Type 0 where
  -- each tag but that of an unknown root has a code and a name of its own
  pub coded : (tag : Tag) → tag ≢ tags.Other → tag_of 0 (code_of tag) ≡ Some tag
  pub named : (tag : Tag) → tag ≢ tags.Other → tag_named (name_of_tag tag) ≡ Some tag
  -- and no other
  pub code : (page code : ℕ) (tag : Tag) → tag_of page code ≡ Some tag →
      (page ≡ 0) × (code_of tag ≡ code)
  pub name : (name : List ℕ) (tag : Tag) → tag_named name ≡ Some tag → name_of_tag tag ≡ name

-- attributes have names and starts, each of them its own
pub record AttributesAgree : Type 0 where
  -- each attribute has a name of its own, and no other
  pub named : (attr : AttrName) → attr_named (name_of_attr attr) ≡ Some attr
  pub name : (name : List ℕ) (attr : AttrName) → attr_named name ≡ Some attr →
      name_of_attr attr ≡ name
  -- codes and starts of attributes tell each other
  pub start : (page code : ℕ) (start : Start) → attr_start page code ≡ Some start →
      (page ≡ 0) × (code_of_start start ≡ Some code)
  pub code : (start : Start) (code : ℕ) → code_of_start start ≡ Some code →
      attr_start 0 code ≡ Some start
  -- each attribute has a code
  pub started : (attr : AttrName) →
      (text : List ℕ) × (attr_start 0 (start_code attr) ≡ Some (attr, text))

-- parts of values have codes, each text its own
pub record ValuesAgree : Type 0 where
  -- no two codes are of one text
  pub apart : (page code other_page other : ℕ) (text : List ℕ) → attr_value page code ≡ Some text →
      attr_value other_page other ≡ Some text →
      (page ≡ other_page) × (code ≡ other)
