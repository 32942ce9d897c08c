-- The tables' rows as a program has them, their texts lent, in columns. This project's own.
use Rattle.std.specs.Prelude.{ℕ, List, map}
use Rattle.std.specs.Borrow.{Bor}
use Rattle.wap_tokens.specs.declared.markup.name.Tag.{Tag}
use Rattle.wap_tokens.specs.declared.markup.name.AttrName.{AttrName}
use Rattle.wap_tokens.specs.markup.Tables.{Start}

-- ---- tags

-- a row of the tags: the code, the tag and the name
abbrev pub LentTag : Type 0
LentTag = ℕ × Tag × Bor (List ℕ)

-- the column of names, each with its tag
abbrev pub tags_by_name : List LentTag → List (List ℕ × Tag)
tags_by_name = map (λ row. (row.2.now, row.1))

-- the column of tags, each with its code
abbrev pub codes_by_tag : List LentTag → List (Tag × ℕ)
codes_by_tag = map (λ row. (row.1, row.0))

-- ---- attributes

-- a row of the attributes: the attribute and its name
abbrev pub LentName : Type 0
LentName = AttrName × Bor (List ℕ)

-- the column of names, each with its attribute
abbrev pub attrs_by_name : List LentName → List (List ℕ × AttrName)
attrs_by_name = map (λ row. (row.1.now, row.0))

-- the column of attributes, each with its name
abbrev pub names_by_attr : List LentName → List (AttrName × List ℕ)
names_by_attr = map (λ row. (row.0, row.1.now))

-- ---- starts of attributes

-- a row of the starts: the code, the attribute, and the text with which its value begins
abbrev pub LentStart : Type 0
LentStart = ℕ × AttrName × Bor (List ℕ)

-- the column of starts
abbrev pub starts : List LentStart → List Start
starts = map (λ row. (row.1, row.2.now))

-- the column of starts, each with its code
abbrev pub codes_by_start : List LentStart → List (Start × ℕ)
codes_by_start = map (λ row. ((row.1, row.2.now), row.0))

-- the column of attributes, each with the code of the row
abbrev pub codes_by_attr : List LentStart → List (AttrName × ℕ)
codes_by_attr = map (λ row. (row.1, row.0))

-- a start that is lent
abbrev pub lent_start : AttrName × Bor (List ℕ) → Start
lent_start start = (start.0, start.1.now)

-- ---- parts of values

-- the column of texts
abbrev pub texts : List (ℕ × Bor (List ℕ)) → List (List ℕ)
texts = map (λ row. row.1.now)
