-- The rows of the rules as a program has them, their lists lent. This project's own.
use Rattle.std.specs.Prelude.{Bool, List, map, Option}
use Rattle.std.specs.Borrow.{Bor}
use Rattle.wap_tokens.specs.declared.markup.name.Tag.{Tag}
use Rattle.wap_tokens.specs.declared.markup.name.AttrName.{AttrName}
use Rattle.wap_tokens.specs.markup.Good.{Rule, rule_or_none}

abbrev pub LentRule : Type 0
LentRule =
    Tag × Bor (List (Bor (List Tag))) × Bool × Bool × Bor (List (Bor (List Tag))) × Bor (List Tag)
    × Bor (List AttrName)

abbrev pub rule_row : LentRule → Tag × Rule
rule_row row = (
  row.0,
  record {
    groups = map (λ group. group.now) row.1.now;
    in_order = row.2;
    text = row.3;
    once = map (λ group. group.now) row.4.now;
    needs = row.5.now;
    attributes = row.6.now;
  },
)

abbrev pub rule_rows : List LentRule → List (Tag × Rule)
rule_rows rows = map rule_row rows

abbrev pub has_text : Option Rule → Bool
has_text rule = (rule_or_none rule).text
