-- The tables' rows as a program has them, their lists lent. This project's own.
use Rattle.std.specs.Prelude.{ℕ, Bool, true, nat_lt, List, map}
use Rattle.std.specs.List.{list_all}
use Rattle.std.specs.Borrow.{Bor}
use Rattle.wap_tokens.specs.declared.markup.name.Tag.{Tag}
use Rattle.wap_tokens.specs.declared.markup.name.AttrName.{AttrName}
use Rattle.wap_tokens.specs.markup.Good.{Rule}
use Rattle.wap_deckcheck.specs.declared.forms.LentForm.{LentForm}
use Rattle.wap_deckcheck.specs.declared.forms.LentForm.TheVariants as lent
use Rattle.wap_deckcheck.specs.Forms.{words_of}

abbrev pub groups_of : List (Bor (List Tag)) → List (List Tag)
groups_of = map (λ group. group.now)

abbrev pub LentRule : Type 0
LentRule =
    Tag × Bor (List (Bor (List Tag))) × Bool × Bool × Bor (List (Bor (List Tag))) × Bor (List Tag)
    × Bor (List AttrName)

abbrev pub rule_row : LentRule → Tag × Rule
rule_row row = (
  row.0,
  record {
    groups = groups_of row.1.now;
    in_order = row.2;
    text = row.3;
    once = groups_of row.4.now;
    needs = row.5.now;
    attributes = row.6.now;
  },
)

-- words are of US-ASCII, so their bytes are their characters
abbrev pub is_plain_word : List ℕ → Bool
is_plain_word word = list_all (λ c. nat_lt c 128) word

abbrev pub has_plain_words : LentForm → Bool
has_plain_words (lent.Words some) = list_all is_plain_word (words_of some.now)
has_plain_words _ = true
