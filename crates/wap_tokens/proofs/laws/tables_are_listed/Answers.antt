-- Both tables of a pair are computed, and are the same.
use Rattle.std.proofs.Common.{refl}
use Rattle.wap_tokens.specs.markup.Tables.{tag_rows, name_rows, start_rows, value_rows}
use Rattle.wap_tokens.proofs.laws.tables_are_listed.Goals as goal

pub returns-clause-elements : goal.returns-clause-elements
unfolding tag_rows
returns-clause-elements c = refl

pub returns-clause-attributes : goal.returns-clause-attributes
unfolding name_rows
returns-clause-attributes c = refl

pub returns-clause-starts : goal.returns-clause-starts
unfolding start_rows
returns-clause-starts c = refl

pub returns-clause-values : goal.returns-clause-values
unfolding value_rows
returns-clause-values c = refl
