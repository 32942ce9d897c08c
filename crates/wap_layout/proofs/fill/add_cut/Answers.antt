use Rattle.std.proofs.Common.{arith}
use Rattle.std.specs.Str.{chars}
use Rattle.wap_layout.proofs.Plain.{ascii_even, parts-end_ok}
use Rattle.wap_layout.proofs.fill.add_cut.Goals as goal

pub add_parts-requires-clause-ascii : goal.add_parts-requires-clause-ascii
add_parts-requires-clause-ascii c =
    ascii_even c.args.word.now c.utf8.word (omega (arith, c.requires.columns))

pub returns-then-columns-word : goal.returns-then-columns-word
returns-then-columns-word c =
    parts-end_ok c.begin_line.result c.args.width c.add_parts.new.lines c.args.lines.now
    (chars c.in_ok-rest.rest.now) (chars c.args.word.now) c.in_ok-rest.ensures.short
    c.begin_line.ensures c.in_ok-rest.ensures.parts
