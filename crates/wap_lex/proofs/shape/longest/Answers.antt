use Rattle.std.proofs.Common.{◌∙◌, arith}
use Rattle.wap_lex.proofs.FirstShapes.{longest-first, longest-none}
use Rattle.wap_lex.proofs.shape.longest.Goals as goal

pub returns-in-empty-clause-longest : goal.returns-in-empty-clause-longest
returns-in-empty-clause-longest c = longest-none c.args.bytes.now c.in-empty.len_below

pub returns-in-len1-up-clause-longest : goal.returns-in-len1-up-clause-longest
returns-in-len1-up-clause-longest c =
    c.longest_at.ensures.longest
    ∙ longest-first c.args.bytes.now c.first_of.result c.first_of.ensures (omega arith)
