use Rattle.std.proofs.Common.{◌∙◌, arith}
use Rattle.wap_lex.proofs.FirstTexts.{mark_len-first, mark_len-none}
use Rattle.wap_lex.proofs.marks.mark_len.Goals as goal

pub returns-in-empty-clause-mark : goal.returns-in-empty-clause-mark
returns-in-empty-clause-mark c = mark_len-none c.args.bytes.now c.in-empty.len_below

pub returns-in-len1-up-clause-mark : goal.returns-in-len1-up-clause-mark
returns-in-len1-up-clause-mark c =
    let bytes = c.args.bytes.now in
    c.mark_len_from.ensures.mark ∙ mark_len-first bytes (omega arith) (c.type_inv.bytes 0).fits
