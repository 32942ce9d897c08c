use Rattle.std.proofs.Common.{length, sym, ap, rules}
use Rattle.std.proofs.lemmas.Str.{chars_from_encodes, chars-IsAscii}
use Rattle.wap_layout.proofs.words.columns_of.Goals as goal

pub returns-then-is_plain : goal.returns-then-is_plain
returns-then-is_plain c =
    sym (ap length (chars-IsAscii c.args.text.now c.if-is_plain.ensures))

pub returns : goal.returns
returns c = search (rules, chars_from_encodes)
