use Rattle.std.proofs.Common.{sym, ap, ◌∙◌, length, ◌+◌, ◌++◌, Ok}
use Rattle.wap_value.specs.declared.value.Value.TheVariants.{Str}
use Rattle.wap_value.proofs.Kept.{joined_len, long_is_refused, short_is_kept}
use Rattle.wap_value.proofs.concatenation.concatenation.Goals as goal

pub returns-then-bytes-limit : goal.returns-then-bytes-limit
returns-then-bytes-limit c = λ _.
    long_is_refused c.args.string (length c.as_str.result.now + length c.as_str-2.result.now)
    (c.args.left.now ++ c.args.right.now)
    (joined_len c.args.left.now c.args.right.now c.as_str.result.now c.as_str-2.result.now
    c.as_str.ensures.bytes c.as_str-2.ensures.bytes)
    c.if-bytes-limit.true

pub returns : goal.returns
returns c =
    short_is_kept c.args.string (length c.as_str.result.now + length c.as_str-2.result.now)
    (c.args.left.now ++ c.args.right.now)
    (joined_len c.args.left.now c.args.right.now c.as_str.result.now c.as_str-2.result.now
    c.as_str.ensures.bytes c.as_str-2.ensures.bytes)
    c.if-bytes-limit.false
    ∙ ap (λ text. Ok (Str text)) (sym c.in_ok-concatenate.ensures)
