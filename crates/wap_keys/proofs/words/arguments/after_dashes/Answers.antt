use Rattle.std.proofs.Common.{rules}
use Rattle.std.proofs.lemmas.Str.{IsCharBoundary-after_ascii}
use Rattle.wap_keys.proofs.words.arguments.after_dashes.Goals as goal

-- two bytes below 128 are characters
pub split_at-requires : goal.split_at-requires
split_at-requires c =
    IsCharBoundary-after_ascii c.args.word.now 1 c.utf8.word (search rules) (search rules)
