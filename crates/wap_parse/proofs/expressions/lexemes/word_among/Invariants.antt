use Rattle.std.proofs.Common.{◌≡◌, drop, map}
use Rattle.std.specs.Map.{lookup}
use Rattle.wap_base.specs.Texts.{is_same_text}
use Rattle.wap_parse.proofs.expressions.lexemes.word_among.Given as goal

-- no row passed has the spelling
abbrev pub invariant-loop-spelling : goal.invariant-loop-spelling
invariant-loop-spelling l =
    lookup (is_same_text l.text) (map (λ row. (row.0.now, row.1)) (drop l.spelling-index l.rows))
    ≡ lookup (is_same_text l.text) (map (λ row. (row.0.now, row.1)) l.rows)
