use Rattle.std.proofs.Common.{◌≡◌, drop, map}
use Rattle.std.specs.List.{list_any}
use Rattle.wap_base.specs.Texts.{is_same_text}
use Rattle.wap_lex.proofs.words.is_among.Given as goal

-- no word passed is the one
abbrev pub invariant-loop-other : goal.invariant-loop-other
invariant-loop-other l =
    list_any (is_same_text l.word) (map (λ other. other.now) (drop l.other-index l.words))
    ≡ list_any (is_same_text l.word) (map (λ other. other.now) l.words)
