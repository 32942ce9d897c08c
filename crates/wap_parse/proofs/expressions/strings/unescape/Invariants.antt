use Rattle.std.proofs.Common.{◌≡◌, ℕ, List, ◌++◌}
use Rattle.wap_grammar.specs.Unescaping.{unescaped}
use Rattle.wap_parse.specs.expressions.inside.Escapes.{left_of}
use Rattle.wap_parse.proofs.expressions.strings.unescape.Given as goal

-- whatever follows, the text so far and what is still to come are the whole text
abbrev pub invariant-loop-character : goal.invariant-loop-character
invariant-loop-character l =
    (rest : List ℕ) → l.text ++ left_of l.place rest ≡ unescaped (l.yielded ++ rest)
