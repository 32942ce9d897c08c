-- Strings and words, worked.
use Rattle.std.proofs.Common.{◌≡◌, [], ◌∷◌, true, Some, codes, refl}
use Rattle.wap_value.specs.declared.operator.BinOp.TheVariants as op
use Rattle.wap_grammar.specs.declared.word.Word.TheVariants as word
use Rattle.wap_grammar.specs.declared.word.Sign.TheVariants as signs
use Rattle.wap_grammar.specs.Lexemes.{word_rows, word_spelled}
use Rattle.wap_grammar.specs.Unescaping.{unescaped}

plain : unescaped (codes "a b") ≡ codes "a b"
plain = refl

named : unescaped (codes "\\n\\t\\\\\\/\\'\\b\\f\\r") ≡ 10 ∷ 9 ∷ 92 ∷ 47 ∷ 39 ∷ 8 ∷ 12 ∷ 13 ∷ []
named = refl

numbers : unescaped (codes "\\x41\\u00e9\\101\\0") ≡ 65 ∷ 233 ∷ 65 ∷ 0 ∷ []
numbers = refl

-- 400 is 40 and a 0
octal : unescaped (codes "\\400\\3778\\0a") ≡ 32 ∷ 48 ∷ 255 ∷ 56 ∷ 0 ∷ 97 ∷ []
octal = refl

and : word_spelled (codes "&&") ≡ word.Operator op.And
unfolding word_spelled word_rows
and = refl

div : word_spelled (codes "div=") ≡ word.Assign (Some op.IDiv)
unfolding word_spelled word_rows
div = refl

up : word_spelled (codes "++") ≡ word.Step true
unfolding word_spelled word_rows
up = refl

else_ : word_spelled (codes "else") ≡ word.Sign signs.Else
unfolding word_spelled word_rows
else_ = refl

unused : word_spelled (codes "with") ≡ word.Unused
unfolding word_spelled word_rows
unused = refl
