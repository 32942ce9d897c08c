-- How many bytes literals have, and which of them a source can have.
use Rattle.std.proofs.Common.{◌≡◌, ℕ, ◌<◌, ◌^◌, true, length, pos, negsuc}
use Rattle.std.specs.Prelude.{encode_utf8_all}
use Rattle.std.specs.Str.{all_scalars}
use Rattle.wap_grammar.specs.declared.program.expression.Literal.{Literal}
use Rattle.wap_grammar.specs.declared.program.expression.Literal.TheVariants.{Int, Str}

-- how many bytes the text of a literal has
abbrev pub text_size : Literal → ℕ
text_size (Str t) = length (encode_utf8_all t)
text_size _ = 0

-- a literal of a source: its integer is in range, and its text is one
abbrev pub CanBeSaid : Literal → Type 0
CanBeSaid (Int (pos n)) = n < 2 ^ 31
CanBeSaid (Int (negsuc n)) = ⊥
CanBeSaid (Str t) = all_scalars t ≡ true
CanBeSaid _ = Unit {0}
