-- What is still to come of a string's text. This project's own.
use Rattle.std.specs.Prelude.{ℕ, List}
use Rattle.wap_grammar.specs.Unescaping.{unescaped, escaped, numbered}
use Rattle.wap_parse.specs.declared.expressions.strings.Place.{Place}
use Rattle.wap_parse.specs.declared.expressions.strings.Place.TheVariants.{Plain, Backslash, Number}

-- what characters stand for where reading stands
abbrev pub left_of : Place → List ℕ → List ℕ
left_of Plain rest = unescaped rest
left_of Backslash rest = escaped rest
left_of (Number base left value) rest = numbered base left value rest
