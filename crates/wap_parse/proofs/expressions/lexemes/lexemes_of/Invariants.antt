use Rattle.std.proofs.Common.{◌≡◌, take}
use Rattle.wap_grammar.specs.Lexemes.{lexemes_of}
use Rattle.wap_parse.proofs.expressions.lexemes.lexemes_of.Given as goal

-- the tokens passed have their lexemes
abbrev pub invariant-loop-token : goal.invariant-loop-token
invariant-loop-token l = l.lexemes ≡ lexemes_of l.src (take l.token-index l.tokens)
