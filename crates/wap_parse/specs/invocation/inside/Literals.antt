-- Words that may be literals. This project's own.
use Rattle.std.specs.Prelude.{Bool, true, false}
use Rattle.wap_grammar.specs.declared.word.Word.{Word}
use Rattle.wap_grammar.specs.declared.word.Word.TheVariants as word

-- whether a word may be a literal
abbrev pub is_literal : Word → Bool
is_literal word.Int = true
is_literal word.Float = true
is_literal word.Str = true
is_literal word.True = true
is_literal word.False = true
is_literal word.Invalid = true
is_literal _ = false
