-- The words of lines as the code keeps them.
use Rattle.std.specs.Prelude.{ℕ, List, decimal}
use Rattle.std.specs.Fmt.{signed_decimal}
use Rattle.std.specs.Str.{chars}
use Rattle.wap_dis.specs.declared.word.Word.{Word}
use Rattle.wap_dis.specs.declared.word.Word.TheVariants.{Name, Number, Signed, Hex, Shown}
use Rattle.wap_dis.specs.Listing.{hex, shown}

abbrev pub word_bytes : Word → List ℕ
word_bytes (Name text) = text.now
word_bytes (Number value) = decimal value
word_bytes (Signed value) = signed_decimal value
word_bytes (Hex bytes) = hex bytes.now
word_bytes (Shown text) = shown (chars text.now)
