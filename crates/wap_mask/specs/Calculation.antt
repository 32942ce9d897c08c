-- Masks by calculation: which symbols a mask's text has, and whether they take a text. This
-- project's own.
use Rattle.std.specs.Prelude.{ℕ, ◌-◌, zero, suc, List, [], ◌∷◌, length, Bool, false}
use Rattle.std.specs.Prelude.{◌&&◌, not, ◌==◌, Option, Some, None, option_map}
use Rattle.std.specs.Prelude.{unwrap_or, if◌then◌else◌}
use Rattle.std.specs.Int.{is_in_range}
use Rattle.wap_base.specs.Ascii.{asterisk, digit_zero, digit_one, digit_nine, backslash}
use Rattle.wap_base.specs.Options.{◌>>=◌}
use Rattle.wap_base.specs.Texts.{is_empty, first_of}
use Rattle.wap_mask.specs.declared.class.Class.{Class}
use Rattle.wap_mask.specs.declared.symbol.Symbol.{Symbol}
use Rattle.wap_mask.specs.declared.symbol.Symbol.TheVariants.{One, Exactly, UpTo, AnyNumber}
use Rattle.wap_mask.specs.Characters.{is_in, class_of}
use Rattle.wap_mask.specs.Grammar.{any_text, repeats}

-- what follows the characters of a class that a text begins with
abbrev pub after_all : Class → List ℕ → List ℕ
after_all class [] = []
after_all class (c ∷ text) = if is_in class c then after_all class text else c ∷ text

-- the same of so many characters at most
abbrev pub after_up_to : Class → ℕ → List ℕ → List ℕ
after_up_to class zero text = text
after_up_to class (suc most) [] = []
after_up_to class (suc most) (c ∷ text) =
    if is_in class c then after_up_to class most text else c ∷ text

-- what follows the longest prefix that a symbol takes of a text
abbrev pub after : Symbol → List ℕ → Option (List ℕ)
after (One class) text =
    first_of text >>= λ first. if is_in class first.0 then Some first.1 else None
after (Exactly c) text = first_of text >>= λ first. if first.0 == c then Some first.1 else None
after (UpTo most class) text = Some (after_up_to class most text)
after (AnyNumber class) text = Some (after_all class text)

-- the symbols take the text
abbrev pub is_taken : List Symbol → List ℕ → Bool
is_taken [] text = is_empty text
is_taken (symbol ∷ mask) text = unwrap_or (option_map (is_taken mask) (after symbol text)) false

-- the class of the letter that a text begins with, and what follows it
abbrev pub class_at : List ℕ → Option (Class × List ℕ)
class_at text = first_of text >>= λ letter. class_of letter.0 >>= λ class. Some (class, letter.1)

-- the symbol that a mask's text begins with, and what follows it
abbrev pub symbol_at : List ℕ → Option (Symbol × List ℕ)
symbol_at text = first_of text >>= λ first.
    if first.0 == backslash then (first_of first.1 >>= λ kept. Some (Exactly kept.0, kept.1))
    else (if first.0 == asterisk
    then (class_at first.1 >>= λ read. Some (AnyNumber read.0, read.1))
    else (if is_in_range digit_one digit_nine first.0
    then (class_at first.1 >>= λ read. Some (UpTo (first.0 - digit_zero) read.0, read.1))
    else (class_at text >>= λ read. Some (One read.0, read.1))))

-- the symbol repeats though more of the text follows it
abbrev pub is_misplaced : Symbol → List ℕ → Bool
is_misplaced symbol rest = repeats symbol && not (is_empty rest)

-- the symbols of a mask's text, of which there are so many at most
abbrev pub symbols_at : ℕ → List ℕ → Option (List Symbol)
symbols_at fuel [] = Some []
symbols_at zero (c ∷ text) = None
symbols_at (suc fuel) (c ∷ text) = symbol_at (c ∷ text) >>= λ read.
    if is_misplaced read.0 read.1 then None
    else option_map (λ mask. read.0 ∷ mask) (symbols_at fuel read.1)

-- the symbols of a well-formed mask's text
abbrev pub symbols_of : List ℕ → Option (List Symbol)
symbols_of text = symbols_at (length text) text

-- the mask that a text is read as
abbrev pub mask_of : List ℕ → List Symbol
mask_of text = unwrap_or (symbols_of text) any_text
