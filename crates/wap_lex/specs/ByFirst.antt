-- What a first byte tells: the shapes that may begin with it, and how a mark may go on. This
-- project's own.
use Rattle.std.specs.Prelude.{ℕ, suc, Bool, ◌==◌, if◌then◌else◌, nat_eq}
use Rattle.std.specs.Prelude.{List, [], ◌∷◌, length, map, codes}
use Rattle.std.specs.Borrow.{Bor}
use Rattle.std.specs.Char.{is_ascii_digit}
use Rattle.std.specs.List.{list_any, starts_with}
use Rattle.wap_base.specs.Ascii.{full_stop, slash, less_than_sign, greater_than_sign, small_d}
use Rattle.wap_base.specs.Names.{begins_name}
use Rattle.wap_lex.specs.declared.first.First.{First}
use Rattle.wap_lex.specs.declared.first.First.TheVariants.{White, Letter, Digit, Point}
use Rattle.wap_lex.specs.declared.first.First.TheVariants.{Quote, Slash, Other}
use Rattle.wap_lex.specs.declared.shape.Shape.{Shape}
use Rattle.wap_lex.specs.declared.shape.Shape.TheVariants.{Blank, Comment, Word, Integer}
use Rattle.wap_lex.specs.declared.shape.Shape.TheVariants.{Float, Str, Mark}
use Rattle.wap_lex.specs.Characters.{is_white, is_quote}

-- what a first byte is
abbrev pub first_of : ℕ → First
first_of c =
    if is_white c then White else
    if begins_name c then Letter else
    if is_ascii_digit c then Digit else
    if c == full_stop then Point else
    if is_quote c then Quote else
    if c == slash then Slash else Other

-- the shapes that may begin there
abbrev pub shapes_at : First → List Shape
shapes_at White = Blank ∷ []
shapes_at Letter = Word ∷ Mark ∷ []
shapes_at Digit = Integer ∷ Float ∷ []
shapes_at Point = Float ∷ Mark ∷ []
shapes_at Quote = Str ∷ []
shapes_at Slash = Comment ∷ Mark ∷ []
shapes_at Other = Mark ∷ []

-- ---- marks

-- ( ) { } , ; . # ? : ~
abbrev pub is_lone : ℕ → Bool
is_lone c = list_any (nat_eq c) (codes "(){},;.#?:~")

-- = ! * / % ^
abbrev pub is_assigned : ℕ → Bool
is_assigned c = list_any (nat_eq c) (codes "=!*/%^")

-- + - & |
abbrev pub is_doubled : ℕ → Bool
is_doubled c = list_any (nat_eq c) (codes "+-&|")

-- `=` or nothing
abbrev pub after_assigned : List (List ℕ)
after_assigned = codes "=" ∷ [] ∷ []

-- the same byte again, `=` or nothing
abbrev pub after_doubled : ℕ → List (List ℕ)
after_doubled c = (c ∷ []) ∷ codes "=" ∷ [] ∷ []

-- after `<`
abbrev pub after_less : List (List ℕ)
after_less = codes "<=" ∷ codes "<" ∷ codes "=" ∷ [] ∷ []

-- after `>`
abbrev pub after_greater : List (List ℕ)
after_greater = codes ">>=" ∷ codes ">>" ∷ codes ">=" ∷ codes ">" ∷ codes "=" ∷ [] ∷ []

-- after `d`: no other mark begins with a letter
abbrev pub after_d : List (List ℕ)
after_d = codes "iv=" ∷ []

-- what may follow the first byte of a mark, the longer ones first
abbrev pub tails_of : ℕ → List (List ℕ)
tails_of c =
    if is_lone c then [] ∷ [] else
    if is_assigned c then after_assigned else
    if is_doubled c then after_doubled c else
    if c == less_than_sign then after_less else
    if c == greater_than_sign then after_greater else
    if c == small_d then after_d else []

-- of a mark of which the first byte stands before the bytes, 0 where none of the tails follows
abbrev pub tail_len : List (List ℕ) → List ℕ → ℕ
tail_len [] bytes = 0
tail_len (tail ∷ others) bytes =
    if starts_with nat_eq bytes tail then suc (length tail) else tail_len others bytes

-- ---- words

-- rows of words as the code keeps them
abbrev pub lent : Bor (List (Bor (List ℕ))) → List (List ℕ)
lent words = map (λ word. word.now) words.now
