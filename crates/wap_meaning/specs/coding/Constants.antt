-- The constants of a unit (WAP-193, section 9.4): the distinct integers and texts that its source
-- needs, each once, in the order in which they are needed first. The order is this project's own.
use Rattle.std.specs.Prelude.{◌≡◌, ℕ, suc, nat_lt, Bool, false, ◌||◌, List, [], ◌∷◌, ◌++◌, map}
use Rattle.std.specs.Prelude.{ℤ, pos, negsuc, if◌then◌else◌}
use Rattle.std.specs.Ordering.{int_eq}
use Rattle.wap_base.specs.Texts.{is_same_text}
use Rattle.wap_unit.specs.declared.unit.Unit.{Unit as CodeUnit}
use Rattle.wap_unit.specs.declared.unit.Constant.{Constant}
use Rattle.wap_unit.specs.declared.unit.Constant.TheVariants as constant
use Rattle.wap_grammar.specs.declared.program.program.Id.{Id}
use Rattle.wap_grammar.specs.declared.program.expression.Literal.{Literal}
use Rattle.wap_grammar.specs.declared.program.expression.Literal.TheVariants as literal
use Rattle.wap_meaning.specs.Names.{Names, url_of}

-- ---- which constants there are

-- whether two literals are one constant: integers by their values, and texts by their characters
abbrev pub same_literal : Literal → Literal → Bool
same_literal (literal.Int a) (literal.Int b) = int_eq a b
same_literal (literal.Str s) (literal.Str t) = is_same_text s t
same_literal _ _ = false

-- whether a literal is among some
abbrev pub is_in : Literal → List Literal → Bool
is_in l [] = false
is_in l (x ∷ pool) = same_literal l x || is_in l pool

-- the number of a literal among some: its first place
abbrev pub place_in : Literal → List Literal → ℕ
place_in l [] = 0
place_in l (x ∷ pool) = if same_literal l x then 0 else suc (place_in l pool)

-- a literal is added at the end, if it isn't there yet
abbrev pub with_literal : List Literal → Literal → List Literal
with_literal pool l = if is_in l pool then pool else pool ++ l ∷ []

-- one after the other is added, to those that are there already
abbrev pub pooled : List Literal → List Literal → List Literal
pooled pool [] = pool
pooled pool (l ∷ more) = pooled (with_literal pool l) more

-- ---- how each is spelled

-- an integer, in the smallest kind that has room for it
abbrev pub integer_constant : ℤ → Constant
integer_constant (pos n) =
    if nat_lt n 128 then constant.Int8 (pos n) else
    if nat_lt n 32768 then constant.Int16 (pos n) else constant.Int32 (pos n)
integer_constant (negsuc n) =
    if nat_lt n 128 then constant.Int8 (negsuc n) else
    if nat_lt n 32768 then constant.Int16 (negsuc n) else constant.Int32 (negsuc n)

-- the constant of a literal; only integers and texts are asked for
abbrev pub constant_for : Literal → Constant
constant_for (literal.Int z) = integer_constant z
constant_for (literal.Str []) = constant.Empty
constant_for (literal.Str (c ∷ cs)) = constant.Utf8 (c ∷ cs)
constant_for _ = constant.Empty

-- ---- their numbers

-- what the names in a function mean, and the constants of its unit
pub record Numbers : Type 0 where
  pub names : Names
  pub pool : List Literal

-- the number of a literal
abbrev pub number_of : Numbers → Literal → ℕ
number_of numbers l = place_in l numbers.pool

-- the number of a text
abbrev pub text_number : Numbers → List ℕ → ℕ
text_number numbers text = number_of numbers (literal.Str text)

-- the number of the URL that the name of a unit stands for
abbrev pub url_number : Numbers → Id → ℕ
url_number numbers unit = text_number numbers (url_of unit.name numbers.names.urls)

-- ---- a unit that has them

-- a unit whose constants are those of a pool, in UTF-8
pub record HasPool (u : CodeUnit) (pool : List Literal) : Type 0 where
  pub constants : u.constants ≡ map constant_for pool
  pub charset : u.charset ≡ 106
