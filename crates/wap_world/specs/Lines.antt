-- Lines that are shown. This project's own.
use Rattle.std.specs.Prelude.{ℕ, List, [], ◌∷◌, ◌++◌, codes}
use Rattle.wap_base.specs.Ascii.{space, equals_sign}
use Rattle.wap_world.specs.declared.refusal.Refusal.{Refusal}
use Rattle.wap_world.specs.declared.refusal.Refusal.TheVariants.{Budget, Url, Scheme, Missing}
use Rattle.wap_world.specs.declared.refusal.Refusal.TheVariants.{Refused, Denied, First, Ignored}
use Rattle.wap_world.specs.declared.refusal.Refusal.TheVariants.{Mask, Full, Long}

-- ---- refusals

-- the word of each refusal
abbrev pub word_of_refusal : Refusal → List ℕ
word_of_refusal Budget = codes "budget"
word_of_refusal Url = codes "url"
word_of_refusal Scheme = codes "scheme"
word_of_refusal Missing = codes "missing"
word_of_refusal Refused = codes "refused"
word_of_refusal Denied = codes "denied"
word_of_refusal First = codes "first"
word_of_refusal Ignored = codes "ignored"
word_of_refusal Mask = codes "mask"
word_of_refusal Full = codes "full"
word_of_refusal Long = codes "long"

-- a mark and that word
abbrev pub refusal_line : Refusal → List ℕ
refusal_line refusal = codes "! " ++ word_of_refusal refusal

-- ---- parts of a screen, and variables

-- a mark, and a text after a space, if there is one
abbrev pub marked : List ℕ → List ℕ → List ℕ
marked mark [] = mark
marked mark (c ∷ cs) = mark ++ space ∷ c ∷ cs

-- a title; an empty one is the mark alone
abbrev pub title_line : List ℕ → List ℕ
title_line title = marked (codes "=") title

-- a do, by its name and its label
abbrev pub do_line : List ℕ × List ℕ → List ℕ
do_line one = marked (codes "* " ++ one.0) one.1

-- a variable, by its name and its text
abbrev pub variable_line : List ℕ × List ℕ → List ℕ
variable_line variable = codes "$ " ++ variable.0 ++ equals_sign ∷ variable.1
