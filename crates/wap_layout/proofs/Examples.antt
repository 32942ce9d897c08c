-- The definitions at the worked examples, by calculation.
use Rattle.std.proofs.Common.{◌≡◌, [], ◌∷◌, ◌++◌, refl}
use Rattle.std.specs.Prelude.{codes, replicate}
use Rattle.wap_layout.specs.declared.flow.Flow.TheVariants.{Words, Hard, Soft, Wrap, NoWrap, Pre}
use Rattle.wap_layout.specs.Calculation.{lines_of}

-- 24 times a, a space and b
a_long_word : lines_of 20 (Words (replicate 24 97 ++ codes " b") ∷ [])
    ≡ replicate 20 97 ∷ codes "aaaa b" ∷ []
a_long_word = refl

breaks : lines_of 20 (Words (codes "one") ∷ Hard ∷ Hard ∷ Soft ∷ Words (codes "t")
    ∷ Words (codes "wo  three ") ∷ Soft ∷ Soft ∷ []) ≡ codes "one" ∷ [] ∷ codes "two three" ∷ []
breaks = refl

modes : lines_of 3 (NoWrap ∷ Words (codes " one  two ") ∷ Pre
    ∷ Words (9 ∷ codes " a  b " ++ 10 ∷ 10 ∷ []) ∷ Wrap ∷ Words (codes "one two") ∷ [])
    ≡ codes "one two" ∷ (9 ∷ codes " a  b ") ∷ [] ∷ codes "one" ∷ codes "two" ∷ []
modes = refl
