-- Which texts a mask takes: it is a set of texts, the concatenation of its symbols' sets (WAP-191,
-- section 11.6.3).
use Rattle.std.specs.Prelude.{◌≡◌, ℕ, ◌≤◌, List, [], ◌∷◌, ◌++◌, length, IsTrue}
use Rattle.std.specs.List.{AllPass}
use Rattle.wap_mask.specs.declared.symbol.Symbol.{Symbol}
use Rattle.wap_mask.specs.declared.symbol.Symbol.TheVariants.{One, Exactly, UpTo, AnyNumber}
use Rattle.wap_mask.specs.Characters.{is_in}

-- the texts of a symbol
abbrev pub Takes : Symbol → List ℕ → Type 0
Takes (One class) text = (c : ℕ) × (text ≡ c ∷ []) × IsTrue (is_in class c)
Takes (Exactly c) text = text ≡ c ∷ []
Takes (UpTo most class) text = AllPass (is_in class) text × (length text ≤ most)
Takes (AnyNumber class) text = AllPass (is_in class) text

-- the texts of a mask: a text of its first symbol, and after it a text of the others
abbrev pub IsTaken : List Symbol → List ℕ → Type 0
IsTaken [] text = text ≡ []
IsTaken (symbol ∷ mask) text =
    (front : List ℕ) × (back : List ℕ) × (text ≡ front ++ back) × Takes symbol front
    × IsTaken mask back
