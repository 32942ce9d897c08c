-- Values, part by part.
use Rattle.std.proofs.Common.{◌≡◌, ℕ, List, [], ◌∷◌, ◌++◌, Option, Some, None}
use Rattle.std.proofs.Common.{refl, ap, ◌∙◌, sym, append_assoc}
use Rattle.std.proofs.lemmas.List.{append-nil}
use Rattle.std.specs.Option.{option_map}
use Rattle.wap_base.specs.declared.name.Part.{Part}
use Rattle.wap_base.specs.declared.name.Part.TheVariants.{Lit, Var}
use Rattle.wap_tokens.specs.markup.Decks.{before}
use Rattle.wap_tokens.specs.markup.Trees.{plain_text}
use Rattle.wap_deck.specs.declared.good.bits.Bit.{Bit}
use Rattle.wap_deck.specs.good.Runs.{part_of, IsFirstBit}
use Rattle.wap_vars.specs.Variables.{Variables}
use Rattle.wap_vars.specs.Filling.{filled, part_text}

-- ---- filled

filled_before : (vars : Variables) (first : Part) (rest : List Part)
    → filled vars (before first rest) ≡ part_text vars first ++ filled vars rest
filled_before vars (Lit text) [] = refl
filled_before vars (Lit text) (Lit more ∷ rest) = append_assoc text more (filled vars rest)
filled_before vars (Lit text) (Var name conv ∷ rest) = refl
filled_before vars (Var name conv) rest = refl

pub filled_first : (vars : Variables) (parts : List Part) (first : Bit) (rest : List Part)
    → IsFirstBit parts first rest
    → filled vars parts ≡ part_text vars (part_of first) ++ filled vars rest
filled_first vars parts first rest is =
    ap (filled vars) is.together ∙ filled_before vars (part_of first) rest

-- ---- plain

-- a part, and the plain text of others after it
abbrev pub plain_on : Part → Option (List ℕ) → Option (List ℕ)
plain_on (Lit text) rest = option_map (λ more. text ++ more) rest
plain_on (Var name conv) rest = None

plain_before : (first : Part) (rest : List Part)
    → plain_text (before first rest) ≡ plain_on first (plain_text rest)
plain_before (Lit text) [] = ap Some (sym (append-nil text))
plain_before (Lit text) (Lit more ∷ []) = refl
plain_before (Lit text) (Lit more ∷ next ∷ rest) = refl
plain_before (Lit text) (Var name conv ∷ rest) = refl
plain_before (Var name conv) rest = refl

pub plain_first : (parts : List Part) (first : Bit) (rest : List Part) → IsFirstBit parts first rest
    → plain_text parts ≡ plain_on (part_of first) (plain_text rest)
plain_first parts first rest is = ap plain_text is.together ∙ plain_before (part_of first) rest
