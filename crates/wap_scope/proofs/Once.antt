-- Names that stand once in a list.
use Rattle.std.proofs.Common.{◌≡◌, ℕ, suc, ◌<◌, List, [], ◌∷◌, ◌++◌, length, get_or, take, drop}
use Rattle.std.proofs.Common.{false, true, inl, inr, sym, ◌∙◌, get_or-take, length-take-le, arith}
use Rattle.std.proofs.Math.Seq.{split_at}
use Rattle.std.proofs.lemmas.Bool.Decides.{leb_tells}
use Rattle.std.proofs.lemmas.List.{get_or_default}
use Rattle.std.proofs.lemmas.List.Folds.{Any-from_list_any, list_any_at}
use Rattle.std.specs.Cmp.Lexicographic.{bytes_decides}
use Rattle.wap_base.specs.Texts.{is_same_text}
use Rattle.wap_scope.specs.Scoped.{is_among}
use Rattle.wap_scope.specs.Meanings.{StandsOnce}

-- no name of a list stands before itself
abbrev pub NoneTwice : List (List ℕ) → Type 0
NoneTwice names = (before : List (List ℕ)) (name : List ℕ) (after : List (List ℕ)) →
    names ≡ before ++ name ∷ after → is_among name before ≡ false

module _ (names : List (List ℕ)) (once : NoneTwice names) where
  -- so no two places have one name
  clash : (i j : ℕ) → i < j → j < length names → get_or names i [] ≡ get_or names j [] → ⊥
  clash i j less within same =
      let name = get_or names j [] in
      let front = take j names in
      let apart : is_among name front ≡ false =
      once front name (drop (suc j) names) (split_at names j [] within) in
      let there : is_among name front ≡ true =
      list_any_at (is_same_text name) front i []
      (omega (arith, less, length-take-le j names (omega (arith, within))))
      ((bytes_decides name (get_or front i [])).1 (sym (get_or-take j names i [] less ∙ same))) in
      cc

  -- and a name that is among them stands at one place
  pub stands_once : (name : List ℕ) → is_among name names ≡ true →
      (place : ℕ) × StandsOnce name names place
  stands_once name among =
      let found = Any-from_list_any (is_same_text name) names among in
      let place = found.0 in
      let there : get_or names place [] ≡ name =
      get_or_default names place [] found.1 found.2
      ∙ found.3 ∙ sym ((bytes_decides name found.1).0 found.4) in (
        place,
        record {
          within = found.2;
          there = there;
          only = λ other within is. elim (leb_tells (suc place) other) [
            | inl right ↦ absurd (clash place other right.1 within (there ∙ sym is))
            | inr left ↦ elim (leb_tells (suc other) place) [
              | inl before ↦ absurd (clash other place before.1 found.2 (is ∙ sym there))
              | inr here ↦ omega (arith, left.1, here.1)
            ]
          ];
        },
      )
