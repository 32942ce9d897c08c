-- The variables that parts of functions declare, and the URLs that pragmas give names, as they are
-- collected. This project's own.
use Rattle.std.specs.Prelude.{◌≡◌, ℕ, List, [], ◌∷◌, Option, Some, None, drop}
use Rattle.std.specs.List.{flat_map}
use Rattle.indexmap.specs.IndexMap.{insert_entry}
use Rattle.wap_base.specs.Texts.{is_same_text}
use Rattle.wap_scope.specs.Names.{Mention, names_declared}
use Rattle.wap_codegen.specs.pool.Names.{with_names}

-- the names that are declared are added one after the other
pub record Declaring (mentions : List Mention) (old new : List (List ℕ)) : Type 0 where
  pub names : new ≡ with_names old (names_declared mentions)

-- of these items so many are added: with the rest all are
pub record LeavesNames {X : Type 0} (f : X → List Mention) (xs : List X) (i : ℕ)
    (old here : List (List ℕ)) : Type 0 where
  pub rest : with_names here (names_declared (flat_map f (drop i xs)))
      ≡ with_names old (names_declared (flat_map f xs))

-- names of units with their URLs, and those that pragmas give besides
abbrev pub with_urls : List (List ℕ × List ℕ) → List (Option (List ℕ × List ℕ)) →
    List (List ℕ × List ℕ)
with_urls urls [] = urls
with_urls urls (None ∷ more) = with_urls urls more
with_urls urls (Some pair ∷ more) =
    with_urls (insert_entry is_same_text urls pair.0 pair.1) more
