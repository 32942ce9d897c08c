-- What stands under the names of pages, as the rules see it: of a script only who may call it. What
-- it does when it is called stands apart (`Sites`). This project's own.
use Rattle.std.specs.Prelude.{ℕ, List, Option}
use Rattle.wap_tokens.specs.declared.markup.deck.Deck.{Deck}

-- who may come: a domain and a path, each where it is given
pub record Entrance : Type 0 where
  pub domain : Option (List ℕ)
  pub path : Option (List ℕ)

-- what stands under a name
pub data Shelved : Type 0 where
  deck_page : Deck → Shelved
  -- without an entrance anybody may call
  script_page : Option Entrance → Shelved
  text_page : List ℕ → Shelved
  refused_page : Shelved
  no_page : Shelved

-- what stands under each name that a store may have
abbrev pub Shelf : Type 0
Shelf = List ℕ → Shelved
