-- Pages by the names of a store, and the network that they are.
use Rattle.std.proofs.Common.{◌≡◌, ◌≢◌, ℕ, Bool, true, false, cond, List, [], ◌∷◌, map, Option}
use Rattle.std.proofs.Common.{Some, None, refl, sym, ap, subst, ◌∙◌}
use mathlib.Core.Path.{fun_ext}
use Rattle.std.specs.Prelude.{is_some, option_map, ◌||◌}
use Rattle.std.specs.List.{list_any}
use Rattle.std.specs.List.Sorted.{IsPermutation}
use Rattle.std.specs.Map.{keys_of, lookup}
use Rattle.std.specs.Cmp.Lexicographic.{nat_list_eq_equiv, bytes_decides}
use Rattle.std.proofs.lemmas.List.Sorted.{list_any-IsPermutation}
use Rattle.std.proofs.lemmas.Map.Entries.{option_filter, lookup-filter-values}
use Rattle.std.proofs.lemmas.Map.Made.{lookup-map_values, is_some-lookup}
use Rattle.wap_base.specs.Contents.{Contents, names_of, page_named}
use Rattle.wap_base.specs.Texts.{is_same_text, AreAscending, AreDistinct}
use Rattle.wap_base.proofs.Orders.{distinct_from_ascending}
use Rattle.wap_devices.specs.Stores.{Known, Agrees, Grew}
use Rattle.wap_devices.proofs.Telling.{agrees_before}
use Rattle.wap_world.specs.site.Pages.{Pages, page_under}
use Rattle.wap_world.specs.declared.site.page.Page.{Page}
use Rattle.wap_world.specs.declared.site.page.Page.TheVariants as page
use Rattle.wap_pages.specs.Judged.{judged, page_of_bytes, page_where}
use Rattle.wap_base.specs.declared.key.Key.{Key}
use Rattle.wap_world.specs.Sessions.{Begun}
use Rattle.wap_world.specs.scripting.UnitSites.{unit_page, unit_pages}
use Rattle.wap_cli.specs.Networks.{Network, over, network_of}
use Rattle.wap_cli.specs.replay.Texts.{replayed, network_of_store}
use Rattle.wap_cli.specs.replay.inside.Jobs.{is_there, pages_named, TellsOf}
use Rattle.wap_cli.proofs.ReplayLemmas.Sites.{same_site}

-- a page is there that isn't missing
there : (one : Page) → one ≢ page.Missing → is_there one ≡ true
there page.Missing is = absurd (is refl)
there _ is = refl

-- a name is looked for from either side
turned : {X : Type 0} (name : List ℕ) (entries : List (List ℕ × X))
    → lookup (λ other. is_same_text other name) entries ≡ lookup (is_same_text name) entries
turned name entries =
    ap (λ (test : List ℕ → Bool). lookup test entries)
    (fun_ext (λ other. nat_list_eq_equiv.symm other name))

-- ---- names, each with its page

module _ (f : List ℕ → Page) where
  abbrev beside : List (List ℕ) → Pages
  beside names = map (λ n. (n, f n)) names

  keys_beside : (names : List (List ℕ)) → keys_of (beside names) ≡ names
  keys_beside [] = refl
  keys_beside (name ∷ names) = ap (λ (l : List (List ℕ)). name ∷ l) (keys_beside names)

  named : (name : List ℕ) (names : List (List ℕ)) → lookup (is_same_text name) (beside names)
      ≡ cond (list_any (is_same_text name) names) (Some (f name)) None
  named name [] = refl
  named name (first ∷ names) = by (is_same_text name first) refl (named name names)
    where
      by : (b : Bool) → is_same_text name first ≡ b
          → lookup (is_same_text name) (beside names)
          ≡ cond (list_any (is_same_text name) names) (Some (f name)) None
          → cond b (Some (f first)) (lookup (is_same_text name) (beside names))
          ≡ cond (b || list_any (is_same_text name) names) (Some (f name)) None
      by true same rest =
          ap (λ (n : List ℕ). Some (f n)) (sym ((bytes_decides name first).0 same))
      by false same rest = rest

-- ---- the pages of contents

under_judged : (name : List ℕ) (contents : Contents)
    → page_under name (judged contents) ≡ option_map (page_of_bytes name) (page_named name contents)
under_judged name [] = refl
under_judged name (entry ∷ contents) =
    by (is_same_text entry.0 name) refl (under_judged name contents)
  where
    by : (b : Bool) → is_same_text entry.0 name ≡ b
        → page_under name (judged contents)
        ≡ option_map (page_of_bytes name) (page_named name contents)
        → cond b (Some (page_of_bytes entry.0 entry.1)) (page_under name (judged contents))
        ≡ option_map (page_of_bytes name) (cond b (Some entry.1) (page_named name contents))
    by true same rest =
        ap (λ (n : List ℕ). Some (page_of_bytes n entry.1)) ((bytes_decides entry.0 name).0 same)
    by false same rest = rest

module _ (found : (name bytes : List ℕ) → page_of_bytes name bytes ≢ page.Missing)
    (contents : Contents) (names : List (List ℕ)) (ascending : AreAscending names)
    (all : IsPermutation (names_of contents) names) where
  -- a name stands among the names where contents have a page of it
  among : (name : List ℕ)
      → list_any (is_same_text name) names ≡ is_some (page_named name contents)
  among name =
      sym (list_any-IsPermutation (is_same_text name) (names_of contents) names all)
      ∙ sym (is_some-lookup (is_same_text name) contents)
      ∙ ap is_some (sym (turned name contents))

  abbrev page_at : List ℕ → Page
  page_at name = page_where name (page_named name contents)

  by_bytes : (name : List ℕ) (bytes : Option (List ℕ))
      → option_filter is_there (cond (is_some bytes) (Some (page_where name bytes)) None)
      ≡ option_map (page_of_bytes name) bytes
  by_bytes name (Some bytes) =
      ap (λ (b : Bool). cond b (Some (page_of_bytes name bytes)) None)
      (there (page_of_bytes name bytes) (found name bytes))
  by_bytes name None = refl

  apart : AreDistinct (keys_of (beside page_at names))
  apart =
      subst AreDistinct (sym (keys_beside page_at names)) (distinct_from_ascending names ascending)

  same_page : (name : List ℕ)
      → page_under name (pages_named contents names) ≡ page_under name (judged contents)
  same_page name =
      turned name (pages_named contents names)
      ∙ lookup-filter-values nat_list_eq_equiv is_there name (beside page_at names) apart
      ∙ ap (option_filter is_there) (named page_at name names
      ∙ ap (λ (b : Bool). cond b (Some (page_at name)) None) (among name))
      ∙ by_bytes name (page_named name contents)
      ∙ sym (under_judged name contents)

  -- they are the network of the contents
  pub named_network : network_of (unit_pages (pages_named contents names))
      ≡ network_of_store contents
  named_network =
      ap over
      (same_site (unit_pages (pages_named contents names)) (unit_pages (judged contents)) (λ name.
      lookup-map_values unit_page (λ other. is_same_text other name) (pages_named contents names)
      ∙ ap (option_map unit_page) (same_page name)
      ∙ sym (lookup-map_values unit_page (λ other. is_same_text other name) (judged contents))))

-- so what is written of lists over them is what is written over whatever pages the store may have
pub tells_named : ((name bytes : List ℕ) → page_of_bytes name bytes ≢ page.Missing)
    → (listed after : Known) (names given : List (List ℕ)) (pages : Pages) (begun : Begun)
    (lists : List (List Key)) → AreAscending names
    → ((contents : Contents) → Agrees listed contents → IsPermutation (names_of contents) names)
    → Grew listed after → given ≡ names
    → ((contents : Contents) → Agrees after contents → pages ≡ pages_named contents given)
    → (Wrote : List ℕ → Type 0) → Wrote (replayed (network_of (unit_pages pages)) begun lists)
    → TellsOf begun lists after Wrote
tells_named found listed after names given pages begun lists ascending all grew gives named Wrote
    wrote contents agrees =
    subst (λ (network : Network). Wrote (replayed network begun lists))
    (ap (λ (p : Pages). network_of (unit_pages p))
    (named contents agrees ∙ ap (pages_named contents) gives)
    ∙ named_network found contents names ascending
    (all contents (agrees_before listed after grew contents agrees))) wrote
