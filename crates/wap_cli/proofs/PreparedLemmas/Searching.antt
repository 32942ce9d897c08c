-- What a search by halves finds among pages that stand in the order of their names.
use Rattle.std.proofs.Common.{◌≡◌, ℕ, ◌+◌, ◌<◌, ◌≤◌, Bool, List, length, get_or, sym, ap, ◌∙◌}
use Rattle.std.proofs.Common.{subst₂, [], Some, None, slice_get, arith}
use mathlib.Core.Path.{fun_ext}
use Rattle.std.specs.Map.{keys_of, lookup}
use Rattle.std.specs.BTreeMap.{is_at}
use Rattle.std.specs.List.Sorted.{IsStrictlySortedBy, IsNonDecreasingBy, IsPartitionPoint}
use Rattle.std.specs.Ordering.{ordering_index, ordering_reverse, is_lt, is_eq}
use Rattle.std.specs.declared.cmp.Ordering.TheVariants.{Less, Equal, Greater}
use Rattle.std.specs.Cmp.Lexicographic.{nat_list_cmp_total, nat_list_eq_equiv, texts_ties}
use Rattle.std.specs.Cmp.Lexicographic.{bytes_decides}
use Rattle.std.proofs.lemmas.List.{get_or-map}
use Rattle.std.proofs.lemmas.List.Sorted.{searchable_from_sorted}
use Rattle.std.proofs.lemmas.Map.Entries.{lookup_from_place, lookup_at_gap, length-keys_of}
use Rattle.std.proofs.lemmas.Map.Keys.{sorted_from_all_adjacent}
use Rattle.std.proofs.lemmas.Option.{get_or_from_slice_get, slice_get_within}
use Rattle.wap_base.specs.Texts.{is_same_text, text_cmp, AreAscending}
use Rattle.wap_base.proofs.Orders.{adjacent_from_ascending, distinct_from_ascending}
use Rattle.wap_world.specs.site.Pages.{Pages, page_under}
use Rattle.wap_world.specs.declared.site.page.Page.{Page}

-- a name is looked for by the order of texts
by_order : (name : List ℕ) (pages : Pages)
    → page_under name pages ≡ lookup (is_at (text_cmp name)) pages
by_order name pages =
    ap (λ (test : List ℕ → Bool). lookup test pages)
    (fun_ext (λ other. nat_list_eq_equiv.symm other name ∙ texts_ties name other))

module _ (pages : Pages) (ascending : AreAscending (keys_of pages)) (name : List ℕ) where
  -- each name comes before the next, also by its characters
  adjacent : (k : ℕ) (d : List ℕ × Page) → k + 1 < length pages
      → text_cmp (get_or pages k d).0 (get_or pages (k + 1) d).0 ≡ Less
  adjacent k d within =
      subst₂ (λ (a b : List ℕ). text_cmp a b ≡ Less)
      (get_or-map (λ (page : List ℕ × Page). page.0) pages k d [] (omega (arith, within)))
      (get_or-map (λ (page : List ℕ × Page). page.0) pages (k + 1) d [] within)
      (adjacent_from_ascending (keys_of pages) ascending k
      (omega (arith, within, length-keys_of pages)))

  names_rise : IsStrictlySortedBy text_cmp (keys_of pages)
  names_rise =
      sorted_from_all_adjacent nat_list_cmp_total (keys_of pages) []
      (adjacent_from_ascending (keys_of pages) ascending)

  -- so do the answers of the search's test
  pub answers_rise : IsNonDecreasingBy (λ page. ordering_index (text_cmp page.0 name)) pages
  answers_rise =
      searchable_from_sorted nat_list_cmp_total (λ (page : List ℕ × Page). page.0) pages name
      (λ k d low within.
      ap is_lt (nat_list_cmp_total.antisymm (get_or pages (k + 1) d).0 (get_or pages k d).0
      ∙ ap ordering_reverse (adjacent k d within)))

  -- a page whose name is found is that of the name
  pub at_place : (at : ℕ) (page : List ℕ × Page) → slice_get pages at ≡ Some page
      → text_cmp page.0 name ≡ Equal → page_under name pages ≡ Some page.1
  at_place at page there equal =
      let same : page.0 ≡ name =
      (bytes_decides page.0 name).0 (texts_ties page.0 name ∙ ap is_eq equal) in
      ap (λ (test : List ℕ → Bool). lookup test pages) (fun_ext (λ other.
      nat_list_eq_equiv.symm other name ∙ ap (λ (n : List ℕ). is_same_text n other) (sym same)))
      ∙ lookup_from_place nat_list_eq_equiv pages at page.0 page.1
      (distinct_from_ascending (keys_of pages) ascending) there

  -- no page has the name where all before a place come before it, and all from there on after it
  pub at_gap : (at : ℕ)
      → IsPartitionPoint (λ page. text_cmp page.0 name ≡ Less)
      (λ page. text_cmp page.0 name ≡ Greater) pages at
      → at ≤ length pages → page_under name pages ≡ None
  at_gap at parts within =
      by_order name pages
      ∙ lookup_at_gap nat_list_cmp_total name pages at names_rise
      (λ j page before there.
      nat_list_cmp_total.antisymm name page.0
      ∙ ap (λ (e : List ℕ × Page). ordering_reverse (text_cmp e.0 name))
      (sym (get_or_from_slice_get pages j page page there))
      ∙ ap ordering_reverse (parts.0 j page (omega arith) before))
      (λ page there.
      nat_list_cmp_total.antisymm name page.0
      ∙ ap (λ (e : List ℕ × Page). ordering_reverse (text_cmp e.0 name))
      (sym (get_or_from_slice_get pages at page page there))
      ∙ ap ordering_reverse
      (parts.1 at page (omega arith) (slice_get_within pages at page there)))
