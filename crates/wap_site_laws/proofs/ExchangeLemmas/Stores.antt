-- Stores that differ in scripts which were only ever denied.
use Rattle.std.proofs.Common.{◌≡◌, ℕ, Bool, true, false, List, [], ◌∷◌, Option, Some, None}
use Rattle.std.proofs.Common.{refl, sym, ap, ◌∙◌}
use Rattle.std.specs.Prelude.{Result}
use Rattle.std.specs.Option.{option_map}
use Rattle.std.specs.Cmp.Lexicographic.{bytes_decides}
use Rattle.wap_base.specs.Texts.{is_same_text}
use Rattle.wap_base.specs.Contents.{Contents, page_named}
use Rattle.wap_base.specs.declared.key.Key.{Key}
use Rattle.wap_push.specs.declared.indication.Indication.{Indication}
use Rattle.wap_push.specs.declared.fault.PushFault.{PushFault}
use Rattle.wap_unit.specs.declared.unit.Unit.{Unit}
use Rattle.wap_world.specs.Sites.{Site, Call}
use Rattle.wap_world.specs.inboxes.Inboxes.{Phone}
use Rattle.wap_world.specs.Sessions.{played}
use Rattle.wap_world.specs.scripting.ScriptPages.{PageOf, page_under, shelved, shelf_by}
use Rattle.wap_world.specs.scripting.UnitSites.{Pages, units, shelf_of, unit_page, unit_pages}
use Rattle.wap_world.specs.scripting.UnitSites.{units_site}
use Rattle.wap_world.specs.scripting.Sources.{AllPages, both, site_of, compiled_pages}
use Rattle.wap_site_laws.specs.exchange.Denial.{is_let_in, DifferInScripts}
use Rattle.wap_site_laws.specs.programs.Programs.{Accepted, programs, unit_of}
use Rattle.wap_site_laws.proofs.ExchangeLemmas.Replacing.{replaces}
use Rattle.wap_site_laws.proofs.ExchangeLemmas.Denying.{DifferWithin}
use Rattle.wap_site_laws.proofs.ExchangeLemmas.Sources.{denied_sources}
use Rattle.wap_site_laws.proofs.ProgramsLemmas.Agreed.{unit_agrees}
use Rattle.wap_site_laws.proofs.PagesLemmas.Judging.{pages_judged}
use Rattle.wap_pages.specs.Judged.{page_of_bytes, judged}

-- ---- the page of a name, by its bytes

-- with a unit for a script
abbrev page_by : List ℕ → List ℕ → PageOf Unit
page_by name bytes = unit_page (page_of_bytes name bytes)

named : (name : List ℕ) (entry : List ℕ × List ℕ) (contents : Contents) (b : Bool)
    → is_same_text entry.0 name ≡ b
    → page_under name (unit_pages (judged contents))
    ≡ option_map (page_by name) (page_named name contents)
    → page_under name (unit_pages (judged (entry ∷ contents)))
    ≡ option_map (page_by name) (page_named name (entry ∷ contents))
named name entry contents true same rest =
    let is : entry.0 ≡ name = (bytes_decides entry.0 name).0 same in
    rw same (ap (λ (n : List ℕ). Some (page_by n entry.1)) is)
named name entry contents false same rest = rw same rest

under_judged : (name : List ℕ) (contents : Contents)
    → page_under name (unit_pages (judged contents))
    ≡ option_map (page_by name) (page_named name contents)
under_judged name [] = refl
under_judged name (entry ∷ contents) =
    named name entry contents (is_same_text entry.0 name) refl (under_judged name contents)

-- ---- two stores

-- with a unit in place of each source
abbrev compiled : AllPages Accepted → Pages
compiled pages = compiled_pages programs unit_of pages

-- the rules see the same
shelf_same : (pages : AllPages Accepted) (name : List ℕ)
    → shelf_of (compiled pages) name ≡ shelf_by (both programs) pages name
unfolding units_site site_of
shelf_same pages name =
    sym (ap (λ (site : Site). site.shelf name)
    (replaces programs unit_of unit_agrees pages (λ fragment. None)))

module _ (among : List ℕ → Bool) (one other : Contents) (pages others : AllPages Accepted)
    (differ : DifferInScripts among one other pages others) where
  -- the same bytes are the same page
  page_same : (name : List ℕ) → among name ≡ false
      → page_under name (compiled pages) ≡ page_under name (compiled others)
  page_same name outside =
      ap (page_under name) (sym (pages_judged one pages differ.are))
      ∙ under_judged name one
      ∙ ap (option_map (page_by name)) (differ.bytes name outside)
      ∙ sym (under_judged name other)
      ∙ ap (page_under name) (pages_judged other others differ.others_are)

  shelves_same : (name : List ℕ) (within : Bool) → among name ≡ within
      → shelf_of (compiled pages) name ≡ shelf_of (compiled others) name
  shelves_same name true is =
      let let_in = differ.scripts name is in
      shelf_same pages name ∙ let_in.1 ∙ sym let_in.2 ∙ sym (shelf_same others name)
  shelves_same name false is = ap (shelved units) (page_same name is)

  pub compiled_differ : DifferWithin among (compiled pages) (compiled others)
  compiled_differ = record {
    shelf = λ name. shelves_same name (among name) refl;
    pages = page_same;
  }

-- ---- sessions

pub denied_stores : (call : List ℕ → Option Call) (among : List ℕ → Bool)
    (one other : Contents) (pages others : AllPages Accepted)
    → DifferInScripts among one other pages others
    → (read : List ℕ → Result Indication PushFault) (keys : List Key) (phone : Phone)
    → is_let_in among
    (played read (site_of programs call pages) keys phone).step.tests ≡ false
    → played read (site_of programs call pages) keys phone
    ≡ played read (site_of programs call others) keys phone
denied_stores call among one other pages others differ read keys phone none =
    denied_sources programs unit_of unit_agrees call among pages others
    (compiled_differ among one other pages others differ) read keys phone none
