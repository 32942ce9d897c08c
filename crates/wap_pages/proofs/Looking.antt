-- A look-up among the pages that are kept, and a page that is kept.
use Rattle.std.proofs.Common.{◌≡◌, ℕ, Bool, false, not, List, Option, Some, None}
use Rattle.std.proofs.Common.{Result, Ok, Err, refl, sym, ap, subst, ◌∙◌}
use Rattle.std.specs.Prelude.{◌||◌, IfOk, OnErr}
use Rattle.std.specs.Map.{lookup}
use Rattle.lru.specs.LruCache.{lru_cache, promoted, put_entries}
use Rattle.wap_base.specs.Texts.{is_same_text}
use Rattle.wap_base.specs.declared.fault.NoMemory.{NoMemory}
use Rattle.wap_devices.specs.Stores.{Known}
use Rattle.wap_world.specs.declared.site.page.Page.{Page}
use Rattle.wap_pages.specs.Caches.{KeepsNoMore}
use Rattle.wap_pages.specs.inside.Keeping.{Kept, names_in, IsRight, IsSound, LooksUp, Keeps}
use Rattle.wap_pages.proofs.Keeping.{kept_some, kept_none, promoted_none, found_right, found_sound}
use Rattle.wap_pages.proofs.Keeping.{found_first, no_more_asking, put_sound, put_first}

module _ (known : Known) (name : List ℕ) (kept : Kept) (sound : IsSound known kept) where
  abbrev Promoted : Kept
  Promoted = lru_cache (promoted (is_same_text name) kept.entries) kept.cap

  same : lookup (is_same_text name) kept.entries ≡ None → Promoted ≡ kept
  same none =
      ap (λ (es : List (List ℕ × Page)). lru_cache es kept.cap)
      (promoted_none known name kept sound none)

  sound_still : (found : Option Page) → lookup (is_same_text name) kept.entries ≡ found
      → IsSound known Promoted
  sound_still (Some page) is = found_sound known name kept sound page is
  sound_still None is = subst (IsSound known) (sym (same is)) sound

  no_more : (found : Option Page) → lookup (is_same_text name) kept.entries ≡ found
      → KeepsNoMore (names_in kept) (names_in Promoted)
  no_more (Some page) is =
      subst (KeepsNoMore (names_in kept)) (sym (found_first known name kept sound page false is))
      (no_more_asking name false (names_in kept) (kept_some name kept.entries page is))
  no_more None is =
      subst (λ (k : Kept). KeepsNoMore (names_in kept) (names_in k)) (sym (same is))
      (λ other so. so)

  looked : (result : Result (Option Page) NoMemory)
      → IfOk result (λ page. page ≡ lookup (is_same_text name) kept.entries)
      → LooksUp known (name, false) kept Promoted result
  looked (Ok (Some page)) is = record {
    sound = sound_still (Some page) (sym is);
    capacity = refl;
    right = found_right known name kept sound page (sym is);
    hit = ap (λ (b : Bool). false || not b) (kept_some name kept.entries page (sym is));
    first = found_first known name kept sound page false (sym is);
    miss = λ e. absurd (differ e);
    same = λ e. absurd (differ e);
    no_more = no_more (Some page) (sym is);
  }
    where
      differ : ◌≡◌ {A = Result (Option Page) NoMemory} (Ok (Some page)) (Ok None) → ⊥
      differ e = cc
  looked (Ok None) is = record {
    sound = sound_still None (sym is);
    capacity = refl;
    right = tt;
    hit = tt;
    first = tt;
    miss = λ e. ap (λ (b : Bool). false || not b) (kept_none name kept.entries (sym is));
    same = λ e. same (sym is);
    no_more = no_more None (sym is);
  }
  looked (Err e) is = record {
    sound = sound_still (lookup (is_same_text name) kept.entries) refl;
    capacity = refl;
    right = tt;
    hit = tt;
    first = tt;
    miss = λ so. absurd (differ so);
    same = λ so. absurd (differ so);
    no_more = no_more (lookup (is_same_text name) kept.entries) refl;
  }
    where
      differ : ◌≡◌ {A = Result (Option Page) NoMemory} (Err e) (Ok None) → ⊥
      differ so = cc

pub looks_up : (known : Known) (name : List ℕ) (fresh : Bool) (before after : Kept)
    (result : Result (Option Page) NoMemory) → fresh ≡ false
    → IfOk result (λ page. page ≡ lookup (is_same_text name) before.entries)
    → after ≡ lru_cache (promoted (is_same_text name) before.entries) before.cap
    → IsSound known before → LooksUp known (name, fresh) before after result
looks_up known name fresh before after result stale found is sound =
    subst (λ (f : Bool). LooksUp known (name, f) before after result) (sym stale)
    (subst (λ (k : Kept). LooksUp known (name, false) before k result) (sym is)
    (looked known name before sound result found))

pub keeps : (known : Known) (name own : List ℕ) (page shared : Page)
    (before after : Kept) → own ≡ name → shared ≡ page
    → after ≡ lru_cache (put_entries is_same_text before own shared) before.cap
    → IsSound known before → IsRight known name page
    → Keeps known name before after (Ok tt)
keeps known name own page shared before after named same is sound right =
    let put : after ≡ lru_cache (put_entries is_same_text before name page) before.cap =
    is ∙ ap (λ (n : List ℕ). lru_cache (put_entries is_same_text before n shared) before.cap) named
    ∙ ap (λ (p : Page). lru_cache (put_entries is_same_text before name p) before.cap) same in
    record {
      sound = subst (IsSound known) (sym put) (put_sound known name before sound page right);
      capacity = ap (λ (k : Kept). k.cap) put;
      first = λ fresh. ap names_in put ∙ put_first known name before sound page fresh right;
      no_more = tt;
    }

-- what holds anyway holds on a fault
pub on_fault : {A E : Type 0} (P : Type 0) (result : Result A E) → P → OnErr result P
on_fault P (Ok value) so = tt
on_fault P (Err fault) so = so
