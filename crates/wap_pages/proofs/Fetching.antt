-- What is fetched from a store is right, and makes more known of it.
use Rattle.std.proofs.Common.{◌≡◌, ℕ, List, [], ◌∷◌, Option, Some, None, Result, Ok, Err}
use Rattle.std.proofs.Common.{refl, sym, ap, ◌∙◌}
use Rattle.wap_base.specs.Contents.{Contents, page_named}
use Rattle.wap_devices.specs.Contents.{answer_of, answer_for}
use Rattle.wap_devices.specs.Stores.{Known, Agrees, StoreSeen, Grew, Fetches}
use Rattle.wap_devices.specs.declared.store.Fetched.{Fetched}
use Rattle.wap_devices.specs.declared.store.Fetched.TheVariants as fetched
use Rattle.wap_devices.specs.declared.store.StoreErr.{StoreErr}
use Rattle.wap_devices.proofs.Telling.{grew_nothing}
use Rattle.wap_world.specs.declared.site.page.Page.{Page}
use Rattle.wap_world.specs.declared.site.page.Page.TheVariants as page
use Rattle.wap_pages.specs.declared.fault.PageFault.{PageFault}
use Rattle.wap_pages.specs.Judged.{page_of_bytes, page_where, Refuses}
use Rattle.wap_pages.specs.inside.Keeping.{IsRight}
use Rattle.wap_pages.proofs.Judgements.{page_of-judged, refused_is}

was_found : (bytes : List ℕ) (found : Option (List ℕ)) → fetched.Found bytes ≡ answer_of found
    → found ≡ Some bytes
was_found bytes (Some other) is = ap (λ (b : List ℕ). Some b) (sym same)
  where
    same : bytes ≡ other
    same = cc
was_found bytes None is = absurd cc

was_missing : (found : Option (List ℕ)) → fetched.Missing ≡ answer_of found → found ≡ None
was_missing (Some other) is = absurd cc
was_missing None is = refl

module _ (known : Known) (name : List ℕ) where
  -- whatever the store may hold, it has this answer
  abbrev IsAnswer : Fetched → Type 0
  IsAnswer answer =
      (contents : Contents) → Agrees known contents → answer ≡ answer_for name contents

  pub found_right : (bytes : List ℕ) (one : Page) → IsAnswer (fetched.Found bytes)
      → one ≡ page_of_bytes name bytes → IsRight known name one
  found_right bytes one found is = λ contents agrees.
      is ∙ sym (page_of-judged name contents
      ∙ ap (page_where name)
      (was_found bytes (page_named name contents) (found contents agrees)))

  pub refused_right : (bytes : List ℕ) (why : PageFault) → IsAnswer (fetched.Found bytes)
      → Refuses name bytes why → IsRight known name page.Refused
  refused_right bytes why found refused =
      found_right bytes page.Refused found (sym (refused_is name bytes why refused))

  pub missing_right : IsAnswer fetched.Missing → IsRight known name page.Missing
  missing_right found = λ contents agrees.
      sym (page_of-judged name contents
      ∙ ap (page_where name) (was_missing (page_named name contents) (found contents agrees)))

-- a store that was asked for a page told that answer, or nothing
pub grew_asked : (name : List ℕ) (before after : StoreSeen) (result : Result Fetched StoreErr)
    → Fetches name before after result → Grew before.known after.known
grew_asked name before after (Ok answer) fetches =
    record { answers = (name, answer) ∷ []; lists = []; is = fetches.told }
grew_asked name before after (Err fault) fetches =
    grew_nothing before.known after.known fetches.asked.untold
