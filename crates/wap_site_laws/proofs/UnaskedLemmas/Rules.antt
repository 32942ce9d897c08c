-- Where a shelf and the same without the pages of some names come to the same: what they keep, and
-- what is lost to them.
use Rattle.std.proofs.Common.{◌≡◌, ◌⊎◌, inl, inr, ℕ, Bool, true, false, List, [], ◌∷◌, refl, Option}
use Rattle.std.proofs.Common.{ap, ◌∙◌}
use Rattle.std.specs.Option.{option_map_or}
use Rattle.wap_url.specs.Printing.{name_for}
use Rattle.wap_world.specs.declared.history.Entry.{Entry}
use Rattle.wap_world.specs.Shelves.{Shelf}
use Rattle.wap_world.specs.Tasks.{card_for}
use Rattle.wap_world.proofs.Alike.{Fact, Loss, Losing}
use Rattle.wap_world.proofs.Walk.{Names, Kept}
use Rattle.wap_world.proofs.Hosts.Kin.{InScripts, last_changed}
use Rattle.wap_site_laws.proofs.UnaskedLemmas.Beside.{Asks, first, second, asks_it, Clear}
use Rattle.wap_site_laws.proofs.UnaskedLemmas.Beside.{pushed_clear, popped_clear}

module _ (among : List ℕ → Bool) where
  -- a name that is none of these
  abbrev pub Outside : Names
  Outside name = among name ≡ false

  -- the world is on none of these names
  abbrev pub On : Fact
  On keys w = Clear among w

  -- who asked for one of these names is lost
  abbrev pub Asking : Loss
  Asking asked tests one = Asks among asked

  pub asking_stays : Losing Asking
  asking_stays = record {
    first = λ asked more tests others one other lost. first among asked more lost;
    second = λ asked more tests others one other lost. second among asked more lost;
    opens = λ asked tests one lost. lost;
  }

  -- a name is none of these, or who asks for it is lost
  pub outside_or_asking : (name : List ℕ) (fresh : Bool)
      → Outside name ⊎ Asks among ((name, fresh) ∷ [])
  outside_or_asking name fresh = by (among name) refl
    where
      by : (b : Bool) → among name ≡ b → Outside name ⊎ Asks among ((name, fresh) ∷ [])
      by true about = inr (asks_it among name fresh [] about)
      by false about = inl about

  -- no change of a world leads to one of these names
  pub clear_kept : (shelf : Shelf) → Kept On On Outside shelf
  clear_kept shelf = record {
    vars = λ k w v clear. clear;
    reset = λ k w clear. clear;
    timer = λ k w t place e is clear. clear;
    turn = λ k w n is clear. clear;
    clear = λ k w clear. refl;
    push = λ k w url deck off has clear. pushed_clear among w url (card_for deck url) off;
    pop = λ k w e deck off has clear. popped_clear among w e deck off;
    begins = λ k w clear. clear;
    ends = λ k w clear. clear;
  }

  -- nor does any script
  pub clear_in_scripts : InScripts On
  clear_in_scripts = record {
    turns = λ k w n clear. clear;
    changes = λ change k w clear.
        ap (λ (o : Option Entry). option_map_or (λ (e : Entry). among (name_for e.url)) o false)
        (last_changed change w) ∙ clear;
    takes = λ one k w clear. clear;
    counts = λ k w time left is clear. clear;
    expires = λ k w time is clear. clear;
  }
