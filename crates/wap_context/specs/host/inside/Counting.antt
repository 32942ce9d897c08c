-- Counts of a view and of pages. It only carries proofs.
use Rattle.std.specs.Prelude.{◌≡◌, ◌≤◌, ℕ, if◌then◌else◌, List, [], ◌∷◌}
use Rattle.std.specs.Prelude.{Option, Some, None, IfSome, refl}
use Rattle.std.specs.Option.{option_map}
use Rattle.std.proofs.Math.Nat.{le_refl, le_trans, le-add_right}
use Rattle.wap_machine.specs.Hosts.{AtMost, Grows}
use Rattle.wap_world.specs.site.Pages.{Pages as JudgedPages}
use Rattle.wap_world.specs.site.Misses.{Cache, Asked, is_miss}
use Rattle.wap_world.specs.site.Asking.{Seen}
use Rattle.wap_world.specs.Steps.{Step}
use Rattle.wap_world.specs.scripting.Views.{Counted, View, counted_once, counted_all, added}
use Rattle.wap_context.specs.host.Stages.{Stage, told, fetched_in}

-- what is counted, as far as it is known
abbrev pub count_in : Option Counted → Option ℕ
count_in counted = option_map (λ one. one.fetches) counted

-- ---- a view counts what pages count

abbrev counted_of : Option Cache → ℕ → Option Counted
counted_of cache fetches = option_map (λ one. record { cache = one; fetches = fetches }) cache

counts_by : (cache : Option Cache) (fetches : ℕ)
    → IfSome (count_in (counted_of cache fetches)) (λ count. count ≡ fetches)
counts_by None fetches = tt
counts_by (Some cache) fetches = refl

pub counts : (stage : Stage) (seen : Seen) (judged : JudgedPages)
    → IfSome (fetched_in (told stage seen judged)) (λ count. count ≡ seen.fetches)
counts stage seen judged = counts_by seen.cache seen.fetches

-- ---- no row takes a fetch back

at_most : (least count : ℕ) (after : Option ℕ) → least ≤ count → AtMost count after
    → AtMost least after
at_most least count None so most = most
at_most least count (Some after) so most = le_trans so most

still_grows : (counted : Option Counted) → Grows (count_in counted) (count_in counted)
still_grows None = tt
still_grows (Some one) = le_refl one.fetches

all_grow : (asked : List Asked) (counted : Option Counted)
    → Grows (count_in counted) (count_in (counted_all asked counted))
all_grow [] counted = still_grows counted
all_grow (one ∷ others) None = tt
all_grow (one ∷ others) (Some counted) =
    at_most counted.fetches (counted_once one counted).fetches
    (count_in (counted_all others (Some (counted_once one counted))))
    (le-add_right counted.fetches (if is_miss one counted.cache then 1 else 0))
    (all_grow others (Some (counted_once one counted)))

pub added_grows : {A : Type 0} (view : View) (gave : A × Step)
    → Grows (fetched_in view) (fetched_in (added view gave).1)
added_grows view gave = all_grow gave.1.asked view.counted
