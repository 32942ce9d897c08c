-- Calls of libraries: functions that no library has, and results within the limit of Strings.
use Rattle.std.proofs.Common.{◌≡◌, ◌∙◌, ℕ, List, Bool, true, false, Option}
use Rattle.std.proofs.Common.{refl, sym, ap, ap₂, subst}
use Rattle.std.specs.Prelude.{◌≢◌, Ok, Err, if◌then◌else◌, nat_lt}
use Rattle.std.proofs.lemmas.Bool.{ne_eqb}
use Rattle.wap_base.specs.Utf8.{utf8_len}
use Rattle.wap_value.specs.declared.value.Value.{Value}
use Rattle.wap_value.specs.declared.value.Value.TheVariants.{Int, Bool as Boolean, Str, Invalid}
use Rattle.wap_value.specs.declared.fault.ValueFault.TheVariants.{TooLong}
use Rattle.wap_execution.specs.declared.library.HostOut.{HostOut}
use Rattle.wap_execution.specs.declared.library.HostOut.TheVariants as out
use Rattle.wap_machine.specs.Hosts.{IsNoBudget}
use Rattle.wap_url.specs.declared.url.Url.{Url}
use Rattle.wap_world.specs.Shelves.{Shelf}
use Rattle.wap_world.specs.World.{World, Place}
use Rattle.wap_world.specs.Steps.{Step}
use Rattle.wap_world.specs.scripting.Hosting.{kept_by, kept, within, pure_call, library_call}
use Rattle.wap_context.specs.host.Stages.{Sight}
use Rattle.wap_context.specs.host.Serving.{Gave}

-- ---- functions that aren't there

-- ---- results within the limit

no_budget_by : (is_long : Bool) (text : List ℕ)
    → IsNoBudget (kept_by (if is_long then Err (TooLong (utf8_len text)) else Ok (Str text)))
no_budget_by true text = λ is. absurd (cc)
no_budget_by false text = tt

pub kept_no_budget : (string : ℕ) (given : HostOut) → IsNoBudget given
    → IsNoBudget (kept string given)
kept_no_budget string (out.Value (Int z)) is = tt
kept_no_budget string (out.Value (Boolean b)) is = tt
kept_no_budget string (out.Value (Str text)) is = no_budget_by (nat_lt string (utf8_len text)) text
kept_no_budget string (out.Value Invalid) is = tt
kept_no_budget string (out.Exit v) is = tt
kept_no_budget string (out.Fatal why) is = is
kept_no_budget string (out.Asks dialog) is = tt

-- what a row gave, within the limit
pub within_gave : (row : Step → HostOut × Step) (old new : Sight) (given kept_out : HostOut)
    → Gave row old new given → kept_out ≡ kept new.world.limits.string given
    → Gave (λ step. within (row step)) old new kept_out
within_gave row old new given kept_out gave is = record {
  answers = is ∙ ap₂ (λ (n : ℕ) (o : HostOut). kept n o)
      (ap (λ (w : World). w.limits.string) gave.world) gave.answers;
  world = gave.world;
  lines = gave.lines;
  deck = gave.deck;
  unasked = gave.unasked;
  no_budget = subst IsNoBudget (sym is)
      (kept_no_budget new.world.limits.string given gave.no_budget);
}

-- ---- a function that no library has

-- ---- libraries that need no browser

pub other_call : (shelf : Shelf) (now : World → Option Place) (step : Step) (base : Url)
    (referer : Option Url) (library function : ℕ) (args : List Value)
    → library ≢ 5 → library ≢ 4 → library ≢ 3
    → library_call shelf now step base referer library function args
    ≡ pure_call library function args step
other_call shelf now step base referer library function args five four three =
    rw (ne_eqb library 5 five) (rw (ne_eqb library 4 four) (rw (ne_eqb library 3 three) refl))
