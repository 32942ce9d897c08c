-- What the explaining of a page tells by how it ends. This project's own.
use Rattle.std.specs.Prelude.{◌≡◌, ◌≢◌, ℕ, List}
use Rattle.wap_base.specs.Contents.{Contents}
use Rattle.wap_devices.specs.Contents.{answer_for}
use Rattle.wap_devices.specs.Stores.{StoreSeen, Agrees, Grew}
use Rattle.wap_devices.specs.declared.store.Fetched.{Fetched}
use Rattle.wap_devices.specs.declared.store.Fetched.TheVariants as fetched
use Rattle.wap_pages.specs.Judged.{Refuses}
use Rattle.wap_pages.specs.declared.fault.PageFault.{PageFault}
use Rattle.wap_pages.specs.declared.fault.PageFault.TheVariants as page
use Rattle.wap_explain.specs.declared.ending.Ending.{Ending}
use Rattle.wap_explain.specs.declared.ending.Ending.TheVariants.{Good, Usage, Refused, StoreFault}
use Rattle.wap_explain.specs.declared.ending.Ending.TheVariants.{WriteFault, NoMemory}

-- the numbers are those of wap
abbrev pub number_of : Ending → ℕ
number_of Good = 0
number_of Usage = 1
number_of (Refused fault) = 2
number_of StoreFault = 3
number_of WriteFault = 5
number_of NoMemory = 6

-- an ending is right of the page of a name with these bytes
pub record IsRight (name bytes : List ℕ) (ending : Ending) : Type 0 where
  pub good : ending ≡ Good → (fault : PageFault) → ¬ Refuses name bytes fault
  pub refused : (fault : PageFault) → ending ≡ Refused fault → Refuses name bytes fault

-- an ending is right of a page that is missing
pub record IsRightOfNone (ending : Ending) : Type 0 where
  pub bad : ending ≢ Good
  pub refused : (fault : PageFault) → ending ≡ Refused fault → fault ≡ page.Missing

-- an ending is right of what a store answered for a name
abbrev pub IsRightOf : List ℕ → Fetched → Ending → Type 0
IsRightOf name (fetched.Found bytes) ending = IsRight name bytes ending
IsRightOf name fetched.Missing ending = IsRightOfNone ending

-- an ending is right of the page of a name in a store: that of any pages that may be its own
pub record Explains (name : List ℕ) (before after : StoreSeen) (ending : Ending) : Type 0 where
  pub answer : Fetched
  pub found : ending ≢ StoreFault → ending ≢ NoMemory
      → (pages : Contents) → Agrees after.known pages → answer ≡ answer_for name pages
  pub right : IsRightOf name answer ending
  pub kept : Grew before.known after.known
