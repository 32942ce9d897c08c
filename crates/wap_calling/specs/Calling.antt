-- What a program that calls the browser begins with: a session, what is seen of a store of its own,
-- and the keys of a line that is typed. This project's own.
use Rattle.std.specs.Prelude.{◌≡◌, ℕ, List, [], ◌∷◌, Option, Some, None, Result, Ok, Err}
use Rattle.wap_base.specs.declared.key.Key.{Key}
use Rattle.wap_base.specs.Limits.{default_limits}
use Rattle.wap_devices.specs.Stores.{StoreSeen, Answers, Told}
use Rattle.wap_keys.specs.declared.fault.KeyFault.{KeyFault}
use Rattle.wap_keys.specs.Lines.{content_key}
use Rattle.wap_world.specs.site.Asking.{Seen}
use Rattle.wap_world.specs.Sessions.{Begun}
use Rattle.wap_context.specs.Sites.{IfOver}
use Rattle.wap_session.specs.Feeding.{State, Leads}
use Rattle.wap_calling.specs.declared.terminal.TheConstants.{SEED, BUDGET}
use Rattle.wap_calling.specs.declared.typing.Typed.{Typed}
use Rattle.wap_calling.specs.declared.typing.Typed.TheVariants.{Shown, Wrong}

-- a session that is begun with these; its first key says which URL is opened
abbrev pub begun : Begun
begun = record { url = []; seed = SEED; budget = BUDGET; limits = default_limits }

-- a page before those of a store
pub record FrontState (S : Type 0) : Type 0 where
  pub name : List ℕ
  pub page : List ℕ
  pub store : S
  -- what it answered so far
  pub answers : Answers
  pub faults : ℕ
  pub fetches : ℕ
  pub listings : ℕ

-- it told what it answered, and no list of names
abbrev pub seen_before : {S : Type 0} → FrontState S → StoreSeen
seen_before front = record {
  known = Told front.answers [];
  faults = front.faults;
  fetches = front.fetches;
  listings = front.listings;
}

-- the key that a line says, if it says one
abbrev pub keys_said : Result (Option Key) KeyFault → List Key
keys_said (Ok (Some key)) = key ∷ []
keys_said (Ok None) = []
keys_said (Err fault) = []

-- the keys of a line that is typed: one, or none where it is empty, a comment or no key line
abbrev pub keys_at : List ℕ → List Key
keys_at line = keys_said (content_key line)

-- what a line came to: where its keys lead and what they show, or why it says none, with nothing
-- changed
abbrev pub TypesTo : List ℕ → Seen → State → State → Typed → Type 0
TypesTo line seen old new (Shown lines) =
    IfOver seen old.browser (λ pages. Leads (keys_at line) pages old new lines)
TypesTo line seen old new (Wrong fault) = (content_key line ≡ Err fault) × (new ≡ old)
