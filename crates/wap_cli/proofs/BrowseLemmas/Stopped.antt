-- A session that stops before its end: what was written, and asked for.
use Rattle.std.proofs.Common.{◌≡◌, ℕ, ◌+◌, List, [], ◌∷◌, ◌++◌, length}
use Rattle.std.proofs.Common.{sym, ap, subst, ◌∙◌, append_assoc, arith}
use Rattle.std.specs.Prelude.{IfSome}
use Rattle.wap_devices.specs.Transfer.{Appends, AppendsPrefix}
use Rattle.wap_devices.specs.Sinks.{SinkSeen}
use Rattle.wap_devices.proofs.Transfers.{Appends-then}
use Rattle.wap_base.specs.declared.key.Key.{Key}
use Rattle.wap_keys.specs.Read.{AreFirst}
use Rattle.wap_world.specs.site.Misses.{Asked, misses}
use Rattle.wap_world.specs.site.Asking.{Fails}
use Rattle.wap_world.proofs.SiteLemmas.Asking.{Asks-then}
use Rattle.wap_world.specs.Steps.{Step}
use Rattle.wap_world.specs.scripting.UnitSites.{Pages}
use Rattle.wap_session.specs.Feeding.{State, step_of}
use Rattle.wap_cli.specs.browse.Outside.{Outside}
use Rattle.wap_cli.specs.browse.Handling.{bytes_of, first_lines, first_asked}
use Rattle.wap_cli.specs.browse.Stopping.{RoseWithin, WritesPart, StopsForMemory}
use Rattle.wap_cli.specs.browse.inside.Played.{Moment, LeadsPart}
use Rattle.wap_cli.specs.browse.Standing.{Moved, Stands}
use Rattle.wap_cli.proofs.BrowseLemmas.Stepping.{asked_joined, bytes_joined}
use Rattle.wap_cli.proofs.BrowseLemmas.Firsts.{lines_all, asked_all, prefix_more, prefix_whole}
use Rattle.wap_cli.proofs.BrowseLemmas.Counting.{missed_after}
use Rattle.wap_cli.proofs.BrowseLemmas.Going.{moment_of, Nears, whole, beyond}

-- ---- all keys were played

-- what was written is a prefix of what more keys show
pub prefix_played : (pages : Pages) (play : List Key → Step) (given all : List Key)
    (old now : Moved) (state : State) → Stands pages play given old now state
    → AreFirst given all
    → AppendsPrefix old.sink.taken now.sink.taken (bytes_of (play all))
prefix_played pages play given all old now state stands (others, split) =
    prefix_more old.sink.taken now.sink.taken (bytes_of (play given))
    (bytes_of (step_of pages others state)) (bytes_of (play all))
    (ap (λ (keys : List Key). bytes_of (play keys)) split
    ∙ bytes_joined (play (given ++ others)) (play given) (step_of pages others state)
    (stands.on others))
    (prefix_whole old.sink.taken now.sink.taken (bytes_of (play given)) stands.wrote)

-- memory ran out after them
pub read_runs_out : (pages : Pages) (play : List Key → Step) (given : List Key) (old new : Outside)
    (before now : Moved) (state : State) → before.sink ≡ old.sink → now.sink ≡ new.sink
    → Stands pages play given before now state → StopsForMemory play given old new
read_runs_out pages play given old new before now state first last stands = record {
  count = length given + 1;
  least = omega arith;
  most = omega arith;
  wrote = subst (Appends old.sink.taken new.sink.taken) (sym (lines_all play given))
      (subst (λ (s : SinkSeen). Appends s.taken new.sink.taken (bytes_of (play given))) first
      (subst (λ (s : SinkSeen). Appends before.sink.taken s.taken (bytes_of (play given))) last
      stands.wrote));
}

-- ---- a key stopped it

-- a part was written after what was written before
part_after : (before now after first one both : List ℕ)
    → both ≡ first ++ one → Appends before now first → AppendsPrefix now after one
    → WritesPart before after first both
part_after before now after first one both is wrote (prefix, rest, split, more) = record {
  part = prefix;
  rest = rest;
  split = is ∙ ap (λ (l : List ℕ). first ++ l) split;
  wrote = Appends-then before now after first prefix wrote more;
}

-- with what was written before it is a prefix
part_prefix : (before after first both : List ℕ)
    → WritesPart before after first both → AppendsPrefix before after both
part_prefix before after first both so = (
  first ++ so.part,
  so.rest,
  so.split ∙ sym (append_assoc first so.part so.rest),
  so.wrote,
)

module _ (pages : Pages) (play : List Key → Step) (given : List Key) (key : Key)
    (old now : Moved) (state : State) (nears : Nears pages play given key old now state) where
  -- the lines of all that was given, in two parts
  bytes_whole : bytes_of (play given)
      ≡ bytes_of nears.before ++ bytes_of (step_of pages (key ∷ []) state)
  bytes_whole = bytes_joined (play given) nears.before (step_of pages (key ∷ []) state)
      (whole pages play given key old now state nears)

  -- ---- nothing of it was written

  -- what was written is a prefix of what all keys show
  pub prefix_unwritten : (all : List Key) (sink : SinkSeen) → sink ≡ now.sink → AreFirst given all
      → AppendsPrefix old.sink.taken sink.taken (bytes_of (play all))
  prefix_unwritten all sink unwritten (others, split) =
      subst (λ (s : SinkSeen). AppendsPrefix old.sink.taken s.taken (bytes_of (play all)))
      (sym unwritten)
      (prefix_more old.sink.taken now.sink.taken (bytes_of nears.before)
      (bytes_of (step_of pages (key ∷ others) state)) (bytes_of (play all))
      (ap (λ (keys : List Key). bytes_of (play keys)) split
      ∙ bytes_joined (play (given ++ others)) nears.before (step_of pages (key ∷ others) state)
      (nears.on others))
      (prefix_whole old.sink.taken now.sink.taken (bytes_of nears.before) nears.wrote))

  -- it is what the keys before show
  pub wrote_before : (sink : SinkSeen) → sink ≡ now.sink
      → Appends old.sink.taken sink.taken (first_lines play given (length given))
  wrote_before sink unwritten =
      subst (Appends old.sink.taken sink.taken) (sym nears.lines)
      (subst (λ (s : SinkSeen). Appends old.sink.taken s.taken (bytes_of nears.before))
      (sym unwritten) nears.wrote)

  -- ---- the store failed

  -- the store was asked for a page of the second list, after all of the first
  abbrev RoseBetween : Moment → List Asked → List Asked → Type 0
  RoseBetween new first both = IfSome old.pages.cache
      (λ cache. RoseWithin
      (misses first cache) (misses both cache) old.pages.fetches new.pages.fetches)

  -- it was asked for a page of the key
  pub missed_there : (new : Moment)
      → Fails (step_of pages (key ∷ []) state).asked now.pages new.pages
      → RoseBetween new (first_asked play given (length given))
      (first_asked play given (length given + 1))
  missed_there new missed =
      let one = step_of pages (key ∷ []) state in
      subst (λ (asked : List Asked). RoseBetween new asked
      (first_asked play given (length given + 1))) (sym nears.asked)
      (subst (RoseBetween new nears.before.asked) (sym (asked_all play given))
      (missed_after nears.before.asked one.asked (play given).asked old.pages now.pages new.pages
      (asked_joined (play given) nears.before one
      (whole pages play given key old now state nears))
      nears.asks missed))

  -- ---- the sink failed

  -- a prefix of its lines was written
  part_there : (new : Moment) → LeadsPart pages key (moment_of now state) new
      → WritesPart old.sink.taken new.sink.taken (bytes_of nears.before)
      (bytes_of (play given))
  part_there new leads =
      part_after old.sink.taken now.sink.taken new.sink.taken (bytes_of nears.before)
      (bytes_of (step_of pages (key ∷ []) state)) (bytes_of (play given)) bytes_whole nears.wrote
      leads.wrote

  -- which is one of what all keys show
  pub prefix_part : (all : List Key) (new : Moment)
      → LeadsPart pages key (moment_of now state) new → AreFirst given all
      → AppendsPrefix old.sink.taken new.sink.taken (bytes_of (play all))
  prefix_part all new leads (others, split) =
      prefix_more old.sink.taken new.sink.taken (bytes_of (play given))
      (bytes_of (step_of pages others new.state)) (bytes_of (play all))
      (ap (λ (keys : List Key). bytes_of (play keys)) split
      ∙ bytes_joined (play (given ++ others)) (play given) (step_of pages others new.state)
      (beyond pages play given key old now state nears new.state others (leads.on others)))
      (part_prefix old.sink.taken new.sink.taken (bytes_of nears.before)
      (bytes_of (play given)) (part_there new leads))

  -- it is what the keys before show, and a part of the last key's lines
  pub wrote_part : (new : Moment) → LeadsPart pages key (moment_of now state) new
      → WritesPart old.sink.taken new.sink.taken (first_lines play given (length given))
      (first_lines play given (length given + 1))
  wrote_part new leads =
      subst (λ (bytes : List ℕ). WritesPart old.sink.taken new.sink.taken bytes
      (first_lines play given (length given + 1))) (sym nears.lines)
      (subst (WritesPart old.sink.taken new.sink.taken (bytes_of nears.before))
      (sym (lines_all play given)) (part_there new leads))

  -- and the store was asked for all its pages
  pub asked_there : (new : Moment) → LeadsPart pages key (moment_of now state) new
      → IfSome old.pages.cache (λ cache. new.pages.fetches
      ≡ old.pages.fetches + (misses (first_asked play given (length given + 1)) cache))
  asked_there new leads =
      let one = step_of pages (key ∷ []) state in
      subst (λ (asked : List Asked). IfSome old.pages.cache (λ cache. new.pages.fetches
      ≡ old.pages.fetches + (misses asked cache))) (sym (asked_all play given))
      (subst (λ (asked : List Asked). IfSome old.pages.cache (λ cache. new.pages.fetches
      ≡ old.pages.fetches + (misses asked cache)))
      (sym (asked_joined (play given) nears.before one
      (whole pages play given key old now state nears)))
      (Asks-then nears.before.asked one.asked old.pages now.pages new.pages nears.asks
      leads.asks).fetches)
