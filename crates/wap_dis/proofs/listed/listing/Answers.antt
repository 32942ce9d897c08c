use Rattle.std.proofs.Common.{◌<◌, inl, inr, List, ℕ, true, false, [], length}
use Rattle.std.proofs.Common.{subst, arith}
use Rattle.std.proofs.lemmas.List.{append-nil}
use Rattle.wap_unit.specs.declared.unit.Unit.{Unit}
use Rattle.wap_dis.specs.Listing.{listing}
use Rattle.wap_dis.specs.inside.Gathering.{Gathers}
use Rattle.wap_dis.specs.inside.Gathered.{state}
use Rattle.wap_dis.proofs.Putting.{gathers_then, gathers_whole, gathers_broken, unlike}
use Rattle.wap_dis.proofs.listed.listing.Goals as goal

-- a listing has its first line at least
some_text : (unit : Unit) → 0 < length (listing unit)
unfolding listing
some_text unit = omega arith

pub returns-then-held : goal.returns-then-held
returns-then-held g c =
    let before = g.O.Sink.seen c.args.out.now in
    let after = g.O.Sink.seen c.write_held.new.out in
    let start = state c.nothing_held-held.result in
    let end = state c.write_held.new.held in
    let text : List ℕ = listing c.args.unit.now in
    let all = subst (Gathers before after start end) (append-nil text)
    (gathers_then before (g.O.Sink.seen c.put_listing.new.out) after start
    (state c.put_listing.new.held) end text [] c.put_listing.ensures c.write_held.ensures.puts) in
    gathers_broken text before after start end (record {}) (some_text c.args.unit.now)
    c.nothing_held-held.ensures.bytes c.nothing_held-held.ensures.failed c.if-held.true all

pub returns-else-held : goal.returns-else-held
returns-else-held g c =
    let before = g.O.Sink.seen c.args.out.now in
    let after = g.O.Sink.seen c.write_held.new.out in
    let start = state c.nothing_held-held.result in
    let end = state c.write_held.new.held in
    let text : List ℕ = listing c.args.unit.now in
    let all = subst (Gathers before after start end) (append-nil text)
    (gathers_then before (g.O.Sink.seen c.put_listing.new.out) after start
    (state c.put_listing.new.held) end text [] c.put_listing.ensures c.write_held.ensures.puts) in
    gathers_whole text before after start end tt (some_text c.args.unit.now)
    c.nothing_held-held.ensures.bytes c.if-held.false
    (elim c.write_held.ensures.empty [
      | inl bad ↦ absurd (unlike c.write_held.new.held.failed bad c.if-held.false)
      | inr empty ↦ empty
    ]) all
