use Rattle.std.proofs.Common.{◌++◌, take, drop, List, ℕ, Ok, Err, refl, sym, ap, ◌∙◌, subst}
use Rattle.std.proofs.Common.{append_assoc}
use Rattle.std.proofs.lemmas.List.{take-append-drop}
use Rattle.wap_devices.proofs.Putting.{has_put_more, puts_whole, puts_stopped}
use Rattle.wap_devices.proofs.Putting.{some_from_length, none_from_length, unmoved_by_none}
use Rattle.wap_devices.specs.Sinks.{Writes}
use Rattle.wap_devices.proofs.sink.write_all.Goals as goal

pub returns-in_err-count : goal.returns-in_err-count
returns-in_err-count g c =
    let so_far = c.loop-rest.invariant in
    let wrote = c.in_err-count.ensures in
    puts_stopped so_far.prefix c.loop-rest.rest.now (g.O.Sink.seen c.args.out.now)
    (g.O.Sink.seen c.loop-rest.out) (g.O.Sink.seen c.write.new.self) so_far.put
    (some_from_length c.loop-rest.rest.now c.loop-rest-test.ensures) wrote.unmoved
    wrote.counts wrote.failed c.args.piece.now so_far.split c.from_residual.result
    c.from_residual.ensures.0

pub returns-then-count-eq0 : goal.returns-then-count-eq0
returns-then-count-eq0 g c =
    let so_far = c.loop-rest.invariant in
    let rest = c.loop-rest.rest.now in
    let before = g.O.Sink.seen c.loop-rest.out in
    let after = g.O.Sink.seen c.write.new.self in
    let is_ok : Writes rest before after (Ok 0) =
    subst (λ count. Writes rest before after (Ok count)) c.if-count-eq0.true c.in_ok-count.ensures
    in
    let some = some_from_length rest c.loop-rest-test.ensures in
    puts_stopped so_far.prefix rest (g.O.Sink.seen c.args.out.now)
    before after so_far.put some (unmoved_by_none rest before after is_ok) is_ok.counts
    (is_ok.stuck refl some) c.args.piece.now so_far.split
    (Err record {}) refl

pub returns : goal.returns
returns g c =
    let so_far = c.loop-rest.invariant in
    puts_whole so_far.prefix c.loop-rest.rest.now (g.O.Sink.seen c.args.out.now)
    (g.O.Sink.seen c.loop-rest.out) tt so_far.put c.args.piece.now so_far.split
    (none_from_length c.loop-rest.rest.now c.loop-rest-test.ensures)

pub loop-rest-preserved : goal.loop-rest-preserved
loop-rest-preserved g c =
    let so_far = c.loop-rest.invariant in
    let rest = c.loop-rest.rest.now in
    let count = c.in_ok-count.count in
    record {
      prefix = so_far.prefix ++ take count rest;
      split =
          so_far.split ∙ ap (λ (l : List ℕ). so_far.prefix ++ l) (sym (take-append-drop count rest))
          ∙ sym (append_assoc so_far.prefix (take count rest) (drop count rest))
          ∙ ap (λ (l : List ℕ). (so_far.prefix ++ take count rest) ++ l)
          (sym c.split_at.ensures.back);
      put =
          has_put_more so_far.prefix rest (g.O.Sink.seen c.args.out.now)
          (g.O.Sink.seen c.loop-rest.out) (g.O.Sink.seen c.write.new.self) count so_far.put
          c.in_ok-count.ensures c.if-count-eq0.false;
    }
