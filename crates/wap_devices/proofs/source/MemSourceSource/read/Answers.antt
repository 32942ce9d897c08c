use Rattle.std.proofs.Common.{rules, ◌≡◌, ◌≤◌, ◌+◌, ◌++◌, List, ℕ, Ok, false, take, drop, min}
use Rattle.std.proofs.Common.{length, ap, sym, ◌∙◌, arith}
use Rattle.wap_devices.specs.Fakes.{SourceState, Schedule, called}
use Rattle.wap_devices.specs.Sources.{ends_after}
use Rattle.wap_base.proofs.Choices.{ok_same}
use Rattle.std.proofs.lemmas.List.{nil_from_length, length-take, length-drop, drop-drop, take_at}
use Rattle.std.proofs.lemmas.List.{drop_at}
use Rattle.wap_devices.proofs.Transfers.{taken, given}
use Rattle.wap_devices.proofs.source.MemSourceSource.read.Goals as goal

-- what was left is what was read, and what is left now
left_split : (c : goal.After-add_if)
    → c.args.self.now.left
    ≡ take c.min-count.result (c.copy_from_slice.new.self ++ drop c.min-count.result
    c.args.buffer.now)
    ++ drop (c.self.inside.at + c.min-count.result) c.self.inside.bytes
left_split c =
    let bytes = c.self.inside.bytes in
    let at = c.self.inside.at in
    let count = c.min-count.result in
    let rest = drop count c.args.buffer.now in
    let left_is : c.split_at.result.1.now ≡ drop at bytes =
    c.split_at.ensures.back ∙ ap (drop at) c.as_slice.ensures in
    let within : count ≤ length (drop at bytes) =
    omega (arith, c.min-count.ensures, ap length left_is) in
    ap (λ (s : SourceState). s.left) (sym c.self.view_is)
    ∙ taken bytes rest at count within
    ∙ ap (λ (l : List ℕ). take count (l ++ rest) ++ drop (at + count) bytes)
    (sym (c.copy_from_slice.ensures.after ∙ ap (take count) left_is))

pub returns-clause-bytes : goal.returns-clause-bytes
returns-clause-bytes c = left_split c

pub returns-clause-after : goal.returns-clause-after
returns-clause-after c =
    let bytes = c.self.inside.bytes in
    let at = c.self.inside.at in
    let count = c.min-count.result in
    let left_is : c.split_at.result.1.now ≡ drop at bytes =
    c.split_at.ensures.back ∙ ap (drop at) c.as_slice.ensures in
    let count_is : count ≡ min c.self.inside.piece
    (min (length c.args.buffer.now) (length (drop at bytes))) =
    c.min-count.ensures ∙ search (rules, c.min.ensures, left_is) in
    search (rules, given at count bytes, drop-drop count at bytes, count_is)

pub returns-clause-reads : goal.returns-clause-reads
returns-clause-reads c =
    let bytes = c.self.inside.bytes in
    let at = c.self.inside.at in
    let count = c.min-count.result in
    let room : count ≤ length c.args.buffer.now = omega (arith, c.min-count.ensures, c.min.ensures)
    in
    let left_is : c.split_at.result.1.now ≡ drop at bytes =
    c.split_at.ensures.back ∙ ap (drop at) c.as_slice.ensures in
    let copied : length c.copy_from_slice.new.self ≡ count =
    c.copy_from_slice.ensures.len ∙ omega (arith, length-take count c.args.buffer.now, room) in
    let new = c.copy_from_slice.new.self ++ drop count c.args.buffer.now in
    let read_is : take count (drop at bytes) ≡ take count new =
    sym (take_at c.copy_from_slice.new.self (drop count c.args.buffer.now) count copied
    ∙ c.copy_from_slice.ensures.after ∙ ap (take count) left_is) in
    let counted_is : c.count.new.self ≡ called c.args.self.now.calls false =
    c.count.ensures.counted ∙ ap (called c.self.inside.calls) c.if-failed.false
    ∙ ap (λ (s : SourceState). called s.calls false) c.self.view_is in
    record {
      within = room;
      bytes = record {
        given =
            given at count bytes ∙ ap (λ (l : List ℕ). take at bytes ++ l) read_is
            ∙ ap (λ (s : SourceState). s.given ++ take count new) c.self.view_is;
        coming = λ rest left.
            left_split c ∙ ap (λ (l : List ℕ). take count new ++ l) left;
      };
      rest = drop_at c.copy_from_slice.new.self (drop count c.args.buffer.now) count copied;
      end = λ ended.
          nil_from_length (drop (at + count) bytes)
          (omega (
            arith,
            length-drop (at + count) bytes,
            length-drop at bytes,
            ap length left_is,
            ok_same count 0 ended,
            c.min-count.ensures,
            c.min.ensures,
            c.self.invariant.1,
            c.requires,
          ));
      unmoved = tt;
      uncome = tt;
      buffer = tt;
      reads = ap (λ (s : Schedule). s.made) counted_is;
      ends = c.add_if.ensures
          ∙ ap (λ (s : SourceState). ends_after s.ends (Ok count)) c.self.view_is;
      counts = omega (arith, ap (λ (s : Schedule). s.faults) counted_is);
      failed = tt;
      steady = ap (λ (s : Schedule). s.faults) counted_is;
    }
