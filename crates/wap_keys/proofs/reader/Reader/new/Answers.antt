use Rattle.std.proofs.Common.{ℕ, false, List, ◌++◌, drop, refl, ap}
use Rattle.wap_keys.proofs.ReaderLaws.{begun}
use Rattle.wap_keys.proofs.reader.Reader.new.Goals as goal

pub returns-clause-read : goal.returns-clause-read
returns-clause-read c =
    λ start. begun start (c.new.result.items ++ drop 0 c.new-2.result.items)
    (rw (c.new.ensures.items, c.new-2.ensures.items) refl)

pub returns-clause-fresh : goal.returns-clause-fresh
returns-clause-fresh c =
    ap (λ (l : List ℕ). record { unread = l; number = 1; count = 0; over = false })
    (rw (c.new.ensures.items, c.new-2.ensures.items) refl)
