use Rattle.std.proofs.Common.{◌≡◌, ◌++◌, take, map}
use Rattle.wap_mend.proofs.losses.add_attributes.Given as goal

-- the attributes so far are added
abbrev pub invariant-loop-row : goal.invariant-loop-row
invariant-loop-row l =
    l.attributes
    ≡ l.fn.attributes ++ map (λ row. (l.tag, row.0, row.1)) (take l.row-index l.rows)
