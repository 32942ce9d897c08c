use Rattle.std.proofs.Common.{ℕ, List, [], ◌∷◌, codes, subst}
use Rattle.std.specs.Fmt.{decimal}
use Rattle.wap_dis.specs.Listing.{line}
use Rattle.wap_dis.specs.inside.Gathering.{Gathers}
use Rattle.wap_dis.specs.inside.Gathered.{state}
use Rattle.wap_dis.proofs.lines.put_unit_line.Goals as goal

pub returns : goal.returns
returns g c =
    let text : ℕ → ℕ → List ℕ =
    λ version charset. line (codes "unit")
    (codes "version" ∷ decimal version ∷ codes "charset" ∷ decimal charset ∷ []) in
    let puts : List ℕ → Type 0 =
    Gathers (g.O.Sink.seen c.args.out.now) (g.O.Sink.seen c.put_line.new.out)
    (state c.args.held.now)
    (state c.put_line.new.held) in
    subst (λ (version : ℕ). puts (text version c.args.unit.now.charset)) c.from.ensures
    (subst (λ (charset : ℕ). puts (text c.from.result charset)) c.from-2.ensures c.put_line.ensures)
