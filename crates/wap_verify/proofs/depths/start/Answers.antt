use Rattle.std.proofs.Common.{◌≡◌, ◌<◌, ℕ, List, [], ◌∷◌, ◌++◌, length, replicate, set}
use Rattle.std.proofs.Common.{Option, Some, None, ap, subst, sym, ◌∙◌, arith}
use Rattle.wap_verify.specs.Paths.{Stand}
use Rattle.wap_verify.specs.inside.Work.{Works}
use Rattle.wap_verify.specs.Depths.{State}
use Rattle.wap_verify.proofs.Working.{first_state, works_first}
use Rattle.wap_verify.proofs.depths.start.Goals as goal

pub returns-clause-works : goal.returns-clause-works
returns-clause-works c =
    let unit = c.args.unit.now in
    let function = c.args.function.now in
    let some : 0 < length function.code = omega arith in
    let kept : c.in_ok-depths.depths.items ≡ replicate (length function.code) None =
    c.in_ok-depths.ensures ∙ ap (λ (n : ℕ). replicate n None) c.len-end.ensures in
    let pending : c.push.new.self.items ≡ (0, 0) ∷ [] =
    c.in_ok-push.ensures.items
    ∙ ap (λ (l : List Stand). l ++ (0, 0) ∷ []) c.new-pending.ensures.items in
    let same : ◌≡◌ {A = State} (record {
      depths = set c.in_ok-depths.depths.items 0 (Some 0);
      pending = c.push.new.self.items;
      room = 0;
    }) (first_state (length function.code)) =
    ap (λ (l : List (Option ℕ)).
    record { depths = set l 0 (Some 0); pending = c.push.new.self.items; room = 0 }) kept
    ∙ ap (λ (l : List Stand). record {
      depths = set (replicate (length function.code) None) 0 (Some 0);
      pending = l;
      room = 0;
    }) pending in
    subst (Works unit c.args.index function) (sym same)
    (works_first unit c.args.index function some)
