use Rattle.wap_codegen.proofs.EmissionLemmas.Chaining.{leaves_more, leaves_none}
use Rattle.wap_codegen.proofs.emission.statements.add_declarations.Goals as goal

pub loop-pair-preserved : goal.loop-pair-preserved
loop-pair-preserved c = λ exits.
    leaves_more _ _ _ _ _ _ _ _ c.loop-pair-test.true c.pair-item.is
    (c.loop-pair.invariant exits) (c.in_ok-add_declaration.ensures exits)

pub returns : goal.returns
returns c = λ exits. leaves_none _ _ _ _ _ _ c.loop-pair-test.false (c.loop-pair.invariant exits)
