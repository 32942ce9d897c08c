use Rattle.wap_codegen.proofs.units.unit_by.Goals as goal

pub unit_with-requires-clause-pool : goal.unit_with-requires-clause-pool
unit_with-requires-clause-pool c = c.codes_of.ensures.kept.pool
